use Rattle.std.proofs.Common.{◌≡◌, refl, sym, ap, subst, ◌∙◌}
use Rattle.sync_data.specs.declared.instr.Instr.{Instr}
use Rattle.sync_data.specs.declared.entry.Stamp.{Stamp}
use Rattle.sync_model.specs.Clients.{Unsent}
use Rattle.list_places.specs.Places.{Within}
use Rattle.list_places.specs.Moves.{action_in, first_cell}
use Rattle.list_places.proofs.Stands.{shown_cell}
use Rattle.sync_rebase.proofs.Making.{op_slot}
use Rattle.sync_rebase.proofs.unsent.Unsent.op_in.Goals as goal

pub returns : goal.returns
returns c =
    let now = c.args.self.now in
    let current : c.self.inside.current.instrs ≡ now.current = ap (λ (u : Unsent Instr). u.current) c.self.view_is in
    let ms = c.ms.ensures ∙ c.self.invariant.0 ∙ ap (λ (u : Unsent Instr). u.original.ms) c.self.view_is in
    let acts = ap action_in (sym current) ∙ sym c.in_ok-action.ensures in
    let cells = ap first_cell (sym current) ∙ sym (ap first_cell c.written.ensures.stands) ∙ shown_cell c.written.ensures.action c.written.result.now.instrs ∙ sym (c.if-not-same_first_cell.ensures refl) in
    let stamp : Stamp = record { ms = c.ms.result; ident = c.args.own } in
    op_slot now _ c.args.own c.args.length c.in_ok-action.action stamp (record { does = c.parts_of-does.result.0; place = c.parts_of-does.result.1; stamp = stamp }) acts (λ i. record { does = c.parts_of-does.ensures.does i; place = c.parts_of-does.ensures.place i; stamp = stamp }) (λ i. record { ms = ms i; ident = c.args.own }) (sym c.parts_of-does.ensures.prior ∙ c.if-prior-length.false) (subst (Within c.parts_of-does.result.0 c.parts_of-does.result.1) c.parts_of-does.ensures.prior c.parts_of-does.ensures.within) cells
