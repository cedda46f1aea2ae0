use Rattle.std.proofs.Common.{◌≡◌, refl, sym, ap, ◌∙◌}
use Rattle.sync_data.specs.declared.instr.Instr.{Instr}
use Rattle.sync_theory.specs.Changesets.{later_stamp}
use Rattle.sync_model.specs.Clients.{Unsent}
use Rattle.list_places.specs.Moves.{action_in, first_cell}
use Rattle.list_places.proofs.Stands.{kind_told, shown_cell}
use Rattle.sync_transform.proofs.Shown.{moves_cross, some_map}
use Rattle.sync_rebase.proofs.unsent.Unsent.moves.Goals as goal

pub returns-clause-crosses : goal.returns-clause-crosses
returns-clause-crosses c =
    let now = c.args.self.now in
    let current : c.self.inside.current.instrs ≡ now.current = ap (λ (u : Unsent Instr). u.current) c.self.view_is in
    let ms = c.ms.ensures ∙ c.self.invariant.0 ∙ ap (λ (u : Unsent Instr). u.original.ms) c.self.view_is in
    let later = c.is_later-left_later.ensures ∙ (λ i. later_stamp (ms i) c.args.own (c.ms-2.ensures i) c.args.origin) in
    let does = ap action_in (sym current) ∙ sym c.in_ok-action.ensures in
    let cell = ap first_cell (sym current)
    ∙ sym (ap first_cell c.written.ensures.stands) ∙ shown_cell c.written.ensures.action c.written.result.now.instrs
    ∙ c.if-not-same_first_cell.ensures refl
    ∙ sym (shown_cell c.written-2.ensures.action c.written-2.result.now.instrs) ∙ ap first_cell c.written-2.ensures.stands in
    some_map (λ m h n. h now.original.number n) c.both_move.result
    (moves_cross c.both_move.result c.in_ok-action.action c.in_ok-other.other c.args.own c.args.origin (record { ms = now.original.ms; instrs = now.current }) c.args.changes.now c.is_later-left_later.result later does (sym c.in_ok-other.ensures) cell c.both_move.ensures)

pub returns-clause-left : goal.returns-clause-left
returns-clause-left c =
    let does = ap action_in (sym (ap (λ (u : Unsent Instr). u.current) c.self.view_is)) ∙ sym c.in_ok-action.ensures in
    some_map (λ m h. kind_told c.args.self.now.current c.in_ok-action.action m.left does h.left) c.both_move.result c.both_move.ensures

pub returns-clause-right : goal.returns-clause-right
returns-clause-right c = some_map (λ m h. kind_told c.args.changes.now.instrs c.in_ok-other.other m.right (sym c.in_ok-other.ensures) h.right) c.both_move.result c.both_move.ensures
