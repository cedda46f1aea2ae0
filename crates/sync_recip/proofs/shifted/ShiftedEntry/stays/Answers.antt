use Rattle.std.proofs.Common.{◌≡◌, List, [], Ok, sym, ap, subst, ◌∙◌}
use Rattle.sync_data.specs.declared.entry.Entry.{Entry}
use Rattle.sync_data.specs.declared.instr.Instr.{Instr}
use Rattle.sync_theory.specs.Lists.{cross}
use Rattle.sync_law.specs.Instrs.{meet}
use Rattle.list_places.specs.Moves.{moved_first, shown, IsShown}
use Rattle.sync_transform.proofs.Anywhere.{shown_stay, moved_shown}
use Rattle.sync_recip.specs.Standing.{stood}
use Rattle.sync_recip.proofs.Standing.{none_crossed}
use Rattle.sync_recip.proofs.shifted.ShiftedEntry.stays.Goals as goal

pub returns-then-self-clause-own : goal.returns-then-self-clause-own
returns-then-self-clause-own c = λ told later.
    let fallen : [] ≡ c.args.self.now.changes.instrs =
    ap (λ f. (stood f c.self.inside.action c.self.inside.shared.changes).instrs) (sym c.if-self.true) ∙ ap (λ (e : Entry). e.changes.instrs) c.self.view_is
    in
    let others = c.args.changes.now.instrs in
    subst (λ (x : List Instr). cross (λ a b. meet a b later) others x ≡ Ok (others, x)) fallen (none_crossed (λ a b. meet a b later) others)

pub returns-clause-own : goal.returns-clause-own
returns-clause-own c = λ told.
    let was = c.entry.result.now.changes.instrs in
    let now = c.args.self.now.changes.instrs in
    let current : shown c.self.inside.action was ≡ now =
    ap (λ (e : Entry). shown c.self.inside.action e.changes.instrs) c.entry.ensures
    ∙ ap (λ f. (stood f c.self.inside.action c.self.inside.shared.changes).instrs) (sym c.if-self.false) ∙ ap (λ (e : Entry). e.changes.instrs) c.self.view_is
    in
    let own : IsShown was now = record { action = c.self.inside.action; stands = current } in
    shown_stay c.written.result.now.instrs was c.args.changes.now.instrs now c.written.ensures own (c.ones_stay.ensures told)

pub returns-clause-told : goal.returns-clause-told
returns-clause-told c = λ told action kind.
    let was = c.entry.result.now.changes.instrs in
    let now = c.args.self.now.changes.instrs in
    let current : shown c.self.inside.action was ≡ now =
    ap (λ (e : Entry). shown c.self.inside.action e.changes.instrs) c.entry.ensures
    ∙ ap (λ f. (stood f c.self.inside.action c.self.inside.shared.changes).instrs) (sym c.if-self.false) ∙ ap (λ (e : Entry). e.changes.instrs) c.self.view_is
    in
    let own : IsShown was now = record { action = c.self.inside.action; stands = current } in
    shown_stay c.written.result.now.instrs was c.args.changes.now.instrs (moved_first action now) c.written.ensures (moved_shown was now own action kind) (c.ones_stay.ensures told)
