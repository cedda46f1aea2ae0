use Rattle.std.proofs.Common.{refl, sym, ap, ◌∙◌}
use Rattle.sync_theory.specs.Changesets.{later_stamp}
use Rattle.list_places.specs.Moves.{first_cell}
use Rattle.list_places.proofs.Stands.{kind_told, shown_cell}
use Rattle.sync_transform.proofs.Shown.{moves_cross, some_map}
use Rattle.sync_recip.proofs.shifted.ShiftedEntry.moves.Goals as goal

pub returns-clause-crosses : goal.returns-clause-crosses
returns-clause-crosses c =
    let now = c.args.self.now in
    let later = c.is_later-left_later.ensures ∙ (λ i. later_stamp (c.ms.ensures i) c.args.own (c.stamp.ensures i).ms (c.stamp.ensures i).ident) in
    let cell = sym (ap first_cell c.written.ensures.stands) ∙ shown_cell c.written.ensures.action c.written.result.now.instrs ∙ c.if-not-is_in_cell_of.ensures refl in
    some_map (λ m h number. h number now.number) c.both_move.result
    (moves_cross c.both_move.result c.in_ok-action.action c.in_ok-other.other c.args.own now.origin c.args.left.now now.changes c.is_later-left_later.result later (sym c.in_ok-action.ensures) (sym c.in_ok-other.ensures) cell c.both_move.ensures)

pub returns-clause-left : goal.returns-clause-left
returns-clause-left c = some_map (λ m h. kind_told c.args.left.now.instrs c.in_ok-action.action m.left (sym c.in_ok-action.ensures) h.left) c.both_move.result c.both_move.ensures

pub returns-clause-right : goal.returns-clause-right
returns-clause-right c = some_map (λ m h. kind_told c.args.self.now.changes.instrs c.in_ok-other.other m.right (sym c.in_ok-other.ensures) h.right) c.both_move.result c.both_move.ensures
