use Rattle.list_places.specs.Moves.{shown}
use Rattle.sync_transform.proofs.Covered.{missed_apart, apart_cross, turned_apart}
use Rattle.sync_transform.proofs.Shown.{shown_missed}
use Rattle.sync_transform.proofs.sets.stays_apart.Goals as goal

pub returns-then-passes_over-clause-left : goal.returns-then-passes_over-clause-left
returns-then-passes_over-clause-left c = λ told action others there later.
    let own = shown action c.args.changes.now.instrs in
    apart_cross later own others (missed_apart c.args.index.now own others (shown_missed c.args.index.now action c.args.changes.now.instrs (c.passes_over.ensures told c.args.changes.now.instrs c.requires)) there)

pub returns-then-passes_over-clause-right : goal.returns-then-passes_over-clause-right
returns-then-passes_over-clause-right c = λ told action others there later.
    let own = shown action c.args.changes.now.instrs in
    apart_cross later others own (turned_apart own others (missed_apart c.args.index.now own others (shown_missed c.args.index.now action c.args.changes.now.instrs (c.passes_over.ensures told c.args.changes.now.instrs c.requires)) there))

pub returns-else-passes_over-clause-left : goal.returns-else-passes_over-clause-left
returns-else-passes_over-clause-left c = λ told action others there later.
    let own = shown action c.args.changes.now.instrs in
    apart_cross later own others (missed_apart c.args.index.now own others (shown_missed c.args.index.now action c.args.changes.now.instrs (c.touches_nothing.ensures told)) there)

pub returns-else-passes_over-clause-right : goal.returns-else-passes_over-clause-right
returns-else-passes_over-clause-right c = λ told action others there later.
    let own = shown action c.args.changes.now.instrs in
    apart_cross later others own (turned_apart own others (missed_apart c.args.index.now own others (shown_missed c.args.index.now action c.args.changes.now.instrs (c.touches_nothing.ensures told)) there))
