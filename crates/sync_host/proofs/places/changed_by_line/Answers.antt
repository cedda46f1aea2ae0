use Rattle.std.proofs.Common.{List, Some, sym, subst}
use Rattle.sync_changed.specs.declared.place.Place.{Place}
use Rattle.sync_host.specs.Steps.{Spares, Tells, line_answer}
use Rattle.sync_host.proofs.Untold.{commit_spares, others_spare, others_tell}
use Rattle.sync_host.proofs.places.changed_by_line.Goals as goal

pub returns-in-Born-clause-told : goal.returns-in-Born-clause-told
returns-in-Born-clause-told c = λ records. subst (λ (places : List Place). Tells places records (Some (line_answer records c.args.line.now))) (sym c.new.ensures.items) (others_tell c.args.line.now records c.in-Born.is)

pub returns-in-Born-clause-ends : goal.returns-in-Born-clause-ends
returns-in-Born-clause-ends c = λ records. subst (λ (places : List Place). Spares places records (Some (line_answer records c.args.line.now))) (sym c.new.ensures.items) (others_spare c.args.line.now records c.in-Born.is)

pub returns-in-Commit-clause-ends : goal.returns-in-Commit-clause-ends
returns-in-Commit-clause-ends c =
    commit_spares (λ places. places.items) c.args.line.now c.in-Commit.ms c.in-Commit.edits c.as_slice.result.now c.changed_by_edits.result c.in-Commit.is c.as_slice.ensures c.changed_by_edits.ensures.ends
