use Rattle.std.proofs.Common.{ℕ, ◌+◌, ◌*◌, ◌<◌, ◌++◌, List, length, take, ◌∙◌, ap, arith}
use Rattle.sync_disk.specs.Origin.{Origin}
use Rattle.sync_disk.specs.Faults.{planned}
use Rattle.sync_disk.specs.Strokes.{acts_of}
use Rattle.sync_disk.proofs.Stops.{never_cut}
use Rattle.sync_journal.specs.Journal.{strokes_of_all}
use Rattle.sync_journal.specs.Records.Reading.{Good}
use Rattle.sync_journal.specs.Stopping.{standing}
use Rattle.sync_journal.proofs.Stopping.{left_stands, length-strokes, stop_passed}
use Rattle.sync_journal.proofs.Stops.{many_strokes, standing_within, take_taken, taken_length}
use Rattle.sync_journal.proofs.laws.stops_tell.Goals as goal

pub returns-clause-never : goal.returns-clause-never
returns-clause-never g c next end old new b told none unarmed part =
    let D = g.D.Disk in
    let plan = g.met.D.Disk.as_planned new b told none in
    never_cut (D.strokes old) (D.strokes new) (strokes_of_all end (take part.count next)) part.cut (plan ∙ ap (λ s. planned s 0 (acts_of (D.strokes new))) unarmed)

pub returns-clause-passed : goal.returns-clause-passed
returns-clause-passed g c next end now at old new b told none armed all =
    let D = g.D.Disk in
    let plan = g.met.D.Disk.as_planned new b told none in (
      stop_passed (D.origin new) (D.strokes old) (D.strokes new) next end at armed plan all.done,
      many_strokes (strokes_of_all end next) (D.strokes old) (D.strokes new) all.done ∙ ap (λ (n : ℕ). length (D.strokes old) + n) (length-strokes end next),
    )

pub returns-clause-stopped : goal.returns-clause-stopped
returns-clause-stopped g c records next end at old new b settled told same none armed part =
    let D = g.D.Disk in
    let plan = g.met.D.Disk.as_planned new b told (ap (λ (o : Origin). o.listed) same ∙ none) ∙ ap (λ (o : Origin). planned o.stop 0 (acts_of (D.strokes new))) same in
    let left = left_stands (D.origin old) (D.strokes old) (D.strokes new) records (take part.count next) end at settled.file settled.journal
    (λ f image. settled.durable f (g.met.D.Disk.by_strokes old settled.file f settled.told image)) part.can armed plan part.cut in
    let counted = taken_length next part.count part.within in
    let within : at < 4 * part.count = omega (arith, left.0, counted) in (
      omega (arith, within, part.within),
      left.1 ∙ ap (λ (l : List (List ℕ)). Good (records ++ l)) (take_taken next (standing (D.origin old).leaves at) part.count (standing_within (D.origin old).leaves at part.count within)),
    )
