use Rattle.std.proofs.Common.{◌≡◌, true, false, [], List, ◌++◌, OnOk, ◌∙◌, ℕ, zero, suc, take, refl, ap, subst, append-nil}
use Rattle.sync_disk.specs.Disk.{LeavesOnly}
use Rattle.sync_disk.proofs.Moments.{weaker}
use Rattle.sync_journal.specs.Records.{ReadsPrefix, kept, records_of}
use Rattle.sync_journal.specs.Records.Reading.{Good}
use Rattle.sync_journal.specs.Stands.{Stands, StandsNoted, disk_of}
use Rattle.sync_journal.proofs.Scan.{kept_note, kept_noted}
use Rattle.sync_journal.proofs.journal.Journal.note.Goals as goal

take_none : (k : ℕ) → take {A = List ℕ} k [] ≡ []
take_none zero = refl
take_none (suc k) = refl

pub returns-clause-same : goal.returns-clause-same
returns-clause-same g c records s =
    subst (λ (all : List (List ℕ)). OnOk c.add.result (Stands all c.add.new.self)) (ap (λ (added : List (List ℕ)). records ++ added) (kept_note c.args.bytes.now c.requires) ∙ append-nil records)
    (c.add.ensures.acknowledged false records s)

pub returns-clause-any_moment : goal.returns-clause-any_moment
returns-clause-any_moment g c records s =
    let D = g.D.Disk in
    let left = subst (λ (added : List (List ℕ)). LeavesOnly D.moment D.images_since (disk_of c.args.self.now) (disk_of c.add.new.self) (ReadsPrefix false records added)) (kept_note c.args.bytes.now c.requires)
    (c.add.ensures.any_moment false records s) in
    weaker D.moment D.images_since (disk_of c.args.self.now) (disk_of c.add.new.self) (ReadsPrefix false records []) (λ f. records_of f ≡ Good records) left
    (λ f is. is.2 ∙ ap (λ (added : List (List ℕ)). Good (records ++ added)) (take_none is.0) ∙ ap Good (append-nil records))

pub returns-clause-noted : goal.returns-clause-noted
returns-clause-noted g c pieces s =
    subst (λ (added : List (List ℕ)). OnOk c.add.result (StandsNoted (pieces ++ added) c.add.new.self)) (kept_noted c.args.bytes.now) (c.add.ensures.acknowledged true pieces s)

pub returns-clause-noted_any_moment : goal.returns-clause-noted_any_moment
returns-clause-noted_any_moment g c pieces s =
    let D = g.D.Disk in
    subst (λ (added : List (List ℕ)). LeavesOnly D.moment D.images_since (disk_of c.args.self.now) (disk_of c.add.new.self) (ReadsPrefix true pieces added)) (kept_noted c.args.bytes.now)
    (c.add.ensures.any_moment true pieces s)
