use Rattle.std.proofs.Common.{[], ◌∷◌, Err, ◌∙◌, ap, arith}
use Rattle.sync_disk.specs.Origin.{Origin}
use Rattle.sync_disk.specs.Faults.{planned}
use Rattle.sync_disk.specs.Strokes.{acts_of}
use Rattle.sync_disk.proofs.Stops.{never_cut}
use Rattle.sync_journal.specs.Journal.{strokes_of}
use Rattle.sync_journal.specs.Records.{kept}
use Rattle.sync_journal.proofs.Steps.{at_rest}
use Rattle.sync_journal.proofs.Stopping.{left_stands, stop_passed}
use Rattle.sync_journal.proofs.journal.Journal.add.Goals as goal

pub returns-in_default-clause-any_moment : goal.returns-in_default-clause-any_moment
returns-in_default-clause-any_moment g c notes records s =
    let D = g.D.Disk in at_rest D.content D.images D.moment D.images_since g.met.D.Disk.only_now notes records (kept notes c.args.bytes.now) c.args.self.now.end c.args.self.now.disk s.settled

pub invariant_of-self-in-Ok-write_block : goal.invariant_of-self-in-Ok-write_block
invariant_of-self-in-Ok-write_block g c = record {
  within = λ still b told. omega (arith, c.in-Ok-write_block.ensures.within b told);
  fits = omega (arith, c.in-Ok-write_block.ensures.fits);
  durable = λ still. c.in-Ok-write_block.ensures.durable;
}

pub returns-in-Ok-write_block-clause-any_moment : goal.returns-in-Ok-write_block-clause-any_moment
returns-in-Ok-write_block-clause-any_moment g c notes records s = c.write_block.ensures.any_moment notes records s.settled

pub returns-in-Err-Failed-clause-any_moment : goal.returns-in-Err-Failed-clause-any_moment
returns-in-Err-Failed-clause-any_moment g c notes records s = c.write_block.ensures.any_moment notes records s.settled

pub returns-clause-any_moment : goal.returns-clause-any_moment
returns-clause-any_moment g c notes records s = c.write_block.ensures.any_moment notes records s.settled

pub returns-in-Ok-write_block-clause-passed : goal.returns-in-Ok-write_block-clause-passed
returns-in-Ok-write_block-clause-passed g c b told at none armed =
    let D = g.D.Disk in
    let old = c.args.self.now.disk in
    let new = c.write_block.new.disk in
    let still = c.write_block.ensures.told b told in
    let origin = c.write_block.ensures.origin in
    let plan = g.met.D.Disk.as_planned new still.0 still.1 (ap (λ (o : Origin). o.listed) origin ∙ none) ∙ ap (λ (o : Origin). planned o.stop 0 (acts_of (D.strokes new))) origin in
    stop_passed (D.origin old) (D.strokes old) (D.strokes new) (c.args.bytes.now ∷ []) c.args.self.now.end at armed plan (c.in-Ok-write_block.ensures.all_done b told)

pub returns-in-Err-Failed-clause-sound : goal.returns-in-Err-Failed-clause-sound
returns-in-Err-Failed-clause-sound g c b told sound failed =
    let D = g.D.Disk in
    let old = c.args.self.now.disk in
    let new = c.write_block.new.disk in
    let still = c.write_block.ensures.told b told in
    let origin = c.write_block.ensures.origin in
    let plan = g.met.D.Disk.as_planned new still.0 still.1 (ap (λ (o : Origin). o.listed) origin ∙ sound.none) ∙ ap (λ (o : Origin). planned o.stop 0 (acts_of (D.strokes new))) origin in
    never_cut (D.strokes old) (D.strokes new) (strokes_of c.args.self.now.end c.args.bytes.now) (c.in-Err-Failed.ensures.cut b told (ap (λ e. Err e) c.in-Err-Failed.field-0-is)) (plan ∙ ap (λ s. planned s 0 (acts_of (D.strokes new))) sound.never)

pub returns-in-Err-Failed-clause-stopped : goal.returns-in-Err-Failed-clause-stopped
returns-in-Err-Failed-clause-stopped g c plain records at s none armed failed =
    let D = g.D.Disk in
    let old = c.args.self.now.disk in
    let new = c.write_block.new.disk in
    let still = c.write_block.ensures.told s.settled.file s.settled.told in
    let origin = c.write_block.ensures.origin in
    let plan = g.met.D.Disk.as_planned new still.0 still.1 (ap (λ (o : Origin). o.listed) origin ∙ none) ∙ ap (λ (o : Origin). planned o.stop 0 (acts_of (D.strokes new))) origin in
    left_stands (D.origin old) (D.strokes old) (D.strokes new) records (c.args.bytes.now ∷ []) c.args.self.now.end at s.settled.file s.settled.journal
    (λ f image. s.settled.durable f (g.met.D.Disk.by_strokes old s.settled.file f s.settled.told image)) ((omega arith, plain), tt) armed plan (c.in-Err-Failed.ensures.cut s.settled.file s.settled.told (ap (λ e. Err e) c.in-Err-Failed.field-0-is))
