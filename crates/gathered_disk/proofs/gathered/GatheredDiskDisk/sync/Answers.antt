use Rattle.std.proofs.Common.{◌∙◌}
use Rattle.std.specs.Result.{is_ok}
use Rattle.sync_disk.specs.Strokes.Act.{Sync}
use Rattle.gathered_disk.specs.Strokes.{strokes_of}
use Rattle.gathered_disk.proofs.Gathering.{pushed, synced_if}
use Rattle.gathered_disk.proofs.Stroking.{shows_more, synced_within, synced_only, elapses_synced}
use Rattle.gathered_disk.proofs.gathered.GatheredDiskDisk.sync.Goals as goal

pub invariant_of-self-clause-in_step : goal.invariant_of-self-clause-in_step
invariant_of-self-clause-in_step g c still b told =
    let m = c.args.self.now in
    synced_if (is_ok c.push.result) b m.asked.items c.push.new.self.items c.push.ensures.items ∙ m.in_step still b told

pub returns-clause-durable : goal.returns-clause-durable
returns-clause-durable g c b told =
    let m = c.args.self.now in
    synced_only m.closed (g.D.Disk.content m.disk) (strokes_of m.asked.items) (strokes_of c.push.new.self.items) b (pushed m.asked.items c.push.new.self.items _ c.in_ok-push.ensures.items) told

pub returns-clause-content : goal.returns-clause-content
returns-clause-content g c b told =
    let m = c.args.self.now in
    let now = shows_more m.closed (g.D.Disk.content m.disk) (strokes_of m.asked.items) (strokes_of c.push.new.self.items) Sync b (pushed m.asked.items c.push.new.self.items _ c.in_ok-push.ensures.items) told in
    record { done = now; refused = λ is. now; told = (b, now) }

pub returns-clause-crash : goal.returns-clause-crash
returns-clause-crash g c =
    let m = c.args.self.now in
    synced_within (g.D.Disk.content m.disk) (strokes_of m.asked.items) (strokes_of c.push.new.self.items) (pushed m.asked.items c.push.new.self.items _ c.in_ok-push.ensures.items)

pub returns-clause-time : goal.returns-clause-time
returns-clause-time g c =
    let m = c.args.self.now in
    elapses_synced (g.D.Disk.content m.disk) (strokes_of m.asked.items) (strokes_of c.push.new.self.items) (pushed m.asked.items c.push.new.self.items _ c.in_ok-push.ensures.items)
