use Rattle.std.proofs.Common.{◌≡◌, ◌∙◌, ℕ, false, refl, sym, subst, rules}
use Rattle.sync_disk.proofs.Moments.{weaker}
use Rattle.gathered_disk.specs.Below.{below, gate_of}
use Rattle.gathered_disk.specs.Gathered.{NoneOrAll}
use Rattle.sync_journal.specs.Landed.{HoldsBelow, StandsForEither}
use Rattle.sync_journal.specs.Records.{IsJournal}
use Rattle.sync_journal.proofs.Landed.{either, landed_shows, only_below}
use Rattle.sync_journal.proofs.gathering.Journal+GatheredDisk+D.land.Goals as goal

pub returns-in_err-land-clause-any_moment : goal.returns-in_err-land-clause-any_moment
returns-in_err-land-clause-any_moment g c olds all holds shows =
    let D = g.D.Disk in
    let m = c.args.self.now.disk in
    let landed = c.land.ensures.any_moment holds.file holds.told shows.settled.file shows.settled.told in
    weaker D.moment D.images_since (below m) (below c.land.new.self) (NoneOrAll holds.file (gate_of m) shows.settled.file) (StandsForEither olds all) landed
    (either olds all (gate_of m) holds.file shows.settled.file holds.journal shows.settled.reads)

pub invariant_of-self-2 : goal.invariant_of-self-2
invariant_of-self-2 g c =
    let m = c.args.self.now in
    let was : m.closed ≡ false = search rules in
    record {
      within = λ still b told. m.within was b (sym c.in_ok-land.ensures.shows ∙ told);
      fits = m.fits;
      durable = λ still b told. only_below c.land.new.self b c.in_ok-land.ensures.idle told;
    }

pub returns-clause-landed : goal.returns-clause-landed
returns-clause-landed g c records shows =
    let s = shows.settled in
    let l = c.in_ok-land.ensures in
    let g = c.land.new.self in
    let holds : HoldsBelow records g = record {
      file = s.file;
      told = l.landed s.file s.told;
      reads = s.reads;
      journal = subst (λ (n : ℕ). IsJournal false records n s.file) (sym l.gate) s.journal;
      durable = l.durable s.file s.told;
    } in
    record {
      stands = record { is_open = refl; settled = landed_shows records _ g l.open l.idle l.gate holds };
      takes = l.open;
      idle = l.idle;
      gate = l.gate;
      holds = holds;
    }

pub returns-clause-any_moment : goal.returns-clause-any_moment
returns-clause-any_moment g c olds all holds shows =
    let D = g.D.Disk in
    let m = c.args.self.now.disk in
    let landed = c.land.ensures.any_moment holds.file holds.told shows.settled.file shows.settled.told in
    weaker D.moment D.images_since (below m) (below c.land.new.self) (NoneOrAll holds.file (gate_of m) shows.settled.file) (StandsForEither olds all) landed
    (either olds all (gate_of m) holds.file shows.settled.file holds.journal shows.settled.reads)
