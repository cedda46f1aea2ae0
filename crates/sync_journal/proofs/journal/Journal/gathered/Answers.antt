use Rattle.std.proofs.Common.{◌∙◌, sym, ap}
use Rattle.sync_journal.proofs.Landed.{told_below, only_below}
use Rattle.sync_journal.proofs.journal.Journal.gathered.Goals as goal

pub invariant_of-result : goal.invariant_of-result
invariant_of-result g c = record {
  within = λ still b told. c.args.self.within still b (ap g.D.Disk.content (sym c.over.ensures.below) ∙ told_below c.over.result b c.over.ensures.pending told);
  fits = c.args.self.fits;
  durable = λ still b told. only_below c.over.result b c.over.ensures.pending told;
}
