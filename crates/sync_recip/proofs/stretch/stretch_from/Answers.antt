use Rattle.sync_recip.proofs.Making.{new_shown, new_stands}
use Rattle.sync_recip.proofs.stretch.stretch_from.Goals as goal

pub loop-init : goal.loop-init
loop-init c =
    let us = c.args.kept.now in
    record {
      shown = new_shown us c.args.start c.prior_of-first.result c.new.result c.new.ensures;
      stands = new_stands us (record { start = c.args.start; sample = c.in-Ok.sample; lane = c.new.result }) c.prior_of-first.result c.new.ensures c.requires;
    }
