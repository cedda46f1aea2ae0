use Rattle.sync_exchange.specs.Lemmas.Roomy.{real_roomy}
use Rattle.sync_exchange.proofs.laws.clients_catch_up.Goals as goal

pub returns : goal.returns
returns c = record { one = c.later_worlds_make_progress.ensures.one real_roomy; all = c.later_worlds_make_progress.ensures.all real_roomy; calm = c.later_worlds_make_progress.ensures.calm real_roomy; readers = c.later_worlds_make_progress.ensures.readers; objects = c.later_worlds_make_progress.ensures.current }
