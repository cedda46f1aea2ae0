use Rattle.sync_model.specs.Worlds.{empty_world}
use Rattle.gen_law.specs.Generated.{events_of, world_by}
use Rattle.sync_top.proofs.Equal.{all_equal}
use Rattle.sync_top.proofs.laws.generated_end_equal.Goals as goal

pub returns : goal.returns
returns c = record {
  caught_up = λ seed count le. c.generated_exchanges_catch_up.ensures seed count le;
  equal = λ seed count le. all_equal (world_by empty_world (events_of seed count)) (c.generated_exchanges_catch_up.ensures seed count le);
}
