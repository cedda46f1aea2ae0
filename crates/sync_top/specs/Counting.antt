-- Counting what events came to.
use Rattle.std.specs.Prelude.{◌≡◌, ◌<◌, ◌≤◌, ◌+◌, ◌^◌, List, count_by, length}
use Rattle.sync_data.specs.declared.instr.Instr.{Instr}
use Rattle.sync_model.specs.Worlds.{Event, Words, empty_world}
use Rattle.sync_world.specs.Holding.{Holds}
use Rattle.sync_world.specs.declared.world.World.{World as CodeWorld}
use Rattle.sync_top.specs.declared.counts.Counts.{Counts}
use Rattle.gen_law.specs.Generated.{words_by, world_by}
use Rattle.gen_law.specs.Refusals.{is_refused}
use Rattle.sync_top.specs.Telling.{is_made, is_message, one_if}

abbrev pub counted : Counts → Words → Counts
counted counts words = record { messages = counts.messages + one_if (is_message words); made = counts.made + one_if (is_made words); refused = counts.refused + one_if (is_refused words) }

-- none of them is at its end
pub record HasRoom (counts : Counts) : Type 0 where
  pub messages : counts.messages + 1 < 2 ^ 32
  pub made : counts.made + 1 < 2 ^ 32
  pub refused : counts.refused + 1 < 2 ^ 32

-- ---- an exchange under way
-- these events have happened in a world that was empty, and what they came to is counted
pub record Goes (es : List (Event Instr)) (counts : Counts) (world : CodeWorld) : Type 0 where
  pub holds : Holds (world_by empty_world es) world
  pub messages : counts.messages ≡ length (world_by empty_world es).messages
  pub made : counts.made ≡ count_by is_made (words_by empty_world es)
  pub refused : counts.refused ≡ count_by is_refused (words_by empty_world es)
  pub few_messages : counts.messages ≤ length es
  pub few_made : counts.made ≤ length es
  pub few_refused : counts.refused ≤ length es
