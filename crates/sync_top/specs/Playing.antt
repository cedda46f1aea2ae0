-- What the parts of a generated exchange do to a world.
use Rattle.std.specs.Prelude.{◌≡◌, ◌<◌, ◌+◌, ◌*◌, ◌≤◌, ◌^◌, ℕ, List, ◌++◌, drop, length, Option, Result, OnOk}
use Rattle.sync_data.specs.declared.instr.Instr.{Instr}
use Rattle.sync_data.specs.declared.memory.NoMemory.{NoMemory}
use Rattle.sync_gen.specs.Draws.{Drawing}
use Rattle.sync_io.specs.Devices.{Took, TookSome}
use Rattle.sync_io.specs.declared.status.Status.{Status}
use Rattle.sync_io.specs.declared.status.Status.TheVariants as statuses
use Rattle.sync_model.specs.Worlds.{Event, World, empty_world}
use Rattle.sync_world.specs.declared.world.World.{World as CodeWorld}
use Rattle.gen_law.specs.declared.plan.Move.{Move}
use Rattle.sync_top.specs.declared.progress.Progress.{Progress}
use Rattle.sync_top.specs.Counting.{Goes}
use Rattle.gen_law.specs.Generated.{events_by, world_by}
use Rattle.gen_law.specs.Plans.{AreMoves}

-- these events come next, and so is drawn
pub record Plays (made : List (Event Instr) × ℕ) (before : List (Event Instr)) (now : Progress) (world : CodeWorld) : Type 0 where
  pub goes : Goes (before ++ made.0) now.counts world
  pub draws : now.draws ≡ made.1

-- after any events, a part makes these
abbrev pub PlaysPart : Result (Unit {0}) NoMemory → (World → Drawing (List (Event Instr))) → Progress → CodeWorld → Progress → CodeWorld → Type 0
PlaysPart result part old old_world new new_world = (es : List (Event Instr)) → length es + 4 < 2 ^ 32 → Goes es old.counts old_world → OnOk result (Plays (part (world_by empty_world es) old.draws) es new new_world)

-- some parts are played, and these are left
pub record PlayedSoFar (index : ℕ) (parts : List Move) (seed : ℕ) (now : Progress) (world : CodeWorld) : Type 0 where
  pub events : List (Event Instr)
  pub goes : Goes events now.counts world
  pub all : events ++ events_by (drop index parts) (world_by empty_world events) now.draws ≡ events_by parts empty_world seed
  pub few : length events ≤ 4 * index
  pub moves : AreMoves (drop index parts)

-- all is written; or memory ran out or the sink failed, and a beginning of it was
abbrev pub Writes : List ℕ → Status → (old new : Option (List ℕ)) → Type 0
Writes text statuses.Done old new = Took text old new
Writes text statuses.WriteFault old new = TookSome text old new
Writes text statuses.NoMemory old new = TookSome text old new
Writes text status old new = ⊥
