-- What is kept and dropped, as the model has it.
use Rattle.std.specs.Prelude.{ℕ, List, ◌++◌, map}
use Rattle.sync_data.specs.declared.instr.Instr.{Instr}
use Rattle.sync_base.specs.States.{State}
use Rattle.sync_model.specs.Resets.{saved_from}
use Rattle.sync_exchange.specs.Profile.{the_profile}
use Rattle.sync_reset.specs.declared.answer.Dropped.{Dropped}

-- each dropped instruction by its place and the code of its break
abbrev pub drops : List Dropped → List (ℕ × ℕ)
drops ds = map (λ d. (d.place, d.code)) ds

-- what all gives, where so much was kept and dropped on the way to a state, and these instructions come next, the first
-- of which has that place
abbrev pub outcome : State → List Instr → List Dropped → ℕ → List Instr → List Instr × List (ℕ × ℕ)
outcome s kept dropped k is = (kept ++ (saved_from the_profile k s is).kept, drops dropped ++ (saved_from the_profile k s is).dropped)
