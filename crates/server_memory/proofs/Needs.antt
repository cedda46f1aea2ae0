-- Whether a list needs the second form, as the code looks for it.
use Rattle.std.proofs.Common.{◌≡◌, List, [], ◌∷◌, refl, ap}
use Rattle.std.specs.Prelude.{◌||◌}
use Rattle.std.specs.List.{list_any}
use Rattle.sync_data.specs.declared.instr.Instr.{Instr}
use Rattle.sync_codec.specs.Spelling.{needs_second}
use Rattle.sync_model.specs.Profile.{needs}
use Rattle.sync_exchange.specs.Profile.{the_profile}

pub any_needs : (is : List Instr) → list_any needs_second is ≡ needs the_profile is
any_needs [] = refl
any_needs (i ∷ is) = ap (λ b. needs_second i || b) (any_needs is)
