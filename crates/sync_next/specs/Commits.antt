-- What committing a transaction never answers.
use Rattle.std.specs.Prelude.{ℕ, Result, Err}
use Rattle.sync_client.specs.declared.refusal.ClientRefusal.{ClientRefusal}
use Rattle.sync_client.specs.declared.refusal.ClientRefusal.TheVariants as refusals

abbrev pub IsNoBreak : Result ℕ ClientRefusal → Type 0
IsNoBreak (Err (refusals.Break place code)) = ⊥
IsNoBreak r = Unit {0}
