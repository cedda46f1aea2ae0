-- The answer of a check, for which memory may be wanting.
use Rattle.std.specs.Prelude.{◌≡◌, Option, None, Some, Result, Ok, Err}
use Rattle.sync_base.specs.declared.answers.Break.{Break}
use Rattle.sync_app.specs.declared.refusal.Refusal.{Refusal}
use Rattle.sync_app.specs.declared.refusal.Refusal.TheVariants as refusals

abbrev pub Finds : Result (Unit {0}) Refusal → Option Break → Type 0
Finds (Ok u) found = found ≡ None
Finds (Err (refusals.Break b)) found = found ≡ Some b
Finds (Err refusals.NoMemory) found = Unit {0}
Finds (Err why) found = ⊥
