-- Whether a link leads to an object that stands.
use Rattle.std.specs.Prelude.{Bool, false}
use Rattle.sync_data.specs.declared.value.Value.{Value}
use Rattle.sync_data.specs.declared.value.Value.TheVariants as values
use Rattle.sync_base.specs.States.{State, has}

abbrev pub is_resolved : State → Value → Bool
is_resolved s (values.Link t k) = has s (t, k)
is_resolved s v = false
