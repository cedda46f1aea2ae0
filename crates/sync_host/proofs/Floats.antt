-- No place has a float, so its text is exact.
use Rattle.std.proofs.Common.{◌≡◌, ℤ, pos, negsuc, false, refl}
use Rattle.serde_json.specs.Find.{of_integer, is_float}
use Rattle.serde_json.specs.Written.{has_float}
use Rattle.sync_data.specs.declared.key.Key.{Key}
use Rattle.sync_data.specs.declared.key.Key.TheVariants as keys
use Rattle.sync_value_text.specs.Printed.{data_of_key}
use Rattle.sync_changed.specs.declared.place.Place.{Place}
use Rattle.sync_changed.specs.declared.place.Place.TheVariants as places
use Rattle.sync_host.specs.Places.{data_of_place}

integer : (n : ℤ) → is_float (of_integer n) ≡ false
integer (pos n) = refl
integer (negsuc n) = refl

key : (k : Key) → has_float (data_of_key k) ≡ false
key (keys.Int n) = integer n
key (keys.Text t) = refl
key (keys.Uuid id) = refl

pub no_float : (p : Place) → has_float (data_of_place p) ≡ false
no_float (places.Table t) = refl
no_float (places.Column t c) = refl
no_float (places.Object t k) = rw (key k) refl
no_float (places.Cell c) = rw (key c.key) refl
no_float (places.Elements c front back) = rw (key c.key) refl
