-- What a cell holds at a place, as a member, or at a text key.
use Rattle.std.specs.Prelude.{◌≡◌, ℕ, Bool, false, List, Option, None, Some, slice_get}
use Rattle.std.specs.BTreeMap.{BTreeMap}
use Rattle.std.specs.BTreeSet.{BTreeSet}
use Rattle.std.specs.FinMap as map
use Rattle.std.specs.FinSet as set
use Rattle.sync_data.specs.Orders.{name_cmp, value_cmp}
use Rattle.sync_data.specs.declared.value.Value.{Value}
use Rattle.sync_base.specs.States.{Cell, Many, Members, Dict}

abbrev pub HoldsAt : Cell → ℕ → Value → Type 0
HoldsAt (Many xs) place v = slice_get xs place ≡ Some v
HoldsAt x place v = ⊥

abbrev pub has_member : Cell → Value → Bool
has_member (Members xs) v = set.contains xs v
has_member x v = false

abbrev pub binding_at : Cell → List ℕ → Option Value
binding_at (Dict m) k = map.get m k
binding_at x k = None

abbrev pub bindings : BTreeMap (List ℕ) Value → map.FinMap name_cmp Value
bindings d = map.from_entries d.entries

abbrev pub members : BTreeSet Value → set.FinSet value_cmp
members s = set.from_list s.keys
