-- The values of a set in their order are its values.
use Rattle.std.specs.Prelude.{◌≡◌, Bool, true, false, cond, ◌||◌, List, [], ◌∷◌, Option, Some, is_some, refl}
use Rattle.std.specs.Ordering.{eq_by_cmp}
use Rattle.std.specs.List.{list_any}
use Rattle.std.specs.FinMap as map
use Rattle.std.specs.FinSet as set
use Rattle.std.proofs.Common.{◌∙◌, ap, sym}
use Rattle.sync_data.specs.Orders.{value_cmp, value_cmp_total}
use Rattle.sync_data.specs.declared.value.Value.{Value}
use Rattle.store_walks.specs.Along.{keyed, in_order}

put_or : (b : Bool) (x : Option (Unit {0})) → is_some (cond b (Some tt) x) ≡ (b || is_some x)
put_or true x = refl
put_or false x = refl

has_keyed : (vs : List Value) (v : Value) → is_some (map.get (keyed vs) v) ≡ list_any (eq_by_cmp value_cmp v) vs
has_keyed [] v = ap is_some (map.get-empty value_cmp v)
has_keyed (w ∷ vs) v = ap is_some (map.get-insert value_cmp_total (keyed vs) w tt v) ∙ put_or (eq_by_cmp value_cmp v w) (map.get (keyed vs) v) ∙ ap (λ b. eq_by_cmp value_cmp v w || b) (has_keyed vs v)

pub contains-in_order : (s : set.FinSet value_cmp) (v : Value) → set.contains s v ≡ list_any (eq_by_cmp value_cmp v) (in_order s)
contains-in_order s v = set.contains-items s v ∙ sym (has_keyed (set.items s) v) ∙ map.contains_key-keys (keyed (set.items s)) v
