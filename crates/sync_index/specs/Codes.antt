-- Sets of keys and indexes as data.
use Rattle.std.specs.Prelude.{ℕ, ℤ, Bool, List, refl}
use Rattle.std.specs.Coded.{Coded, code_by, coded×, coded_ℕ, coded_ℤ, coded_bool, coded_list}
use Rattle.std.specs.FinMap as map
use Rattle.std.specs.FinSet as set
use Rattle.sync_data.specs.Orders.{name_cmp, key_cmp, key_rank, key_number, key_bytes, key_of, key_of-parts}
use Rattle.sync_data.specs.declared.key.Key.{Key}
use Rattle.sync_index.specs.Touched.{Touched}

abbrev pub coded_bytes : Coded (List ℕ)
coded_bytes = coded_list coded_ℕ

abbrev pub coded_key : Coded Key
coded_key = code_by (ℕ × (ℤ × List ℕ)) (coded× coded_ℕ (coded× coded_ℤ coded_bytes)) (λ k. (key_rank k, (key_number k, key_bytes k))) (λ p. key_of p.0 p.1.0 p.1.1) key_of-parts

abbrev pub coded_keys : Coded (set.FinSet key_cmp)
coded_keys = set.code coded_key

abbrev pub coded_objects : Coded (map.FinMap name_cmp (set.FinSet key_cmp))
coded_objects = map.code coded_bytes coded_keys

abbrev pub coded_touched : Coded Touched
coded_touched = code_by (map.FinMap name_cmp (set.FinSet key_cmp) × Bool) (coded× coded_objects coded_bool) (λ t. (t.objects, t.schema)) (λ p. record { objects = p.0; schema = p.1 }) (λ _. refl)
