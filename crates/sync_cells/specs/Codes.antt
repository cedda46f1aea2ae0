-- Keys, values and cells as data.
use Rattle.std.specs.Prelude.{◌≡◌, ℕ, ℤ, cond, ◌==◌, List, [], ◌∷◌, refl}
use Rattle.std.specs.Coded.{Coded, code_by, coded×, coded_ℕ, coded_ℤ, coded_list}
use Rattle.std.specs.FinMap as map
use Rattle.std.specs.FinSet as set
use Rattle.sync_data.specs.Orders.{name_cmp, value_cmp, value_rank, value_number, value_nanos, value_bytes, value_key, value_of, value_of-parts, key_rank, key_number, key_bytes, key_of, key_of-parts}
use Rattle.sync_data.specs.declared.key.Key.{Key}
use Rattle.sync_data.specs.declared.value.Value.{Value}
use Rattle.sync_data.specs.declared.value.Value.TheVariants as values
use Rattle.sync_base.specs.States.{Cell, One, Many, Members, Dict, cell_rank}

abbrev pub coded_bytes : Coded (List ℕ)
coded_bytes = coded_list coded_ℕ

abbrev pub coded_key : Coded Key
coded_key = code_by (ℕ × (ℤ × List ℕ)) (coded× coded_ℕ (coded× coded_ℤ coded_bytes)) (λ k. (key_rank k, (key_number k, key_bytes k))) (λ p. key_of p.0 p.1.0 p.1.1) key_of-parts

abbrev pub coded_value : Coded Value
coded_value =
    code_by (ℕ × (ℤ × (ℤ × (List ℕ × Key)))) (coded× coded_ℕ (coded× coded_ℤ (coded× coded_ℤ (coded× coded_bytes coded_key))))
    (λ v. (value_rank v, (value_number v, (value_nanos v, (value_bytes v, value_key v))))) (λ p. value_of p.0 p.1.0 p.1.1.0 p.1.1.1.0 p.1.1.1.1) value_of-parts

-- which of the four, and what each holds where it isn't the one
abbrev pub cell_items : Cell → List Value
cell_items (One v) = v ∷ []
cell_items (Many xs) = xs
cell_items x = []

abbrev pub cell_members : Cell → set.FinSet value_cmp
cell_members (Members xs) = xs
cell_members x = set.empty

abbrev pub cell_bindings : Cell → map.FinMap name_cmp Value
cell_bindings (Dict m) = m
cell_bindings x = map.empty

abbrev pub first_of_items : List Value → Value
first_of_items [] = values.Null
first_of_items (v ∷ vs) = v

abbrev pub cell_of : ℕ → List Value → set.FinSet value_cmp → map.FinMap name_cmp Value → Cell
cell_of n xs s m = cond (n == 0) (One (first_of_items xs)) (cond (n == 1) (Many xs) (cond (n == 2) (Members s) (Dict m)))

pub cell_back : (x : Cell) → cell_of (cell_rank x) (cell_items x) (cell_members x) (cell_bindings x) ≡ x
cell_back (One v) = refl
cell_back (Many xs) = refl
cell_back (Members xs) = refl
cell_back (Dict m) = refl

abbrev pub coded_cell : Coded Cell
coded_cell =
    code_by (ℕ × (List Value × (set.FinSet value_cmp × map.FinMap name_cmp Value))) (coded× coded_ℕ (coded× (coded_list coded_value) (coded× (set.code coded_value) (map.code coded_bytes coded_value))))
    (λ x. (cell_rank x, (cell_items x, (cell_members x, cell_bindings x)))) (λ p. cell_of p.0 p.1.0 p.1.1.0 p.1.1.1) cell_back
