-- What each edit does to a cell.
use Rattle.std.specs.Prelude.{◌≡◌, pos, negsuc, [], ◌∷◌, None, Some, refl}
use Rattle.std.specs.FinMap as map
use Rattle.std.specs.FinSet as set
use Rattle.std.proofs.Common.{ap}
use Rattle.sync_data.specs.declared.value.Value.TheVariants as values
use Rattle.sync_base.specs.Effects.{Set, Add, Replace, Insert, Remove, Include, Exclude, Bind, Empty}
use Rattle.sync_base.specs.States.{One, Many, Members, Dict}
use Rattle.sync_base.specs.After.{edited, default_of}
use Rattle.sync_base.specs.Rules.{spot}
use Rattle.sync_base.proofs.Examples.Pairs.{wrapped}
use Rattle.sync_base.proofs.Examples.Setting.{n, a, x, y, int, n_column, m_column, l_column, u_column, k_column, d_column}

-- ---- one value
set_a_value : edited (Set (int 3)) (One (int 0)) ≡ One (int 3)
set_a_value = refl

add_past_the_greatest_number : edited (Add (pos 1)) (One (values.Int (pos 9223372036854775807))) ≡ One (values.Int (negsuc 9223372036854775807))
add_past_the_greatest_number = ap (λ i. One (values.Int i)) wrapped

add_to_null : edited (Add (pos 1)) (One values.Null) ≡ One values.Null
add_to_null = refl

-- ---- lists
insert_before_an_element : edited (Insert (spot 1 2) a) (Many (x ∷ y ∷ [])) ≡ Many (x ∷ a ∷ y ∷ [])
insert_before_an_element = refl

insert_at_the_end : edited (Insert (spot 2 2) a) (Many (x ∷ y ∷ [])) ≡ Many (x ∷ y ∷ a ∷ [])
insert_at_the_end = refl

replace_an_element : edited (Replace (spot 1 2) a) (Many (x ∷ y ∷ [])) ≡ Many (x ∷ a ∷ [])
replace_an_element = refl

remove_an_element : edited (Remove (spot 0 2)) (Many (x ∷ y ∷ [])) ≡ Many (y ∷ [])
remove_an_element = refl

clear_a_list : edited Empty (Many (x ∷ y ∷ [])) ≡ Many []
clear_a_list = refl

-- ---- sets and dictionaries
include_a_value : edited (Include (int 5)) (Members set.empty) ≡ Members (set.insert set.empty (int 5))
include_a_value = refl

exclude_a_value : edited (Exclude (int 5)) (Members set.empty) ≡ Members (set.remove set.empty (int 5))
exclude_a_value = refl

bind_a_key : edited (Bind n (Some (int 1))) (Dict map.empty) ≡ Dict (map.insert map.empty n (int 1))
bind_a_key = refl

unbind_a_key : edited (Bind n None) (Dict map.empty) ≡ Dict (map.remove map.empty n)
unbind_a_key = refl

clear_a_dictionary : edited Empty (Dict (map.insert map.empty n (int 1))) ≡ Dict map.empty
clear_a_dictionary = refl

-- ---- the default cells
number : default_of n_column ≡ One (int 0)
number = refl

nullable_number : default_of m_column ≡ One values.Null
nullable_number = refl

nullable_list : default_of l_column ≡ Many []
nullable_list = refl

number_set : default_of u_column ≡ Members set.empty
number_set = refl

link : default_of k_column ≡ One values.Null
link = refl

dictionary : default_of d_column ≡ Dict map.empty
dictionary = refl
