-- Merged states, worked out on the state of `Setting`: n is 0, l is ["x", "y"], s and m are null, u and d are empty.
use Rattle.std.specs.Prelude.{◌≡◌, ℕ, pos, Bool, true, false, List, [], ◌∷◌, Option, None, Some, refl}
use Rattle.std.specs.Option.{option_map}
use Rattle.std.specs.Int.{w64}
use Rattle.std.specs.FinMap as map
use Rattle.std.specs.FinSet as set
use Rattle.std.proofs.Common.{sym, ◌∙◌, ap, lit<}
use Rattle.std.proofs.lemmas.Int.{wrapping_add_is}
use Rattle.sync_data.specs.declared.key.KeyKind.TheVariants as key_kinds
use Rattle.sync_data.specs.declared.value.Value.TheVariants as values
use Rattle.sync_base.specs.Effects.{CellPath, Edit, Set, Add, Insert, Remove, Include, Exclude, Bind, Empty, NewTable, Create, Erase, Change, instr_of}
use Rattle.sync_base.specs.States.{Cell, One, Many, Members, Dict, has, cell_at, column_in}
use Rattle.sync_base.specs.After.{sum64}
use Rattle.sync_base.specs.Merged.{merge, merged_state, merged_touch, touch, cell_or_default}
use Rattle.sync_base.specs.Rules.{spot}
use Rattle.sync_base.specs.Lemmas.Pairs.{stands, merged-stands, cell-merged}
use Rattle.sync_base.proofs.Examples.Setting.{t, n, m, l, u, d, z, a, b, x, y, int, object, path, here, looks}

-- ---- one cell of the merged state of two effects that change cells of object 1
of_cells : (p q : CellPath) (e f : Edit) (later : Bool) (c : List ℕ) → stands here (Change p e) (Change q f) (object 1) ≡ true
    → cell_at (merged_state here (Change p e) (Change q f) later) (object 1) c
    ≡ option_map (λ def. merged_touch later (touch (Change p e) (object 1, c)) (touch (Change q f) (object 1, c)) (cell_or_default here (object 1) c def)) (column_in here.tables t c)
of_cells p q e f later c h = cell-merged here (Change p e) (Change q f) later (object 1) c (merged-stands here (Change p e) (Change q f) later (object 1) ∙ h)

abbrev merged : List ℕ → Edit → Edit → Bool → Option Cell
merged c e f later = cell_at (merged_state here (Change (path c) e) (Change (path c) f) later) (object 1) c

-- ---- one value
the_later_update_counts : merged n (Set (int 1)) (Set (int 2)) true ≡ Some (One (int 1))
the_later_update_counts = of_cells (path n) (path n) (Set (int 1)) (Set (int 2)) true n (simp looks refl) ∙ simp looks refl

three : sum64 (pos 1) (pos 2) ≡ pos 3
three = sym (wrapping_add_is w64 (pos 1) (pos 2) (record { sfits = lit< tt }) (record { sfits = lit< tt }))

a_later_addition_is_added : merged n (Set (int 1)) (Add (pos 2)) false ≡ Some (One (int 3))
a_later_addition_is_added = of_cells (path n) (path n) (Set (int 1)) (Add (pos 2)) false n (simp looks refl) ∙ simp looks refl ∙ ap (λ i. Some (One (values.Int i))) three

an_earlier_addition_is_dropped : merged n (Set (int 1)) (Add (pos 2)) true ≡ Some (One (int 1))
an_earlier_addition_is_dropped = of_cells (path n) (path n) (Set (int 1)) (Add (pos 2)) true n (simp looks refl) ∙ simp looks refl

one : sum64 (pos 0) (pos 1) ≡ pos 1
one = sym (wrapping_add_is w64 (pos 0) (pos 1) (record { sfits = lit< tt }) (record { sfits = lit< tt }))

two_additions_are_added : merged n (Add (pos 1)) (Add (pos 2)) true ≡ Some (One (int 3))
two_additions_are_added =
    of_cells (path n) (path n) (Add (pos 1)) (Add (pos 2)) true n (simp looks refl) ∙ simp looks refl ∙ ap (λ i. Some (One (values.Int (sum64 i (pos 1))))) two ∙ ap (λ i. Some (One (values.Int i))) summed
  where
    two : sum64 (pos 0) (pos 2) ≡ pos 2
    two = sym (wrapping_add_is w64 (pos 0) (pos 2) (record { sfits = lit< tt }) (record { sfits = lit< tt }))

    summed : sum64 (pos 2) (pos 1) ≡ pos 3
    summed = sym (wrapping_add_is w64 (pos 2) (pos 1) (record { sfits = lit< tt }) (record { sfits = lit< tt }))

additions_to_null_leave_null : merged m (Add (pos 1)) (Add (pos 2)) true ≡ Some (One values.Null)
additions_to_null_leave_null = of_cells (path m) (path m) (Add (pos 1)) (Add (pos 2)) true m (simp looks refl) ∙ simp looks refl

-- ---- lists
both_insertions_stand_by_stamp : merged l (Insert (spot 1 2) a) (Insert (spot 1 2) b) true ≡ Some (Many (x ∷ b ∷ a ∷ y ∷ []))
both_insertions_stand_by_stamp = of_cells (path l) (path l) (Insert (spot 1 2) a) (Insert (spot 1 2) b) true l (simp looks refl) ∙ simp looks refl

erased_once : merged l (Remove (spot 0 2)) (Remove (spot 0 2)) false ≡ Some (Many (y ∷ []))
erased_once = of_cells (path l) (path l) (Remove (spot 0 2)) (Remove (spot 0 2)) false l (simp looks refl) ∙ simp looks refl

cleared : merged l Empty (Insert (spot 0 2) a) false ≡ Some (Many [])
cleared = of_cells (path l) (path l) Empty (Insert (spot 0 2) a) false l (simp looks refl) ∙ simp looks refl

-- ---- sets and dictionaries: first the earlier, then the later
later_erasure_of_a_member : merged u (Include (int 5)) (Exclude (int 5)) false ≡ Some (Members (set.remove (set.insert set.empty (int 5)) (int 5)))
later_erasure_of_a_member = of_cells (path u) (path u) (Include (int 5)) (Exclude (int 5)) false u (simp looks refl) ∙ simp looks refl

later_binding : merged d (Bind n (Some (int 1))) (Bind n None) true ≡ Some (Dict (map.insert (map.remove map.empty n) n (int 1)))
later_binding = of_cells (path d) (path d) (Bind n (Some (int 1))) (Bind n None) true d (simp looks refl) ∙ simp looks refl

-- ---- cells apart: each has its side's effect
own_effect : cell_at (merged_state here (Change (path n) (Set (int 1))) (Change (path l) (Remove (spot 0 2))) true) (object 1) l ≡ Some (Many (y ∷ []))
own_effect = of_cells (path n) (path l) (Set (int 1)) (Remove (spot 0 2)) true l (simp looks refl) ∙ simp looks refl

-- ---- objects
erased_wins : has (merged_state here (Erase (object 1)) (Change (path n) (Set (int 1))) false) (object 1) ≡ false
erased_wins = merged-stands here (Erase (object 1)) (Change (path n) (Set (int 1))) false (object 1)

erased_wins_over_creation : has (merged_state here (Create (object 1)) (Erase (object 1)) true) (object 1) ≡ false
erased_wins_over_creation = merged-stands here (Create (object 1)) (Erase (object 1)) true (object 1)

created_by_one_side : has (merged_state here (Create (object 2)) (Erase (object 1)) true) (object 2) ≡ true
created_by_one_side = merged-stands here (Create (object 2)) (Erase (object 1)) true (object 2)

-- ---- where it is undefined
different_tables : (later : Bool) → merge (instr_of (NewTable z key_kinds.Int)) (instr_of (NewTable z key_kinds.Text)) later here ≡ None
different_tables later = refl
