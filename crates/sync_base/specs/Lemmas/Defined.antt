-- The merged state is undefined exactly where the table answers that tables or columns differ.
use Rattle.std.specs.Prelude.{◌≡◌, Bool, true, false, cond, not, ◌&&◌, ◌||◌, ◌==◌, nat_lt, nat_le, Ok, Err, refl}
use Rattle.std.specs.Ordering.{eq_by_cmp}
use Rattle.sync_data.specs.Spot.{Spot}
use Rattle.sync_data.specs.Orders.{name_cmp, value_cmp}
use Rattle.sync_base.specs.declared.answers.Mismatch.TheVariants as mismatches
use Rattle.sync_base.specs.Effects.{CellPath, Edit, Effect, Set, Add, Replace, Insert, Remove, Include, Exclude, Bind, Empty, NewTable, NewColumn, Create, Erase, Change}
use Rattle.sync_base.specs.States.{object_cmp, key_rank_of}
use Rattle.sync_base.specs.Merged.{path_cmp, same_column, is_defined}
use Rattle.sync_base.specs.Rules.{Answer, Outcomes, rule, rule_of_edits, sized, top, lifted, is_summed, has_row}

-- ---- two edits never differ in tables or columns
abbrev SizedAt : {A : Type 0} → Answer A → Type 0
SizedAt (Ok f) = Unit {0}
SizedAt (Err mismatches.SizesDiffer) = Unit {0}
SizedAt (Err mismatches.Range) = Unit {0}
SizedAt (Err m) = ⊥

record Sized {A : Type 0} (m : Answer A) : Type 0 where
  fine : SizedAt m

yes : {A : Type 0} (f : Outcomes A) → Sized (Ok f)
yes f = record { fine = tt }

either : {A : Type 0} (b : Bool) (m n : Answer A) → Sized m → Sized n → Sized (cond b m n)
either true m n g h = g
either false m n g h = h

in_size : (b : Bool) (s t : Spot) (row : Answer Edit) → Sized row → Sized (sized b s t row)
in_size b s t row h = either (s.prior == t.prior) _ _ (either (b && (s.prior == top)) (Err mismatches.Range) row (record { fine = tt }) h) (record { fine = tt })

edits_sized : (l : Bool) (e f : Edit) → Sized (rule_of_edits l e f)
edits_sized true (Set v) (Set w) = yes _
edits_sized false (Set v) (Set w) = yes _
edits_sized true (Set v) (Add n) = either (is_summed v) _ _ (yes _) (yes _)
edits_sized false (Set v) (Add n) = either (is_summed v) _ _ (yes _) (yes _)
edits_sized true (Add n) (Set v) = either (is_summed v) _ _ (yes _) (yes _)
edits_sized false (Add n) (Set v) = either (is_summed v) _ _ (yes _) (yes _)
edits_sized l (Insert s v) (Insert t w) = in_size true s t _ (either (nat_lt s.place t.place || ((s.place == t.place) && not l)) _ _ (yes _) (yes _))
edits_sized l (Insert s v) (Remove t) = in_size true s t _ (either (nat_le s.place t.place) _ _ (yes _) (yes _))
edits_sized l (Remove s) (Insert t w) = in_size true s t _ (either (nat_le t.place s.place) _ _ (yes _) (yes _))
edits_sized l (Insert s v) (Replace t w) = in_size true s t _ (either (nat_le s.place t.place) _ _ (yes _) (yes _))
edits_sized l (Replace s v) (Insert t w) = in_size true s t _ (either (nat_le t.place s.place) _ _ (yes _) (yes _))
edits_sized l (Remove s) (Remove t) = in_size false s t _ (either (s.place == t.place) _ _ (yes _) (either (nat_lt s.place t.place) _ _ (yes _) (yes _)))
edits_sized l (Remove s) (Replace t w) = in_size false s t _ (either (s.place == t.place) _ _ (yes _) (either (nat_lt s.place t.place) _ _ (yes _) (yes _)))
edits_sized l (Replace s v) (Remove t) = in_size false s t _ (either (s.place == t.place) _ _ (yes _) (either (nat_lt t.place s.place) _ _ (yes _) (yes _)))
edits_sized true (Replace s v) (Replace t w) = in_size false s t _ (either (s.place == t.place) _ _ (yes _) (yes _))
edits_sized false (Replace s v) (Replace t w) = in_size false s t _ (either (s.place == t.place) _ _ (yes _) (yes _))
edits_sized true (Include v) (Exclude w) = either (eq_by_cmp value_cmp v w) _ _ (yes _) (yes _)
edits_sized false (Include v) (Exclude w) = either (eq_by_cmp value_cmp v w) _ _ (yes _) (yes _)
edits_sized true (Exclude v) (Include w) = either (eq_by_cmp value_cmp v w) _ _ (yes _) (yes _)
edits_sized false (Exclude v) (Include w) = either (eq_by_cmp value_cmp v w) _ _ (yes _) (yes _)
edits_sized true (Bind j v) (Bind k w) = either (eq_by_cmp name_cmp j k) _ _ (yes _) (yes _)
edits_sized false (Bind j v) (Bind k w) = either (eq_by_cmp name_cmp j k) _ _ (yes _) (yes _)
edits_sized l Empty (Set v) = yes _
edits_sized l Empty (Add n) = yes _
edits_sized l Empty (Replace t w) = yes _
edits_sized l Empty (Insert t w) = yes _
edits_sized l Empty (Remove t) = yes _
edits_sized l Empty (Include w) = yes _
edits_sized l Empty (Exclude w) = yes _
edits_sized l Empty (Bind k w) = yes _
edits_sized l Empty Empty = yes _
edits_sized l e f = (yes _)

-- ---- what an answer tells of the merged state
abbrev pub ToldAt : Answer Effect → Bool → Type 0
ToldAt (Err mismatches.TablesDiffer) d = d ≡ false
ToldAt (Err mismatches.ColumnsDiffer) d = d ≡ false
ToldAt (Err m) d = d ≡ true
ToldAt (Ok f) d = d ≡ true

pub record Told (m : Answer Effect) (d : Bool) : Type 0 where
  pub told : ToldAt m d

fine : (f : Outcomes Effect) → Told (Ok f) true
fine f = record { told = refl }

one_of : (b : Bool) (m n : Answer Effect) → Told m true → Told n true → Told (cond b m n) true
one_of true m n g h = g
one_of false m n g h = h

lifted_told : (p : CellPath) (m : Answer Edit) → Sized m → Told (lifted p m) true
lifted_told p (Ok f) h = record { told = refl }
lifted_told p (Err mismatches.SizesDiffer) h = record { told = refl }
lifted_told p (Err mismatches.Range) h = record { told = refl }
lifted_told p (Err mismatches.TablesDiffer) h = absurd h.fine
lifted_told p (Err mismatches.ColumnsDiffer) h = absurd h.fine

tables_told : (b c : Bool) (f g : Outcomes Effect) → Told (cond b (cond c (Ok g) (Err mismatches.TablesDiffer)) (Ok f)) (not b || c)
tables_told true true f g = record { told = refl }
tables_told true false f g = record { told = refl }
tables_told false c f g = record { told = refl }

columns_told : (b c : Bool) (f g : Outcomes Effect) → Told (cond b (cond c (Ok g) (Err mismatches.ColumnsDiffer)) (Ok f)) (not b || c)
columns_told true true f g = record { told = refl }
columns_told true false f g = record { told = refl }
columns_told false c f g = record { told = refl }

pub told : (l : Bool) (a b : Effect) → Told (rule l a b) (is_defined a b)
told l (NewTable t k) (NewTable u j) = tables_told (eq_by_cmp name_cmp t u) (key_rank_of k == key_rank_of j) _ _
told l (NewColumn t c x) (NewColumn u d y) = columns_told (eq_by_cmp name_cmp t u && eq_by_cmp name_cmp c d) (same_column x y) _ _
told l (Create o) (Erase p) = one_of (eq_by_cmp object_cmp o p) _ _ (fine _) (fine _)
told l (Erase o) (Create p) = one_of (eq_by_cmp object_cmp o p) _ _ (fine _) (fine _)
told l (Erase o) (Erase p) = one_of (eq_by_cmp object_cmp o p) _ _ (fine _) (fine _)
told l (Erase o) (Change q e) = one_of (eq_by_cmp object_cmp o q.0) _ _ (fine _) (fine _)
told l (Change q e) (Erase o) = one_of (eq_by_cmp object_cmp q.0 o) _ _ (fine _) (fine _)
told l (Change p e) (Change q f) = one_of (has_row e f && eq_by_cmp path_cmp p q) _ _ (lifted_told p (rule_of_edits l e f) (edits_sized l e f)) (fine _)
told l (NewTable t k) (NewColumn u d y) = fine _
told l (NewTable t k) (Create p) = fine _
told l (NewTable t k) (Erase p) = fine _
told l (NewTable t k) (Change q f) = fine _
told l (NewColumn t c x) (NewTable u j) = fine _
told l (NewColumn t c x) (Create p) = fine _
told l (NewColumn t c x) (Erase p) = fine _
told l (NewColumn t c x) (Change q f) = fine _
told l (Create o) (NewTable u j) = fine _
told l (Create o) (NewColumn u d y) = fine _
told l (Create o) (Create p) = fine _
told l (Create o) (Change q f) = fine _
told l (Erase o) (NewTable u j) = fine _
told l (Erase o) (NewColumn u d y) = fine _
told l (Change q e) (NewTable u j) = fine _
told l (Change q e) (NewColumn u d y) = fine _
told l (Change q e) (Create p) = fine _
