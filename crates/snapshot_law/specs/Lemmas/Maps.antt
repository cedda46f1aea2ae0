-- A map is filled entry by entry, and a list that is made entry by entry leads along.
use Rattle.std.specs.Prelude.{◌≡◌, Bool, true, false, cond, ◌&&◌, T, List, [], ◌∷◌, ◌++◌, map, Option, None, Some, refl}
use Rattle.std.specs.declared.cmp.Ordering.{Ordering}
use Rattle.std.specs.declared.cmp.Ordering.TheVariants.{Less, Equal, Greater}
use Rattle.std.specs.Option.{option_map}
use Rattle.std.specs.Ordering.{eq_by_cmp, is_eq, is_lt}
use Rattle.std.specs.Cmp.{IsTotalOrder}
use Rattle.std.specs.FinMap as fin
use Rattle.std.specs.FinMap.{FinMap, IsAntisymmetric, find, is_sorted}
use Rattle.std.specs.FinMap.Entries.{below_all}
use Rattle.std.proofs.Common.{sym, ◌∙◌, ap, subst}
use Rattle.sync_base.specs.Maps.{map_with}
use Rattle.sync_base.specs.Lemmas.Cells.{same_itself}
use Rattle.sync_base.specs.Lemmas.Maps.{tied_is, get-map_with}
use Rattle.snapshot_law.specs.Build.{joined}

first_of : (a b : Bool) → T (a && b) → T a
first_of true b h = tt
first_of false b h = absurd h

second_of : (a b : Bool) → T (a && b) → T b
second_of true b h = h
second_of false b h = absurd h

-- one map over the other
abbrev pub over : {X : Type 0} → Option X → Option X → Option X
over None y = y
over (Some x) y = Some x

less_apart : {K : Type 0} (R : K → K → Ordering) (x y : K) → T (is_lt (R x y)) → eq_by_cmp R x y ≡ false
less_apart R x y h = elim (R x y) as (λ r. T (is_lt r) → is_eq r ≡ false) [ Less ↦ λ _. refl | Equal ↦ λ h. absurd h | Greater ↦ λ h. absurd h ] h

find_below : {K X : Type 0} (R : K → K → Ordering) (q : K) (es : List (K × X)) → T (below_all R q es) → find R q es ≡ None
find_below R q [] h = refl
find_below R q (e ∷ es) h = ap (λ b. cond b (Some e.1) (find R q es)) (less_apart R q e.0 (first_of _ _ h)) ∙ find_below R q es (second_of _ _ h)

turned : {K : Type 0} {R : K → K → Ordering} → IsTotalOrder R → IsAntisymmetric R → (x y : K) → T (is_lt (R y x)) → eq_by_cmp R x y ≡ false
turned {R = R} o exact x y h = elim (eq_by_cmp R x y) as (λ b. eq_by_cmp R x y ≡ b → b ≡ false) [
  | true ↦ λ t. sym (ap (λ z. eq_by_cmp R z x) (sym (tied_is exact x y t)) ∙ same_itself o x) ∙ less_apart R y x h
  | false ↦ λ _. refl
] refl

module _ {K X : Type 0} {R : K → K → Ordering} (o : IsTotalOrder R) (exact : IsAntisymmetric R) where
  pub got_put : (m : FinMap R X) (k : K) (x : X) → fin.get (fin.insert m k x) k ≡ Some x
  got_put m k x = fin.get-insert o m k x k ∙ ap (λ b. cond b (Some x) (fin.get m k)) (same_itself o k)

  -- the second of two writes at a key is all that stays
  pub put_twice : (m : FinMap R X) (k : K) (x y : X) → fin.insert (fin.insert m k x) k y ≡ fin.insert m k y
  put_twice m k x y = fin.same_map o exact _ _ (λ q.
      fin.get-insert o (fin.insert m k x) k y q
      ∙ ap (cond (eq_by_cmp R q k) (Some y)) (fin.get-insert o m k x q)
      ∙ shadow (eq_by_cmp R q k) (Some y) (Some x) (fin.get m q)
      ∙ sym (fin.get-insert o m k y q))
    where
      shadow : (b : Bool) (x y z : Option X) → cond b x (cond b y z) ≡ cond b x z
      shadow true x y z = refl
      shadow false x y z = refl

  -- what is there is written again
  pub put_same : (m : FinMap R X) (k : K) (x : X) → fin.get m k ≡ Some x → fin.insert m k x ≡ m
  put_same m k x e = fin.same_map o exact _ _ (λ q.
      fin.get-insert o m k x q
      ∙ elim (eq_by_cmp R q k) as (λ b. eq_by_cmp R q k ≡ b → cond b (Some x) (fin.get m q) ≡ fin.get m q) [
        | true ↦ λ t. sym e ∙ ap (fin.get m) (sym (tied_is exact q k t))
        | false ↦ λ _. refl
      ] refl)

  -- all entries, one after the other
  abbrev filled : List (K × X) → FinMap R X → FinMap R X
  filled [] m = m
  filled (e ∷ es) m = filled es (fin.insert m e.0 e.1)

  get-filled : (es : List (K × X)) (m : FinMap R X) → T (is_sorted R es) → (q : K) → fin.get (filled es m) q ≡ over (find R q es) (fin.get m q)
  get-filled [] m h q = refl
  get-filled (e ∷ es) m h q =
      get-filled es (fin.insert m e.0 e.1) (second_of _ _ h) q
      ∙ ap (over (find R q es)) (fin.get-insert o m e.0 e.1 q)
      ∙ elim (eq_by_cmp R q e.0) as (λ b. eq_by_cmp R q e.0 ≡ b → over (find R q es) (cond b (Some e.1) (fin.get m q)) ≡ over (cond b (Some e.1) (find R q es)) (fin.get m q)) [
        | true ↦ λ t. ap (λ x. over x (Some e.1)) (ap (λ k. find R k es) (tied_is exact q e.0 t) ∙ find_below R e.0 es (first_of _ _ h))
        | false ↦ λ _. refl
      ] refl

  over_none : (x : Option X) → over x None ≡ x
  over_none None = refl
  over_none (Some x) = refl

  filled_all : (m : FinMap R X) → filled (fin.entries m) fin.empty ≡ m
  filled_all m = fin.same_map o exact _ _ (λ q.
      get-filled (fin.entries m) fin.empty (fin.entries_sorted m) q
      ∙ ap (over (find R q (fin.entries m))) (fin.get-empty R q)
      ∙ over_none _
      ∙ sym (fin.get-entries m q))

  -- the entries are those of the whole, and none of their keys is in the map
  abbrev AreAhead : FinMap R X → List (K × X) → FinMap R X → Type 0
  AreAhead whole [] m = Unit {0}
  AreAhead whole (e ∷ es) m = ((fin.get whole e.0 ≡ Some e.1) × (fin.get m e.0 ≡ None)) × AreAhead whole es m

  still_ahead : (whole : FinMap R X) (es : List (K × X)) (m : FinMap R X) (k : K) (x : X) → T (below_all R k es) → AreAhead whole es m → AreAhead whole es (fin.insert m k x)
  still_ahead whole [] m k x h a = tt
  still_ahead whole (e ∷ es) m k x h a =
      ((a.0.0, fin.get-insert o m k x e.0 ∙ ap (λ b. cond b (Some x) (fin.get m e.0)) (turned o exact e.0 k (first_of _ _ h)) ∙ a.0.1), still_ahead whole es m k x (second_of _ _ h) a.1)

  find_here : (whole : FinMap R X) (es : List (K × X)) → T (is_sorted R es) → ((q : K) (x : X) → find R q es ≡ Some x → fin.get whole q ≡ Some x) → AreAhead whole es fin.empty
  find_here whole [] h g = tt
  find_here whole (e ∷ es) h g = (
    (g e.0 e.1 (ap (λ b. cond b (Some e.1) (find R e.0 es)) (same_itself o e.0)), fin.get-empty R e.0),
    find_here whole es (second_of _ _ h) (λ q x f. g q x (elim (eq_by_cmp R q e.0) as (λ b. eq_by_cmp R q e.0 ≡ b → cond b (Some e.1) (find R q es) ≡ Some x) [
      | true ↦ λ t. let n : None ≡ Some x = sym (ap (λ k. find R k es) (tied_is exact q e.0 t) ∙ find_below R e.0 es (first_of _ _ h)) ∙ f in cc
      | false ↦ λ _. f
    ] refl)),
  )

  -- what leads from one to the other, entry by entry, leads through all of them
  module _ {E S : Type 0} (Leads : List E → S → S → Type 0) (stays : (s : S) → Leads [] s s) (goes_on : (ds es : List E) (s t u : S) → Leads ds s t → Leads es t u → Leads (ds ++ es) s u) where
    walk_on : (f : K × X → List E) (at : FinMap R X → S) (whole : FinMap R X) (es : List (K × X)) (m : FinMap R X) → T (is_sorted R es) → AreAhead whole es m
        → ((m : FinMap R X) (k : K) (x : X) → fin.get whole k ≡ Some x → fin.get m k ≡ None → Leads (f (k, x)) (at m) (at (fin.insert m k x)))
        → Leads (joined (map f es)) (at m) (at (filled es m))
    walk_on f at whole [] m h a step = stays (at m)
    walk_on f at whole (e ∷ es) m h a step =
        goes_on (f e) (joined (map f es)) (at m) (at (fin.insert m e.0 e.1)) (at (filled es (fin.insert m e.0 e.1))) (step m e.0 e.1 a.0.0 a.0.1)
        (walk_on f at whole es (fin.insert m e.0 e.1) (second_of _ _ h) (still_ahead whole es m e.0 e.1 (first_of _ _ h) a.1) step)

    pub walk : (f : K × X → List E) (at : FinMap R X → S) (m : FinMap R X)
        → ((g : FinMap R X) (k : K) (x : X) → fin.get m k ≡ Some x → fin.get g k ≡ None → Leads (f (k, x)) (at g) (at (fin.insert g k x)))
        → Leads (joined (map f (fin.entries m))) (at fin.empty) (at m)
    walk f at m step =
        subst (λ z. Leads (joined (map f (fin.entries m))) (at fin.empty) (at z)) (filled_all m)
        (walk_on f at m (fin.entries m) fin.empty (fin.entries_sorted m) (find_here m (fin.entries m) (fin.entries_sorted m) (λ q x f. fin.get-entries m q ∙ f)) step)

-- ---- lists of one
pub joined_singles : {A B : Type 0} (f : A → B) (xs : List A) → joined (map (λ x. f x ∷ []) xs) ≡ map f xs
joined_singles f [] = refl
joined_singles f (x ∷ xs) = ap (λ ys. f x ∷ ys) (joined_singles f xs)

-- ---- a function at each key
module _ {K X Y : Type 0} {R : K → K → Ordering} (o : IsTotalOrder R) (exact : IsAntisymmetric R) (f : K → X → Y) where
  pub map_with-empty : map_with f (fin.empty {R = R}) ≡ fin.empty
  map_with-empty = fin.same_map o exact _ _ (λ q. get-map_with f exact fin.empty q ∙ ap (option_map (f q)) (fin.get-empty R q) ∙ sym (fin.get-empty R q))

  pub map_with-insert : (m : FinMap R X) (k : K) (x : X) → map_with f (fin.insert m k x) ≡ fin.insert (map_with f m) k (f k x)
  map_with-insert m k x = fin.same_map o exact _ _ (λ q.
      get-map_with f exact (fin.insert m k x) q
      ∙ ap (option_map (f q)) (fin.get-insert o m k x q)
      ∙ elim (eq_by_cmp R q k) as (λ b. eq_by_cmp R q k ≡ b → option_map (f q) (cond b (Some x) (fin.get m q)) ≡ cond b (Some (f k x)) (option_map (f q) (fin.get m q))) [
        | true ↦ λ t. ap (λ j. Some (f j x)) (tied_is exact q k t)
        | false ↦ λ _. refl
      ] refl
      ∙ ap (cond (eq_by_cmp R q k) (Some (f k x))) (sym (get-map_with f exact m q))
      ∙ sym (fin.get-insert o (map_with f m) k (f k x) q))
