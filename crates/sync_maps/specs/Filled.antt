-- A finite map that a loop fills from a list of entries whose keys rise.
use Rattle.std.specs.Prelude.{◌≡◌, true, false, cond, List, [], ◌∷◌, Option, None, Some, refl}
use Rattle.std.specs.declared.cmp.Ordering.{Ordering}
use Rattle.std.specs.declared.cmp.Ordering.TheVariants.{Less}
use Rattle.std.specs.Ordering.{is_eq, eq_by_cmp}
use Rattle.std.specs.Cmp.{IsTotalOrder}
use Rattle.std.specs.FinMap as map
use Rattle.std.specs.FinMap.{FinMap, IsAntisymmetric, find}
use Rattle.std.specs.List.{AllByRecursion}
use Rattle.std.specs.List.Sorted.{IsStrictlySortedBy}
use Rattle.std.specs.Map.{keys_of}
use Rattle.std.proofs.Common.{sym, ◌∙◌, ap}
use Rattle.sync_maps.specs.Seen.{tied}

module _ {K X Y : Type 0} {R : K → K → Ordering} (f : X → Y) where
  -- the map, with each entry's value by f put in turn
  abbrev pub filled : FinMap R Y → List (K × X) → FinMap R Y
  filled m [] = m
  filled m (e ∷ es) = filled (map.insert m e.0 (f e.1)) es

module _ {X Y : Type 0} (f : X → Y) where
  abbrev pub found_or : Option Y → Option X → Option Y
  found_or y None = y
  found_or y (Some x) = Some (f x)

module _ {K X : Type 0} (R : K → K → Ordering) where
  below_none : (k : K) (es : List (K × X)) → AllByRecursion (λ y. R k y ≡ Less) (keys_of es) → find R k es ≡ None
  below_none k [] h = refl
  below_none k (e ∷ es) h = ap (λ r. cond (is_eq r) (Some e.1) (find R k es)) h.0 ∙ below_none k es h.1

  sorted_head : (e : K × X) (es : List (K × X)) → IsStrictlySortedBy R (keys_of (e ∷ es)) → AllByRecursion (λ y. R e.0 y ≡ Less) (keys_of es)
  unfolding IsStrictlySortedBy
  sorted_head e es h = h.0

  sorted_tail : (e : K × X) (es : List (K × X)) → IsStrictlySortedBy R (keys_of (e ∷ es)) → IsStrictlySortedBy R (keys_of es)
  unfolding IsStrictlySortedBy
  sorted_tail e es h = h.1

module _ {K X Y : Type 0} {R : K → K → Ordering} (o : IsTotalOrder R) (exact : IsAntisymmetric R) (f : X → Y) where
  pub get-filled : (m : FinMap R Y) (es : List (K × X)) → IsStrictlySortedBy R (keys_of es) → (q : K) → map.get (filled f m es) q ≡ found_or f (map.get m q) (find R q es)
  get-filled m [] h q = refl
  get-filled m (e ∷ es) h q =
      get-filled (map.insert m e.0 (f e.1)) es (sorted_tail R e es h) q
      ∙ ap (λ y. found_or f y (find R q es)) (map.get-insert o m e.0 (f e.1) q)
      ∙ elim (eq_by_cmp R q e.0) as (λ b. eq_by_cmp R q e.0 ≡ b → found_or f (cond b (Some (f e.1)) (map.get m q)) (find R q es) ≡ found_or f (map.get m q) (cond b (Some e.1) (find R q es))) [
        | true ↦ λ t. ap (λ k. found_or f (Some (f e.1)) (find R k es)) (tied exact q e.0 t) ∙ ap (found_or f (Some (f e.1))) (below_none R e.0 es (sorted_head R e es h))
        | false ↦ λ _. refl
      ] refl

module _ {K X : Type 0} {R : K → K → Ordering} (o : IsTotalOrder R) (exact : IsAntisymmetric R) where
  found_itself : (x : Option X) → found_or (λ v. v) None x ≡ x
  found_itself None = refl
  found_itself (Some x) = refl

  -- all entries of an ordered map, put in turn, give the map
  pub filled_all : (es : List (K × X)) → IsStrictlySortedBy R (keys_of es) → filled (λ v. v) map.empty es ≡ map.from_entries {R = R} es
  filled_all es h = map.same_map o exact _ _ (λ q.
      get-filled o exact (λ v. v) map.empty es h q ∙ ap (λ y. found_or (λ v. v) y (find R q es)) (map.get-empty R q)
      ∙ found_itself (find R q es) ∙ sym (map.get-from_entries o es q))
