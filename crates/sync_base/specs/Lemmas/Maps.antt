-- The look-ups of a map with a function applied at each key.
use Rattle.std.specs.Prelude.{◌≡◌, true, false, cond, ◌&&◌, List, [], ◌∷◌, T, refl, Some}
use Rattle.std.specs.declared.cmp.Ordering.{Ordering}
use Rattle.std.specs.declared.cmp.Ordering.TheVariants.{Less, Equal, Greater}
use Rattle.std.specs.Option.{option_map}
use Rattle.std.specs.Ordering.{is_eq, is_lt, eq_by_cmp}
use Rattle.std.specs.FinMap.{FinMap, IsAntisymmetric, get, entries, entries_sorted, find, is_sorted, get-from_sorted, get-entries}
use Rattle.std.specs.FinMap.Entries.{below_all}
use Rattle.std.proofs.Common.{sym, ◌∙◌, ap, subst}
use Rattle.sync_base.specs.Maps.{mapped, map_with}

is_Equal : (o : Ordering) → is_eq o ≡ true → o ≡ Equal
is_Equal Less e = cc
is_Equal Equal e = refl
is_Equal Greater e = cc

-- keys that tie are one
pub tied_is : {K : Type 0} {R : K → K → Ordering} → IsAntisymmetric R → (x y : K) → eq_by_cmp R x y ≡ true → x ≡ y
tied_is {R = R} exact x y e = exact x y (is_Equal (R x y) e)

module _ {K X Y : Type 0} (f : K → X → Y) where
  below-mapped : (R : K → K → Ordering) (x : K) (es : List (K × X)) → below_all R x (mapped f es) ≡ below_all R x es
  below-mapped R x [] = refl
  below-mapped R x (e ∷ es) = ap (λ b. is_lt (R x e.0) && b) (below-mapped R x es)

  sorted-mapped : (R : K → K → Ordering) (es : List (K × X)) → is_sorted R (mapped f es) ≡ is_sorted R es
  sorted-mapped R [] = refl
  sorted-mapped R (e ∷ es) = λ i. below-mapped R e.0 es i && sorted-mapped R es i

  find-mapped : (R : K → K → Ordering) → IsAntisymmetric R → (es : List (K × X)) (q : K) → find R q (mapped f es) ≡ option_map (f q) (find R q es)
  find-mapped R exact [] q = refl
  find-mapped R exact (e ∷ es) q =
      elim (eq_by_cmp R q e.0) as (λ b. eq_by_cmp R q e.0 ≡ b → cond b (Some (f e.0 e.1)) (find R q (mapped f es)) ≡ option_map (f q) (cond b (Some e.1) (find R q es))) [
        | true ↦ λ t. ap (λ k. Some (f k e.1)) (sym (tied_is exact q e.0 t))
        | false ↦ λ _. find-mapped R exact es q
      ] refl

  pub get-map_with : {R : K → K → Ordering} → IsAntisymmetric R → (m : FinMap R X) (q : K) → get (map_with f m) q ≡ option_map (f q) (get m q)
  unfolding map_with
  get-map_with {R} exact m q = get-from_sorted R _ q (subst T (sym (sorted-mapped R (entries m))) (entries_sorted m)) ∙ find-mapped R exact (entries m) q ∙ ap (option_map (f q)) (sym (get-entries m q))
