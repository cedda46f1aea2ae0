-- An ordered map or set of the code has the entries of the finite map or set that it stands for.
use Rattle.std.proofs.Common.{◌≡◌, Bool, true, false, cond, ◌&&◌, ◌||◌, T, Option, None, Some, List, [], ◌∷◌, map, refl, sym, ap, subst, ◌∙◌}
use Rattle.std.specs.declared.cmp.Ordering.{Ordering}
use Rattle.std.specs.declared.cmp.Ordering.TheVariants.{Less}
use Rattle.std.specs.Ordering.{is_lt, eq_by_cmp}
use Rattle.std.specs.Cmp.{IsTotalOrder}
use Rattle.std.specs.FinMap as finite
use Rattle.std.specs.FinMap.{IsAntisymmetric, is_sorted}
use Rattle.std.specs.FinMap.Entries.{below_all}
use Rattle.std.specs.FinSet as set
use Rattle.std.specs.List.{AllByRecursion, list_any}
use Rattle.std.specs.List.Sorted.{IsStrictlySortedBy}
use Rattle.std.specs.Map.{keys_of}
use Rattle.sync_data.specs.Orders.{value_cmp, value_cmp_total, value_cmp_exact}
use Rattle.sync_data.specs.declared.value.Value.{Value}
use Rattle.store_walks.specs.Along.{keyed, in_order}

module _ {K X : Type 0} (R : K → K → Ordering) where
  all_below : (k : K) (es : List (K × X)) → AllByRecursion (λ y. R k y ≡ Less) (keys_of es) → below_all R k es ≡ true
  all_below k [] h = refl
  all_below k (e ∷ es) h = ap (λ r. is_lt r && below_all R k es) h.0 ∙ all_below k es h.1

  sorted_is : (es : List (K × X)) → IsStrictlySortedBy R (keys_of es) → is_sorted R es ≡ true
  unfolding IsStrictlySortedBy
  sorted_is [] h = refl
  sorted_is (e ∷ es) h = ap (λ b. b && is_sorted R es) (all_below e.0 es h.0) ∙ sorted_is es h.1

module _ {K X : Type 0} {R : K → K → Ordering} (o : IsTotalOrder R) (exact : IsAntisymmetric R) where
  pub entries_of : (es : List (K × X)) → IsStrictlySortedBy R (keys_of es) → finite.entries (finite.from_entries {R = R} es) ≡ es
  entries_of es h =
      let sorted = subst T (sym (sorted_is R es h)) tt in
      ap finite.entries (finite.same_map o exact (finite.from_entries {R = R} es) (finite.from_sorted es) (λ q. finite.get-from_entries o es q ∙ sym (finite.get-from_sorted R es q sorted)))
      ∙ finite.entries-from_sorted R es sorted

module _ {K : Type 0} (R : K → K → Ordering) where
  abbrev pub marked : List K → List (K × Unit {0})
  marked [] = []
  marked (k ∷ ks) = (k, tt) ∷ marked ks

  keys_marked : (ks : List K) → map (λ (e : K × Unit {0}). e.0) (marked ks) ≡ ks
  keys_marked [] = refl
  keys_marked (k ∷ ks) = ap (λ l. k ∷ l) (keys_marked ks)

  abbrev mark : Bool → Option (Unit {0})
  mark true = Some tt
  mark false = None

  put_mark : (b c : Bool) → cond b (Some tt) (mark c) ≡ mark (b || c)
  put_mark true c = refl
  put_mark false c = refl

  find_marked : (q : K) (ks : List K) → finite.find R q (marked ks) ≡ mark (list_any (eq_by_cmp R q) ks)
  find_marked q [] = refl
  find_marked q (k ∷ ks) = ap (cond (eq_by_cmp R q k) (Some tt)) (find_marked q ks) ∙ put_mark (eq_by_cmp R q k) _

values_marked : (vs : List Value) → keyed vs ≡ finite.from_entries (marked value_cmp vs)
values_marked [] = refl
values_marked (v ∷ vs) = ap (λ m. finite.insert m v tt) (values_marked vs)

-- the values of a set of the code
pub values_of : (ks : List Value) → IsStrictlySortedBy value_cmp (keys_of (marked value_cmp ks)) → in_order (set.from_list ks) ≡ ks
values_of ks h =
    let items = set.items (set.from_list {R = value_cmp} ks) in
    let same : finite.from_entries {R = value_cmp} (marked value_cmp items) ≡ finite.from_entries (marked value_cmp ks) =
    finite.same_map value_cmp_total value_cmp_exact _ _ (λ q.
    finite.get-from_entries value_cmp_total (marked value_cmp items) q ∙ find_marked value_cmp q items
    ∙ ap (mark value_cmp) (sym (set.contains-items (set.from_list ks) q) ∙ set.contains-from_list value_cmp_total ks q)
    ∙ sym (find_marked value_cmp q ks) ∙ sym (finite.get-from_entries value_cmp_total (marked value_cmp ks) q)) in
    ap finite.keys (values_marked items ∙ same) ∙ ap (map (λ (e : Value × Unit {0}). e.0)) (entries_of value_cmp_total value_cmp_exact (marked value_cmp ks) h)
    ∙ keys_marked value_cmp ks

pub keys_are : (ks : List Value) → keys_of (marked value_cmp ks) ≡ ks
keys_are [] = refl
keys_are (k ∷ ks) = ap (λ l. k ∷ l) (keys_are ks)
