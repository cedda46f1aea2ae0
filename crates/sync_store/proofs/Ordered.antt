-- A list of entries whose keys rise: what a search finds in it, and what an edit at a place does to its map.
use Rattle.std.specs.Prelude.{◌≡◌, ℕ, zero, suc, ◌<◌, ◌≤◌, Bool, true, false, cond, not, ◌&&◌, T, List, [], ◌∷◌, length, slice_set, slice_index_or, None, Some, Result, Ok, Err, IfOk, IfErr, OnOk, is_ok, if◌then◌else◌, refl}
use Rattle.std.specs.declared.cmp.Ordering.{Ordering}
use Rattle.std.specs.declared.cmp.Ordering.TheVariants.{Less, Equal, Greater}
use Rattle.std.specs.Ordering.{is_lt, is_eq, eq_by_cmp, ordering_index, ordering_reverse}
use Rattle.std.specs.Cmp.{IsTotalOrder, eq_by_cmp_equiv}
use Rattle.std.specs.List.{HoldsAt, insert, remove}
use Rattle.std.specs.List.Sorted.{IsNonDecreasingBy, IsSearchInRange, IsBinarySearchResult, IsPartitionPoint}
use Rattle.std.specs.FinMap as map
use Rattle.std.specs.FinMap.{FinMap, IsAntisymmetric, find, put, is_sorted}
use Rattle.std.specs.FinMap.Entries.{by_order, where_key, below_all, is_sorted-put, is_sorted-where_key, find-where_key}
use Rattle.std.proofs.Common.{sym, ◌∙◌, ap, subst, arith}
use Rattle.sync_maps.specs.Seen.{at_key, at_found, get-put, insert_again, insert_same}

both_first : (a b : Bool) → T (a && b) → T a
both_first true b h = tt
both_first false b h = h

both_second : (a b : Bool) → T (a && b) → T b
both_second true b h = h
both_second false b h = absurd h

is_Less : (r : Ordering) → T (is_lt r) → r ≡ Less
is_Less Less h = refl
is_Less Equal h = absurd h
is_Less Greater h = absurd h

turned : {A : Type 0} (b : Bool) (x y : A) → cond (not b) x y ≡ cond b y x
turned true x y = refl
turned false x y = refl

module _ {K : Type 0} {R : K → K → Ordering} (o : IsTotalOrder R) where
  reversed : (x y : K) (r : Ordering) → R x y ≡ r → R y x ≡ ordering_reverse r
  reversed x y r e = o.antisymm y x ∙ ap ordering_reverse e

  -- the comparisons with a key rise, as a binary search asks
  compares_higher : (x y k : K) → R x y ≡ Less → ordering_index (R x k) ≤ ordering_index (R y k)
  compares_higher x y k lower =
      let above : R k y ≡ Less → 2 ≤ ordering_index (R y k) = λ e. subst (λ r. 2 ≤ ordering_index r) (sym (reversed k y Less e)) (omega arith) in
      elim (R x k) as (λ r. R x k ≡ r → ordering_index r ≤ ordering_index (R y k)) [
        | Less ↦ λ _. omega arith
        | Equal ↦ λ e. let h = above (sym (o.congr x k y e) ∙ lower) in omega (arith, h)
        | Greater ↦ λ e. above (o.trans k x y (reversed x k Greater e) lower)
      ] refl

module _ {K X : Type 0} {R : K → K → Ordering} (o : IsTotalOrder R) where
  below_at : (x : K) (es : List (K × X)) → T (below_all R x es) → (i : ℕ) (d : K × X) → i < length es → R x (slice_index_or es i d).0 ≡ Less
  below_at x [] h i d lt = absurd (omega (arith, lt))
  below_at x (e ∷ es) h zero d lt = is_Less _ (both_first _ _ h)
  below_at x (e ∷ es) h (suc i) d lt = below_at x es (both_second _ _ h) i d (omega (arith, lt))

  rising : (k : K) (es : List (K × X)) → T (is_sorted R es) → IsNonDecreasingBy (λ e. ordering_index (R e.0 k)) es
  rising k [] h i j d le lt = absurd (omega (arith, lt))
  rising k (e ∷ es) h zero zero d le lt = omega arith
  rising k (e ∷ es) h zero (suc j) d le lt = compares_higher o e.0 (slice_index_or es j d).0 k (below_at e.0 es (both_first _ _ h) j d (omega (arith, lt)))
  rising k (e ∷ es) h (suc i) zero d le lt = absurd (omega (arith, le))
  rising k (e ∷ es) h (suc i) (suc j) d le lt = rising k es (both_second _ _ h) i j d (omega (arith, le)) (omega (arith, lt))

  -- a key that is put goes into its gap
  pub put_in_gap : (k : K) (v : X) (es : List (K × X)) (i : ℕ) → i ≤ length es → IsPartitionPoint (λ e. R e.0 k ≡ Less) (λ e. R e.0 k ≡ Greater) es i → insert es i (k, v) ≡ put R k v es
  put_in_gap k v [] zero le parted = refl
  put_in_gap k v [] (suc i) le parted = absurd (omega (arith, le))
  put_in_gap k v (e ∷ es) zero le parted =
      ap (λ r. by_order r ((k, v) ∷ e ∷ es) ((e.0, v) ∷ es) (e ∷ put R k v es)) (sym (reversed o e.0 k Greater (parted.1 0 e (omega arith) (omega arith))))
  put_in_gap k v (e ∷ es) (suc i) le parted =
      ap (λ l. e ∷ l) (put_in_gap k v es i (omega (arith, le)) ((λ j d low high. parted.0 (suc j) d (omega arith) (omega (arith, high))), (λ j d low high. parted.1 (suc j) d (omega (arith, low)) (omega (arith, high)))))
      ∙ ap (λ r. by_order r ((k, v) ∷ e ∷ es) ((e.0, v) ∷ es) (e ∷ put R k v es)) (sym (reversed o e.0 k Less (parted.0 0 e (omega arith) (omega arith))))

  -- and is found nowhere
  pub none_in_gap : (k : K) (es : List (K × X)) (i : ℕ) → i ≤ length es → IsPartitionPoint (λ e. R e.0 k ≡ Less) (λ e. R e.0 k ≡ Greater) es i → find R k es ≡ None
  none_in_gap k [] i le parted = refl
  none_in_gap k (e ∷ es) zero le parted =
      ap (λ r. cond (is_eq r) (Some e.1) (find R k es)) (reversed o e.0 k Greater (parted.1 0 e (omega arith) (omega arith)))
      ∙ none_in_gap k es zero (omega arith) ((λ j d low high. absurd (omega (arith, high))), (λ j d low high. parted.1 (suc j) d (omega arith) (omega (arith, high))))
  none_in_gap k (e ∷ es) (suc i) le parted =
      ap (λ r. cond (is_eq r) (Some e.1) (find R k es)) (reversed o e.0 k Less (parted.0 0 e (omega arith) (omega arith)))
      ∙ none_in_gap k es i (omega (arith, le)) ((λ j d low high. parted.0 (suc j) d (omega arith) (omega (arith, high))), (λ j d low high. parted.1 (suc j) d (omega (arith, low)) (omega (arith, high))))

  -- an entry before one that ties with the key is lower than it
  earlier : (k : K) (e f : K × X) → R e.0 f.0 ≡ Less → R f.0 k ≡ Equal → R k e.0 ≡ Greater
  earlier k e f lower tied = sym (o.congr f.0 k e.0 tied) ∙ reversed o e.0 f.0 Less lower

  pub found_at : (k : K) (es : List (K × X)) → T (is_sorted R es) → (i : ℕ) → i < length es → HoldsAt (λ e. R e.0 k ≡ Equal) es i → (d : K × X) → find R k es ≡ Some (slice_index_or es i d).1
  found_at k [] h i lt tied d = absurd (omega (arith, lt))
  found_at k (e ∷ es) h zero lt tied d = ap (λ r. cond (is_eq r) (Some e.1) (find R k es)) (reversed o e.0 k Equal (tied d))
  found_at k (e ∷ es) h (suc i) lt tied d =
      ap (λ r. cond (is_eq r) (Some e.1) (find R k es)) (earlier k e (slice_index_or es i d) (below_at e.0 es (both_first _ _ h) i d (omega (arith, lt))) (tied d))
      ∙ found_at k es (both_second _ _ h) i (omega (arith, lt)) tied d

  pub put_at : (k : K) (v : X) (es : List (K × X)) → T (is_sorted R es) → (i : ℕ) → i < length es → HoldsAt (λ e. R e.0 k ≡ Equal) es i → (d : K × X) → slice_set es i ((slice_index_or es i d).0, v) ≡ put R k v es
  put_at k v [] h i lt tied d = absurd (omega (arith, lt))
  put_at k v (e ∷ es) h zero lt tied d = ap (λ r. by_order r ((k, v) ∷ e ∷ es) ((e.0, v) ∷ es) (e ∷ put R k v es)) (sym (reversed o e.0 k Equal (tied d)))
  put_at k v (e ∷ es) h (suc i) lt tied d =
      ap (λ l. e ∷ l) (put_at k v es (both_second _ _ h) i (omega (arith, lt)) tied d)
      ∙ ap (λ r. by_order r ((k, v) ∷ e ∷ es) ((e.0, v) ∷ es) (e ∷ put R k v es)) (sym (earlier k e (slice_index_or es i d) (below_at e.0 es (both_first _ _ h) i d (omega (arith, lt))) (tied d)))

  -- the entries above the key stay
  others_stay : (k x : K) → R x k ≡ Equal → (es : List (K × X)) → T (below_all R x es) → es ≡ where_key R (λ y. not (eq_by_cmp R k y)) es
  others_stay k x tied [] h = refl
  others_stay k x tied (e ∷ es) h =
      let rest = where_key R (λ y. not (eq_by_cmp R k y)) es in
      ap (λ l. e ∷ l) (others_stay k x tied es (both_second _ _ h))
      ∙ ap (λ r. cond (not (is_eq r)) (e ∷ rest) rest) (sym (sym (o.congr x k e.0 tied) ∙ is_Less _ (both_first _ _ h)))

  removed_at : (k : K) (es : List (K × X)) → T (is_sorted R es) → (i : ℕ) → i < length es → HoldsAt (λ e. R e.0 k ≡ Equal) es i → K × X → remove es i ≡ where_key R (λ y. not (eq_by_cmp R k y)) es
  removed_at k [] h i lt tied d = absurd (omega (arith, lt))
  removed_at k (e ∷ es) h zero lt tied d =
      let rest = where_key R (λ y. not (eq_by_cmp R k y)) es in
      others_stay k e.0 (tied d) es (both_first _ _ h)
      ∙ ap (λ r. cond (not (is_eq r)) (e ∷ rest) rest) (sym (reversed o e.0 k Equal (tied d)))
  removed_at k (e ∷ es) h (suc i) lt tied d =
      let rest = where_key R (λ y. not (eq_by_cmp R k y)) es in
      ap (λ l. e ∷ l) (removed_at k es (both_second _ _ h) i (omega (arith, lt)) tied d)
      ∙ ap (λ r. cond (not (is_eq r)) (e ∷ rest) rest) (sym (earlier k e (slice_index_or es i d) (below_at e.0 es (both_first _ _ h) i d (omega (arith, lt))) (tied d)))

module _ {K X : Type 0} (R : K → K → Ordering) (k : K) (es : List (K × X)) (i : ℕ) where
  abbrev pub IsHere : Type 0
  IsHere = (i < length es) × HoldsAt (λ e. R e.0 k ≡ Equal) es i

  abbrev pub IsGap : Type 0
  IsGap = (i ≤ length es) × IsPartitionPoint (λ e. R e.0 k ≡ Less) (λ e. R e.0 k ≡ Greater) es i

module _ {K X : Type 0} {R : K → K → Ordering} (o : IsTotalOrder R) where
  searched : (k : K) (es : List (K × X)) → T (is_sorted R es) → (r : Result ℕ ℕ) → IsSearchInRange r (length es) → IsBinarySearchResult (λ e. R e.0 k) es r → IfOk r (IsHere R k es) × IfErr r (IsGap R k es)
  searched k es h (Ok i) range at = ((range, at), tt)
  searched k es h (Err i) range parted = (tt, (range, parted (rising o k es h)))

  pub seen_empty : IsAntisymmetric R → (es : List (K × X)) → es ≡ [] → map.from_sorted {R = R} es ≡ map.empty
  seen_empty exact es e = ap map.from_sorted e ∙ map.same_map o exact _ _ (λ q. map.get-from_sorted R [] q tt ∙ sym (map.get-empty R q))

-- entries in order, and the map that they are seen as
module _ {K X : Type 0} {R : K → K → Ordering} (o : IsTotalOrder R) (exact : IsAntisymmetric R) (es : List (K × X)) (h : T (is_sorted R es)) where
  module _ {m : FinMap R X} (seen : map.from_sorted es ≡ m) (k : K) where
    pub entries_are : es ≡ map.entries m
    entries_are = sym (map.entries-from_sorted R es h) ∙ ap map.entries seen

    -- what a search of the entries answers holds of the map's
    pub search_seen : (ss : List (K × X)) → ss ≡ es → (r : Result ℕ ℕ) → IsSearchInRange r (length ss) → IsBinarySearchResult (λ e. R e.0 k) ss r → IfOk r (IsHere R k (map.entries m)) × IfErr r (IsGap R k (map.entries m))
    search_seen ss e r range found =
        subst (λ l. IfOk r (IsHere R k l) × IfErr r (IsGap R k l)) entries_are
        (searched o k es h r (subst (λ l. IsSearchInRange r (length l)) e range) (subst (λ l. IsBinarySearchResult (λ e. R e.0 k) l r) e found))

    module _ (i : ℕ) where
      pub here : IsHere R k (map.entries m) i → IsHere R k es i
      here p = subst (λ l. IsHere R k l i) (sym entries_are) p

      pub gap : IsGap R k (map.entries m) i → IsGap R k es i
      gap p = subst (λ l. IsGap R k l i) (sym entries_are) p

      pub got_none : IsGap R k (map.entries m) i → map.get m k ≡ None
      got_none p = let g = gap p in map.get-entries m k ∙ ap (find R k) (sym entries_are) ∙ none_in_gap o k es i g.0 g.1

      put_sorted : (ns : List (K × X)) (v : X) → ns ≡ put R k v es → T (is_sorted R ns)
      put_sorted ns v e = subst (λ l. T (is_sorted R l)) (sym e) (is_sorted-put R o k v es h)

      put_seen : (ns : List (K × X)) (v : X) → ns ≡ put R k v es → map.from_sorted ns ≡ map.insert m k v
      put_seen ns v e = map.same_entries_map _ _ (map.entries-from_sorted R ns (put_sorted ns v e) ∙ e ∙ ap (put R k v) entries_are ∙ sym (map.entries-insert o m k v))

      -- a new entry in its gap
      gap_sorted : IsGap R k (map.entries m) i → (v : X) → T (is_sorted R (insert es i (k, v)))
      gap_sorted p v = let g = gap p in put_sorted _ v (put_in_gap o k v es i g.0 g.1)

      gap_seen : IsGap R k (map.entries m) i → (v : X) → map.from_sorted (insert es i (k, v)) ≡ map.insert m k v
      gap_seen p v = let g = gap p in put_seen _ v (put_in_gap o k v es i g.0 g.1)

      -- the same by what the insertion answered
      pub inserted_sorted : {A E : Type 0} → IsGap R k (map.entries m) i → (v : X) (r : Result A E) {ns : List (K × X)} → ns ≡ (if is_ok r then insert es i (k, v) else es) → T (is_sorted R ns)
      inserted_sorted p v (Ok a) e = subst (λ l. T (is_sorted R l)) (sym e) (gap_sorted p v)
      inserted_sorted p v (Err b) e = subst (λ l. T (is_sorted R l)) (sym e) h

      pub inserted_seen : {A E : Type 0} → IsGap R k (map.entries m) i → (v : X) (r : Result A E) {ns : List (K × X)} → ns ≡ (if is_ok r then insert es i (k, v) else es) → OnOk r (map.from_sorted {R = R} ns ≡ map.insert m k v)
      inserted_seen p v (Ok a) e = ap map.from_sorted e ∙ gap_seen p v
      inserted_seen p v (Err b) e = tt

      -- the entry d that stands at the key's place
      module _ (p : IsHere R k (map.entries m) i) (d : K × X) (is : d ≡ slice_index_or es i d) where
        pub got_here : map.get m k ≡ Some d.1
        got_here = let f = here p in map.get-entries m k ∙ ap (find R k) (sym entries_are) ∙ found_at o k es h i f.0 f.1 d ∙ ap (λ e. Some e.1) (sym is)

        written : (v : X) → slice_set es i (d.0, v) ≡ put R k v es
        written v = let f = here p in ap (λ (e : K × X). slice_set es i (e.0, v)) is ∙ put_at o k v es h i f.0 f.1 d

        pub here_sorted : (v : X) → T (is_sorted R (slice_set es i (d.0, v)))
        here_sorted v = put_sorted _ v (written v)

        pub here_seen : (v : X) → map.from_sorted (slice_set es i (d.0, v)) ≡ map.insert m k v
        here_seen v = put_seen _ v (written v)

        pub here_done : (f : X → X) (v : X) → v ≡ f d.1 → map.from_sorted (slice_set es i (d.0, v)) ≡ at_key k f m
        here_done f v e = here_seen v ∙ ap (map.insert m k) e ∙ sym (at_found k f m got_here)

        pub here_back : (g : X → X) (v : X) → g v ≡ d.1 → at_key k g (map.from_sorted (slice_set es i (d.0, v))) ≡ m
        here_back g v e =
            ap (at_key k g) (here_seen v) ∙ at_found k g (map.insert m k v) (get-put o exact m k v) ∙ insert_again o exact m k v (g v)
            ∙ ap (map.insert m k) e ∙ insert_same o exact m k d.1 got_here

      -- the entry at the key's place, taken out
      module _ (p : IsHere R k (map.entries m) i) (d : K × X) where
        left : remove es i ≡ where_key R (λ y. not (eq_by_cmp R k y)) es
        left = let f = here p in removed_at o k es h i f.0 f.1 d

        pub left_sorted : T (is_sorted R (remove es i))
        left_sorted = subst (λ l. T (is_sorted R l)) (sym left) (is_sorted-where_key R (λ y. not (eq_by_cmp R k y)) es h)

        pub left_seen : map.from_sorted (remove es i) ≡ map.remove m k
        left_seen = map.same_map o exact _ _ (λ q.
            map.get-from_sorted R (remove es i) q left_sorted ∙ ap (find R q) left
            ∙ find-where_key R (λ y. not (eq_by_cmp R k y)) q (λ x t. ap not ((eq_by_cmp_equiv o).symm k x ∙ ap is_eq (sym (o.congr q x k t)) ∙ (eq_by_cmp_equiv o).symm q k)) es
            ∙ turned (eq_by_cmp R k q) (find R q es) None ∙ ap (λ b. cond b None (find R q es)) ((eq_by_cmp_equiv o).symm k q)
            ∙ ap (λ l. cond (eq_by_cmp R q k) None (find R q l)) entries_are ∙ ap (cond (eq_by_cmp R q k) None) (sym (map.get-entries m q)) ∙ sym (map.get-remove o m k q))
