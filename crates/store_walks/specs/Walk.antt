-- A walk along entries whose keys rise, from each key to the next.
use Rattle.std.proofs.Common.{◌≡◌, Bool, true, false, cond, ◌&&◌, List, [], ◌∷◌, ◌++◌, length, ◌<◌, Option, None, Some, is_some, refl, sym, ap, ◌∙◌, append_assoc, arith}
use Rattle.std.specs.Prelude.{flat_map}
use Rattle.std.specs.Option.{option_map_or}
use Rattle.std.specs.declared.cmp.Ordering.{Ordering}
use Rattle.std.specs.declared.cmp.Ordering.TheVariants.{Less, Equal, Greater}
use Rattle.std.specs.Ordering.{is_lt, is_eq, eq_by_cmp, ordering_reverse}
use Rattle.std.specs.Cmp.{IsTotalOrder, tied_itself}
use Rattle.std.specs.FinMap.{IsAntisymmetric, find, is_sorted}
use Rattle.std.specs.FinMap.Entries.{below_all}
use Rattle.sync_maps.specs.Next.{IsNext}

pub first_of : (a b : Bool) → (a && b) ≡ true → a ≡ true
first_of true b e = refl
first_of false b e = e

pub second_of : (a b : Bool) → (a && b) ≡ true → b ≡ true
second_of true b e = e
second_of false b e = cc

pub is_less : (r : Ordering) → is_lt r ≡ true → r ≡ Less
is_less Less e = refl
is_less Equal e = cc
is_less Greater e = cc

module _ {K X : Type 0} (R : K → K → Ordering) where
  abbrev pub from_key : K → List (K × X) → List (K × X)
  from_key k [] = []
  from_key k (e ∷ es) = cond (is_lt (R e.0 k)) (from_key k es) (e ∷ es)

  -- the entries from a key on; from none on, none
  abbrev pub from : Option K → List (K × X) → List (K × X)
  from None es = []
  from (Some k) es = from_key k es

  -- there is an entry at that key
  abbrev pub IsAt : Option K → List (K × X) → Type 0
  IsAt None es = Unit {0}
  IsAt (Some k) es = is_some (find R k es) ≡ true

  -- no entry is between the key and the next
  abbrev IsAfter : K → Option K → List (K × X) → Type 0
  IsAfter k None es = (q : K) → is_some (find R q es) ≡ true → is_lt (R k q) ≡ false
  IsAfter k (Some j) es = (is_lt (R k j) ≡ true) × ((q : K) → is_some (find R q es) ≡ true → is_lt (R k q) ≡ true → is_lt (R q j) ≡ false)

  -- a step of the walk
  pub record Step (k : K) (next : Option K) (es : List (K × X)) : Type 0 where
    pub value : X
    pub there : find R k es ≡ Some value
    pub rest : from_key k es ≡ (k, value) ∷ from next es
    pub at : IsAt next es

  -- a step takes an entry off
  pub smaller : (k : K) (next : Option K) (es : List (K × X)) → Step k next es → length (from next es) < length (from_key k es)
  smaller k next es s = omega (arith, ap length s.rest)

  -- what was made so far and what comes of the rest is all, also after a step
  pub lines_on : {A : Type 0} (g : K × X → List A) (out new all : List A) (k : K) (next : Option K) (es : List (K × X)) → Step k next es
      → out ++ flat_map g (from_key k es) ≡ all → new ≡ out ++ option_map_or (λ v. g (k, v)) (find R k es) [] → new ++ flat_map g (from next es) ≡ all
  lines_on g out new all k next es s before is =
      ap (λ w. w ++ flat_map g (from next es)) (is ∙ ap (λ x. out ++ option_map_or (λ v. g (k, v)) x []) s.there)
      ∙ append_assoc out (g (k, s.value)) (flat_map g (from next es)) ∙ ap (λ l. out ++ flat_map g l) (sym s.rest) ∙ before

  -- the same where what is made is made of the key alone
  pub keys_on : {A : Type 0} (g : K → List A) (out new all : List A) (k : K) (next : Option K) (es : List (K × X)) → Step k next es
      → out ++ flat_map (λ e. g e.0) (from_key k es) ≡ all → new ≡ out ++ g k → new ++ flat_map (λ e. g e.0) (from next es) ≡ all
  keys_on g out new all k next es s before is =
      ap (λ w. w ++ flat_map (λ e. g e.0) (from next es)) is
      ∙ append_assoc out (g k) (flat_map (λ e. g e.0) (from next es)) ∙ ap (λ l. out ++ flat_map (λ e. g e.0) l) (sym s.rest) ∙ before

  there_too : (q : K) (e : K × X) (es : List (K × X)) → is_some (find R q es) ≡ true → is_some (find R q (e ∷ es)) ≡ true
  there_too q e es h = elim (eq_by_cmp R q e.0) as (λ b. is_some (cond b (Some e.1) (find R q es)) ≡ true) [ true ↦ refl | false ↦ h ]

  after_less : (k : K) (next : Option K) (e : K × X) (es : List (K × X)) → IsAfter k next (e ∷ es) → IsAfter k next es
  after_less k None e es h = λ q f. h q (there_too q e es f)
  after_less k (Some j) e es h = (h.0, λ q f up. h.1 q (there_too q e es f) up)

  not_found : (k : K) (es : List (K × X)) → below_all R k es ≡ true → find R k es ≡ None
  not_found k [] h = refl
  not_found k (e ∷ es) h = ap (λ r. cond (is_eq r) (Some e.1) (find R k es)) (is_less (R k e.0) (first_of _ _ h)) ∙ not_found k es (second_of (is_lt (R k e.0)) _ h)

  skipped : (k : K) (e : K × X) (es : List (K × X)) → is_lt (R e.0 k) ≡ true → from_key k (e ∷ es) ≡ from_key k es
  skipped k e es h = ap (λ b. cond b (from_key k es) (e ∷ es)) h

  kept : (k : K) (e : K × X) (es : List (K × X)) → is_lt (R e.0 k) ≡ false → from_key k (e ∷ es) ≡ e ∷ es
  kept k e es h = ap (λ b. cond b (from_key k es) (e ∷ es)) h

  some_value : (x : Option X) → is_some x ≡ true → (v : X) × (x ≡ Some v)
  some_value None h = cc
  some_value (Some v) h = (v, refl)

  module _ (o : IsTotalOrder R) where
    found_first : (e : K × X) (es : List (K × X)) → is_some (find R e.0 (e ∷ es)) ≡ true
    found_first e es = ap (λ r. is_some (cond (is_eq r) (Some e.1) (find R e.0 es))) (tied_itself o e.0)

    less_than_all : (k j : K) (es : List (K × X)) → R k j ≡ Less → below_all R j es ≡ true → below_all R k es ≡ true
    less_than_all k j [] p h = refl
    less_than_all k j (e ∷ es) p h =
        ap (λ r. is_lt r && below_all R k es) (o.trans k j e.0 p (is_less (R j e.0) (first_of _ _ h)))
        ∙ less_than_all k j es p (second_of (is_lt (R j e.0)) _ h)

    -- the walk begins with the first entry
    first_is : (es : List (K × X)) (next : Option K) → IsNext R (λ q. is_some (find R q es)) None next → from next es ≡ es
    first_is [] None h = refl
    first_is [] (Some k) h = refl
    first_is (e ∷ es) None h = cc (h e.0 (found_first e es))
    first_is (e ∷ es) (Some k) h = kept k e es (h.2 e.0 (found_first e es) refl)

    -- where the key is the first, the rest is what comes after it
    rest_is : (k : K) (e : K × X) (es : List (K × X)) (next : Option K) → R k e.0 ≡ Equal → below_all R e.0 es ≡ true → IsAfter k next (e ∷ es) → es ≡ from next (e ∷ es)
    rest_is k e [] None t b h = refl
    rest_is k e (f ∷ fs) None t b h = cc (ap is_lt (o.congr k e.0 f.0 t ∙ is_less (R e.0 f.0) (first_of _ _ b)), h f.0 (there_too f.0 e (f ∷ fs) (found_first f fs)))
    rest_is k e [] (Some j) t b h = sym (skipped j e [] (ap is_lt (sym (o.congr k e.0 j t)) ∙ h.0))
    rest_is k e (f ∷ fs) (Some j) t b h =
        let up : is_lt (R k f.0) ≡ true = ap is_lt (o.congr k e.0 f.0 t ∙ is_less (R e.0 f.0) (first_of _ _ b)) in
        sym (skipped j e (f ∷ fs) (ap is_lt (sym (o.congr k e.0 j t)) ∙ h.0) ∙ kept j f fs (h.1 f.0 (there_too f.0 e (f ∷ fs) (found_first f fs)) up))

    -- what is below the key is below the next
    passed : (k : K) (e : K × X) (es : List (K × X)) (next : Option K) → R e.0 k ≡ Less → IsAfter k next (e ∷ es) → from next (e ∷ es) ≡ from next es
    passed k e es None p h = refl
    passed k e es (Some j) p h = skipped j e es (ap is_lt (o.trans e.0 k j p (is_less (R k j) h.0)))

    below_both : (k : K) (e : K × X) (es : List (K × X)) → R k e.0 ≡ Less → below_all R e.0 es ≡ true → below_all R k (e ∷ es) ≡ true
    below_both k e es p b = ap (λ r. is_lt r && below_all R k es) p ∙ less_than_all k e.0 es p b

    step_to : IsAntisymmetric R → (es : List (K × X)) → is_sorted R es ≡ true → (k : K) (v : X) → find R k es ≡ Some v → (next : Option K) → IsAfter k next es → from_key k es ≡ (k, v) ∷ from next es
    step_to exact [] s k v f next h = cc
    step_to exact (e ∷ es) s k v f next h =
        elim (R k e.0) as (λ r. R k e.0 ≡ r → cond (is_eq r) (Some e.1) (find R k es) ≡ Some v → from_key k (e ∷ es) ≡ (k, v) ∷ from next (e ∷ es)) [
          | Less ↦ λ p g. cc (f, not_found k (e ∷ es) (below_both k e es p (first_of _ _ s)))
          | Equal ↦ λ p g.
              let value : e.1 ≡ v = cc in
              let rest = rest_is k e es next p (first_of _ _ s) h in
              kept k e es (ap is_lt (o.antisymm e.0 k ∙ ap ordering_reverse p)) ∙ (λ i. (sym (exact k e.0 p) i, value i) ∷ rest i)
          | Greater ↦ λ p g.
              let below : R e.0 k ≡ Less = o.antisymm e.0 k ∙ ap ordering_reverse p in
              skipped k e es (ap is_lt below) ∙ step_to exact es (second_of (below_all R e.0 es) _ s) k v g next (after_less k next e es h)
              ∙ ap (λ l. (k, v) ∷ l) (sym (passed k e es next below h))
        ] refl f

    module _ (has : K → Bool) (es : List (K × X)) (same : (q : K) → has q ≡ is_some (find R q es)) where
      at_next : (after next : Option K) → IsNext R has after next → IsAt next es
      at_next after None h = tt
      at_next after (Some k) h = sym (same k) ∙ h.0

      none_after : (k : K) (next : Option K) → IsNext R has (Some k) next → IsAfter k next es
      none_after k None h = λ q f. h q (same q ∙ f)
      none_after k (Some j) h = (h.1, λ q f up. h.2 q (same q ∙ f) up)

      first_here : (next : Option K) → IsNext R has None next → IsNext R (λ q. is_some (find R q es)) None next
      first_here None h = λ q f. h q (same q ∙ f)
      first_here (Some k) h = (sym (same k) ∙ h.0, refl, λ q f up. h.2 q (same q ∙ f) up)

      pub walk_first : (next : Option K) → IsNext R has None next → (from next es ≡ es) × IsAt next es
      walk_first next h = (first_is es next (first_here next h), at_next None next h)

      pub walk_next : IsAntisymmetric R → is_sorted R es ≡ true → (k : K) → IsAt (Some k) es → (next : Option K) → IsNext R has (Some k) next → Step k next es
      walk_next exact s k at next h =
          let found = some_value (find R k es) at in
          record { value = found.0; there = found.1; rest = step_to exact es s k found.0 found.1 next (none_after k next h); at = at_next (Some k) next h }
