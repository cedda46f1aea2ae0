-- Where a page begins, by what a store answers.
use Rattle.std.proofs.Common.{◌≡◌, ℕ, true, false, cond, List, [], ◌∷◌, Option, None, Some, is_some, refl, sym, ap, ◌∙◌}
use Rattle.std.specs.FinMap as map
use Rattle.std.specs.FinMap.{find}
use Rattle.std.specs.declared.cmp.Ordering.{Ordering}
use Rattle.std.specs.declared.cmp.Ordering.TheVariants.{Less, Equal, Greater}
use Rattle.std.specs.Ordering.{is_lt, is_eq, eq_by_cmp, ordering_reverse}
use Rattle.std.specs.Cmp.{IsTotalOrder, tied_itself}
use Rattle.sync_data.specs.Orders.{key_cmp, key_cmp_total}
use Rattle.sync_data.specs.declared.key.Key.{Key}
use Rattle.sync_base.specs.States.{State, has}
use Rattle.sync_maps.specs.Next.{IsNext, is_above}
use Rattle.sync_dump.specs.Dump.{objects_in}
use Rattle.store_walks.specs.Standing.{object_at}
use Rattle.sync_dump.proofs.Walk.{from, from_key, IsAt}
use Rattle.sync_host.specs.Pages.{behind}

is_less : (r : Ordering) → is_lt r ≡ true → r ≡ Less
is_less Less e = refl
is_less Equal e = cc
is_less Greater e = cc

module _ {K : Type 0} (R : K → K → Ordering) where
  below_key : IsTotalOrder R → (k j e : K) (r : Ordering) → R k e ≡ r → is_lt (R k e) ≡ false → is_lt (R k j) ≡ true → is_lt (R e j) ≡ true
  below_key o k j e Less is a b = let l : true ≡ false = sym (ap is_lt is) ∙ a in cc
  below_key o k j e Equal is a b = ap is_lt (sym (o.congr k e j is)) ∙ b
  below_key o k j e Greater is a b = let below : R e k ≡ Less = o.antisymm e k ∙ ap ordering_reverse is in ap is_lt (o.trans e k j below (is_less (R k j) b))

  below : IsTotalOrder R → (after : Option K) (j e : K) → is_above R after e ≡ false → is_above R after j ≡ true → is_lt (R e j) ≡ true
  below o None j e a b = cc
  below o (Some k) j e a b = below_key o k j e (R k e) refl a b

module _ {K X : Type 0} (R : K → K → Ordering) where
  -- no entry is between them
  abbrev IsBound : Option K → Option K → List (K × X) → Type 0
  IsBound after None es = (q : K) → is_some (find R q es) ≡ true → is_above R after q ≡ false
  IsBound after (Some j) es = (is_above R after j ≡ true) × ((q : K) → is_some (find R q es) ≡ true → is_above R after q ≡ true → is_lt (R q j) ≡ false)

  there_too : (q : K) (e : K × X) (es : List (K × X)) → is_some (find R q es) ≡ true → is_some (find R q (e ∷ es)) ≡ true
  there_too q e es h = elim (eq_by_cmp R q e.0) as (λ b. is_some (cond b (Some e.1) (find R q es)) ≡ true) [ true ↦ refl | false ↦ h ]

  bound_less : (after next : Option K) (e : K × X) (es : List (K × X)) → IsBound after next (e ∷ es) → IsBound after next es
  bound_less after None e es h = λ q f. h q (there_too q e es f)
  bound_less after (Some j) e es h = (h.0, λ q f up. h.1 q (there_too q e es f) up)

  module _ (o : IsTotalOrder R) where
    found_first : (e : K × X) (es : List (K × X)) → is_some (find R e.0 (e ∷ es)) ≡ true
    found_first e es = ap (λ r. is_some (cond (is_eq r) (Some e.1) (find R e.0 es))) (tied_itself o e.0)

    -- the first entry is above: all of them are left
    all_left : (after next : Option K) (e : K × X) (es : List (K × X)) → IsBound after next (e ∷ es) → is_above R after e.0 ≡ true → from R next (e ∷ es) ≡ e ∷ es
    all_left after None e es h above = let l : true ≡ false = sym above ∙ h e.0 (found_first e es) in cc
    all_left after (Some j) e es h above = ap (λ b. cond b (from_key R j es) (e ∷ es)) (h.1 e.0 (found_first e es) above)

    -- it isn't: it is passed over
    passed_over : (after next : Option K) (e : K × X) (es : List (K × X)) → IsBound after next (e ∷ es) → is_above R after e.0 ≡ false → from R next (e ∷ es) ≡ from R next es
    passed_over after None e es h not = refl
    passed_over after (Some j) e es h not = ap (λ b. cond b (from_key R j es) (e ∷ es)) (below R o after j e.0 not h.0)

    begins : (after next : Option K) (es : List (K × X)) → IsBound after next es → from R next es ≡ behind R after es
    begins after None [] h = refl
    begins after (Some j) [] h = refl
    begins after next (e ∷ es) h =
        elim (is_above R after e.0) as (λ b. is_above R after e.0 ≡ b → from R next (e ∷ es) ≡ cond b (e ∷ es) (behind R after es)) [
          | true ↦ λ above. all_left after next e es h above
          | false ↦ λ not. passed_over after next e es h not ∙ begins after next es (bound_less after next e es h)
        ] refl

bound_of : (s : State) (t : List ℕ) (after next : Option Key) → IsNext key_cmp (λ k. has s (t, k)) after next → IsBound key_cmp after next (objects_in t (map.entries s.objects))
bound_of s t after None h = λ q f. h q (object_at s t q ∙ f)
bound_of s t after (Some j) h = (h.1, λ q f up. h.2 q (object_at s t q ∙ f) up)

is_there : (s : State) (t : List ℕ) (after next : Option Key) → IsNext key_cmp (λ k. has s (t, k)) after next → IsAt key_cmp next (objects_in t (map.entries s.objects))
is_there s t after None h = tt
is_there s t after (Some k) h = sym (object_at s t k) ∙ h.0

pub page_first : (s : State) (t : List ℕ) (after next : Option Key) → IsNext key_cmp (λ k. has s (t, k)) after next
    → (from key_cmp next (objects_in t (map.entries s.objects)) ≡ behind key_cmp after (objects_in t (map.entries s.objects))) × IsAt key_cmp next (objects_in t (map.entries s.objects))
page_first s t after next h = (begins key_cmp key_cmp_total after next (objects_in t (map.entries s.objects)) (bound_of s t after next h), is_there s t after next h)
