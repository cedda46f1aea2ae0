-- An instruction goes on through slots, from one place to the next.
use Rattle.std.proofs.Common.{◌≡◌, ℕ, zero, suc, ◌+◌, ◌-◌, ◌≤◌, Bool, List, [], ◌∷◌, ◌++◌, append_assoc, append-nil, take, drop, length, Option, Some, None, Result, Ok, Err, refl, sym, ap, ◌∙◌, subst, arith}
use Rattle.std.proofs.Math.Seq.{take-add}
use Rattle.std.proofs.lemmas.List.{drop-drop, take_all, drop_all}
use Rattle.sync_data.specs.declared.instr.Instr.{Instr}
use Rattle.sync_theory.specs.Lists.{kept}
use Rattle.sync_theory.specs.Changesets.{Changeset, is_later}
use Rattle.sync_law.specs.Instrs.{meet}
use Rattle.sync_rivals.specs.Lists.{StandsAt, Pass}
use Rattle.slot_law.specs.Slots.{Slot, through, slots_of, on_right, ok_pair, turned, meets_in}
use Rattle.slot_law.specs.Laws.{AllStay}
use Rattle.slot_law.proofs.Through.{Through, end, next, none_left, parts, through_of, through_is, some_is}
use Rattle.slot_law.proofs.Skipping.{skips}
use Rattle.long_sets.specs.Rows.{both_meet, lists_in, MeetsAt}

-- ---- two that meet
pair_turned : {A M : Type 0} (r : Result (A × A) M) (z u : A) → ok_pair r ≡ Some (z, u) → turned r ≡ Some (u, z)
pair_turned (Ok p) z u h = let e = some_is h in λ i. Some ((e i).1, (e i).0)
pair_turned (Err m) z u h = cc

pub met_in : (t e : Changeset Instr) (later : Bool) (y x z u : Option Instr) → is_later e t ≡ later → both_meet later y x ≡ Some (z, u) → meets_in (on_right meet e) t x y ≡ Some (u, z)
met_in t e later None x z u l h = let p = some_is h in λ i. Some ((p i).1, (p i).0)
met_in t e later (Some b) None z u l h = let p = some_is h in λ i. Some ((p i).1, (p i).0)
met_in t e later (Some b) (Some a) z u l h = pair_turned (meet b a (is_later e t)) z u (ap (λ m. ok_pair (meet b a m)) l ∙ h)

module _ (t e : Changeset Instr) where
  abbrev Passing : List (Option Instr) → Option Instr → List (Slot (Changeset Instr) Instr) → Option Instr → Type 0
  Passing xs y us z = Through (on_right meet e) (slots_of t xs) y us z

  -- ---- so far it went through some slots, and the rest is ahead
  abbrev pub Ahead : List (Option Instr) → Option Instr → List (Option Instr) → List (Option Instr) → Option Instr → Type 0
  Ahead xs y passed rest now = (us : List (Slot (Changeset Instr) Instr)) (z : Option Instr) → Passing rest now us z → Passing xs y (slots_of t passed ++ us) z

  slots_join : (xs ys : List (Option Instr)) → slots_of t (xs ++ ys) ≡ slots_of t xs ++ slots_of t ys
  slots_join [] ys = refl
  slots_join (x ∷ xs) ys = ap (λ l. (t, x) ∷ l) (slots_join xs ys)

  joined : (xs ys : List (Option Instr)) (us : List (Slot (Changeset Instr) Instr)) → slots_of t xs ++ (slots_of t ys ++ us) ≡ slots_of t (xs ++ ys) ++ us
  joined xs ys us = sym (append_assoc (slots_of t xs) (slots_of t ys) us) ∙ ap (λ l. l ++ us) (sym (slots_join xs ys))

  pub begin : (xs : List (Option Instr)) (y : Option Instr) → Ahead xs y [] xs y
  begin xs y us z h = h

  -- it passes some more
  pub passes_on : (xs : List (Option Instr)) (y : Option Instr) (passed mid rest : List (Option Instr)) (now : Option Instr) → Ahead xs y passed (mid ++ rest) now → Passing mid now (slots_of t mid) now → Ahead xs y (passed ++ mid) rest now
  passes_on xs y passed mid rest now h p us z r =
      subst (λ l. Passing xs y l z) (joined passed mid us)
      (h (slots_of t mid ++ us) z (subst (λ l. Through (on_right meet e) l now (slots_of t mid ++ us) z) (sym (slots_join mid rest)) (parts (on_right meet e) p r)))

  -- it meets the next
  pub meets_on : (xs : List (Option Instr)) (y : Option Instr) (passed rest : List (Option Instr)) (x u now z : Option Instr) → Ahead xs y passed (x ∷ rest) now → meets_in (on_right meet e) t x now ≡ Some (u, z) → Ahead xs y (passed ++ u ∷ []) rest z
  meets_on xs y passed rest x u now z h m us w r =
      subst (λ l. Passing xs y l w) (joined passed (u ∷ []) us) (h ((t, u) ∷ us) w (next m r))

  -- all is behind it
  pub done : (xs : List (Option Instr)) (y : Option Instr) (passed : List (Option Instr)) (now : Option Instr) → Ahead xs y passed [] now → Passing xs y (slots_of t passed) now
  done xs y passed now h = subst (λ l. Passing xs y l now) (append-nil (slots_of t passed)) (h [] now end)

  -- ---- what an index passes over
  from_here : (from to : ℕ) (l : List Instr) (lists : List (List Instr)) (is : List Instr) → Pass (suc from) (suc to) (l ∷ lists) is → Pass from to lists is
  from_here from to l lists is p = λ place others low high at later. p (suc place) others (omega arith) (omega arith) at later

  one_here : (to : ℕ) (x : Option Instr) (xs : List (Option Instr)) (is : List Instr) → Pass 0 (suc to) (kept x ∷ lists_in xs) is → Pass 0 to (lists_in xs) is
  one_here to x xs is p = λ place others low high at later. p (suc place) others (omega arith) (omega arith) at later

  all_stay : (k : ℕ) (xs : List (Option Instr)) (b : Instr) → Pass 0 k (lists_in xs) (b ∷ []) → AllStay meet (slots_of t (take k xs)) b
  all_stay zero xs b p = tt
  all_stay (suc k) [] b p = tt
  all_stay (suc k) (None ∷ xs) b p = (tt, all_stay k xs b (one_here k None xs (b ∷ []) p))
  all_stay (suc k) (Some a ∷ xs) b p = (λ later. p 0 (a ∷ []) (omega arith) (omega arith) refl later, all_stay k xs b (one_here k (Some a) xs (b ∷ []) p))

  passes_first : (k : ℕ) (xs : List (Option Instr)) (y : Option Instr) → Pass 0 k (lists_in xs) (kept y) → Passing (take k xs) y (slots_of t (take k xs)) y
  passes_first k xs None p = none_left (on_right meet e) (slots_of t (take k xs))
  passes_first k xs (Some b) p = through_of (on_right meet e) (slots_of t (take k xs)) (Some b) (slots_of t (take k xs)) (Some b) (skips meet e (slots_of t (take k xs)) b (all_stay k xs b p)).1

  later_on : (from k : ℕ) (xs : List (Option Instr)) (is : List Instr) → Pass from (from + k) (lists_in xs) is → Pass 0 k (lists_in (drop from xs)) is
  later_on zero k xs is p = λ place others low high at later. p place others low (omega (arith, high)) at later
  later_on (suc from) k [] is p = λ place others low high at later. absurd (none place others at)
    where
      none : (place : ℕ) (others : List Instr) → StandsAt place others [] → ⊥
      none place others h = h
  later_on (suc from) k (x ∷ xs) is p = later_on from k xs is (λ place others low high at later. p (suc place) others (omega arith) (omega (arith, high)) at later)

  pub skips_on : (xs : List (Option Instr)) (y : Option Instr) (now_all : List (Option Instr)) (from k : ℕ) (now : Option Instr) → Pass from (from + k) (lists_in now_all) (kept now)
      → Ahead xs y (take from now_all) (drop from now_all) now → Ahead xs y (take (from + k) now_all) (drop (from + k) now_all) now
  skips_on xs y all from k now p h =
      let mid = take k (drop from all) in
      let rest = drop (from + k) all in
      let split : drop from all ≡ mid ++ rest = sym (halves k (drop from all)) ∙ ap (λ l. mid ++ l) (drop-drop k from all) in
      subst (λ l. Ahead xs y l rest now) (sym (take-add from k all))
      (passes_on xs y (take from all) mid rest now (subst (λ l. Ahead xs y (take from all) l now) split h) (passes_first k (drop from all) now (later_on from k all (kept now) p)))
    where
      halves : {A : Type 0} (n : ℕ) (l : List A) → take n l ++ drop n l ≡ l
      halves zero l = refl
      halves (suc n) [] = refl
      halves (suc n) (x ∷ l) = ap (λ r. x ∷ r) (halves n l)

  pub skips_to : (xs : List (Option Instr)) (y : Option Instr) (all : List (Option Instr)) (from to : ℕ) (now : Option Instr) → from ≤ to → Pass from to (lists_in all) (kept now)
      → Ahead xs y (take from all) (drop from all) now → Ahead xs y (take to all) (drop to all) now
  skips_to xs y all from to now o p h =
      let is : to ≡ from + (to - from) = omega (arith, o) in
      subst (λ n. Ahead xs y (take n all) (drop n all) now) (sym is) (skips_on xs y all from (to - from) now (subst (λ n. Pass from n (lists_in all) (kept now)) is p) h)

  -- it met the slot at a place
  pub met_on : (later : Bool) (xs : List (Option Instr)) (y : Option Instr) (place : ℕ) (all us : List (Option Instr)) (now z : Option Instr) → is_later e t ≡ later → MeetsAt later place now all z us
      → Ahead xs y (take place all) (drop place all) now → Ahead xs y (take (place + 1) us) (drop (place + 1) us) z
  met_on later xs y place all us now z l m h =
      let on = meets_on xs y (take place all) (drop (place + 1) all) m.slot m.became now z (subst (λ r. Ahead xs y (take place all) r now) m.is h) (met_in t e later now m.slot z m.became l m.met) in
      subst (λ r. Ahead xs y (take (place + 1) us) r z) (sym m.rest) (subst (λ p. Ahead xs y p (drop (place + 1) all) z) (sym m.front) on)

  pub at_end : (xs : List (Option Instr)) (y : Option Instr) (all : List (Option Instr)) (n : ℕ) (now : Option Instr) → length all ≤ n → Ahead xs y (take n all) (drop n all) now
      → through (on_right meet e) (slots_of t xs) y ≡ Some (slots_of t all, now)
  at_end xs y all n now o h =
      through_is (on_right meet e) (done xs y all now
      (subst (λ r. Ahead xs y all r now) (drop_all n all o) (subst (λ p. Ahead xs y p (drop n all) now) (take_all n all o) h)))
