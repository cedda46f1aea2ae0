-- What can be saved of a list of instructions: what is kept acts, and each break is listed once.
use Rattle.std.proofs.Common.{◌≡◌, ℕ, zero, suc, ◌+◌, ◌<◌, Bool, true, false, ◌||◌, ◌&&◌, List, [], ◌∷◌, ◌++◌, Option, Some, None, Result, Ok, Err, refl, sym, ap, ap₂, ◌∙◌, arith, append_assoc, append-nil, ◌==◌, take}
use Rattle.std.specs.Prelude.{option_to_list}
use Rattle.std.specs.Result.{result_err}
use Rattle.sync_theory.proofs.Server.{test_true, test_false}
use Rattle.sync_model.specs.Profile.{Profile, Lawful, apply_all, apply_then, one_more, is_small, needs, admits_by, all_admitted}
use Rattle.sync_model.specs.Bytes.{Tables}
use Rattle.sync_model.specs.Worlds.{at}
use Rattle.sync_model.specs.Resets.{Saved, tried, saved_from, saved}
use Rattle.sync_model.specs.Recovery.{codes_at, ListsDrops}
use Rattle.sync_model.proofs.Own.{if_true, if_false}
use Rattle.sync_model.proofs.Small.{NoLarger, same_size, beside_less, Light, small_light, first_light, rest_light, small_less}

module _ {I S : Type 0} (p : Profile I S) where
  -- the instruction at a place, once tried
  abbrev one : ℕ → S → I → List I → Result S ℕ → Saved I S
  one k s i is r = tried k (p.adapt s i) s r (λ t. saved_from p (suc k) t is)

  -- what is kept acts
  acts_from : (is : List I) (k : ℕ) (s : S) → apply_all p (saved_from p k s is).kept s ≡ Ok (saved_from p k s is).state
  acts_from [] k s = refl
  acts_from (i ∷ is) k s = on (p.apply (p.adapt s i) s) refl (acts_from is (suc k))
    where
      on : (r : Result S ℕ) → p.apply (p.adapt s i) s ≡ r → ((t : S) → apply_all p (saved_from p (suc k) t is).kept t ≡ Ok (saved_from p (suc k) t is).state) → apply_all p (one k s i is r).kept s ≡ Ok (one k s i is r).state
      on (Ok t) e ih = ap (λ q. apply_then q (apply_all p (saved_from p (suc k) t is).kept)) e ∙ ap one_more (ih t)
      on (Err code) e ih = ih s

  -- nothing is listed before the first place
  none_before : (is : List I) (j k : ℕ) (s : S) → j < k → codes_at p j (saved_from p k s is).dropped ≡ []
  none_before [] j k s lt = refl
  none_before (i ∷ is) j k s lt = on (p.apply (p.adapt s i) s) (λ t. none_before is j (suc k) t (omega arith))
    where
      on : (r : Result S ℕ) → ((t : S) → codes_at p j (saved_from p (suc k) t is).dropped ≡ []) → codes_at p j (one k s i is r).dropped ≡ []
      on (Ok t) ih = ih t
      on (Err code) ih = if_false (k == j) (code ∷ codes_at p j (saved_from p (suc k) s is).dropped) _ (test_false k j (λ z. omega arith)) ∙ ih s

  listed_from : (is : List I) (j k : ℕ) (s : S) (x : I) → at is k ≡ Some x → codes_at p (j + k) (saved_from p j s is).dropped ≡ option_to_list (result_err (p.apply (p.adapt (saved_from p j s (take k is)).state x) (saved_from p j s (take k is)).state))
  listed_from [] j k s x e = cc
  listed_from (i ∷ is) j zero s x e =
      let same : i ≡ x = cc in
      let here : j + 0 ≡ j = omega arith in
      ap (λ n. codes_at p n (saved_from p j s (i ∷ is)).dropped) here ∙ on (p.apply (p.adapt s i) s) ∙ ap (λ y. option_to_list (result_err (p.apply (p.adapt s y) s))) same
    where
      on : (r : Result S ℕ) → codes_at p j (one j s i is r).dropped ≡ option_to_list (result_err r)
      on (Ok t) = none_before is j (suc j) t (omega arith)
      on (Err code) = if_true (j == j) (code ∷ codes_at p j (saved_from p (suc j) s is).dropped) _ (test_true j j refl) ∙ ap (λ l. code ∷ l) (none_before is j (suc j) s (omega arith))
  listed_from (i ∷ is) j (suc k) s x e = on (p.apply (p.adapt s i) s) (λ t. listed_from is (suc j) k t x e)
    where
      next : j + suc k ≡ suc j + k
      next = omega arith

      on : (r : Result S ℕ) → ((t : S) → codes_at p (suc j + k) (saved_from p (suc j) t is).dropped ≡ option_to_list (result_err (p.apply (p.adapt (saved_from p (suc j) t (take k is)).state x) (saved_from p (suc j) t (take k is)).state)))
          → codes_at p (j + suc k) (one j s i is r).dropped ≡ option_to_list (result_err (p.apply (p.adapt (one j s i (take k is) r).state x) (one j s i (take k is) r).state))
      on (Ok t) ih = ap (λ n. codes_at p n (saved_from p (suc j) t is).dropped) next ∙ ih t
      on (Err code) ih = if_false (j == (j + suc k)) (code ∷ codes_at p (j + suc k) (saved_from p (suc j) s is).dropped) _ (test_false j (j + suc k) (λ z. omega arith)) ∙ ap (λ n. codes_at p n (saved_from p (suc j) s is).dropped) next ∙ ih s

  none_beyond : (is : List I) (j k : ℕ) (s : S) → at is k ≡ None → codes_at p (j + k) (saved_from p j s is).dropped ≡ []
  none_beyond [] j k s e = refl
  none_beyond (i ∷ is) j zero s e = cc
  none_beyond (i ∷ is) j (suc k) s e = on (p.apply (p.adapt s i) s) (λ t. none_beyond is (suc j) k t e)
    where
      next : j + suc k ≡ suc j + k
      next = omega arith

      on : (r : Result S ℕ) → ((t : S) → codes_at p (suc j + k) (saved_from p (suc j) t is).dropped ≡ []) → codes_at p (j + suc k) (one j s i is r).dropped ≡ []
      on (Ok t) ih = ap (λ n. codes_at p n (saved_from p (suc j) t is).dropped) next ∙ ih t
      on (Err code) ih = if_false (j == (j + suc k)) (code ∷ codes_at p (j + suc k) (saved_from p (suc j) s is).dropped) _ (test_false j (j + suc k) (λ z. omega arith)) ∙ ap (λ n. codes_at p n (saved_from p (suc j) s is).dropped) next ∙ ih s

  module _ {Fits : S → Type 0} (law : Lawful p Fits) where
    no_larger : (is : List I) (k : ℕ) (s : S) → Light p is → NoLarger p (saved_from p k s is).kept is
    no_larger [] k s light = same_size p []
    no_larger (i ∷ is) k s light = on (p.apply (p.adapt s i) s) (λ t. no_larger is (suc k) t (rest_light p i is light))
      where
        alone : NoLarger p (p.adapt s i ∷ []) (i ∷ [])
        alone =
            let f = first_light p i is light in
            let a = (law.adapts s i).lighter (omega arith) in
            record { shorter = omega arith; lighter = omega arith }

        gone : NoLarger p [] (i ∷ [])
        gone = record { shorter = omega arith; lighter = omega arith }

        on : (r : Result S ℕ) → ((t : S) → NoLarger p (saved_from p (suc k) t is).kept is) → NoLarger p (one k s i is r).kept (i ∷ is)
        on (Ok t) ih = beside_less p alone (ih t)
        on (Err code) ih = beside_less p gone (ih s)

    needs_less : (is : List I) (k : ℕ) (s : S) → needs p (saved_from p k s is).kept ≡ true → needs p is ≡ true
    needs_less [] k s e = e
    needs_less (i ∷ is) k s e = on (p.apply (p.adapt s i) s) (λ t. needs_less is (suc k) t) e
      where
        either : (a b c : Bool) → a ≡ b → (c ≡ true → needs p is ≡ true) → (a || c) ≡ true → (b || needs p is) ≡ true
        either true true c e f g = refl
        either true false c e f g = cc
        either false true c e f g = refl
        either false false c e f g = f g

        or_true : (a : Bool) → needs p is ≡ true → (a || needs p is) ≡ true
        or_true true f = refl
        or_true false f = f

        on : (r : Result S ℕ) → ((t : S) → needs p (saved_from p (suc k) t is).kept ≡ true → needs p is ≡ true) → needs p (one k s i is r).kept ≡ true → needs p (i ∷ is) ≡ true
        on (Ok t) ih f = either (p.needs_second (p.adapt s i)) (p.needs_second i) (needs p (saved_from p (suc k) t is).kept) (law.adapts s i).form (ih t) f
        on (Err code) ih f = or_true (p.needs_second i) (ih s f)

    -- an instruction as adapted is for the same clients
    adapted_by : (o : Option Tables) (s : S) (i : I) → admits_by p o (p.adapt s i) ≡ admits_by p o i
    adapted_by None s i = refl
    adapted_by (Some t) s i = (law.adapts s i).tables t

    admitted_less : (o : Option Tables) (is : List I) (k : ℕ) (s : S) → all_admitted p o is ≡ true → all_admitted p o (saved_from p k s is).kept ≡ true
    admitted_less o [] k s e = e
    admitted_less o (i ∷ is) k s e = on (p.apply (p.adapt s i) s) (λ t. admitted_less o is (suc k) t (rest (admits_by p o i) e)) (adapted_by o s i ∙ here (admits_by p o i) e)
      where
        here : (a : Bool) → (a && all_admitted p o is) ≡ true → a ≡ true
        here true f = refl
        here false f = f

        rest : (a : Bool) → (a && all_admitted p o is) ≡ true → all_admitted p o is ≡ true
        rest true f = f
        rest false f = cc

        on : (r : Result S ℕ) → ((t : S) → all_admitted p o (saved_from p (suc k) t is).kept ≡ true) → admits_by p o (p.adapt s i) ≡ true → all_admitted p o (one k s i is r).kept ≡ true
        on (Ok t) ih f = ap (λ b. b && all_admitted p o (saved_from p (suc k) t is).kept) f ∙ ih t
        on (Err code) ih f = ih s

    pub kept_small : (s : S) (is : List I) → is_small p is ≡ true → is_small p (saved p s is).kept ≡ true
    kept_small s is small = small_less p (saved p s is).kept is (no_larger is 0 s (small_light p is small)) small

    pub lists_drops : (s : S) (is : List I) → ListsDrops p s is
    lists_drops s is = record {
      acts = acts_from is 0 s;
      listed = λ k i e. let z : 0 + k ≡ k = omega arith in ap (λ n. codes_at p n (saved p s is).dropped) (sym z) ∙ listed_from is 0 k s i e;
      no_others = λ k e. let z : 0 + k ≡ k = omega arith in ap (λ n. codes_at p n (saved p s is).dropped) (sym z) ∙ none_beyond is 0 k s e;
      small = kept_small s is;
      form = needs_less is 0 s;
      tables = λ o. admitted_less o is 0 s;
    }

  -- ---- the turns of a loop that tries a list

  -- it is tried so far: these are kept, these dropped, the state is this, and the rest begins at place k
  pub record SavedSoFar (old now : S) (k : ℕ) (kept : List I) (dropped : List (ℕ × ℕ)) (all rest : List I) : Type 0 where
    pub same : saved p old all ≡ record { kept = kept ++ (saved_from p k now rest).kept; dropped = dropped ++ (saved_from p k now rest).dropped; state = (saved_from p k now rest).state }

  pub saving_at_first : (s : S) (is : List I) → SavedSoFar s s 0 [] [] is is
  saving_at_first s is = record { same = refl }

  pub saving_keeps : (old now : S) (k : ℕ) (kept : List I) (dropped : List (ℕ × ℕ)) (all : List I) (i : I) (rest : List I) (t : S) → SavedSoFar old now k kept dropped all (i ∷ rest) → p.apply (p.adapt now i) now ≡ Ok t → SavedSoFar old t (suc k) (kept ++ p.adapt now i ∷ []) dropped all rest
  saving_keeps old now k kept dropped all i rest t so_far e = record {
    same = so_far.same ∙ ap (λ r. record { kept = kept ++ (one k now i rest r).kept; dropped = dropped ++ (one k now i rest r).dropped; state = (one k now i rest r).state }) e
        ∙ ap (λ l. record { kept = l; dropped = dropped ++ (saved_from p (suc k) t rest).dropped; state = (saved_from p (suc k) t rest).state }) (sym (append_assoc kept (p.adapt now i ∷ []) (saved_from p (suc k) t rest).kept));
  }

  pub saving_drops : (old now : S) (k : ℕ) (kept : List I) (dropped : List (ℕ × ℕ)) (all : List I) (i : I) (rest : List I) (code : ℕ) → SavedSoFar old now k kept dropped all (i ∷ rest) → p.apply (p.adapt now i) now ≡ Err code → SavedSoFar old now (suc k) kept (dropped ++ (k, code) ∷ []) all rest
  saving_drops old now k kept dropped all i rest code so_far e = record {
    same = so_far.same ∙ ap (λ r. record { kept = kept ++ (one k now i rest r).kept; dropped = dropped ++ (one k now i rest r).dropped; state = (one k now i rest r).state }) e
        ∙ ap (λ l. record { kept = kept ++ (saved_from p (suc k) now rest).kept; dropped = l; state = (saved_from p (suc k) now rest).state }) (sym (append_assoc dropped ((k, code) ∷ []) (saved_from p (suc k) now rest).dropped));
  }

  pub saving_ends : (old now : S) (k : ℕ) (kept : List I) (dropped : List (ℕ × ℕ)) (all : List I) → SavedSoFar old now k kept dropped all [] → saved p old all ≡ record { kept = kept; dropped = dropped; state = now }
  saving_ends old now k kept dropped all so_far = so_far.same ∙ ap₂ (λ l m. record { kept = l; dropped = m; state = now }) (append-nil kept) (append-nil dropped)
