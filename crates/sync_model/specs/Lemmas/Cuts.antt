-- Each changeset into which a list of light instructions is cut is within the limits; together they lead where the list leads.
use Rattle.std.proofs.Common.{◌≡◌, ℕ, suc, ◌≤◌, Bool, true, false, ◌&&◌, ◌||◌, List, [], ◌∷◌, ◌++◌, Option, Some, None, Result, Ok, Err, refl, sym, ap, ◌∙◌, subst, arith, if◌then◌else◌, nat_le, sum_by}
use Rattle.std.proofs.lemmas.Bool.{le-leb}
use Rattle.std.proofs.lemmas.List.Sums.{sum_by-cons}
use Rattle.sync_theory.specs.Lists.{and_then, ok_state, run}
use Rattle.sync_model.specs.Profile.{Profile, act, apply_all, apply_then, one_more, is_small, needs}
use Rattle.sync_model.specs.Snapshots.{grown_on, run_parts}
use Rattle.sync_model.specs.Each.{Each, no_more, and_each}
use Rattle.sync_model.specs.Cuts.{closed, cut_after, cut}

module _ {I S : Type 0} (p : Profile I S) where
  -- ---- each part is within the limits

  join : (a b : Bool) → a ≡ true → b ≡ true → (a && b) ≡ true
  join true b e f = f
  join false b e f = e

  closed_small : (part : List I) {parts : List (List I)} → is_small p part ≡ true → Each (λ is. is_small p is ≡ true) parts → Each (λ is. is_small p is ≡ true) (closed part parts)
  closed_small [] h f = f
  closed_small (i ∷ is) h f = and_each h f

  -- every instruction fits into a part of its own
  abbrev pub AllLight : List I → Type 0
  AllLight is = Each (λ i. p.weight i ≤ p.most_weight) is

  single : 1 ≤ p.most_instrs → (i : I) → p.weight i ≤ p.most_weight → is_small p (i ∷ []) ≡ true
  single one i h = let s = sum_by-cons p.weight i [] in join (nat_le 1 p.most_instrs) (nat_le (sum_by p.weight (i ∷ [])) p.most_weight) (le-leb 1 p.most_instrs one) (le-leb (sum_by p.weight (i ∷ [])) p.most_weight (let z = nothing in omega (arith, h, s, z)))
    where
      nothing : sum_by p.weight [] ≡ 0
      nothing = refl

  small_after : 1 ≤ p.most_instrs → (part : List I) {is : List I} → is_small p part ≡ true → AllLight is → Each (λ is. is_small p is ≡ true) (cut_after (is_small p) part is)
  small_after one part h no_more = closed_small part h no_more
  small_after one part h (and_each {x = i} {xs = is} w ws) = on (is_small p (part ++ i ∷ [])) refl (λ e. small_after one (part ++ i ∷ []) e ws) (small_after one (i ∷ []) (single one i w) ws)
    where
      on : (b : Bool) → is_small p (part ++ i ∷ []) ≡ b → (is_small p (part ++ i ∷ []) ≡ true → Each (λ is. is_small p is ≡ true) (cut_after (is_small p) (part ++ i ∷ []) is)) → Each (λ is. is_small p is ≡ true) (cut_after (is_small p) (i ∷ []) is) → Each (λ is. is_small p is ≡ true) (if b then cut_after (is_small p) (part ++ i ∷ []) is else closed part (cut_after (is_small p) (i ∷ []) is))
      on true e go rest = go e
      on false e go rest = closed_small part h rest

  pub cut_small : 1 ≤ p.most_instrs → {is : List I} → AllLight is → Each (λ is. is_small p is ≡ true) (cut (is_small p) is)
  cut_small one w = small_after one [] (join (nat_le 0 p.most_instrs) (nat_le 0 p.most_weight) (le-leb 0 p.most_instrs (omega arith)) (le-leb 0 p.most_weight (omega arith))) w

  -- ---- version 1 has a form for each part where it has one for each instruction

  closed_old : (part : List I) {parts : List (List I)} → needs p part ≡ false → Each (λ is. needs p is ≡ false) parts → Each (λ is. needs p is ≡ false) (closed part parts)
  closed_old [] h f = f
  closed_old (i ∷ is) h f = and_each h f

  needs_more : (as_ : List I) (i : I) → needs p as_ ≡ false → p.needs_second i ≡ false → needs p (as_ ++ i ∷ []) ≡ false
  needs_more [] i h e = on (p.needs_second i) e
    where
      on : (b : Bool) → b ≡ false → (b || false) ≡ false
      on true f = cc
      on false f = refl
  needs_more (a ∷ as_) i h e = on (p.needs_second a) h (λ f. needs_more as_ i f e)
    where
      on : (b : Bool) → (b || needs p as_) ≡ false → (needs p as_ ≡ false → needs p (as_ ++ i ∷ []) ≡ false) → (b || needs p (as_ ++ i ∷ [])) ≡ false
      on true f go = cc
      on false f go = go f

  old_after : (part : List I) {is : List I} → needs p part ≡ false → Each (λ i. p.needs_second i ≡ false) is → Each (λ is. needs p is ≡ false) (cut_after (is_small p) part is)
  old_after part h no_more = closed_old part h no_more
  old_after part h (and_each {x = i} {xs = is} w ws) = on (is_small p (part ++ i ∷ [])) (old_after (part ++ i ∷ []) (needs_more part i h w) ws) (old_after (i ∷ []) (needs_more [] i refl w) ws)
    where
      on : (b : Bool) → Each (λ is. needs p is ≡ false) (cut_after (is_small p) (part ++ i ∷ []) is) → Each (λ is. needs p is ≡ false) (cut_after (is_small p) (i ∷ []) is) → Each (λ is. needs p is ≡ false) (if b then cut_after (is_small p) (part ++ i ∷ []) is else closed part (cut_after (is_small p) (i ∷ []) is))
      on true go rest = go
      on false go rest = closed_old part h rest

  pub cut_old : {is : List I} → Each (λ i. p.needs_second i ≡ false) is → Each (λ is. needs p is ≡ false) (cut (is_small p) is)
  cut_old w = old_after [] refl w

  -- ---- the parts lead where the list leads

  -- a list that acts is applied
  applies : (is : List I) (s t : S) → run (act p) is s ≡ Some t → apply_all p is s ≡ Ok t
  applies [] s t e = let same : s ≡ t = cc in ap (λ z. Ok z) same
  applies (i ∷ is) s t e = on (p.apply i s) e (λ u f. applies is u t f)
    where
      on : (r : Result S ℕ) → and_then (ok_state r) (run (act p) is) ≡ Some t → ((u : S) → run (act p) is u ≡ Some t → apply_all p is u ≡ Ok t) → apply_then r (apply_all p is) ≡ Ok t
      on (Ok u) f go = ap one_more (go u f)
      on (Err k) f go = cc

  closed_runs : (k : ℕ) (part : List I) (parts : List (List I)) (s u : S) (go : S) → run (act p) part s ≡ Some u → ((j : ℕ) → run_parts p j parts u ≡ Ok go) → run_parts p k (closed part parts) s ≡ Ok go
  closed_runs k [] parts s u go e f = let same : s ≡ u = cc in subst (λ z. run_parts p k parts z ≡ Ok go) (sym same) (f k)
  closed_runs k (i ∷ is) parts s u go e f = ap (λ r. grown_on k r (run_parts p (suc k) parts)) (applies (i ∷ is) s u e) ∙ f (suc k)

  -- this part acts up to here, and the rest on
  runs_after : (part is : List I) (k : ℕ) (s u t : S) → run (act p) part s ≡ Some u → run (act p) is u ≡ Some t → run_parts p k (cut_after (is_small p) part is) s ≡ Ok t
  runs_after part [] k s u t e f = let same : u ≡ t = cc in closed_runs k part [] s u t e (λ j. ap (λ z. Ok z) same)
  runs_after part (i ∷ is) k s u t e f = on (act p i u) refl f (is_small p (part ++ i ∷ [])) (λ v g h. runs_after (part ++ i ∷ []) is k s v t g h) (λ v j g h. runs_after (i ∷ []) is j u v t g h)
    where
      both : (as_ bs : List I) (a b : S) {z : S} → run (act p) as_ a ≡ Some b → run (act p) bs b ≡ Some z → run (act p) (as_ ++ bs) a ≡ Some z
      both as_ bs a b e f = Rattle.sync_theory.proofs.Agree.run_both (act p) as_ bs a b e f

      alone : (v : S) → act p i u ≡ Some v → run (act p) (i ∷ []) u ≡ Some v
      alone v g = ap (λ o. and_then o (run (act p) [])) g

      on : (o : Option S) → act p i u ≡ o → and_then o (run (act p) is) ≡ Some t → (b : Bool) → ((v : S) → run (act p) (part ++ i ∷ []) s ≡ Some v → run (act p) is v ≡ Some t → run_parts p k (cut_after (is_small p) (part ++ i ∷ []) is) s ≡ Ok t) → ((v : S) (j : ℕ) → run (act p) (i ∷ []) u ≡ Some v → run (act p) is v ≡ Some t → run_parts p j (cut_after (is_small p) (i ∷ []) is) u ≡ Ok t) → run_parts p k (if b then cut_after (is_small p) (part ++ i ∷ []) is else closed part (cut_after (is_small p) (i ∷ []) is)) s ≡ Ok t
      on None o_is f b go rest = cc
      on (Some v) o_is f true go rest = go v (both part (i ∷ []) s u e (alone v o_is)) f
      on (Some v) o_is f false go rest = closed_runs k part (cut_after (is_small p) (i ∷ []) is) s u t e (λ j. rest v j (alone v o_is) f)

  pub cut_runs : (is : List I) (s t : S) → run (act p) is s ≡ Some t → run_parts p 0 (cut (is_small p) is) s ≡ Ok t
  cut_runs is s t e = runs_after [] is 0 s s t refl e
