-- Loops over slots, from one turn to the next.
use Rattle.std.proofs.Common.{◌≡◌, ℕ, zero, suc, ◌+◌, ◌<◌, Bool, true, false, cond, List, [], ◌∷◌, ◌++◌, length, take, drop, get_or, Option, Some, None, Result, Ok, Err, refl, sym, ap, ◌∙◌, subst, append_assoc, arith}
use Rattle.std.proofs.lemmas.List.{drop_more}
use Rattle.std.specs.Prelude.{OnOk, OnErr}
use Rattle.sync_theory.specs.Grid.{tail}
use Rattle.sync_data.specs.declared.entry.Stamp.{Stamp}
use Rattle.sync_base.specs.Rules.{top}
use Rattle.list_lane.specs.Ops.{moved}
use Rattle.list_lane.specs.Lanes.{Crossed, behind, crossed}
use Rattle.list_lane.specs.Flat.{done, Placed}
use Rattle.list_lane.specs.Bursts.{lifted, lift_all}
use Rattle.list_lane.specs.declared.op.Op.{Op}
use Rattle.list_lane.proofs.Chain.{crossed_none}

module _ (l : Stamp → Stamp → Bool) where
  -- one slot further
  pub met : (xs zs : List (Option Op)) (i : ℕ) (d s : Option Op) (b : Op) (t x : Option Op) → i < length xs → s ≡ get_or xs i d
      → crossed l (s ∷ drop (i + 1) xs) (Some b) ≡ behind t (crossed l (drop (i + 1) xs) x)
      → take (i + 1) zs ≡ take i xs ++ t ∷ [] → drop (i + 1) zs ≡ drop (i + 1) xs
      → done (take i xs) (crossed l (drop i xs) (Some b)) ≡ done (take (i + 1) zs) (crossed l (drop (i + 1) zs) x)
  met xs zs i d s b t x lt at e front rest =
      ap (λ ys. done (take i xs) (crossed l ys (Some b))) (drop_more xs i d lt ∙ ap (λ y. y ∷ drop (i + 1) xs) (sym at))
      ∙ ap (done (take i xs)) e
      ∙ ap (λ ys. record { slots = ys; left = (crossed l (drop (i + 1) xs) x).left }) (sym (append_assoc (take i xs) (t ∷ []) (crossed l (drop (i + 1) xs) x).slots))
      ∙ (λ k. done (sym front k) (crossed l (sym rest k) x))

  -- nothing is left, or it goes on
  pub over : (whole : Crossed) (cs bs : List (Option Op)) (stays : Bool) (x : Op) → stays ≡ false → whole ≡ done cs (crossed l bs (cond stays (Some x) None)) → whole ≡ record { slots = cs ++ bs; left = None }
  over whole cs bs true x h e = cc
  over whole cs bs false x h e = e ∙ ap (done cs) (crossed_none l bs)

  pub on : (whole : Crossed) (cs bs : List (Option Op)) (stays : Bool) (x : Op) → stays ≡ true → whole ≡ done cs (crossed l bs (cond stays (Some x) None)) → whole ≡ done cs (crossed l bs (Some x))
  on whole cs bs true x h e = e
  on whole cs bs false x h e = cc

  -- nothing is left at a slot that was lifted
  pub left_gone : (whole : Option Op) (xs : List (Option Op)) (i up down : ℕ) (d : Option Op) (a b now : Op) (x : Option ℕ) → i < length xs → whole ≡ (crossed l (lift_all up down (drop i xs)) (Some now)).left → Some a ≡ get_or xs i d → b ≡ lifted up down a
      → ((ss : List (Option Op)) → (crossed l (Some b ∷ ss) (Some now)).left ≡ (crossed l ss (moved now x)).left) → x ≡ None → None ≡ whole
  left_gone whole xs i up down d a b now x lt e at is meets gone =
      let rest = lift_all up down (drop (i + 1) xs) in
      sym
      (e
      ∙ ap (λ ys. (crossed l (lift_all up down ys) (Some now)).left) (drop_more xs i d lt ∙ ap (λ y. y ∷ drop (i + 1) xs) (sym at))
      ∙ ap (λ y. (crossed l (Some y ∷ rest) (Some now)).left) (sym is)
      ∙ meets rest
      ∙ ap (λ y. (crossed l rest (moved now y)).left) gone
      ∙ ap (λ (r : Crossed). r.left) (crossed_none l rest))

pub placed_rest : (s : Option Op) (ss : List (Option Op)) → Placed (s ∷ ss) → Placed ss
placed_rest None ss h = h
placed_rest (Some a) ss h = h.1

pub placed_more : (xs ys : List (Option Op)) (r : ℕ) (d : Option Op) → r < length xs → drop (r + 1) ys ≡ drop (r + 1) xs → Placed (drop r xs) → Placed (drop (r + 1) ys)
placed_more xs ys r d within e h = subst Placed (sym e) (placed_rest (get_or xs r d) (drop (r + 1) xs) (subst Placed (drop_more xs r d within) h))

pub placed_here : (xs : List (Option Op)) (r : ℕ) (d : Option Op) (a : Op) → r < length xs → Some a ≡ get_or xs r d → Placed (drop r xs) → a.place < top
placed_here xs r d a within e h =
    let k : Placed (Some a ∷ drop (r + 1) xs) = subst (λ s. Placed (s ∷ drop (r + 1) xs)) (sym e) (subst Placed (drop_more xs r d within) h) in
    k.0

-- the parts of a list
pub whole_again : {A : Type 0} (xs : List A) (n : ℕ) → take n xs ++ drop n xs ≡ xs
whole_again [] zero = refl
whole_again [] (suc n) = refl
whole_again (x ∷ xs) zero = refl
whole_again (x ∷ xs) (suc n) = ap (λ l. x ∷ l) (whole_again xs n)

pub rest_more : {A : Type 0} (xs ys : List A) (n : ℕ) → drop n xs ≡ drop n ys → drop (n + 1) xs ≡ drop (n + 1) ys
rest_more xs ys n e =
    let k : n + 1 ≡ suc n = omega arith in
    ap (λ m. drop m xs) k ∙ sym (one xs n) ∙ ap (drop 1) e ∙ one ys n ∙ ap (λ m. drop m ys) (sym k)
  where
    one : {A : Type 0} (xs : List A) (n : ℕ) → drop 1 (drop n xs) ≡ drop (suc n) xs
    one [] zero = refl
    one [] (suc n) = refl
    one (x ∷ xs) zero = refl
    one (x ∷ xs) (suc n) = one xs n

pub tail_of : {A : Type 0} (xs : List A) → take 0 xs ++ drop (0 + 1) xs ≡ tail xs
tail_of [] = refl
tail_of (x ∷ xs) = refl

-- what a call ensures, and what follows
pub ok_then : {A E : Type 0} {P Q : Type 0} (r : Result A E) → (P → Q) → OnOk r P → OnOk r Q
ok_then (Ok a) f h = f h
ok_then (Err e) f h = tt

pub err_then : {A E : Type 0} {P Q : Type 0} (r : Result A E) → (P → Q) → OnErr r P → OnErr r Q
err_then (Ok a) f h = tt
err_then (Err e) f h = f h
