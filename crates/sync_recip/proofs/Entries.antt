-- Entries of which some changed as a change crossed them.
use Rattle.std.proofs.Common.{◌≡◌, not, ℕ, zero, suc, ◌+◌, ◌≤◌, List, [], ◌∷◌, ◌++◌, Option, Some, None, refl, sym, ap, ◌∙◌, subst, length, take, drop, arith}
use Rattle.sync_data.specs.declared.instr.Instr.{Instr}
use Rattle.sync_data.specs.declared.entry.Stamp.{Stamp}
use Rattle.sync_theory.specs.Changesets.{Changeset}
use Rattle.sync_rivals.specs.Lists.{StaysListed}
use Rattle.list_places.specs.Moves.{action_in}
use Rattle.list_places.specs.declared.moves.ListAction.{ListAction}
use Rattle.sync_recip.specs.declared.carried.Crossed.{Crossed}
use Rattle.sync_recip.specs.declared.carried.Crossed.TheVariants.{One, Stretch}
use Rattle.sync_recip.specs.declared.carried.Became.{Became}
use Rattle.sync_recip.specs.declared.carried.Became.TheVariants.{Moved, Changed}
use Rattle.sync_recip.specs.Lists.{lists_in}
use Rattle.list_lane.specs.Actions.{own_left, other_left}
use Rattle.sync_recip.specs.Passing.{change_later, passed}
use Rattle.sync_recip.specs.Stretches.{from_place}
use Rattle.sync_recip.specs.Carrying.{became_of, with_crossed, put_crossed, crossed_entries, left_of, Suits, LeftAt, FitsOne, AllFit}

-- ---- how many there are
length_with : (n : ℕ) (b : Became) (es : List (Changeset Instr)) → length (with_crossed n b es) ≡ length es
length_with n b [] = refl
length_with zero b (e ∷ es) = refl
length_with (suc n) b (e ∷ es) = ap suc (length_with n b es)

length_passed : (s : Stamp) (k : ℕ) (b : Option ListAction) (es : List (Changeset Instr)) → length (passed s k b es) ≡ length es
length_passed s k None es = refl
length_passed s zero (Some b) es = refl
length_passed s (suc k) (Some b) [] = refl
length_passed s (suc k) (Some b) (e ∷ es) = ap suc (length_passed s k (other_left (change_later s e) (action_in e.instrs) b) es)

length_from : {A : Type 0} (i : ℕ) (f : List A → List A) (xs : List A) → ((ys : List A) → length (f ys) ≡ length ys) → length (from_place i f xs) ≡ length xs
length_from zero f xs h = h xs
length_from (suc i) f [] h = refl
length_from (suc i) f (x ∷ xs) h = ap suc (length_from i f xs h)

length_put : (c : Crossed) (es : List (Changeset Instr)) → length (put_crossed c es) ≡ length es
length_put (One n b) es = length_with n b es
length_put (Stretch a) es = length_from a.start (passed a.stamp a.count (Some a.action)) es (length_passed a.stamp a.count (Some a.action))

pub length_crossed : (cs : List Crossed) (es : List (Changeset Instr)) → length (crossed_entries cs es) ≡ length es
length_crossed [] es = refl
length_crossed (c ∷ cs) es = length_crossed cs (put_crossed c es) ∙ length_put c es

-- ---- one more that changed
pub crossed_push : (cs : List Crossed) (c : Crossed) (es : List (Changeset Instr)) → crossed_entries (cs ++ c ∷ []) es ≡ put_crossed c (crossed_entries cs es)
crossed_push [] c es = refl
crossed_push (d ∷ cs) c es = crossed_push cs c (put_crossed d es)

pub fit_push : (cs : List Crossed) (c : Crossed) (es : List (Changeset Instr)) → AllFit cs es → FitsOne c (crossed_entries cs es) → AllFit (cs ++ c ∷ []) es
fit_push [] c es f h = (h, tt)
fit_push (d ∷ cs) c es f h = (f.0, fit_push cs c (put_crossed d es) f.1 h)

-- ---- at a place
pub take_with : (es : List (Changeset Instr)) (n : ℕ) (b : Became) (e : Changeset Instr) (rest : List (Changeset Instr)) → drop n es ≡ e ∷ rest → take (suc n) (with_crossed n b es) ≡ take n es ++ became_of b e ∷ []
take_with [] zero b e rest h = cc
take_with [] (suc n) b e rest h = cc
take_with (d ∷ es) zero b e rest h = let g : d ≡ e = cc in ap (λ (x : Changeset Instr). became_of b x ∷ []) g
take_with (d ∷ es) (suc n) b e rest h = ap (λ l. d ∷ l) (take_with es n b e rest h)

pub drop_with : (es : List (Changeset Instr)) (n : ℕ) (b : Became) → drop (suc n) (with_crossed n b es) ≡ drop (suc n) es
drop_with [] n b = refl
drop_with (d ∷ es) zero b = refl
drop_with (d ∷ es) (suc n) b = drop_with es n b

pub take_next : {A : Type 0} (xs : List A) (n : ℕ) (x : A) (rest : List A) → drop n xs ≡ x ∷ rest → take (suc n) xs ≡ take n xs ++ x ∷ []
take_next [] zero x rest h = cc
take_next [] (suc n) x rest h = cc
take_next (y ∷ xs) zero x rest h = let g : y ≡ x = cc in ap (λ z. z ∷ []) g
take_next (y ∷ xs) (suc n) x rest h = ap (λ l. y ∷ l) (take_next xs n x rest h)

pub drop_next : {A : Type 0} (xs : List A) (n : ℕ) (x : A) (rest : List A) → drop n xs ≡ x ∷ rest → drop (suc n) xs ≡ rest
drop_next [] zero x rest h = cc
drop_next [] (suc n) x rest h = cc
drop_next (y ∷ xs) zero x rest h = cc
drop_next (y ∷ xs) (suc n) x rest h = drop_next xs n x rest h

-- ---- a stretch
passed_take : (s : Stamp) (k : ℕ) (b : Option ListAction) (es : List (Changeset Instr)) → take k (passed s k b es) ≡ passed s k b (take k es)
passed_take s k None es = refl
passed_take s zero (Some b) es = refl
passed_take s (suc k) (Some b) [] = refl
passed_take s (suc k) (Some b) (e ∷ es) =
    ap (λ l. record e { instrs = own_left (not (change_later s e)) (action_in e.instrs) b e.instrs } ∷ l) (passed_take s k (other_left (change_later s e) (action_in e.instrs) b) es)

passed_drop : (s : Stamp) (k : ℕ) (b : Option ListAction) (es : List (Changeset Instr)) → drop k (passed s k b es) ≡ drop k es
passed_drop s k None es = refl
passed_drop s zero (Some b) es = refl
passed_drop s (suc k) (Some b) [] = refl
passed_drop s (suc k) (Some b) (e ∷ es) = passed_drop s k (other_left (change_later s e) (action_in e.instrs) b) es

pub take_passed : (s : Stamp) (b : ListAction) (n k : ℕ) (es : List (Changeset Instr)) → n ≤ length es → take (n + k) (from_place n (passed s k (Some b)) es) ≡ take n es ++ passed s k (Some b) (take k (drop n es))
take_passed s b zero k es h = let m : 0 + k ≡ k = omega arith in ap (λ j. take j (passed s k (Some b) es)) m ∙ passed_take s k (Some b) es
take_passed s b (suc n) k [] h = absurd (omega (arith, h))
take_passed s b (suc n) k (e ∷ es) h =
    let m : suc n + k ≡ suc (n + k) = omega arith in
    ap (λ j. take j (e ∷ from_place n (passed s k (Some b)) es)) m ∙ ap (λ l. e ∷ l) (take_passed s b n k es (omega (arith, h)))

pub drop_passed : (s : Stamp) (b : ListAction) (n k : ℕ) (es : List (Changeset Instr)) → n ≤ length es → drop (n + k) (from_place n (passed s k (Some b)) es) ≡ drop (n + k) es
drop_passed s b zero k es h = let m : 0 + k ≡ k = omega arith in ap (λ j. drop j (passed s k (Some b) es)) m ∙ passed_drop s k (Some b) es ∙ ap (λ j. drop j es) (sym m)
drop_passed s b (suc n) k [] h = absurd (omega (arith, h))
drop_passed s b (suc n) k (e ∷ es) h =
    let m : suc n + k ≡ suc (n + k) = omega arith in
    ap (λ j. drop j (e ∷ from_place n (passed s k (Some b)) es)) m ∙ drop_passed s b n k es (omega (arith, h)) ∙ ap (λ j. drop j (e ∷ es)) (sym m)

-- ---- what is left of one
pub left_is : (b : Became) (e : Changeset Instr) → (became_of b e).instrs ≡ left_of b e.instrs
left_is (Moved a) e = refl
left_is (Changed x) e = refl

pub left_there : (es : List (Changeset Instr)) (n : ℕ) (b : Became) (e : Changeset Instr) (rest : List (Changeset Instr)) → drop n es ≡ e ∷ rest → Suits b e.instrs → StaysListed e.instrs (left_of b e.instrs) → LeftAt n b (lists_in es)
left_there [] zero b e rest h s l = cc
left_there [] (suc n) b e rest h s l = cc
left_there (f ∷ es) zero b e rest h s l = let g : f ≡ e = cc in subst (λ (x : Changeset Instr). Suits b x.instrs × StaysListed x.instrs (left_of b x.instrs)) (sym g) (s, l)
left_there (f ∷ es) (suc n) b e rest h s l = left_there es n b e rest h s l
