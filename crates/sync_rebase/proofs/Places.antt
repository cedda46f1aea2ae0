-- One unsent changeset of a list gets other instructions.
use Rattle.std.specs.Prelude.{OnOk, OnErr}
use Rattle.std.proofs.lemmas.List.{map-append, length-map}
use Rattle.std.specs.List.{AllByRecursion}
use Rattle.std.proofs.Common.{◌≡◌, true, Option, Some, None, Result, Ok, Err, ℕ, zero, suc, ◌<◌, List, [], ◌∷◌, ◌++◌, refl, sym, ap, ◌∙◌, length, take, drop, set, get_or, map, subst, arith}
use Rattle.sync_data.specs.declared.instr.Instr.{Instr}
use Rattle.sync_rivals.specs.Lists.{Indexed, Lists, StaysAt, StaysListed, put_list}
use Rattle.sync_rivals.specs.Homes.{listed}
use Rattle.sync_rivals.specs.Strangers.{place_of}
use Rattle.sync_rivals.specs.Marks.{is_at}
use Rattle.sync_rivals.proofs.Listed.{pushed}
use Rattle.list_places.specs.Moves.{shown}
use Rattle.list_places.specs.declared.moves.ListAction.{ListAction}
use Rattle.list_places.proofs.Stands.{same_elsewhere}
use Rattle.sync_model.specs.Clients.{Original, Unsent, changeset_of, carried_to, number_at}
use Rattle.sync_data.specs.declared.entry.Stamp.{Stamp}
use Rattle.sync_rebase.specs.declared.carried.Crossed.{Crossed}
use Rattle.sync_rebase.specs.declared.carried.Crossed.TheVariants.{One, Stretch}
use Rattle.sync_rebase.specs.Stretches.{from_place}
use Rattle.sync_rebase.specs.declared.carried.Became.{Became}
use Rattle.sync_rebase.specs.Settling.{left_of, put_current, put_became, put_crossed, passed, settled, Suits, FitsAt, FitsCrossed, Fits, currents}

-- those of whom they are stay
abbrev pub originals : {I : Type 0} → List (Unsent I) → List (Original I)
originals us = map (λ u. u.original) us

-- ---- one changeset
abbrev with_list : {I : Type 0} → Unsent I → List I → Unsent I
with_list u is = record u { current = is }

module _ {I : Type 0} where
  pub take_put : (us : List (Unsent I)) (i : ℕ) (is : List I) (u : Unsent I) (t : List (Unsent I)) → drop i us ≡ u ∷ t → take (suc i) (put_current i is us) ≡ take i us ++ record u { current = is } ∷ []
  take_put [] zero is u t e = cc
  take_put [] (suc i) is u t e = cc
  take_put (v ∷ us) zero is u t e = let h : v ≡ u = cc in ap (λ (w : Unsent I). with_list w is ∷ []) h
  take_put (v ∷ us) (suc i) is u t e = ap (λ l. v ∷ l) (take_put us i is u t e)

  pub drop_put : (us : List (Unsent I)) (i : ℕ) (is : List I) → drop (suc i) (put_current i is us) ≡ drop (suc i) us
  drop_put [] i is = refl
  drop_put (v ∷ us) zero is = refl
  drop_put (v ∷ us) (suc i) is = drop_put us i is

  -- with the instructions that it has
  pub put_same : (us : List (Unsent I)) (i : ℕ) (u : Unsent I) (t : List (Unsent I)) → drop i us ≡ u ∷ t → put_current i u.current us ≡ us
  put_same [] i u t e = refl
  put_same (v ∷ us) zero u t e = let h : u ≡ v = cc in ap (λ (w : Unsent I). with_list v w.current ∷ us) h
  put_same (v ∷ us) (suc i) u t e = ap (λ l. v ∷ l) (put_same us i u t e)

  pub number_there : (us : List (Unsent I)) (i : ℕ) (u : Unsent I) (t : List (Unsent I)) → drop i us ≡ u ∷ t → number_at i us ≡ u.original.number
  number_there [] zero u t e = cc
  number_there [] (suc i) u t e = cc
  number_there (v ∷ us) zero u t e = let g : v ≡ u = cc in ap (λ w. w.original.number) g
  number_there (v ∷ us) (suc i) u t e = number_there us i u t e

  -- rebasing keeps the originals
  pub carried_same : (own : ℕ) (us vs : List (Unsent I)) → originals vs ≡ originals us → carried_to us (map (changeset_of own) vs) ≡ vs
  carried_same own [] [] e = refl
  carried_same own [] (v ∷ vs) e = cc
  carried_same own (u ∷ us) [] e = cc
  carried_same own (u ∷ us) (v ∷ vs) e =
      let head : u.original ≡ v.original = cc in
      let rest : originals vs ≡ originals us = cc in
      λ i. record { original = head i; current = v.current } ∷ carried_same own us vs rest i

-- ---- what became of one
-- it gets these instructions
pub became_is : (us : List (Unsent Instr)) (i : ℕ) (b : Became) (u : Unsent Instr) (t : List (Unsent Instr)) → drop i us ≡ u ∷ t → put_became i b us ≡ put_current i (left_of b u.current) us
became_is [] i b u t e = refl
became_is (v ∷ us) zero b u t e = let h : v ≡ u = cc in ap (λ (w : Unsent Instr). with_list v (left_of b w.current) ∷ us) h
became_is (v ∷ us) (suc i) b u t e = ap (λ l. v ∷ l) (became_is us i b u t e)

pub fits_there : (us : List (Unsent Instr)) (i : ℕ) (b : Became) (u : Unsent Instr) (t : List (Unsent Instr)) → drop i us ≡ u ∷ t → Suits b u → StaysListed u.current (left_of b u.current) → FitsAt i b us
fits_there [] zero b u t e h k = cc
fits_there [] (suc i) b u t e h k = cc
fits_there (v ∷ us) zero b u t e h k = let g : u ≡ v = cc in (subst (λ (w : Unsent Instr). Suits b w) g h, subst (λ (w : Unsent Instr). StaysListed w.current (left_of b w.current)) g k)
fits_there (v ∷ us) (suc i) b u t e h k = fits_there us i b u t e h k

-- where it fits there is one
pub fits_within : (us : List (Unsent Instr)) (i : ℕ) (b : Became) → FitsAt i b us → i < length us
fits_within [] i b h = absurd h
fits_within (u ∷ us) zero b h = omega arith
fits_within (u ∷ us) (suc i) b h = let k = fits_within us i b h in omega (arith, k)

pub fits_suits : (us : List (Unsent Instr)) (i : ℕ) (b : Became) (u : Unsent Instr) → FitsAt i b us → u ≡ get_or us i u → Suits b u
fits_suits [] i b u h e = absurd h
fits_suits (v ∷ us) zero b u h e = subst (Suits b) (sym e) h.0
fits_suits (v ∷ us) (suc i) b u h e = fits_suits us i b u h e

-- what a write of the place does
pub set_is_became : (us : List (Unsent Instr)) (i : ℕ) (b : Became) (u v : Unsent Instr) → i < length us → u ≡ get_or us i u → v ≡ record u { current = left_of b u.current } → set us i v ≡ put_became i b us
set_is_became [] i b u v l e h = refl
set_is_became (w ∷ us) zero b u v l e h = ap (λ x. x ∷ us) (h ∙ ap (λ (x : Unsent Instr). with_list x (left_of b x.current)) e)
set_is_became (w ∷ us) (suc i) b u v l e h = ap (λ x. w ∷ x) (set_is_became us i b u v (omega arith) e h)

originals_became : (us : List (Unsent Instr)) (i : ℕ) (b : Became) → originals (put_became i b us) ≡ originals us
originals_became [] i b = refl
originals_became (v ∷ us) zero b = refl
originals_became (v ∷ us) (suc i) b = ap (λ l. v.original ∷ l) (originals_became us i b)

-- an index of what stood there is one of what became of it, where it says so of the changed instructions
pub lists_became : (us : List (Unsent Instr)) (i : ℕ) (b : Became) (u : Unsent Instr) → i < length us → u ≡ get_or us i u → currents (put_became i b us) ≡ put_list i (left_of b u.current) (currents us)
lists_became [] i b u l e = refl
lists_became (v ∷ us) zero b u l e = ap (λ (w : Unsent Instr). left_of b w.current ∷ currents us) (sym e)
lists_became (v ∷ us) (suc i) b u l e = ap (λ x. v.current ∷ x) (lists_became us i b u (omega arith) e)

pub fits_stays : (us : List (Unsent Instr)) (i : ℕ) (b : Became) (u : Unsent Instr) → FitsAt i b us → u ≡ get_or us i u → StaysAt i (left_of b u.current) (currents us)
fits_stays [] i b u h e = absurd h
fits_stays (v ∷ us) zero b u h e = subst (λ (w : Unsent Instr). StaysListed v.current (left_of b w.current)) (sym e) h.1
fits_stays (v ∷ us) (suc i) b u h e = fits_stays us i b u h e

originals_passed : (own : ℕ) (s : Stamp) (k : ℕ) (b : Option ListAction) (us : List (Unsent Instr)) → originals (passed own s k b us) ≡ originals us
originals_passed own s k None us = refl
originals_passed own s zero (Some b) us = refl
originals_passed own s (suc k) (Some b) [] = refl
originals_passed own s (suc k) (Some b) (u ∷ us) = ap (λ l. u.original ∷ l) (originals_passed own s k _ us)

originals_from : (i : ℕ) (f : List (Unsent Instr) → List (Unsent Instr)) (us : List (Unsent Instr)) → ((vs : List (Unsent Instr)) → originals (f vs) ≡ originals vs) → originals (from_place i f us) ≡ originals us
originals_from zero f us h = h us
originals_from (suc i) f [] h = refl
originals_from (suc i) f (u ∷ us) h = ap (λ l. u.original ∷ l) (originals_from i f us h)

originals_crossed : (c : Crossed) (us : List (Unsent Instr)) → originals (put_crossed c us) ≡ originals us
originals_crossed (One i b) us = originals_became us i b
originals_crossed (Stretch a) us = originals_from a.start (passed a.own a.stamp a.count (Some a.action)) us (originals_passed a.own a.stamp a.count (Some a.action))

-- ---- several
pub settled_push : (cs : List Crossed) (c : Crossed) (us : List (Unsent Instr)) → settled (cs ++ c ∷ []) us ≡ put_crossed c (settled cs us)
settled_push [] c us = refl
settled_push (d ∷ cs) c us = settled_push cs c (put_crossed d us)

pub fits_push : (cs : List Crossed) (c : Crossed) (us : List (Unsent Instr)) → Fits cs us → FitsCrossed c (settled cs us) → Fits (cs ++ c ∷ []) us
fits_push [] c us f h = (h, tt)
fits_push (d ∷ cs) c us f h = (f.0, fits_push cs c (put_crossed d us) f.1 h)

pub originals_settled : (cs : List Crossed) (us : List (Unsent Instr)) → originals (settled cs us) ≡ originals us
originals_settled [] us = refl
originals_settled (c ∷ cs) us = originals_settled cs (put_crossed c us) ∙ originals_crossed c us

pub length_settled : (cs : List Crossed) (us : List (Unsent Instr)) → length (settled cs us) ≡ length us
length_settled cs us = sym (length-map (settled cs us) (λ (u : Unsent Instr). u.original)) ∙ ap length (originals_settled cs us) ∙ length-map us (λ (u : Unsent Instr). u.original)

-- an element
pub element : (us : List (Unsent Instr)) (i : ℕ) → i < length us → (u : Unsent Instr) × (u ≡ get_or us i u)
element [] i l = absurd (omega arith)
element (u ∷ us) zero l = (u, refl)
element (u ∷ us) (suc i) l = element us i (omega arith)

-- after one was put at the end, or was refused
pub listed_push : {A E : Type 0} (r : Result A E) (x : Indexed) (us vs : List (Unsent Instr)) (u : Unsent Instr) → OnOk r (vs ≡ us ++ u ∷ []) → OnErr r (vs ≡ us) → Lists x (currents us) → Lists x (currents vs)
listed_push (Ok a) x us vs u ok err h =
    subst (λ ws. Lists x (currents ws)) (sym ok) (subst (Lists x) (sym (map-append (λ (v : Unsent Instr). v.current) us (u ∷ []))) (pushed x.marks x.first x.listed (currents us) u.current h))
listed_push (Err a) x us vs u ok err h = subst (λ ws. Lists x (currents ws)) (sym err) h

-- where an instruction of a list stands isn't asked
pub shown_listed : (o : Option ListAction) (is : List Instr) → StaysListed is (shown o is)
shown_listed None is = λ s n h. h
shown_listed (Some a) [] = λ s n h. h
shown_listed (Some a) (i ∷ is) = λ s n h. (
  subst (λ q. AllByRecursion (λ p. is_at s n p ≡ true) (listed q)) (sym (same_elsewhere place_of (λ c v s t. refl) (λ c s t. refl) (λ c v s t. refl) a i)) h.0,
  h.1,
)

-- the first of a list, written as it is
pub set_first : (us : List (Unsent Instr)) (u v : Unsent Instr) → u ≡ get_or us 0 u → v ≡ u → set us 0 v ≡ us
set_first [] u v e h = refl
set_first (w ∷ us) u v e h = ap (λ x. x ∷ us) (h ∙ e)
