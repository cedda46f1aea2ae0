-- A client of some tables: what it gets of lists crosses and acts as the whole lists do.
use Rattle.std.proofs.Common.{◌≡◌, ℕ, ◌+◌, Bool, true, false, ◌&&◌, cond, List, [], ◌∷◌, Option, Some, None, Result, Ok, Err, IfOk, refl, sym, ap, ◌∙◌, subst, arith, map, sum_by}
use Rattle.std.specs.Prelude.{filter}
use Rattle.std.proofs.lemmas.List.Sums.{sum_by-append}
use Rattle.sync_theory.specs.Lists.{run, Keeps}
use Rattle.sync_theory.specs.Grid.{rebase}
use Rattle.sync_theory.specs.Changesets.{Changeset}
use Rattle.sync_theory.specs.Restricting.{AllAdmitted, LeftAdmitted, Separates, restrict_set, EachAdmitted, RebasesAlike}
use Rattle.sync_theory.proofs.Agree.{then_gives, run_cons, run_keeps}
use Rattle.sync_theory.proofs.Restricting.{filter_all, rebase_alike}
use Rattle.sync_model.specs.Bytes.{Tables}
use Rattle.sync_model.specs.Profile.{Profile, Stuck, act, act_changeset, cross_changesets, is_small, admits_by, all_admitted, restrict, restricted, only_by, LawfulParts}
use Rattle.sync_model.specs.Clients.{Unsent, Original, changeset_of, carried_to}
use Rattle.sync_model.specs.Each.{Each, no_more, and_each}
use Rattle.sync_model.specs.Log.{as_log}
use Rattle.sync_model.proofs.Limits.{both}
use Rattle.sync_model.proofs.Small.{NoLarger, SmallSets, small_less}

some_same : {A : Type 0} {a b : A} → Some a ≡ Some b → a ≡ b
some_same e = cc

module _ {I S : Type 0} (p : Profile I S) where
  -- ---- the test, as a fact

  pub all_are : (o : Option Tables) (is : List I) → all_admitted p o is ≡ true → AllAdmitted (admits_by p o) is
  all_are o [] e = tt
  all_are o (i ∷ is) e = let b = both (admits_by p o i) (all_admitted p o is) e in (b.0, all_are o is b.1)

  pub are_all : (o : Option Tables) (is : List I) → AllAdmitted (admits_by p o) is → all_admitted p o is ≡ true
  are_all o [] h = refl
  are_all o (i ∷ is) h = and_so (admits_by p o i) (all_admitted p o is) h.0 (are_all o is h.1)
    where
      and_so : (a b : Bool) → a ≡ true → b ≡ true → (a && b) ≡ true
      and_so true b e f = f
      and_so false b e f = e

  -- a client that gets all gets all
  pub all_so : (is : List I) → all_admitted p None is ≡ true
  all_so [] = refl
  all_so (i ∷ is) = all_so is

  -- ---- what it gets of a list

  filter_is : (o : Option Tables) (is : List I) → filter (admits_by p o) is ≡ restrict p o is
  filter_is None [] = refl
  filter_is None (i ∷ is) = ap (λ l. i ∷ l) (filter_is None is)
  filter_is (Some t) is = refl

  set_is : (o : Option Tables) (x : Changeset I) → restrict_set (admits_by p o) x ≡ restricted p o x
  set_is o x = λ i. record x { instrs = filter_is o x.instrs i }

  pub restrict_all : (o : Option Tables) (is : List I) → all_admitted p o is ≡ true → restrict p o is ≡ is
  restrict_all o is e = sym (filter_is o is) ∙ filter_all (admits_by p o) is (all_are o is e)

  pub restricted_all : (o : Option Tables) (x : Changeset I) → all_admitted p o x.instrs ≡ true → restricted p o x ≡ x
  restricted_all o x e = λ i. record x { instrs = restrict_all o x.instrs e i }

  -- it is no larger

  sum_first : (i : I) (is : List I) → sum_by p.weight (i ∷ is) ≡ sum_by p.weight (i ∷ []) + sum_by p.weight is
  sum_first i is = sum_by-append p.weight (i ∷ []) is

  filter_less : (f : I → Bool) (is : List I) → NoLarger p (filter f is) is
  filter_less f [] = record { shorter = omega arith; lighter = omega arith }
  filter_less f (i ∷ is) = go (f i) (filter_less f is)
    where
      go : (b : Bool) → NoLarger p (filter f is) is → NoLarger p (cond b (i ∷ filter f is) (filter f is)) (i ∷ is)
      go true h = let a = h.shorter in let b = h.lighter in let x = sum_first i (filter f is) in let y = sum_first i is in record { shorter = omega arith; lighter = omega arith }
      go false h = let a = h.shorter in let b = h.lighter in let y = sum_first i is in record { shorter = omega arith; lighter = omega arith }

  pub restrict_small : (o : Option Tables) (is : List I) → is_small p is ≡ true → is_small p (restrict p o is) ≡ true
  restrict_small None is e = e
  restrict_small (Some t) is e = small_less p (filter (p.admits t) is) is (filter_less (p.admits t) is) e

  pub restricted_small : (o : Option Tables) (xs : List (Changeset I)) → SmallSets p xs → SmallSets p (map (restricted p o) xs)
  restricted_small o [] no_more = no_more
  restricted_small o (x ∷ xs) (and_each h g) = and_each (restrict_small o x.instrs h) (restricted_small o xs g)

  -- ---- a client's own changes are of its tables alone

  abbrev pub MadeAdmitted : Option Tables → List (Original I) → Type 0
  MadeAdmitted o ms = Each (λ m. all_admitted p o m.instrs ≡ true) ms

  abbrev pub UnsentAdmitted : Option Tables → List (Unsent I) → Type 0
  UnsentAdmitted o us = Each (λ u. (all_admitted p o u.original.instrs ≡ true) × (all_admitted p o u.current ≡ true)) us

  pub unsent_are : (o : Option Tables) (c : ℕ) (us : List (Unsent I)) → UnsentAdmitted o us → EachAdmitted (admits_by p o) (map (changeset_of c) us)
  unsent_are o c [] no_more = tt
  unsent_are o c (u ∷ us) (and_each h g) = (all_are o u.current h.1, unsent_are o c us g)

  pub made_are : (o : Option Tables) (c : ℕ) (ms : List (Original I)) → MadeAdmitted o ms → EachAdmitted (admits_by p o) (map (λ m. m.change) (map (as_log c) ms))
  made_are o c [] no_more = tt
  made_are o c (m ∷ ms) (and_each h g) = (all_are o m.instrs h, made_are o c ms g)

  pub carried_are : (o : Option Tables) (us : List (Unsent I)) (xs : List (Changeset I)) → UnsentAdmitted o us → EachAdmitted (admits_by p o) xs → UnsentAdmitted o (carried_to us xs)
  carried_are o [] xs h g = no_more
  carried_are o (u ∷ us) [] h g = no_more
  carried_are o (u ∷ us) (x ∷ xs) (and_each h hs) g = and_each (h.0, are_all o x.instrs g.0) (carried_are o us xs hs g.1)

  -- ---- crossing

  separates_by : {Fits : S → Type 0} → LawfulParts p Fits → (o : Option Tables) (later : Bool) → Separates (admits_by p o) (λ a b. p.meet a b later)
  separates_by law (Some t) later = law.separates t later
  separates_by law None later = record { stays = λ a b h k. on (p.meet a b later); apart = λ a b h k. absurd (never k); apart_too = λ a b h k. absurd (never h) }
    where
      never : true ≡ false → ⊥
      never e = cc

      left : (o : Option I) → LeftAdmitted (admits_by p None) o
      left None = tt
      left (Some i) = refl

      on : (m : Result (Option I × Option I) ℕ) → IfOk m (λ o. LeftAdmitted (admits_by p None) o.0 × LeftAdmitted (admits_by p None) o.1)
      on (Ok o) = (left o.0, left o.1)
      on (Err e) = tt

  -- what is crossed of an entry that a client gets, as of the whole entry
  pub record PartCrosses (o : Option Tables) (ps : List (Changeset I)) (e : Changeset I) (us : List (Changeset I)) (f : Changeset I) : Type 0 where
    pub whole : Changeset I
    pub crossed : rebase (cross_changesets p) ps e ≡ Ok (us, whole)
    pub is : f ≡ restricted p o whole
    pub admitted : EachAdmitted (admits_by p o) us

  pub record PartStuck (ps : List (Changeset I)) (e : Changeset I) (f : ℕ × Stuck) : Type 0 where
    pub place : ℕ × Stuck
    pub crossed : rebase (cross_changesets p) ps e ≡ Err place
    pub kind : place.1.2 ≡ f.1.2

  module _ {Fits : S → Type 0} (law : LawfulParts p Fits) (o : Option Tables) (ps : List (Changeset I)) (e : Changeset I) (mine : EachAdmitted (admits_by p o) ps) where
    abbrev part : Result (List (Changeset I) × Changeset I) (ℕ × Stuck)
    part = rebase (cross_changesets p) ps (restricted p o e)

    alike : RebasesAlike (admits_by p o) (rebase (cross_changesets p) ps e) part
    alike = subst (λ z. RebasesAlike (admits_by p o) (rebase (cross_changesets p) ps e) (rebase (cross_changesets p) ps z)) (set_is o e) (rebase_alike (admits_by p o) p.meet (separates_by law o) ps e mine)

    pub part_crosses : (us : List (Changeset I)) (f : Changeset I) → part ≡ Ok (us, f) → PartCrosses o ps e us f
    part_crosses us f is = on (rebase (cross_changesets p) ps e) refl alike
      where
        on : (r : Result (List (Changeset I) × Changeset I) (ℕ × Stuck)) → rebase (cross_changesets p) ps e ≡ r → RebasesAlike (admits_by p o) r part → PartCrosses o ps e us f
        on (Ok q) r_is k =
            let same : ◌≡◌ {A = Result (List (Changeset I) × Changeset I) (ℕ × Stuck)} (Ok (q.0, restrict_set (admits_by p o) q.1)) (Ok (us, f)) = sym k.0 ∙ is in
            let us_is : q.0 ≡ us = Rattle.sync_theory.proofs.Recip.ok_first (q.0, restrict_set (admits_by p o) q.1) us f same in
            let f_is : restrict_set (admits_by p o) q.1 ≡ f = Rattle.sync_theory.proofs.Recip.ok_second (q.0, restrict_set (admits_by p o) q.1) us f same in
            record {
              whole = q.1;
              crossed = r_is ∙ ap (λ l. Ok (l, q.1)) us_is;
              is = sym f_is ∙ set_is o q.1;
              admitted = subst (EachAdmitted (admits_by p o)) us_is k.1;
            }
        on (Err g) r_is k = let no = sym k.1 ∙ is in cc

    pub part_stuck : (f : ℕ × Stuck) → part ≡ Err f → PartStuck ps e f
    part_stuck f is = on (rebase (cross_changesets p) ps e) refl alike
      where
        on : (r : Result (List (Changeset I) × Changeset I) (ℕ × Stuck)) → rebase (cross_changesets p) ps e ≡ r → RebasesAlike (admits_by p o) r part → PartStuck ps e f
        on (Ok q) r_is k = let no = sym k.0 ∙ is in cc
        on (Err g) r_is k = let same : (g.0, (g.1.0, k.0, g.1.2)) ≡ f = err_same (sym k.1 ∙ is) in record { place = g; crossed = r_is; kind = ap (λ x. x.1.2) same }
          where
            err_same : {A E : Type 0} {a b : E} → ◌≡◌ {A = Result A E} (Err a) (Err b) → a ≡ b
            err_same e = cc

  -- ---- acting

  module _ {Fits : S → Type 0} (law : LawfulParts p Fits) (keeps : Keeps Fits (act p)) where
    -- what a client gets acts on its part, and leads to its part
    pub acts_on_part : (o : Option Tables) (is : List I) (s u : S) → Fits s → run (act p) is s ≡ Some u → run (act p) (restrict p o is) (only_by p o s) ≡ Some (only_by p o u)
    acts_on_part None is s u fit e = e
    acts_on_part (Some t) [] s u fit e = ap (λ x. Some (p.only t x)) (some_same e)
    acts_on_part (Some t) (i ∷ is) s u fit e =
        let h = then_gives (act p i s) (run (act p) is) u e in
        go (p.admits t i) refl h.mid h.was (acts_on_part (Some t) is h.mid u (keeps i s h.mid fit h.was) h.on)
      where
        go : (b : Bool) → p.admits t i ≡ b → (m : S) → act p i s ≡ Some m → run (act p) (filter (p.admits t) is) (p.only t m) ≡ Some (p.only t u) → run (act p) (cond b (i ∷ filter (p.admits t) is) (filter (p.admits t) is)) (p.only t s) ≡ Some (p.only t u)
        go true b_is m was on = run_cons (act p) i (filter (p.admits t) is) (p.only t s) (p.only t m) (p.only t u) (law.inside t i s m fit b_is was) on
        go false b_is m was on = ap (run (act p) (filter (p.admits t) is)) (sym (law.outside t i s m fit b_is was)) ∙ on

    pub admitted_acts : (o : Option Tables) (is : List I) (s u : S) → Fits s → all_admitted p o is ≡ true → run (act p) is s ≡ Some u → run (act p) is (only_by p o s) ≡ Some (only_by p o u)
    admitted_acts o is s u fit h e = ap (λ l. run (act p) l (only_by p o s)) (sym (restrict_all o is h)) ∙ acts_on_part o is s u fit e

    -- what is admitted and acts on the part acts on the whole
    pub acts_on_whole : (o : Option Tables) (is : List I) (s u : S) → Fits s → all_admitted p o is ≡ true → run (act p) is (only_by p o s) ≡ Some u → (v : S) × (run (act p) is s ≡ Some v) × (only_by p o v ≡ u)
    acts_on_whole None is s u fit h e = (u, e, refl)
    acts_on_whole (Some t) [] s u fit h e = (s, refl, some_same e)
    acts_on_whole (Some t) (i ∷ is) s u fit h e =
        let b = both (p.admits t i) (all_admitted p (Some t) is) h in
        let g = then_gives (act p i (p.only t s)) (run (act p) is) u e in
        let w = law.whole t i s g.mid fit b.0 g.was in
        let part = law.inside t i s w.0 fit b.0 w.1 in
        let same : g.mid ≡ p.only t w.0 = some_same (sym g.was ∙ part) in
        let rest = acts_on_whole (Some t) is w.0 u (keeps i s w.0 fit w.1) b.1 (ap (run (act p) is) (sym same) ∙ g.on) in
        (rest.0, run_cons (act p) i is s w.0 rest.0 w.1 rest.1, rest.2)

    -- the same for changesets
    pub sets_on_part : (o : Option Tables) (xs : List (Changeset I)) (s u : S) → Fits s → EachAdmitted (admits_by p o) xs → run (act_changeset p) xs s ≡ Some u → run (act_changeset p) xs (only_by p o s) ≡ Some (only_by p o u)
    sets_on_part o [] s u fit h e = ap (λ x. Some (only_by p o x)) (some_same e)
    sets_on_part o (x ∷ xs) s u fit h e =
        let g = then_gives (act_changeset p x s) (run (act_changeset p) xs) u e in
        run_cons (act_changeset p) x xs (only_by p o s) (only_by p o g.mid) (only_by p o u)
        (admitted_acts o x.instrs s g.mid fit (are_all o x.instrs h.0) g.was)
        (sets_on_part o xs g.mid u (run_keeps Fits (act p) keeps x.instrs s g.mid fit g.was) h.1 g.on)

  -- the part of the first state is the first state
  pub only_first : {Fits : S → Type 0} → LawfulParts p Fits → (o : Option Tables) → only_by p o p.empty ≡ p.empty
  only_first law None = refl
  only_first law (Some t) = law.first t

  -- the part of a state that fits is one
  pub only_fits : {Fits : S → Type 0} → LawfulParts p Fits → (o : Option Tables) (s : S) → Fits s → Fits (only_by p o s)
  only_fits law None s h = h
  only_fits law (Some t) s h = law.fits t s h
