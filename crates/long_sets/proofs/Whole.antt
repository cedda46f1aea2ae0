-- All instructions of a changeset went through the slots of another: both crossed.
use Rattle.std.proofs.Common.{◌≡◌, ℕ, Bool, List, [], ◌∷◌, ◌++◌, append-nil, map, Option, Some, None, Result, Ok, Err, refl, sym, ap, ◌∙◌, subst}
use Rattle.sync_data.specs.declared.instr.Instr.{Instr}
use Rattle.sync_data.specs.Payload.{Changes}
use Rattle.sync_base.specs.declared.answers.Mismatch.{Mismatch}
use Rattle.sync_theory.specs.Lists.{row, rowed, step_down, cross}
use Rattle.sync_theory.specs.Changesets.{Changeset, is_later, cross_sets, with_lists, later_stamp}
use Rattle.sync_theory.specs.Grid.{carry_one}
use Rattle.sync_law.specs.Instrs.{meet}
use Rattle.sync_index.specs.Touched.{Touched, Covers}
use Rattle.sync_transform.specs.Sets.{made_by}
use Rattle.sync_transform.proofs.Covered.{row_covered}
use Rattle.slot_law.specs.Slots.{Slot, Meets, Item, through, all_through, slots_of, on_right, alive, fill, set_of, with_instrs}
use Rattle.slot_law.proofs.Through.{Through, AllThrough, none, more, through_of, all_of, all_is, ends}
use Rattle.slot_law.proofs.Items.{carries}
use Rattle.sync_data.specs.declared.entry.Stamp.{Stamp}
use Rattle.long_sets.specs.Rows.{somes, Crosses, CrossInTurn}
use Rattle.long_sets.specs.Parts.{CrossAll}

-- ---- one more in turn
module _ {T I : Type 0} (meets : Meets T I) where
  append_one : {ss ts us : List (Slot T I)} {ys zs : List (Option I)} {y z : Option I} → AllThrough meets ss ys ts zs → Through meets ts y us z → AllThrough meets ss (ys ++ y ∷ []) us (zs ++ z ∷ [])
  append_one none t = more t none
  append_one (more s r) t = more s (append_one r t)

  pub one_more : (ss ts us : List (Slot T I)) (ys zs : List (Option I)) (y z : Option I) → all_through meets ss ys ≡ Some (ts, zs) → through meets ts y ≡ Some (us, z) → all_through meets ss (ys ++ y ∷ []) ≡ Some (us, zs ++ z ∷ [])
  one_more ss ts us ys zs y z h k = all_is meets (append_one (all_of meets ys ss ts zs h) (through_of meets ts y us z k))

pub turn_begins : (later : Bool) (xs : List (Option Instr)) → CrossInTurn later [] xs [] xs
turn_begins later xs t e h = refl

pub turn_goes_on : (later : Bool) (ys : List (Option Instr)) (y : Option Instr) (xs ts us : List (Option Instr)) (zs : List (Option Instr)) (z : Option Instr) → CrossInTurn later ys xs zs ts → Crosses later ts y us z → CrossInTurn later (ys ++ y ∷ []) xs (zs ++ z ∷ []) us
turn_goes_on later ys y xs ts us zs z h k t e l = one_more (on_right meet e) (slots_of t xs) (slots_of t ts) (slots_of t us) ys zs y z (h t e l) (k t e l)

pub nothing_crosses : (later : Bool) (xs : List (Option Instr)) → Crosses later xs None xs None
nothing_crosses later xs t e l = ends (on_right meet e) (slots_of t xs)

-- ---- what the theory makes of it
alive_somes : (is : List Instr) → alive (somes is) ≡ is
alive_somes [] = refl
alive_somes (i ∷ is) = ap (λ l. i ∷ l) (alive_somes is)

back : {T I : Type 0} (t : T) (xs : List (Option I)) → map (λ (s : Slot T I). s.1) (slots_of t xs) ≡ xs
back t [] = refl
back t (x ∷ xs) = ap (λ l. x ∷ l) (back t xs)

same_slots : {T I : Type 0} (t : T) (xs ys : List (Option I)) → slots_of t xs ≡ slots_of t ys → xs ≡ ys
same_slots {T} {I} t xs ys h = sym (back t xs) ∙ ap (map (λ (s : Slot T I). s.1)) h ∙ back t ys

ok_is : {A E : Type 0} {x y : A} → ◌≡◌ {A = Result A E} (Ok x) (Ok y) → x ≡ y
ok_is e = cc

first_is : {A : Type 0} {x y : A} {xs ys : List A} → x ∷ xs ≡ y ∷ ys → x ≡ y
first_is e = cc

one_carried : {I M : Type 0} (e t f g : Changeset I) (r : Result (List I × List I) M) → carry_one (with_lists e t r) (λ y. Ok (y, [])) ≡ Ok (f, g ∷ []) → r ≡ Ok (f.instrs, g.instrs)
one_carried {I} {M} e t f g (Ok p) h =
    let same : (◌≡◌ {A = Changeset I × List (Changeset I)} (record e { instrs = p.0 }, record t { instrs = p.1 } ∷ []) (f, g ∷ [])) = ok_is h in
    let right : record t { instrs = p.1 } ≡ g = first_is (λ i. (same i).1) in
    λ i. Ok ((same i).0.instrs, (right i).instrs)
one_carried e t f g (Err m) h = cc

abbrev by : Stamp → Changeset Instr
by s = record { origin = s.ident; number = 0; ms = s.ms; instrs = [] }

pub all_cross : (own other : Stamp) (lefts rights : List Instr) (zs us : List (Option Instr)) → CrossAll own other (somes lefts) (somes rights) zs us → cross (λ a b. meet a b (later_stamp own.ms own.ident other.ms other.ident)) lefts rights ≡ Ok (alive zs, alive us)
all_cross own other lefts rights zs us h =
    let e = by own in
    let t = by other in
    let item : Item Instr = record { head = t; slots = somes rights } in
    let c = carries meet (item ∷ []) e (somes lefts) zs (slots_of t us) (ap (λ l. all_through (on_right meet e) l (somes lefts)) (append-nil (slots_of t (somes rights))) ∙ h t e refl refl) in
    let filled = (fill (somes rights) (slots_of t us)).0 in
    let is : filled ≡ us = same_slots t filled us (sym (append-nil (slots_of t filled)) ∙ c.1) in
    let r = one_carried (with_instrs e (somes lefts)) (set_of item) (with_instrs e zs) (record t { instrs = alive filled }) (cross (λ a b. meet a b (is_later e t)) (alive (somes lefts)) (alive (somes rights))) c.0 in
    (λ i. cross (λ a b. meet a b (is_later e t)) (sym (alive_somes lefts) i) (sym (alive_somes rights) i))
    ∙ r
    ∙ ap (λ l. Ok (alive zs, alive l)) is

-- by stamps, where it is known which is the later one
pub turns_cross : (own other : Stamp) (later : Bool) (ys xs zs us : List (Option Instr)) → later ≡ later_stamp own.ms own.ident other.ms other.ident → CrossInTurn later ys xs zs us → CrossAll own other ys xs zs us
turns_cross own other later ys xs zs us l h t e f g = h t e ((λ i. later_stamp (f i).ms (f i).ident (g i).ms (g i).ident) ∙ sym l)

-- ---- of two changesets
pub sets_cross : (later : Bool) (i j : ℕ) (left right : Changes) (cs ds : List Instr) → later ≡ later_stamp left.ms i right.ms j → cross (λ a b. meet a b later) left.instrs right.instrs ≡ Ok (cs, ds)
    → (m n : ℕ) → cross_sets meet (made_by i m left) (made_by j n right) ≡ Ok (made_by i m (record { ms = left.ms; instrs = cs }), made_by j n (record { ms = right.ms; instrs = ds }))
sets_cross later i j left right cs ds l h m n =
    ap (λ s. with_lists (made_by i m left) (made_by j n right) (cross (λ a b. meet a b s) left.instrs right.instrs)) (sym l)
    ∙ ap (with_lists (made_by i m left) (made_by j n right)) h

-- ---- an index of a list is one of what is left of it
down_covered : (t : Touched) (o : Option Instr) (r : Result (List Instr × List Instr) (ℕ × ℕ × Mismatch)) (cs ds : List Instr) → step_down o r ≡ Ok (cs, ds) → ((as_ bs : List Instr) → r ≡ Ok (as_, bs) → Covers t bs) → Covers t ds
down_covered t o (Ok p) cs ds h g = let e = ok_is h in subst (Covers t) (λ i. (e i).1) (g p.0 p.1 refl)
down_covered t o (Err m) cs ds h g = cc

row_goes : (later : Bool) (t : Touched) (a : Instr) (as_ bs : List Instr) (r : Result (Option Instr × List Instr) (ℕ × Mismatch)) (cs ds : List Instr) → row (λ a b. meet a b later) (Some a) bs ≡ r
    → rowed r (λ ms. cross (λ a b. meet a b later) as_ ms) ≡ Ok (cs, ds) → Covers t bs → ((ms es fs : List Instr) → cross (λ a b. meet a b later) as_ ms ≡ Ok (es, fs) → Covers t ms → Covers t fs) → Covers t ds
row_goes later t a as_ bs (Ok p) cs ds e h c g = down_covered t p.0 (cross (λ a b. meet a b later) as_ p.1) cs ds h (λ es fs k. g p.1 es fs k (row_covered later (Some t) a bs p.1 p.0 e c))
row_goes later t a as_ bs (Err m) cs ds e h c g = cc

cross_covered : (later : Bool) (t : Touched) (as_ bs cs ds : List Instr) → cross (λ a b. meet a b later) as_ bs ≡ Ok (cs, ds) → Covers t bs → Covers t ds
cross_covered later t [] bs cs ds h c = let e = ok_is h in subst (Covers t) (λ i. (e i).1) c
cross_covered later t (a ∷ as_) bs cs ds h c = row_goes later t a as_ bs (row (λ a b. meet a b later) (Some a) bs) cs ds refl h c (cross_covered later t as_)

lists_of : {M : Type 0} (a b p q : Changeset Instr) (r : Result (List Instr × List Instr) M) → with_lists a b r ≡ Ok (p, q) → r ≡ Ok (p.instrs, q.instrs)
lists_of {M} a b p q (Ok l) h =
    let e = ok_is h in
    λ i. Ok ((e i).0.instrs, (e i).1.instrs)
lists_of a b p q (Err m) h = cc

pub sets_covered : (t : Touched) (i j : ℕ) (left right p q : Changes) → ((m n : ℕ) → cross_sets meet (made_by i m left) (made_by j n right) ≡ Ok (made_by i m p, made_by j n q)) → Covers t right.instrs → Covers t q.instrs
sets_covered t i j left right p q h c =
    cross_covered (later_stamp left.ms i right.ms j) t left.instrs right.instrs p.instrs q.instrs (lists_of (made_by i 0 left) (made_by j 0 right) (made_by i 0 p) (made_by j 0 q) (cross (λ a b. meet a b (later_stamp left.ms i right.ms j)) left.instrs right.instrs) (h 0 0)) c

pub gone_crosses : (later : Bool) (xs : List (Option Instr)) (y : Option Instr) → y ≡ None → Crosses later xs y xs y
gone_crosses later xs y h = subst (λ (z : Option Instr). Crosses later xs z xs z) (sym h) (nothing_crosses later xs)
