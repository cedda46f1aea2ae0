-- What is of a list and what is not cross apart from each other.
use Rattle.std.proofs.Common.{◌≡◌, true, false, cond, List, [], ◌∷◌, ◌++◌, length, Option, Some, None, Result, Ok, Err, refl, sym, ap, ◌∙◌, subst, inl, inr, map, ◌⊎◌, IfOk, arith}
use Rattle.long_sets.specs.Rows.{IsPart}
use Rattle.sync_data.specs.declared.instr.Instr.{Instr}
use Rattle.sync_data.specs.declared.instr.Instr.TheVariants as instrs
use Rattle.sync_data.specs.declared.entry.Stamp.{Stamp}
use Rattle.std.specs.Ordering.{eq_by_cmp}
use Rattle.sync_base.specs.Lemmas.Maps.{tied_is}
use Rattle.sync_base.specs.Merged.{path_cmp}
use Rattle.sync_base.specs.Lemmas.Looks.{path_exact}
use Rattle.sync_base.specs.Effects.{CellPath, path_of}
use Rattle.sync_base.specs.declared.answers.Mismatch.{Mismatch}
use Rattle.sync_base.specs.declared.answers.Outcome.{Outcome}
use Rattle.sync_base.specs.Rules.{meeting}
use Rattle.sync_theory.specs.Changesets.{Changeset, is_later}
use Rattle.sync_law.specs.Instrs.{as_pair, meet}
use Rattle.sync_rivals.specs.Homes.{InCell, Placed}
use Rattle.sync_rivals.specs.Strangers.{place_of, IsAt}
use Rattle.sync_rivals.specs.Lemmas.Homes.{homes_stay}
use Rattle.sync_transform.proofs.Covered.{sides}
use Rattle.slot_law.specs.Slots.{Slot, meets_in, slots_of, all_through, on_right, turned}
use Rattle.slot_law.proofs.Through.{Through, AllThrough, end, next, none, more, some_is, all_of, all_is}
use Rattle.long_sets.specs.Parts.{is_of, one_of, other_of, list_of, others_of, either_one, together, Stranger, AllStrangers, CrossAll}
use Rattle.long_sets.proofs.Homes.{StaysHome}

-- ---- what is left has its home
turned_is : {A M : Type 0} (r : Result (A × A) M) (u z : A) → turned r ≡ Some (u, z) → r ≡ Ok (z, u)
turned_is (Ok p) u z h = let e = some_is h in λ i. Ok ((e i).1, (e i).0)
turned_is (Err m) u z h = cc

same_home : (a : Instr) (u : Option Instr) → u ≡ Some a → IsAt (place_of a) u
same_home a u e = subst (IsAt (place_of a)) (sym e) refl

flipped : (a b : Instr) (r : Result Outcome Mismatch) → IfOk r (λ o. IsAt (place_of b) o.left × IsAt (place_of a) o.right) → IfOk r (λ o. IsAt (place_of a) o.right × IsAt (place_of b) o.left)
flipped a b (Ok o) h = (h.1, h.0)
flipped a b (Err m) h = tt

pub met_home : (t e : Changeset Instr) (x y u z : Option Instr) → meets_in (on_right meet e) t x y ≡ Some (u, z) → StaysHome x u × StaysHome y z
met_home t e None None u z h = let p = some_is h in (sym (λ i. (p i).0), sym (λ i. (p i).1))
met_home t e (Some a) None u z h = let p = some_is h in (same_home a u (sym (λ i. (p i).0)), sym (λ i. (p i).1))
met_home t e None (Some b) u z h = let p = some_is h in (sym (λ i. (p i).0), same_home b z (sym (λ i. (p i).1)))
met_home t e (Some a) (Some b) u z h =
    sides (λ l r. IsAt (place_of a) r × IsAt (place_of b) l) (meeting b a (is_later e t)) z u (turned_is (meet b a (is_later e t)) u z h) (flipped a b (meeting b a (is_later e t)) (homes_stay b a (is_later e t)))

abbrev pub AllHome : List (Option Instr) → List (Option Instr) → Type 0
AllHome [] [] = Unit {0}
AllHome [] (u ∷ us) = ⊥
AllHome (x ∷ xs) [] = ⊥
AllHome (x ∷ xs) (u ∷ us) = StaysHome x u × AllHome xs us

-- ---- members and strangers
module _ (p : CellPath) where
  abbrev pub Member : Option Instr → Type 0
  Member x = IsAt (InCell p Placed) x

  abbrev pub AllMembers : List (Option Instr) → Type 0
  AllMembers [] = Unit {0}
  AllMembers (x ∷ xs) = Member x × AllMembers xs

  member_stays : (x u : Option Instr) → StaysHome x u → Member x → Member u
  member_stays None u h m = subst Member (sym h) tt
  member_stays (Some a) u h m = subst (λ q. IsAt q u) m h

  stranger_stays : (x u : Option Instr) → StaysHome x u → Stranger p x → Stranger p u
  stranger_stays None u h s = subst (Stranger p) (sym h) tt
  stranger_stays (Some a) None h s = tt
  stranger_stays (Some a) (Some i) h s = λ c b e f. s c b (e ∙ h) f

  members_stay : (xs us : List (Option Instr)) → AllHome xs us → AllMembers xs → AllMembers us
  members_stay [] [] h m = tt
  members_stay [] (u ∷ us) h m = absurd h
  members_stay (x ∷ xs) [] h m = absurd h
  members_stay (x ∷ xs) (u ∷ us) h m = (member_stays x u h.0 m.0, members_stay xs us h.1 m.1)

  strangers_stay : (xs us : List (Option Instr)) → AllHome xs us → AllStrangers p xs → AllStrangers p us
  strangers_stay [] [] h m = tt
  strangers_stay [] (u ∷ us) h m = absurd h
  strangers_stay (x ∷ xs) [] h m = absurd h
  strangers_stay (x ∷ xs) (u ∷ us) h m = (stranger_stays x u h.0 m.0, strangers_stay xs us h.1 m.1)

  module _ (t e : Changeset Instr) where
    abbrev Met : Option Instr → Option Instr → Option Instr → Option Instr → Type 0
    Met x y u z = meets_in (on_right meet e) t x y ≡ Some (u, z)

    -- a member comes to a stranger, or a stranger to a member
    pub to_stranger : (x y : Option Instr) → Stranger p x → Member y → Met x y x y
    to_stranger None None s m = refl
    to_stranger (Some a) None s m = refl
    to_stranger None (Some b) s m = refl
    to_stranger (Some a) (Some b) s m = ap (λ r. turned (as_pair r)) ((s a b refl m (is_later e t)).1)

    pub to_member : (x y : Option Instr) → Member x → Stranger p y → Met x y x y
    to_member None None m s = refl
    to_member (Some a) None m s = refl
    to_member None (Some b) m s = refl
    to_member (Some a) (Some b) m s = ap (λ r. turned (as_pair r)) ((s b a refl m (is_later e t)).0)

-- ---- at each place at most one of both
abbrev pub Disjoint : List (Option Instr) → List (Option Instr) → Type 0
Disjoint [] [] = Unit {0}
Disjoint [] (y ∷ ys) = ⊥
Disjoint (x ∷ xs) [] = ⊥
Disjoint (x ∷ xs) (y ∷ ys) = ((x ≡ None) ⊎ (y ≡ None)) × Disjoint xs ys

gone_stays : (x u : Option Instr) → StaysHome x u → x ≡ None → u ≡ None
gone_stays None u h e = h
gone_stays (Some a) u h e = cc

one_disjoint : (x y u : Option Instr) → StaysHome x u → ((x ≡ None) ⊎ (y ≡ None)) → (u ≡ None) ⊎ (y ≡ None)
one_disjoint x y u h (inl e) = inl (gone_stays x u h e)
one_disjoint x y u h (inr e) = inr e

pub disjoint_stays : (xs ys us : List (Option Instr)) → AllHome xs us → Disjoint xs ys → Disjoint us ys
disjoint_stays [] [] [] h d = tt
disjoint_stays [] (y ∷ ys) us h d = absurd d
disjoint_stays [] [] (u ∷ us) h d = absurd h
disjoint_stays (x ∷ xs) [] us h d = absurd d
disjoint_stays (x ∷ xs) (y ∷ ys) [] h d = absurd h
disjoint_stays (x ∷ xs) (y ∷ ys) (u ∷ us) h d = (one_disjoint x y u h.0 d.0, disjoint_stays xs ys us h.1 d.1)

flip_one : (x y : Option Instr) → ((x ≡ None) ⊎ (y ≡ None)) → (y ≡ None) ⊎ (x ≡ None)
flip_one x y (inl e) = inr e
flip_one x y (inr e) = inl e

pub disjoint_flips : (xs ys : List (Option Instr)) → Disjoint xs ys → Disjoint ys xs
disjoint_flips [] [] d = tt
disjoint_flips [] (y ∷ ys) d = absurd d
disjoint_flips (x ∷ xs) [] d = absurd d
disjoint_flips (x ∷ xs) (y ∷ ys) d = (flip_one x y d.0, disjoint_flips xs ys d.1)

either_none : (x : Option Instr) → either_one x None ≡ x
either_none None = refl
either_none (Some a) = refl

either_flips : (x y : Option Instr) → ((x ≡ None) ⊎ (y ≡ None)) → either_one x y ≡ either_one y x
either_flips x y (inl e) = ap (λ x. either_one x y) e ∙ sym (either_none y) ∙ ap (either_one y) (sym e)
either_flips x y (inr e) = ap (either_one x) e ∙ either_none x ∙ ap (λ y. either_one y x) (sym e)

pub together_flips : (xs ys : List (Option Instr)) → Disjoint xs ys → together xs ys ≡ together ys xs
together_flips [] [] d = refl
together_flips [] (y ∷ ys) d = absurd d
together_flips (x ∷ xs) [] d = absurd d
together_flips (x ∷ xs) (y ∷ ys) d = λ i. either_flips x y d.0 i ∷ together_flips xs ys d.1 i

module _ (t e : Changeset Instr) where
  -- ---- what goes through some slots goes through these with others between them that it passes
  module _ (Class : Option Instr → Type 0) (closed : (x y u z : Option Instr) → Class y → meets_in (on_right meet e) t x y ≡ Some (u, z) → Class z) where
    abbrev Passed : List (Option Instr) → Type 0
    Passed [] = Unit {0}
    Passed (o ∷ os) = ((y : Option Instr) → Class y → meets_in (on_right meet e) t o y ≡ Some (o, y)) × Passed os

    record Over (xs os : List (Option Instr)) (y : Option Instr) (ts : List (Slot (Changeset Instr) Instr)) (z : Option Instr) : Type 0 where
      us : List (Option Instr)
      is : slots_of t us ≡ ts
      home : AllHome xs us
      all : Through (on_right meet e) (slots_of t (together xs os)) y (slots_of t (together us os)) z

    none_met : (y u v : Option Instr) → meets_in (on_right meet e) t None y ≡ Some (u, v) → (u ≡ None) × (v ≡ y)
    none_met None u v m = let p = some_is m in (sym (λ i. (p i).0), sym (λ i. (p i).1))
    none_met (Some b) u v m = let p = some_is m in (sym (λ i. (p i).0), sym (λ i. (p i).1))

    one_on : (x o y u v z : Option Instr) (xs os us : List (Option Instr)) → ((x ≡ None) ⊎ (o ≡ None)) → ((y : Option Instr) → Class y → meets_in (on_right meet e) t o y ≡ Some (o, y)) → Class y → meets_in (on_right meet e) t x y ≡ Some (u, v)
        → Through (on_right meet e) (slots_of t (together xs os)) v (slots_of t (together us os)) z
        → Through (on_right meet e) (slots_of t (either_one x o ∷ together xs os)) y (slots_of t (either_one u o ∷ together us os)) z
    one_on x o y u v z xs os us (inl g) pass k m r =
        let n = none_met y u v (ap (λ w. meets_in (on_right meet e) t w y) (sym g) ∙ m) in
        let here : meets_in (on_right meet e) t (either_one x o) y ≡ Some (either_one u o, v) = ap (λ w. meets_in (on_right meet e) t (either_one w o) y) g ∙ pass y k ∙ (λ i. Some (either_one (sym n.0 i) o, sym n.1 i)) in
        next here r
    one_on x o y u v z xs os us (inr g) pass k m r =
        let here : meets_in (on_right meet e) t (either_one x o) y ≡ Some (either_one u o, v) = ap (λ w. meets_in (on_right meet e) t w y) (ap (either_one x) g ∙ either_none x) ∙ m ∙ ap (λ w. Some (w, v)) (sym (ap (either_one u) g ∙ either_none u)) in
        next here r

    over : (xs os : List (Option Instr)) (y : Option Instr) {ts : List (Slot (Changeset Instr) Instr)} {z : Option Instr} → Class y → Disjoint xs os → Passed os → Through (on_right meet e) (slots_of t xs) y ts z → Over xs os y ts z
    over [] [] y k d p end = record { us = []; is = refl; home = tt; all = end }
    over [] (o ∷ os) y k d p h = absurd d
    over (x ∷ xs) [] y k d p h = absurd d
    over (x ∷ xs) (o ∷ os) y {z = z} k d p (next {x = u} {v = v} m r) =
        let rest = over xs os v (closed x y u v k m) d.1 p.1 r in
        record {
          us = u ∷ rest.us;
          is = ap (λ l. (t, u) ∷ l) rest.is;
          home = ((met_home t e x y u v m).0, rest.home);
          all = one_on x o y u v z xs os rest.us d.0 p.0 k m rest.all;
        }

  -- ---- members and strangers, each through its own
  module _ (p : CellPath) where
    member_closed : (x y u z : Option Instr) → Member p y → meets_in (on_right meet e) t x y ≡ Some (u, z) → Member p z
    member_closed x y u z k m = member_stays p y z ((met_home t e x y u z m).1) k

    stranger_closed : (x y u z : Option Instr) → Stranger p y → meets_in (on_right meet e) t x y ≡ Some (u, z) → Stranger p z
    stranger_closed x y u z k m = stranger_stays p y z ((met_home t e x y u z m).1) k

    members_pass : (os : List (Option Instr)) → AllMembers p os → Passed (Stranger p) stranger_closed os
    members_pass [] m = tt
    members_pass (o ∷ os) m = (λ y k. to_member p t e o y m.0 k, members_pass os m.1)

    strangers_pass : (os : List (Option Instr)) → AllStrangers p os → Passed (Member p) member_closed os
    strangers_pass [] m = tt
    strangers_pass (o ∷ os) m = (λ y k. to_stranger p t e o y m.0 k, strangers_pass os m.1)

    record Both (as_ bs ys ws : List (Option Instr)) (ts ss : List (Slot (Changeset Instr) Instr)) (zs vs : List (Option Instr)) : Type 0 where
      us : List (Option Instr)
      os : List (Option Instr)
      left : slots_of t us ≡ ts
      right : slots_of t os ≡ ss
      all : AllThrough (on_right meet e) (slots_of t (together as_ bs)) (together ys ws) (slots_of t (together us os)) (together zs vs)

    none_through : (bs : List (Option Instr)) {ss : List (Slot (Changeset Instr) Instr)} {w v : Option Instr} → w ≡ None → Through (on_right meet e) (slots_of t bs) w ss v → (slots_of t bs ≡ ss) × (v ≡ None)
    none_through [] g end = (refl, g)
    none_through (b ∷ bs) {w = w} g (next {x = u} {v = q} m r) =
        let f = some_is (ap (meets_in (on_right meet e) t b) (sym g) ∙ m) in
        let rest = none_through bs (sym (λ i. (f i).1)) r in
        ((λ i. (t, (f i).0) ∷ rest.0 i), rest.1)

    both : (ys ws as_ bs : List (Option Instr)) {ts ss : List (Slot (Changeset Instr) Instr)} {zs vs : List (Option Instr)} → Disjoint ys ws → AllMembers p ys → AllStrangers p ws → Disjoint as_ bs → AllMembers p as_ → AllStrangers p bs
        → AllThrough (on_right meet e) (slots_of t as_) ys ts zs → AllThrough (on_right meet e) (slots_of t bs) ws ss vs → Both as_ bs ys ws ts ss zs vs
    both [] [] as_ bs d m s f n k none none = record { us = as_; os = bs; left = refl; right = refl; all = none }
    both [] (w ∷ ws) as_ bs d m s f n k h g = absurd d
    both (y ∷ ys) [] as_ bs d m s f n k h g = absurd d
    both (y ∷ ys) (w ∷ ws) as_ bs {ts = tz} {ss = sz} d m s f n k (more {ts = ts} {z = z} {zs = zs} h hs) (more {ts = ss} {z = v} {zs = vs} g gs) =
        first d.0 (λ cs ds f' n' k' hs' gs'. both ys ws cs ds d.1 m.1 s.1 f' n' k' hs' gs')
      where
        first : ((y ≡ None) ⊎ (w ≡ None))
            → ((cs ds : List (Option Instr)) → Disjoint cs ds → AllMembers p cs → AllStrangers p ds → AllThrough (on_right meet e) (slots_of t cs) ys tz zs → AllThrough (on_right meet e) (slots_of t ds) ws sz vs → Both cs ds ys ws tz sz zs vs)
            → Both as_ bs (y ∷ ys) (w ∷ ws) tz sz (z ∷ zs) (v ∷ vs)
        first (inr gone) go =
            let o = over (Member p) member_closed as_ bs y m.0 f (strangers_pass bs k) h in
            let q = none_through bs gone g in
            let r = go o.us bs (disjoint_stays as_ bs o.us o.home f) (members_stay p as_ o.us o.home n) k
            (subst (λ l. AllThrough (on_right meet e) l ys tz zs) (sym o.is) hs) (subst (λ l. AllThrough (on_right meet e) l ws sz vs) (sym q.0) gs) in
            record {
              us = r.us;
              os = r.os;
              left = r.left;
              right = r.right;
              all = more (subst (λ y'. Through (on_right meet e) (slots_of t (together as_ bs)) y' (slots_of t (together o.us bs)) (either_one z v)) (sym (ap (either_one y) gone ∙ either_none y)) (subst (λ z'. Through (on_right meet e) (slots_of t (together as_ bs)) y (slots_of t (together o.us bs)) z') (sym (ap (either_one z) q.1 ∙ either_none z)) o.all)) r.all;
            }
        first (inl gone) go =
            let back = disjoint_flips as_ bs f in
            let o = over (Stranger p) stranger_closed bs as_ w s.0 back (members_pass as_ n) g in
            let q = none_through as_ gone h in
            let still = disjoint_stays bs as_ o.us o.home back in
            let r = go as_ o.us (disjoint_flips o.us as_ still) n (strangers_stay p bs o.us o.home k)
            (subst (λ l. AllThrough (on_right meet e) l ys tz zs) (sym q.0) hs) (subst (λ l. AllThrough (on_right meet e) l ws sz vs) (sym o.is) gs) in
            record {
              us = r.us;
              os = r.os;
              left = r.left;
              right = r.right;
              all = more (subst (λ y'. Through (on_right meet e) (slots_of t (together as_ bs)) y' (slots_of t (together as_ o.us)) (either_one z v)) (sym (ap (λ x. either_one x w) gone))
                  (subst (λ z'. Through (on_right meet e) (slots_of t (together as_ bs)) w (slots_of t (together as_ o.us)) z') (sym (ap (λ x. either_one x v) q.1))
                  (subst (λ l. Through (on_right meet e) (slots_of t l) w (slots_of t (together as_ o.us)) v) (sym (together_flips as_ bs f))
                  (subst (λ l. Through (on_right meet e) (slots_of t (together bs as_)) w (slots_of t l) v) (together_flips o.us as_ still) o.all)))) r.all;
            }

-- ---- of whole changesets
path_is : (p q : CellPath) → eq_by_cmp path_cmp q p ≡ true → q ≡ p
path_is p q h = tied_is path_exact q p h

list_member : (p : CellPath) (i : Instr) → is_of p i ≡ true → place_of i ≡ InCell p Placed
list_member p (instrs.ListInsert i) h = ap (λ q. InCell q Placed) (path_is p (path_of i.cell) h)
list_member p (instrs.ListErase i) h = ap (λ q. InCell q Placed) (path_is p (path_of i.cell) h)
list_member p (instrs.ListUpdate i) h = ap (λ q. InCell q Placed) (path_is p (path_of i.cell) h)
list_member p i h = cc

one_member : (p : CellPath) (x : Option Instr) → Member p (one_of p x)
one_member p None = tt
one_member p (Some i) = elim (is_of p i) as (λ b. is_of p i ≡ b → Member p (cond b (Some i) None)) [ true ↦ λ h. list_member p i h | false ↦ λ h. tt ] refl

all_members : (p : CellPath) (xs : List (Option Instr)) → AllMembers p (list_of p xs)
all_members p [] = tt
all_members p (x ∷ xs) = (one_member p x, all_members p xs)

one_apart : (p : CellPath) (x : Option Instr) → (one_of p x ≡ None) ⊎ (other_of p x ≡ None)
one_apart p None = inl refl
one_apart p (Some i) = elim (is_of p i) as (λ b. (cond b (Some i) None ≡ None) ⊎ (cond b None (Some i) ≡ None)) [ true ↦ inr refl | false ↦ inl refl ]

all_apart : (p : CellPath) (xs : List (Option Instr)) → Disjoint (list_of p xs) (others_of p xs)
all_apart p [] = tt
all_apart p (x ∷ xs) = (one_apart p x, all_apart p xs)

one_whole : (p : CellPath) (x : Option Instr) → either_one (one_of p x) (other_of p x) ≡ x
one_whole p None = refl
one_whole p (Some i) = elim (is_of p i) as (λ b. either_one (cond b (Some i) None) (cond b None (Some i)) ≡ Some i) [ true ↦ refl | false ↦ refl ]

all_whole : (p : CellPath) (xs : List (Option Instr)) → together (list_of p xs) (others_of p xs) ≡ xs
all_whole p [] = refl
all_whole p (x ∷ xs) = λ i. one_whole p x i ∷ all_whole p xs i

back : (t : Changeset Instr) (xs : List (Option Instr)) → map (λ (s : Slot (Changeset Instr) Instr). s.1) (slots_of t xs) ≡ xs
back t [] = refl
back t (x ∷ xs) = ap (λ l. x ∷ l) (back t xs)

same_slots : (t : Changeset Instr) (xs ys : List (Option Instr)) → slots_of t xs ≡ slots_of t ys → xs ≡ ys
same_slots t xs ys h = sym (back t xs) ∙ ap (map (λ (s : Slot (Changeset Instr) Instr). s.1)) h ∙ back t ys

-- those of a list cross, and so do the others
pub parts_cross : (own other : Stamp) (p : CellPath) (ys xs zl ul zo uo : List (Option Instr)) → AllStrangers p (others_of p ys) → AllStrangers p (others_of p xs)
    → CrossAll own other (list_of p ys) (list_of p xs) zl ul → CrossAll own other (others_of p ys) (others_of p xs) zo uo → CrossAll own other ys xs (together zl zo) (together ul uo)
parts_cross own other p ys xs zl ul zo uo sy sx h k t e f g =
    let meets = on_right meet e in
    let b = both t e p (list_of p ys) (others_of p ys) (list_of p xs) (others_of p xs) (all_apart p ys) (all_members p ys) sy (all_apart p xs) (all_members p xs) sx
    (all_of meets (list_of p ys) (slots_of t (list_of p xs)) (slots_of t ul) zl (h t e f g)) (all_of meets (others_of p ys) (slots_of t (others_of p xs)) (slots_of t uo) zo (k t e f g)) in
    (λ i. all_through meets (slots_of t (sym (all_whole p xs) i)) (sym (all_whole p ys) i))
    ∙ all_is meets b.all
    ∙ (λ i. Some (slots_of t (together (same_slots t b.us ul b.left i) (same_slots t b.os uo b.right i)), together zl zo))

part_one : (p : CellPath) (x : Option Instr) (w : Instr) → ((x ≡ None) ⊎ (x ≡ Some w)) → (other_of p x ≡ None) ⊎ (other_of p x ≡ Some w)
part_one p None w h = inl refl
part_one p (Some i) w h = elim (is_of p i) as (λ b. (cond b None (Some i) ≡ None) ⊎ (cond b None (Some i) ≡ Some w)) [ true ↦ inl refl | false ↦ h ]

pub others_part : (p : CellPath) (xs : List (Option Instr)) (ws : List Instr) → IsPart xs ws → IsPart (others_of p xs) ws
others_part p [] [] h = tt
others_part p [] (w ∷ ws) h = absurd h
others_part p (x ∷ xs) [] h = absurd h
others_part p (x ∷ xs) (w ∷ ws) h = (part_one p x w h.0, others_part p xs ws h.1)

pub strangers_more : (p : CellPath) (xs : List (Option Instr)) (x : Option Instr) → AllStrangers p (others_of p xs) → Stranger p (other_of p x) → AllStrangers p (others_of p (xs ++ x ∷ []))
strangers_more p [] x h k = (k, tt)
strangers_more p (y ∷ xs) x h k = (h.0, strangers_more p xs x h.1 k)

pub others_more : (p : CellPath) (xs : List (Option Instr)) (x : Option Instr) → others_of p (xs ++ x ∷ []) ≡ others_of p xs ++ other_of p x ∷ []
others_more p [] x = refl
others_more p (y ∷ xs) x = ap (λ l. other_of p y ∷ l) (others_more p xs x)

pub member_or_stranger : (p : CellPath) (i : Instr) → is_of p i ≡ true → Stranger p (other_of p (Some i))
member_or_stranger p i h = subst (λ b. Stranger p (cond b None (Some i))) (sym h) tt

pub stranger_there : (p : CellPath) (i : Instr) → Stranger p (Some i) → Stranger p (other_of p (Some i))
stranger_there p i h = elim (is_of p i) as (λ b. Stranger p (cond b None (Some i))) [ true ↦ tt | false ↦ h ]

pub together_more : (xs ys : List (Option Instr)) (x y : Option Instr) → length xs ≡ length ys → together (xs ++ x ∷ []) (ys ++ y ∷ []) ≡ together xs ys ++ either_one x y ∷ []
together_more [] [] x y h = refl
together_more [] (b ∷ ys) x y h = cc
together_more (a ∷ xs) [] x y h = cc
together_more (a ∷ xs) (b ∷ ys) x y h = let k : length xs ≡ length ys = omega (arith, h) in ap (λ l. either_one a b ∷ l) (together_more xs ys x y k)
