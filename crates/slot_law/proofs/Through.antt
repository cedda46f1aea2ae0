-- One or several instructions go through slots.
use Rattle.std.proofs.Common.{◌≡◌, Bool, true, false, List, [], ◌∷◌, ◌++◌, Option, Some, None, refl, sym, ap, subst}
use Rattle.sync_theory.specs.Lists.{and_then}
use Rattle.slot_law.specs.Slots.{Slot, Meets, meets_in, through, all_through, pick, put, Passes, PassesOthers, InClass, StaysInClass}
use Rattle.slot_law.specs.Laws.{Picks, Parts, Ends}

pub data Through {T I : Type 0} (meets : Meets T I) : List (Slot T I) → Option I → List (Slot T I) → Option I → Type 0 where
  end : {y : Option I} → Through meets [] y [] y
  next : {s : Slot T I} {ss ts : List (Slot T I)} {x y v z : Option I} → meets_in meets s.0 s.1 y ≡ Some (x, v) → Through meets ss v ts z → Through meets (s ∷ ss) y ((s.0, x) ∷ ts) z

pub data AllThrough {T I : Type 0} (meets : Meets T I) : List (Slot T I) → List (Option I) → List (Slot T I) → List (Option I) → Type 0 where
  none : {ss : List (Slot T I)} → AllThrough meets ss [] ss []
  more : {ss ts us : List (Slot T I)} {y z : Option I} {ys zs : List (Option I)} → Through meets ss y ts z → AllThrough meets ts ys us zs → AllThrough meets ss (y ∷ ys) us (z ∷ zs)

pub some_is : {A : Type 0} {x y : A} → Some x ≡ Some y → x ≡ y
some_is e = cc

module _ {T I : Type 0} (meets : Meets T I) where
  -- ---- the function and the derivations
  pub through_is : {ss ts : List (Slot T I)} {y z : Option I} → Through meets ss y ts z → through meets ss y ≡ Some (ts, z)
  through_is end = refl
  through_is (next e r) = rw (e, through_is r)

  abbrev Goes : List (Slot T I) → Option I → Type 0
  Goes ss y = (ts : List (Slot T I)) (z : Option I) → through meets ss y ≡ Some (ts, z) → Through meets ss y ts z

  through_rest : (s : Slot T I) (ss : List (Slot T I)) (y x v : Option I) → meets_in meets s.0 s.1 y ≡ Some (x, v) → (r : Option (List (Slot T I) × Option I)) → through meets ss v ≡ r → Goes ss v
      → (ts : List (Slot T I)) (z : Option I) → and_then {B = List (Slot T I) × Option I} r (λ q. Some ((s.0, x) ∷ q.0, q.1)) ≡ Some (ts, z) → Through meets (s ∷ ss) y ts z
  through_rest s ss y x v m None e go ts z h = cc
  through_rest s ss y x v m (Some q) e go ts z h =
      subst (λ (w : List (Slot T I) × Option I). Through meets (s ∷ ss) y w.0 w.1) (some_is h) (next m (go q.0 q.1 e))

  through_first : (s : Slot T I) (ss : List (Slot T I)) (y : Option I) (o : Option (Option I × Option I)) → meets_in meets s.0 s.1 y ≡ o → ((v : Option I) → Goes ss v)
      → (ts : List (Slot T I)) (z : Option I) → and_then {B = List (Slot T I) × Option I} o (λ p. and_then {B = List (Slot T I) × Option I} (through meets ss p.1) (λ q. Some ((s.0, p.0) ∷ q.0, q.1))) ≡ Some (ts, z) → Through meets (s ∷ ss) y ts z
  through_first s ss y None e go ts z h = cc
  through_first s ss y (Some p) e go ts z h = through_rest s ss y p.0 p.1 e (through meets ss p.1) refl (go p.1) ts z h

  pub through_of : (ss : List (Slot T I)) (y : Option I) → Goes ss y
  through_of [] y ts z h = subst (λ (w : List (Slot T I) × Option I). Through meets [] y w.0 w.1) (some_is h) end
  through_of (s ∷ ss) y ts z h = through_first s ss y (meets_in meets s.0 s.1 y) refl (through_of ss) ts z h

  abbrev AllGo : List (Slot T I) → List (Option I) → Type 0
  AllGo ss ys = (us : List (Slot T I)) (zs : List (Option I)) → all_through meets ss ys ≡ Some (us, zs) → AllThrough meets ss ys us zs

  all_rest : (ss ts : List (Slot T I)) (y z : Option I) (ys : List (Option I)) → Through meets ss y ts z → (r : Option (List (Slot T I) × List (Option I))) → all_through meets ts ys ≡ r → AllGo ts ys
      → (us : List (Slot T I)) (zs : List (Option I)) → and_then {B = List (Slot T I) × List (Option I)} r (λ q. Some (q.0, z ∷ q.1)) ≡ Some (us, zs) → AllThrough meets ss (y ∷ ys) us zs
  all_rest ss ts y z ys t None e go us zs h = cc
  all_rest ss ts y z ys t (Some q) e go us zs h =
      subst (λ (w : List (Slot T I) × List (Option I)). AllThrough meets ss (y ∷ ys) w.0 w.1) (some_is h) (more t (go q.0 q.1 e))

  all_first : (ss : List (Slot T I)) (y : Option I) (ys : List (Option I)) (o : Option (List (Slot T I) × Option I)) → through meets ss y ≡ o → ((ts : List (Slot T I)) → AllGo ts ys)
      → (us : List (Slot T I)) (zs : List (Option I)) → and_then {B = List (Slot T I) × List (Option I)} o (λ p. and_then {B = List (Slot T I) × List (Option I)} (all_through meets p.0 ys) (λ q. Some (q.0, p.1 ∷ q.1))) ≡ Some (us, zs) → AllThrough meets ss (y ∷ ys) us zs
  all_first ss y ys None e go us zs h = cc
  all_first ss y ys (Some p) e go us zs h = all_rest ss p.0 y p.1 ys (through_of ss y p.0 p.1 e) (all_through meets p.0 ys) refl (go p.0) us zs h

  pub all_of : (ys : List (Option I)) (ss : List (Slot T I)) → AllGo ss ys
  all_of [] ss us zs h = subst (λ (w : List (Slot T I) × List (Option I)). AllThrough meets ss [] w.0 w.1) (some_is h) none
  all_of (y ∷ ys) ss us zs h = all_first ss y ys (through meets ss y) refl (λ ts. all_of ys ts) us zs h

  -- ---- nothing is left of it
  pub none_left : (ss : List (Slot T I)) → Through meets ss None ss None
  none_left [] = end
  none_left (s ∷ ss) = next refl (none_left ss)

  -- ---- slots in two parts
  pub parts : {xs ys us vs : List (Slot T I)} {x y z : Option I} → Through meets xs x us y → Through meets ys y vs z → Through meets (xs ++ ys) x (us ++ vs) z
  parts end t = t
  parts (next e r) t = next e (parts r t)

  pub record Split (xs ys : List (Slot T I)) (y : Option I) (zs : List (Slot T I)) (z : Option I) : Type 0 where
    pub us : List (Slot T I)
    pub vs : List (Slot T I)
    pub mid : Option I
    pub first : Through meets xs y us mid
    pub second : Through meets ys mid vs z
    pub out : us ++ vs ≡ zs

  pub split : (xs : List (Slot T I)) {ys zs : List (Slot T I)} {y z : Option I} → Through meets (xs ++ ys) y zs z → Split xs ys y zs z
  split [] t = record { us = []; vs = _; mid = _; first = end; second = t; out = refl }
  split (s ∷ xs) (next {x = x} e r) =
      let p = split xs r in
      record { us = (s.0, x) ∷ p.us; vs = p.vs; mid = p.mid; first = next e p.first; second = p.second; out = ap (λ l. (s.0, x) ∷ l) p.out }

  pub record AllSplit (xs ys : List (Slot T I)) (bs : List (Option I)) (zs : List (Slot T I)) (cs : List (Option I)) : Type 0 where
    pub us : List (Slot T I)
    pub vs : List (Slot T I)
    pub mid : List (Option I)
    pub first : AllThrough meets xs bs us mid
    pub second : AllThrough meets ys mid vs cs
    pub out : us ++ vs ≡ zs

  -- all go through the first part, and what is left of them through the second
  pub all_split : (bs : List (Option I)) (xs : List (Slot T I)) {ys zs : List (Slot T I)} {cs : List (Option I)} → AllThrough meets (xs ++ ys) bs zs cs → AllSplit xs ys bs zs cs
  all_split [] xs none = record { us = xs; vs = _; mid = []; first = none; second = none; out = refl }
  all_split (b ∷ bs) xs {zs = zs} (more {zs = ws} t r) =
      let p = split xs t in
      let q = all_split bs p.us (subst (λ (l : List (Slot T I)). AllThrough meets l bs zs ws) (sym p.out) r) in
      record { us = q.us; vs = q.vs; mid = p.mid ∷ q.mid; first = more p.first q.first; second = more p.second q.second; out = q.out }

  -- ---- some of them
  module _ (Class : I → Bool) (stays : StaysInClass meets Class) where
    left_in_class : (t : T) (a y x v : Option I) → InClass Class y → meets_in meets t a y ≡ Some (x, v) → InClass Class v
    left_in_class t a None x v k e = let f = some_is e in subst (InClass Class) (ap (λ (w : Option I × Option I). w.1) f) tt
    left_in_class t None (Some b) x v k e = let f = some_is e in subst (InClass Class) (ap (λ (w : Option I × Option I). w.1) f) k
    left_in_class t (Some a) (Some b) x v k e = stays t a b x v k e

    pass : (s : Slot T I) (y : Option I) → InClass Class y → Passes meets Class s → meets_in meets s.0 s.1 y ≡ Some (s.1, y)
    pass s None k p = refl
    pass s (Some b) k p = p b k

    passed : (s : Slot T I) {ss ts : List (Slot T I)} (y z : Option I) → InClass Class y → Passes meets Class s → Through meets ss y ts z → Through meets (s ∷ ss) y (s ∷ ts) z
    passed s y z k p t = next (pass s y k p) t

    pass_all : (ss : List (Slot T I)) (y : Option I) → InClass Class y → PassesOthers meets Class [] ss → Through meets ss y ss y
    pass_all [] y k p = end
    pass_all (s ∷ ss) y k p = passed s y y k p.0 (pass_all ss y k p.1)

    pub picked : (ms : List Bool) (ss : List (Slot T I)) {us : List (Slot T I)} (y : Option I) {z : Option I} → InClass Class y → PassesOthers meets Class ms ss → Through meets (pick ms ss) y us z → Through meets ss y (put ms ss us) z
    picked [] ss y k p end = pass_all ss y k p
    picked (m ∷ ms) [] y k p end = end
    picked (true ∷ ms) (s ∷ ss) y k p (next {v = v} e r) = next e (picked ms ss v (left_in_class s.0 s.1 y _ v k e) p r)
    picked (false ∷ ms) (s ∷ ss) y {z} k p t = passed s y z k p.0 (picked ms ss y k p.1 t)

  -- ---- as the laws have it
  pub picks : Picks meets
  picks Class stays ms ss us y z k p h = through_is (picked Class stays ms ss y k p (through_of (pick ms ss) y us z h))

  pub both_parts : Parts meets
  both_parts xs ys us vs x y z h k = through_is (parts (through_of xs x us y h) (through_of ys y vs z k))

  pub ends : Ends meets
  ends ss = through_is (none_left ss)

  -- ---- and back
  pub all_is : {ss us : List (Slot T I)} {ys zs : List (Option I)} → AllThrough meets ss ys us zs → all_through meets ss ys ≡ Some (us, zs)
  all_is none = refl
  all_is (more t r) = rw (through_is t, all_is r)

  pub all_join : {xs ys us vs : List (Slot T I)} {bs mid cs : List (Option I)} → AllThrough meets xs bs us mid → AllThrough meets ys mid vs cs → AllThrough meets (xs ++ ys) bs (us ++ vs) cs
  all_join none none = none
  all_join (more t r) (more s q) = more (parts t s) (all_join r q)

  pub no_slots : (ys : List (Option I)) → AllThrough meets [] ys [] ys
  no_slots [] = none
  no_slots (y ∷ ys) = more end (no_slots ys)
