-- Slots of one list in a lane: what the lane tells of them, and what crosses it.
use Rattle.std.proofs.Common.{◌≡◌, ℕ, zero, suc, ◌+◌, ◌<◌, Bool, true, false, cond, not, List, [], ◌∷◌, ◌++◌, append_assoc, append-nil, length, map, drop, Option, Some, None, IfSome, refl, sym, ap, ◌∙◌, subst, arith}
use Rattle.sync_data.specs.declared.value.Value.{Value}
use Rattle.sync_data.specs.declared.value.Value.TheVariants as values
use Rattle.sync_data.specs.declared.entry.Stamp.{Stamp}
use Rattle.sync_data.specs.declared.instr.CellName.{CellName}
use Rattle.sync_data.specs.declared.instr.Instr.{Instr}
use Rattle.sync_base.specs.Effects.{path_of}
use Rattle.sync_base.specs.Rules.{top}
use Rattle.sync_theory.specs.Changesets.{Changeset}
use Rattle.sync_theory.specs.Grid.{tail}
use Rattle.sync_law.specs.Instrs.{meet}
use Rattle.list_places.specs.Places.{Within, place_after}
use Rattle.list_places.specs.Moves.{instr_at, moved as moved_instr}
use Rattle.list_places.specs.declared.places.Does.{Does}
use Rattle.list_places.specs.declared.places.Does.TheVariants.{Inserts, Erases, Updates}
use Rattle.list_lane.specs.Ops.{moved, op_after, lane_later}
use Rattle.list_lane.specs.Lanes.{LaneOf, crossed, first_slot, without_first, lane_after, length_after, length_at_end, Chains, IsLeftOf}
use Rattle.list_lane.specs.Told.{action, stamp_of}
use Rattle.list_lane.specs.declared.op.Op.{Op}
use Rattle.slot_law.specs.Slots.{through, all_through, slots_of, on_right}
use Rattle.slot_law.specs.Lanes.{told_by, told_slots, Owned}
use Rattle.slot_law.proofs.Through.{ends}
use Rattle.slot_law.proofs.Going.{goes_right, still_owned}
use Rattle.long_sets.specs.Parts.{is_of, one_of, list_of, CrossAll}
use Rattle.long_sets.specs.Lists.{Suits, AllSuit, ToldSlot, owned_by, TellsList, GoesOne, GoesAll}
use Rattle.long_sets.proofs.Whole.{one_more}

-- ---- one slot
pub nothing_told : (c : CellName) (n : ℕ) → ToldSlot c n None None
nothing_told c n = record { value = values.Null; is = refl; suits = tt }

pub other_told : (c : CellName) (n : ℕ) (i : Instr) → is_of (path_of c) i ≡ false → ToldSlot c n (Some i) None
other_told c n i h = record { value = values.Null; is = ap (λ b. cond b (Some i) None) h; suits = tt }

pub member_told : (c own : CellName) (n m : ℕ) (i : Instr) (v : Value) (a : Op) → is_of (path_of c) i ≡ true → i ≡ instr_at own v a.does a.place m → own ≡ c → m ≡ n → ToldSlot c n (Some i) (Some a)
member_told c own n m i v a h e f g =
    let is : i ≡ instr_at c v a.does a.place n = e ∙ (λ k. instr_at (f k) v a.does a.place (g k)) in
    record {
      value = v;
      is = ap (λ b. cond b (Some i) None) h ∙ ap Some is;
      suits = (a.place, n, ap Some is);
    }

pub does_there : (c : CellName) (v : Value) (d : Does) (p q n m : ℕ) → moved_instr (action d p n) (instr_at c v d q m) ≡ instr_at c v d p n
does_there c v Inserts p q n m = refl
does_there c v Erases p q n m = refl
does_there c v Updates p q n m = refl

some_is : {A : Type 0} {x y : A} → ◌≡◌ {A = Option A} (Some x) (Some y) → x ≡ y
some_is e = cc

pub told_is : (c : CellName) (v : Value) (i j : Instr) (a : Op) (n : ℕ) → Suits c v (Some i) (Some a) → j ≡ moved_instr (action a.does a.place n) i → Some j ≡ told_by c v n (Some a)
told_is c v i j a n s e = ap Some (e ∙ ap (moved_instr (action a.does a.place n)) (some_is s.2) ∙ does_there c v a.does a.place s.0 n s.1)

-- what is left of it suits the slot too
pub left_suits : (c : CellName) (v : Value) (x : Option Instr) (a : Op) (n : ℕ) (s : Option Op) → Suits c v x (Some a) → IfSome s (IsLeftOf a n) → Suits c v x s
left_suits c v x a n None h k = tt
left_suits c v x a n (Some b) h k = (h.0, h.1, h.2 ∙ ap (λ d. Some (instr_at c v d h.0 h.1)) (sym k.does))

moved_suits : (c : CellName) (v : Value) (x : Option Instr) (a : Op) (p : Option ℕ) → Suits c v x (Some a) → Suits c v x (moved a p)
moved_suits c v x a None h = tt
moved_suits c v x a (Some p) h = h

pub suits_stay : (c : CellName) (l : Stamp → Stamp → Bool) (ss : List (Option Op)) (b : Option Op) (vs : List Value) (xs : List (Option Instr)) → AllSuit c vs xs ss → AllSuit c vs xs (crossed l ss b).slots
suits_stay c l [] b vs xs h = h
suits_stay c l (s ∷ ss) None vs xs h = h
suits_stay c l (s ∷ ss) (Some b) [] [] h = absurd h
suits_stay c l (s ∷ ss) (Some b) [] (x ∷ xs) h = absurd h
suits_stay c l (s ∷ ss) (Some b) (v ∷ vs) [] h = absurd h
suits_stay c l (None ∷ ss) (Some b) (v ∷ vs) (x ∷ xs) h = (tt, suits_stay c l ss (Some b) vs xs h.1)
suits_stay c l (Some a ∷ ss) (Some b) (v ∷ vs) (x ∷ xs) h = (
  moved_suits c v x a (place_after (l a.stamp b.stamp) a.does a.place b.does b.place) h.0,
  suits_stay c l ss (op_after (not (l a.stamp b.stamp)) b a) vs xs h.1,
)

-- ---- a slot more
pub tells_nothing : (c : CellName) (s : Stamp) (n : ℕ) → TellsList c s [] (record { first = n; slots = [] })
tells_nothing c s n = record { values = []; suit = tt; told = λ t. refl; owned = λ t h. tt }

suit_more : (c : CellName) (vs : List Value) (xs : List (Option Instr)) (ss : List (Option Op)) (v : Value) (x : Option Instr) (s : Option Op) → AllSuit c vs xs ss → Suits c v x s → AllSuit c (vs ++ v ∷ []) (xs ++ x ∷ []) (ss ++ s ∷ [])
suit_more c [] [] [] v x s h k = (k, tt)
suit_more c [] [] (o ∷ ss) v x s h k = absurd h
suit_more c [] (y ∷ xs) ss v x s h k = absurd h
suit_more c (w ∷ vs) [] ss v x s h k = absurd h
suit_more c (w ∷ vs) (y ∷ xs) [] v x s h k = absurd h
suit_more c (w ∷ vs) (y ∷ xs) (o ∷ ss) v x s h k = (h.0, suit_more c vs xs ss v x s h.1 k)

told_more : (c : CellName) (t : Changeset Instr) (n : ℕ) (vs : List Value) (xs : List (Option Instr)) (ss : List (Option Op)) (v : Value) (s : Option Op) → AllSuit c vs xs ss
    → told_slots c n (ss ++ s ∷ []) (owned_by t (vs ++ v ∷ [])) ≡ told_slots c n ss (owned_by t vs) ++ (t, told_by c v (length_at_end n ss) s) ∷ []
told_more c t n [] [] [] v s h = refl
told_more c t n [] [] (o ∷ ss) v s h = absurd h
told_more c t n [] (y ∷ xs) ss v s h = absurd h
told_more c t n (w ∷ vs) [] ss v s h = absurd h
told_more c t n (w ∷ vs) (y ∷ xs) [] v s h = absurd h
told_more c t n (w ∷ vs) (y ∷ xs) (o ∷ ss) v s h = ap (λ l. (t, told_by c w n o) ∷ l) (told_more c t (length_after o n) vs xs ss v s h.1)

owned_one : (t : Changeset Instr) (s : Option Op) (v : Value) → IfSome s (λ a. stamp_of t ≡ a.stamp) → Owned (s ∷ []) ((t, v) ∷ [])
owned_one t None v h = tt
owned_one t (Some a) v h = (h, tt)

owned_more : (c : CellName) (t : Changeset Instr) (vs : List Value) (xs : List (Option Instr)) (ss : List (Option Op)) (v : Value) (s : Option Op) → AllSuit c vs xs ss → IfSome s (λ a. stamp_of t ≡ a.stamp) → Owned ss (owned_by t vs) → Owned (ss ++ s ∷ []) (owned_by t (vs ++ v ∷ []))
owned_more c t [] [] [] v s h k o = owned_one t s v k
owned_more c t [] [] (o' ∷ ss) v s h k o = absurd h
owned_more c t [] (y ∷ xs) ss v s h k o = absurd h
owned_more c t (w ∷ vs) [] ss v s h k o = absurd h
owned_more c t (w ∷ vs) (y ∷ xs) [] v s h k o = absurd h
owned_more c t (w ∷ vs) (y ∷ xs) (None ∷ ss) v s h k o = owned_more c t vs xs ss v s h.1 k o
owned_more c t (w ∷ vs) (y ∷ xs) (Some a ∷ ss) v s h k o = (o.0, owned_more c t vs xs ss v s h.1 k o.1)

map_more : {A B : Type 0} (f : A → B) (xs : List A) (x : A) → map f (xs ++ x ∷ []) ≡ map f xs ++ f x ∷ []
map_more f [] x = refl
map_more f (y ∷ xs) x = ap (λ l. f y ∷ l) (map_more f xs x)

stamped : (s : Option Op) (t u : Stamp) → t ≡ u → IfSome s (λ a. a.stamp ≡ u) → IfSome s (λ a. t ≡ a.stamp)
stamped None t u e h = tt
stamped (Some a) t u e h = e ∙ sym h

pub tells_more : (c : CellName) (s : Stamp) (xs : List (Option Instr)) (a b : LaneOf) (x : Option Instr) (o : Option Op) → TellsList c s xs a → ToldSlot c (length_at_end a.first a.slots) x o → IfSome o (λ a. a.stamp ≡ s)
    → b ≡ record { first = a.first; slots = a.slots ++ o ∷ [] } → TellsList c s (xs ++ x ∷ []) b
tells_more c s xs a b x o h k st e =
    let p = path_of c in
    subst (TellsList c s (xs ++ x ∷ [])) (sym e) (record {
      values = h.values ++ k.value ∷ [];
      suit = suit_more c h.values xs a.slots k.value x o h.suit k.suits;
      told = λ t.
          told_more c t a.first h.values xs a.slots k.value o h.suit
          ∙ (λ i. h.told t i ++ (t, sym k.is i) ∷ [])
          ∙ sym (map_more (λ (y : Option Instr). (t, y)) (list_of p xs) (one_of p x))
          ∙ ap (slots_of t) (sym (map_more (one_of p) xs x));
      owned = λ t g. owned_more c t h.values xs a.slots k.value o h.suit (stamped o (stamp_of t) s g st) (h.owned t g);
    })

-- ---- crossing
pub none_goes : (c : CellName) (own : Stamp) (n : ℕ) (x : Option Instr) (o : Option Op) (a : LaneOf) → ToldSlot c n x o → o ≡ None → GoesOne c own (one_of (path_of c) x) None a a
none_goes c own n x o a k e =
    let gone : one_of (path_of c) x ≡ None = k.is ∙ ap (told_by c k.value n) e in
    record {
      goes = λ f vs st ow. (ap (through (on_right meet f) (told_slots c a.first a.slots vs)) gone ∙ ends (on_right meet f) (told_slots c a.first a.slots vs), ow);
      suit = λ vs xs h. h;
    }

pub one_goes : (c : CellName) (own : Stamp) (x : Option Instr) (o : Option Op) (op : Op) (a b : LaneOf) (rest : Option Op) (z : Option Instr) → ToldSlot c a.first x o → o ≡ Some op → op.stamp ≡ own → Chains a.first a.slots → a.first + length a.slots + 1 < top → Within op.does op.place a.first
    → b ≡ lane_after (lane_later false) a op → rest ≡ (crossed (lane_later false) a.slots (Some op)).left → IfSome rest (IsLeftOf op (length_at_end a.first a.slots))
    → ((v : Value) → Suits c v x rest → z ≡ told_by c v (length_at_end a.first a.slots) rest) → GoesOne c own (one_of (path_of c) x) z a b
one_goes c own x o op a b rest z k e st ch room w is r left told =
    let here : one_of (path_of c) x ≡ told_by c k.value a.first (Some op) = k.is ∙ ap (told_by c k.value a.first) e in
    let z_is = told k.value (left_suits c k.value x op (length_at_end a.first a.slots) rest (subst (Suits c k.value x) e k.suits) left) in
    record {
      goes = λ f vs sf ow. (
        ap (through (on_right meet f) (told_slots c a.first a.slots vs)) here
            ∙ goes_right c a op k.value f vs ch (omega (arith, room)) w ow (sf ∙ sym st)
            ∙ (λ i. Some (told_slots c (sym is i).first (sym is i).slots vs, (ap (told_by c k.value (length_at_end a.first a.slots)) (sym r) ∙ sym z_is) i)),
        subst (λ (l : LaneOf). Owned l.slots vs) (sym is) (still_owned false a op vs ow),
      );
      suit = λ vs xs h. subst (λ (l : LaneOf). AllSuit c vs xs l.slots) (sym is) (suits_stay c (lane_later false) a.slots (Some op) vs xs h);
    }

pub none_go : (c : CellName) (own : Stamp) (a : LaneOf) → GoesAll c own [] [] a a
none_go c own a = record { goes = λ e vs st ow. (refl, ow); suit = λ vs xs h. h }

pub more_go : (c : CellName) (own : Stamp) (xs zs : List (Option Instr)) (x z : Option Instr) (a m b : LaneOf) → GoesAll c own (list_of (path_of c) xs) zs a m → GoesOne c own (one_of (path_of c) x) z m b → GoesAll c own (list_of (path_of c) (xs ++ x ∷ [])) (zs ++ z ∷ []) a b
more_go c own xs zs x z a m b h k = record {
  goes = λ e vs st ow.
      let first = h.goes e vs st ow in
      let next = k.goes e vs st first.1 in (
        ap (all_through (on_right meet e) (told_slots c a.first a.slots vs)) (map_more (one_of (path_of c)) xs x)
            ∙ one_more (on_right meet e) (told_slots c a.first a.slots vs) (told_slots c m.first m.slots vs) (told_slots c b.first b.slots vs) (list_of (path_of c) xs) zs (one_of (path_of c) x) z first.0 next.0,
        next.1,
      );
  suit = λ vs ys s. k.suit vs ys (h.suit vs ys s);
}

-- ---- reading
pub record Reading (c : CellName) (vs : List Value) (xs : List (Option Instr)) (n : ℕ) (ss : List (Option Op)) (z : Option Instr) : Type 0 where
  pub rest : AllSuit c (tail vs) xs (without_first n ss).slots
  pub told : (t : Changeset Instr) → told_slots c n ss (owned_by t vs) ≡ (t, z) ∷ told_slots c (without_first n ss).first (without_first n ss).slots (owned_by t (tail vs))

pub reads_one : (c : CellName) (vs : List Value) (x : Option Instr) (xs : List (Option Instr)) (n : ℕ) (ss : List (Option Op)) (z : Option Instr) → AllSuit c vs (x ∷ xs) ss → ((v : Value) → Suits c v x (first_slot ss) → z ≡ told_by c v n (first_slot ss)) → Reading c vs xs n ss z
reads_one c [] x xs n ss z h f = absurd h
reads_one c (v ∷ vs) x xs n [] z h f = absurd h
reads_one c (v ∷ vs) x xs n (s ∷ ss) z h f = record {
  rest = h.1;
  told = λ t. ap (λ y. (t, y) ∷ told_slots c (length_after s n) ss (owned_by t vs)) (sym (f v h.0));
}

pub all_read : (c : CellName) (vs : List Value) (ss : List (Option Op)) (n : ℕ) (t : Changeset Instr) → AllSuit c vs [] ss → told_slots c n ss (owned_by t vs) ≡ []
all_read c [] [] n t h = refl
all_read c [] (s ∷ ss) n t h = absurd h
all_read c (v ∷ vs) ss n t h = absurd h

pub tail_drop : {A : Type 0} (xs : List A) (n : ℕ) → tail (drop n xs) ≡ drop (suc n) xs
tail_drop [] zero = refl
tail_drop [] (suc n) = refl
tail_drop (x ∷ xs) zero = refl
tail_drop (x ∷ xs) (suc n) = tail_drop xs n

-- so many slots were read
pub record SoFar (c : CellName) (vs : List Value) (k : ℕ) (xs : List (Option Instr)) (a b : LaneOf) (read : List (Option Instr)) : Type 0 where
  pub rest : AllSuit c (drop k vs) (drop k xs) b.slots
  pub told : (t : Changeset Instr) → slots_of t read ++ told_slots c b.first b.slots (owned_by t (drop k vs)) ≡ told_slots c a.first a.slots (owned_by t vs)

pub nothing_read : (c : CellName) (vs : List Value) (xs : List (Option Instr)) (a : LaneOf) → AllSuit c vs xs a.slots → SoFar c vs 0 xs a a []
nothing_read c vs xs a h = record { rest = h; told = λ t. refl }

pub reads_on : (c : CellName) (vs : List Value) (k m : ℕ) (x : Option Instr) (xs : List (Option Instr)) (a b d : LaneOf) (read : List (Option Instr)) (z : Option Instr) → m ≡ suc k → SoFar c vs k xs a b read → drop k xs ≡ x ∷ drop m xs → d ≡ without_first b.first b.slots
    → ((v : Value) → Suits c v x (first_slot b.slots) → z ≡ told_by c v b.first (first_slot b.slots)) → SoFar c vs m xs a d (read ++ z ∷ [])
reads_on c vs k m x xs a b d read z n h next e f =
    let one = reads_one c (drop k vs) x (drop m xs) b.first b.slots z (subst (λ ys. AllSuit c (drop k vs) ys b.slots) next h.rest) f in
    let same : tail (drop k vs) ≡ drop m vs = tail_drop vs k ∙ ap (λ i. drop i vs) (sym n) in
    subst (λ (l : LaneOf). SoFar c vs m xs a l (read ++ z ∷ [])) (sym e) (record {
      rest = subst (λ ws. AllSuit c ws (drop m xs) (without_first b.first b.slots).slots) same one.rest;
      told = λ t.
          ap (λ l. l ++ told_slots c (without_first b.first b.slots).first (without_first b.first b.slots).slots (owned_by t (drop m vs))) (map_more (λ (y : Option Instr). (t, y)) read z)
          ∙ append_assoc (slots_of t read) ((t, z) ∷ []) (told_slots c (without_first b.first b.slots).first (without_first b.first b.slots).slots (owned_by t (drop m vs)))
          ∙ ap (λ ws. slots_of t read ++ (t, z) ∷ told_slots c (without_first b.first b.slots).first (without_first b.first b.slots).slots (owned_by t ws)) (sym same)
          ∙ ap (λ l. slots_of t read ++ l) (sym (one.told t))
          ∙ h.told t;
    })

pub reads_all : (c : CellName) (vs : List Value) (k : ℕ) (xs : List (Option Instr)) (a b : LaneOf) (read : List (Option Instr)) → drop k xs ≡ [] → SoFar c vs k xs a b read → (t : Changeset Instr) → told_slots c a.first a.slots (owned_by t vs) ≡ slots_of t read
reads_all c vs k xs a b read e h t =
    sym (h.told t)
    ∙ ap (λ l. slots_of t read ++ l) (all_read c (drop k vs) b.slots b.first t (subst (λ ys. AllSuit c (drop k vs) ys b.slots) e h.rest))
    ∙ append-nil (slots_of t read)

-- ---- all of it
pub list_crosses : (c : CellName) (own other : Stamp) (ys xs zs us : List (Option Instr)) (a b : LaneOf) → TellsList c other xs a → GoesAll c own (list_of (path_of c) ys) zs a b
    → ((c : CellName) (vs : List Value) → AllSuit c vs xs b.slots → (t : Changeset Instr) → told_slots c b.first b.slots (owned_by t vs) ≡ slots_of t us) → CrossAll own other (list_of (path_of c) ys) (list_of (path_of c) xs) zs us
list_crosses c own other ys xs zs us a b h k read t e f g =
    let go = k.goes e (owned_by t h.values) f (h.owned t g) in
    ap (λ l. all_through (on_right meet e) l (list_of (path_of c) ys)) (sym (h.told t))
    ∙ go.0
    ∙ ap (λ l. Some (l, zs)) (read c h.values (k.suit h.values xs h.suit) t)
