-- What a server keeps of its history stays right.
use Rattle.std.proofs.Common.{◌≡◌, ℕ, zero, suc, ◌+◌, ◌-◌, ◌<◌, ◌≤◌, ◌==◌, Bool, true, false, not, List, [], ◌∷◌, ◌++◌, length, get_or, set, map, drop, All, Result, Ok, Err, IfOk, IfErr, OnOk, OnErr, Option, Some, None, IfSome, is_some, if◌then◌else◌, nat_lt, refl, sym, subst, arith, length-append, length-set}
use Rattle.std.proofs.lemmas.Bool.{eqb-false, ltb-true}
use Rattle.std.proofs.lemmas.List.Elements.{All-nil, All-cons, All-head, All-tail, All-push}
use Rattle.sync_data.specs.declared.entry.Entry.{Entry}
use Rattle.sync_data.specs.declared.instr.Instr.{Instr}
use Rattle.sync_recip.specs.Lists.{entry_of}
use Rattle.sync_theory.specs.Changesets.{Changeset}
use Rattle.sync_theory.specs.Reciprocals.{from_base, settle}
use Rattle.sync_exchange.specs.Profile.{fits_changeset}
use Rattle.sync_model.specs.Parts.{Given, extended, longer_list, with_versions}
use Rattle.server_memory.specs.History.{HistoryParts, IsHistory, IsEntry, IsOther, IsReciprocal, AreGiven, len_of}
use Rattle.server_memory.specs.Extending.{first_extended}

-- ---- what holds of all holds of each
pub all_to : {X : Type 0} (P Q : X → Type 0) (xs : List X) → ((x : X) → P x → Q x) → All P xs → All Q xs
all_to P Q xs f a = λ k d h. f (get_or xs k d) (a k d h)

-- ---- reciprocal lists
later : (len m c : ℕ) (qs : List (ℕ × Changeset Instr)) → len ≤ m → All (IsReciprocal len c) qs → All (IsReciprocal m c) qs
later len m c qs h a = all_to (IsReciprocal len c) (IsReciprocal m c) qs (λ q r. record { before = omega (arith, r.before); entry = r.entry }) a

pub settle_keeps : (len c b : ℕ) (qs : List (ℕ × Changeset Instr)) (es : List (Changeset Instr)) → All (IsReciprocal len c) qs → All (IsOther c) es → All (IsReciprocal len c) (settle b qs es)
settle_keeps len c b [] es a o = All-nil (IsReciprocal len c)
settle_keeps len c b (q ∷ qs) [] a o =
    elim (nat_lt q.0 b) as (λ t. All (IsReciprocal len c) (if t then q ∷ settle b qs [] else q ∷ settle b qs [])) [
      | true ↦ All-cons (IsReciprocal len c) q (settle b qs []) (All-head (IsReciprocal len c) q qs a) (settle_keeps len c b qs [] (All-tail (IsReciprocal len c) q qs a) o)
      | false ↦ All-cons (IsReciprocal len c) q (settle b qs []) (All-head (IsReciprocal len c) q qs a) (settle_keeps len c b qs [] (All-tail (IsReciprocal len c) q qs a) o)
    ]
settle_keeps len c b (q ∷ qs) (e ∷ es) a o =
    let first = All-head (IsReciprocal len c) q qs a in
    let rest = All-tail (IsReciprocal len c) q qs a in
    let other = All-head (IsOther c) e es o in
    elim (nat_lt q.0 b) as (λ t. All (IsReciprocal len c) (if t then q ∷ settle b qs (e ∷ es) else (q.0, e) ∷ settle b qs es)) [
      | true ↦ All-cons (IsReciprocal len c) q (settle b qs (e ∷ es)) first (settle_keeps len c b qs (e ∷ es) rest o)
      | false ↦ All-cons (IsReciprocal len c) (q.0, e) (settle b qs es) (record { before = first.before; entry = other }) (settle_keeps len c b qs es rest (All-tail (IsOther c) e es o))
    ]

pub others_from : (len c b : ℕ) (qs : List (ℕ × Changeset Instr)) → All (IsReciprocal len c) qs → All (IsOther c) (from_base b qs)
others_from len c b [] a = All-nil (IsOther c)
others_from len c b (q ∷ qs) a =
    let rest = others_from len c b qs (All-tail (IsReciprocal len c) q qs a) in
    elim (nat_lt q.0 b) as (λ t. All (IsOther c) (if t then from_base b qs else q.1 ∷ from_base b qs)) [
      | true ↦ rest
      | false ↦ All-cons (IsOther c) q.1 (from_base b qs) (All-head (IsReciprocal len c) q qs a).entry rest
    ]

pub versions_keep : (n c k m : ℕ) (es : List (Changeset Instr)) → n < c → k + length es ≤ m → All (IsEntry n) es → All (IsReciprocal m c) (with_versions k es)
versions_keep n c k m [] h l a = All-nil (IsReciprocal m c)
versions_keep n c k m (e ∷ es) h l a =
    let first = All-head (IsEntry n) e es a in
    All-cons (IsReciprocal m c) (k, e) (with_versions (suc k) es) (record { before = omega arith; entry = record { other = λ is. omega (arith, is, first.within); small = first.small } })
    (versions_keep n c (suc k) m es h (omega arith) (All-tail (IsEntry n) e es a))

-- ---- all idents
pub given_later : (len m c : ℕ) (gs : List (Given Instr)) → len ≤ m → AreGiven len c gs → AreGiven m c gs
given_later len m c [] h a = tt
given_later len m c (g ∷ gs) h a = (later len m c g.reciprocal h a.0, given_later len m (suc c) gs h a.1)

pub given_at : (len c j : ℕ) (gs : List (Given Instr)) (d : Given Instr) → j < length gs → AreGiven len c gs → All (IsReciprocal len (c + j)) (get_or gs j d).reciprocal
given_at len c j [] d h a = absurd (omega arith)
given_at len c zero (g ∷ gs) d h a = let e : c ≡ c + 0 = omega arith in subst (λ n. All (IsReciprocal len n) g.reciprocal) e a.0
given_at len c (suc j) (g ∷ gs) d h a = let e : suc c + j ≡ c + suc j = omega arith in subst (λ n. All (IsReciprocal len n) (get_or gs j d).reciprocal) e (given_at len (suc c) j gs d (omega arith) a.1)

pub given_set : (len c j : ℕ) (gs : List (Given Instr)) (g : Given Instr) → AreGiven len c gs → All (IsReciprocal len (c + j)) g.reciprocal → AreGiven len c (set gs j g)
given_set len c j [] g a h = tt
given_set len c zero (f ∷ gs) g a h = let e : c + 0 ≡ c = omega arith in (subst (λ n. All (IsReciprocal len n) g.reciprocal) e h, a.1)
given_set len c (suc j) (f ∷ gs) g a h = let e : c + suc j ≡ suc c + j = omega arith in (a.0, given_set len (suc c) j gs g a.1 (subst (λ n. All (IsReciprocal len n) g.reciprocal) e h))

pub given_push : (len c : ℕ) (gs : List (Given Instr)) (g : Given Instr) → AreGiven len c gs → All (IsReciprocal len (c + length gs)) g.reciprocal → AreGiven len c (gs ++ g ∷ [])
given_push len c [] g a h = let e : c + 0 ≡ c = omega arith in (subst (λ n. All (IsReciprocal len n) g.reciprocal) e h, tt)
given_push len c (f ∷ gs) g a h = let e : c + suc (length gs) ≡ suc c + length gs = omega arith in (a.0, given_push len (suc c) gs g a.1 (subst (λ n. All (IsReciprocal len n) g.reciprocal) e h))

pub given_below : (len c : ℕ) (gs : List (Given Instr)) → AreGiven len c gs → All (λ g. All (λ q. q.0 < len) g.reciprocal) gs
given_below len c [] a = All-nil (λ g. All (λ q. q.0 < len) g.reciprocal)
given_below len c (g ∷ gs) a =
    All-cons (λ g. All (λ q. q.0 < len) g.reciprocal) g gs (all_to (IsReciprocal len c) (λ q. q.0 < len) g.reciprocal (λ q r. r.before) a.0) (given_below len (suc c) gs a.1)

-- a list with one entry more, unless its ident is retired
longer_keeps : (len c : ℕ) (o : Option ℕ) (qs : List (ℕ × Changeset Instr)) (q : ℕ × Changeset Instr) → All (IsReciprocal len c) qs → IsReciprocal len c q → All (IsReciprocal len c) (longer_list o qs q)
longer_keeps len c None qs q a h = All-push (IsReciprocal len c) qs q a h
longer_keeps len c (Some by) qs q a h = a

-- each ident but the own one gets an entry
pub given_extended : (own len n k : ℕ) (x : Changeset Instr) (gs : List (Given Instr)) → x.origin ≡ suc own → fits_changeset x.instrs ≡ true → AreGiven len (suc k) gs → AreGiven (suc len) (suc k) (first_extended n own len x k gs)
given_extended own len zero k x gs e f a = given_later len (suc len) (suc k) gs (omega arith) a
given_extended own len (suc n) k x [] e f a = tt
given_extended own len (suc n) k x (g ∷ gs) e f a = (go (k == own) refl, given_extended own len n (suc k) x gs e f a.1)
  where
    old : All (IsReciprocal (suc len) (suc k)) g.reciprocal
    old = later len (suc len) (suc k) g.reciprocal (omega arith) a.0

    go : (b : Bool) → (k == own) ≡ b → All (IsReciprocal (suc len) (suc k)) (if b then g else extended len x g).reciprocal
    go true is = old
    go false is = longer_keeps (suc len) (suc k) g.heir g.reciprocal (len, x) old (record { before = omega arith; entry = record { other = λ same. eqb-false k own is (omega (arith, same, e)); small = f } })

-- ---- entries
pub entries_more : (n m : ℕ) (es : List (Changeset Instr)) → n ≤ m → All (IsEntry n) es → All (IsEntry m) es
entries_more n m es h a = all_to (IsEntry n) (IsEntry m) es (λ e r. record { made = r.made; within = omega (arith, r.within); numbered = r.numbered; small = r.small }) a

-- ---- the whole

-- one ident is another
pub settled_history : (h : HistoryParts) (now : List (Changeset Instr)) (bases : List ℕ) (j : ℕ) (g : Given Instr) → now ≡ h.entries → bases ≡ h.bases → IsHistory h → All (IsReciprocal (len_of h) (1 + j)) g.reciprocal
    → IsHistory (record h { entries = now; bases = bases; idents = set h.idents j g })
settled_history h now bases j g e b was a =
    let size = length-set h.idents j g in
    subst (λ l. IsHistory (record h { entries = l; bases = bases; idents = set h.idents j g })) (sym e)
    (subst (λ l. IsHistory (record h { bases = l; idents = set h.idents j g })) (sym b) (record {
      short = was.short;
      based = was.based;
      few = omega (arith, size, was.few);
      entries = subst (λ n. All (IsEntry n) h.entries) (sym size) was.entries;
      idents = given_set (len_of h) 1 j h.idents g was.idents a;
    }))

pub entered_history : (h : HistoryParts) (now : List (Changeset Instr)) (bases : List ℕ) (base : ℕ) (after : Bool) (hs : List (Given Instr)) (x : Changeset Instr) → now ≡ h.entries ++ x ∷ [] → bases ≡ h.bases ++ base ∷ [] → IsHistory h → len_of h < 4294967295 → IsEntry (length h.idents) x → length hs ≡ length h.idents
    → AreGiven (suc (len_of h)) 1 hs
    → IsHistory (record h { entries = now; bases = bases; second = after; idents = hs })
entered_history h now bases base after hs x e b was room ok size a =
    let long : length (h.entries ++ x ∷ []) ≡ suc (length h.entries) = omega (arith, length-append h.entries (x ∷ [])) in
    let more : length (h.bases ++ base ∷ []) ≡ suc (length h.bases) = omega (arith, length-append h.bases (base ∷ [])) in
    let whole : h.floor + length (h.entries ++ x ∷ []) ≡ suc (len_of h) = omega (arith, long) in
    subst (λ l. IsHistory (record h { entries = l; bases = bases; second = after; idents = hs })) (sym e)
    (subst (λ l. IsHistory (record h { entries = h.entries ++ x ∷ []; bases = l; second = after; idents = hs })) (sym b) (record {
      short = omega (arith, whole, room);
      based = omega (arith, long, more, was.based);
      few = omega (arith, size, was.few);
      entries = subst (λ n. All (IsEntry n) (h.entries ++ x ∷ [])) (sym size) (All-push (IsEntry (length h.idents)) h.entries x was.entries ok);
      idents = subst (λ n. AreGiven n 1 hs) (sym whole) a;
    }))

pub bound_history : (h : HistoryParts) (hs : List (Given Instr)) (g : Given Instr) → hs ≡ h.idents ++ g ∷ [] → IsHistory h → length h.idents < 4294967295 → g.reciprocal ≡ with_versions h.floor h.entries
    → IsHistory (record h { idents = hs })
bound_history h hs g e was room is =
    let long : length (h.idents ++ g ∷ []) ≡ suc (length h.idents) = omega (arith, length-append h.idents (g ∷ [])) in
    subst (λ l. IsHistory (record h { idents = l })) (sym e) (record {
      short = was.short;
      based = was.based;
      few = omega (arith, long, room);
      entries = subst (λ n. All (IsEntry n) h.entries) (sym long) (entries_more (length h.idents) (suc (length h.idents)) h.entries (omega arith) was.entries);
      idents = given_push (len_of h) 1 h.idents g was.idents (subst (All (IsReciprocal (len_of h) (1 + length h.idents))) (sym is) (versions_keep (length h.idents) (1 + length h.idents) h.floor (len_of h) h.entries (omega arith) (omega arith) was.entries));
    })

-- what a call leaves, whatever it answers
pub whatever : {T E : Type 0} (r : Result T E) (A B C : Type 0) → (OnOk r A) → (OnErr r B) → (A → C) → (B → C) → C
whatever (Ok u) A B C a b f g = f a
whatever (Err m) A B C a b f g = g b

-- ---- entries of the code
pub map_drop : (es : List Entry) (k : ℕ) → map entry_of (drop k es) ≡ drop k (map entry_of es)
map_drop [] zero = refl
map_drop [] (suc k) = refl
map_drop (e ∷ es) zero = refl
map_drop (e ∷ es) (suc k) = map_drop es k

all_here : (n : ℕ) (es : List Entry) → All (IsEntry n) (map entry_of es) → All (λ e. IsEntry n (entry_of e)) es
all_here n [] a = All-nil (λ e. IsEntry n (entry_of e))
all_here n (e ∷ es) a = All-cons (λ e. IsEntry n (entry_of e)) e es (All-head (IsEntry n) (entry_of e) (map entry_of es) a) (all_here n es (All-tail (IsEntry n) (entry_of e) (map entry_of es) a))

pub all_dropped : (n : ℕ) (es : List Entry) (k : ℕ) → All (IsEntry n) (map entry_of es) → All (λ e. IsEntry n (entry_of e)) (drop k es)
all_dropped n [] zero a = All-nil (λ e. IsEntry n (entry_of e))
all_dropped n [] (suc k) a = All-nil (λ e. IsEntry n (entry_of e))
all_dropped n (e ∷ es) zero a = all_here n (e ∷ es) a
all_dropped n (e ∷ es) (suc k) a = all_dropped n es k (All-tail (IsEntry n) (entry_of e) (map entry_of es) a)

pub same_history : (h : HistoryParts) (hs : List (Given Instr)) → hs ≡ h.idents → IsHistory h → IsHistory (record h { idents = hs })
same_history h hs e was = subst (λ l. IsHistory (record h { idents = l })) (sym e) was

-- the retired idents are free
pub retired_history : (h : HistoryParts) (qs : List (ℕ × ℕ)) → IsHistory h → IsHistory (record h { retired = qs })
retired_history h qs was = record { short = was.short; based = was.based; few = was.few; entries = was.entries; idents = was.idents }

pub on_ok : {T E : Type 0} (r : Result T E) (A C : Type 0) → (OnOk r A) → (A → C) → OnOk r C
on_ok (Ok u) A C a f = f a
on_ok (Err m) A C a f = tt

pub at_ok : {T E : Type 0} (r : Result T E) (P Q : T → Type 0) → IfOk r P → ((t : T) → P t → Q t) → IfOk r Q
at_ok (Ok t) P Q p f = f t p
at_ok (Err m) P Q p f = tt

pub at_err : {T E : Type 0} (r : Result T E) (P Q : E → Type 0) → IfErr r P → ((m : E) → P m → Q m) → IfErr r Q
at_err (Ok t) P Q p f = tt
at_err (Err m) P Q p f = f m p

pub not_false : (b : Bool) → not b ≡ false → b ≡ true
not_false true e = refl
not_false false e = cc

pub the_same : {A : Type 0} {x y : A} → Some x ≡ Some y → x ≡ y
the_same e = cc

pub the_first : {T E : Type 0} (r : Result T E) (own version : ℕ) (x : Changeset Instr) (gs hs : List (Given Instr)) → OnOk r (hs ≡ first_extended (length gs) own version x 0 gs) → OnErr r ((n : ℕ) × (hs ≡ first_extended n own version x 0 gs)) → (n : ℕ) × (hs ≡ first_extended n own version x 0 gs)
the_first (Ok u) own version x gs hs ok part = (length gs, ok)
the_first (Err m) own version x gs hs ok part = part

-- an ident that is looked up
pub others_at : {X : Type 0} (now : X → Given Instr) (r : Option X) (gs : List (Given Instr)) (len c : ℕ) → is_some r ≡ nat_lt (c - 1) (length gs) → IfSome r (λ x. now x ≡ get_or gs (c - 1) (now x)) → (c ≡ 0 → ⊥) → AreGiven len 1 gs → IfSome r (λ x. All (IsReciprocal len c) (now x).reciprocal)
others_at now None gs len c e f ne a = tt
others_at now (Some x) gs len c e f ne a =
    let lt = ltb-true (c - 1) (length gs) (sym e) in
    let place : 1 + (c - 1) ≡ c = omega arith in
    subst (λ k. All (IsReciprocal len k) (now x).reciprocal) place (subst (λ g. All (IsReciprocal len (1 + (c - 1))) g.reciprocal) (sym f) (given_at len 1 (c - 1) gs (now x) lt a))

pub on_both : {T E : Type 0} (r : Result T E) (P Q : T → Type 0) (B : Type 0) → IfOk r P → OnOk r B → ((t : T) → P t → B → Q t) → IfOk r Q
on_both (Ok t) P Q B p b f = f t p b
on_both (Err m) P Q B p b f = tt
