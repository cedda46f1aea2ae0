-- What a run of fields uses are the strings in order of first use, and its bytes are the fields' bytes.
use Rattle.std.proofs.Common.{◌≡◌, ℕ, zero, suc, ◌+◌, ◌^◌, ◌<◌, Bool, true, false, cond, not, eqb, List, [], ◌∷◌, ◌++◌, length, Option, Some, None, refl, sym, ap, subst, ◌∙◌, append_assoc, arith, inl, inr}
use Rattle.std.specs.Prelude.{◌||◌, slice_get}
use Rattle.std.specs.List.{flat_map}
use Rattle.std.specs.Str.{bytes_eq}
use Rattle.std.proofs.lemmas.Bool.{eqb-true, eq-eqb, cases_lt}
use Rattle.std.proofs.lemmas.List.{append-nil, length-append}
use Rattle.std.proofs.lemmas.Slice.Eq.{bytes_eq-Decides}
use Rattle.sync_intern.specs.FirstUses.{has_string, place_of, with_string, with_strings}
use Rattle.sync_io.specs.Varints.{varint}
use Rattle.sync_codec.specs.Reading.{Reading}
use Rattle.sync_codec.specs.Spelling.{Field, byte, number, run, string, strings_in_field, strings_of, field_bytes}
use Rattle.sync_codec.specs.Lemmas.Runs.{Took, TookString, Run}
use Rattle.sync_codec.specs.Lemmas.Tables.{Fresh}

abbrev some : List ℕ → Option (List ℕ)
some s = Some s

one_more : (n : ℕ) → suc n ≡ 1 + n
one_more n = omega arith

some_is : (a b : List ℕ) → some a ≡ some b → a ≡ b
some_is a b e = cc

ne-eqb : (a b : ℕ) → (a ≡ b → ⊥) → eqb a b ≡ false
ne-eqb a b h = elim (eqb a b) as (λ c. eqb a b ≡ c → c ≡ false) [ true ↦ λ e. absurd (h (eqb-true a b e)) | false ↦ λ e. refl ] refl

same : (s t : List ℕ) → bytes_eq s t ≡ true → s ≡ t
same s t e = (bytes_eq-Decides s t).0 e

own : (s : List ℕ) → bytes_eq s s ≡ true
own s = (bytes_eq-Decides s s).1 refl

-- ---- tests of lists of strings
has_front : (a b : List (List ℕ)) (s : List ℕ) → has_string (a ++ b) s ≡ false → has_string a s ≡ false
has_front [] b s h = refl
has_front (t ∷ a) b s h = elim (bytes_eq s t) as (λ c. (c || has_string (a ++ b) s) ≡ false → (c || has_string a s) ≡ false) [ true ↦ λ e. absurd cc | false ↦ λ e. has_front a b s e ] h

not_last : (a : List (List ℕ)) (t s : List ℕ) → has_string (a ++ t ∷ []) s ≡ false → bytes_eq s t ≡ false
not_last [] t s h = elim (bytes_eq s t) as (λ c. (c || false) ≡ false → c ≡ false) [ true ↦ λ e. absurd cc | false ↦ λ e. refl ] h
not_last (u ∷ a) t s h = elim (bytes_eq s u) as (λ c. (c || has_string (a ++ t ∷ []) s) ≡ false → bytes_eq s t ≡ false) [ true ↦ λ e. absurd cc | false ↦ λ e. not_last a t s e ] h

-- a string that stands among fresh ones isn't known, and has its number
fresh_at : (known more : List (List ℕ)) (n : ℕ) (s : List ℕ) → Fresh known more → slice_get more n ≡ Some s → (has_string known s ≡ false) × (place_of more s ≡ n)
fresh_at known [] n s f e = absurd cc
fresh_at known (t ∷ more) zero s f e =
    let is : t ≡ s = cc in
    (subst (λ (x : List ℕ). has_string known x ≡ false) is f.0, subst (λ (x : List ℕ). cond (not (bytes_eq s x)) (1 + place_of more s) 0 ≡ 0) (sym is) (rw (own s) refl))
fresh_at known (t ∷ more) (suc n) s f e =
    let p = fresh_at (known ++ t ∷ []) more n s f.1 e in
    (has_front known (t ∷ []) s p.0, rw (not_last known t s p.0) (ap (λ k. 1 + k) p.1 ∙ omega arith))

get_front : (a b : List (List ℕ)) (n : ℕ) → n < length a → slice_get (a ++ b) n ≡ slice_get a n
get_front [] b n h = absurd (omega arith)
get_front (t ∷ a) b zero h = refl
get_front (t ∷ a) b (suc n) h = get_front a b n (omega arith)

get_behind : (a b : List (List ℕ)) → slice_get (a ++ b) (length a) ≡ slice_get b 0
get_behind [] b = refl
get_behind (t ∷ a) b = get_behind a b

has_at : (a : List (List ℕ)) (n : ℕ) (s : List ℕ) → slice_get a n ≡ Some s → has_string a s ≡ true
has_at [] n s e = absurd cc
has_at (t ∷ a) zero s e = let is : t ≡ s = cc in subst (λ (x : List ℕ). (bytes_eq s x || has_string a s) ≡ true) (sym is) (rw (own s) refl)
has_at (t ∷ a) (suc n) s e = rw (has_at a n s e) (elim (bytes_eq s t) as (λ c. (c || true) ≡ true) [ true ↦ refl | false ↦ refl ])

place_front : (a b : List (List ℕ)) (s : List ℕ) → has_string a s ≡ true → (place_of (a ++ b) s ≡ place_of a s) × (place_of a s < length a) × (slice_get a (place_of a s) ≡ Some s)
place_front [] b s h = absurd cc
place_front (t ∷ a) b s h = elim (bytes_eq s t) as (λ c. bytes_eq s t ≡ c → (c || has_string a s) ≡ true → (cond (not c) (1 + place_of (a ++ b) s) 0 ≡ cond (not c) (1 + place_of a s) 0) × (cond (not c) (1 + place_of a s) 0 < suc (length a)) × (slice_get (t ∷ a) (cond (not c) (1 + place_of a s) 0) ≡ Some s)) [
  | true ↦ λ is e. (refl, omega arith, ap (λ (x : List ℕ). some x) (sym (same s t is)))
  | false ↦ λ is e. let p = place_front a b s e in (ap (λ k. 1 + k) p.0, omega (arith, p.1), subst (λ (k : ℕ). slice_get (t ∷ a) k ≡ Some s) (one_more (place_of a s)) p.2)
] refl h

-- ---- one state
-- cur are used, and more are not
pub record At (r : Reading) (cur more : List (List ℕ)) : Type 0 where
  pub strings : r.strings ≡ cur ++ more
  pub used : r.used ≡ length cur
  pub fresh : Fresh cur more
  pub all : Fresh [] (cur ++ more)

pub record Ended (r : Reading) (cur more : List (List ℕ)) (fs : List Field) (m : Reading) : Type 0 where
  pub now : List (List ℕ)
  pub later : List (List ℕ)
  pub state : At m now later
  pub split : cur ++ more ≡ now ++ later
  pub uses : with_strings cur (flat_map strings_in_field fs) ≡ now
  pub bytes : r.rest ≡ flat_map (field_bytes (cur ++ more)) fs ++ m.rest

plain_state : (r k : Reading) (text : List ℕ) (cur more : List (List ℕ)) → At r cur more → Took r text r.used k → At k cur more
plain_state r k text cur more h t = record { strings = ap (λ (j : Reading). j.strings) t.same ∙ h.strings; used = ap (λ (j : Reading). j.used) t.same ∙ h.used; fresh = h.fresh; all = h.all }

-- a step that uses no string, before the others
plain_ended : (r k m : Reading) (text : List ℕ) (cur more : List (List ℕ)) (f : Field) (fs : List Field) → strings_in_field f ≡ [] → field_bytes (cur ++ more) f ≡ text → Took r text r.used k → Ended k cur more fs m → Ended r cur more (f ∷ fs) m
plain_ended r k m text cur more f fs none is t e = record {
  now = e.now;
  later = e.later;
  state = e.state;
  split = e.split;
  uses = rw none e.uses;
  bytes = rw is (t.parts ∙ ap (λ (bs : List ℕ). text ++ bs) e.bytes ∙ sym (append_assoc text (flat_map (field_bytes (cur ++ more)) fs) m.rest));
}

-- a step that uses a string
pub record Used (r k : Reading) (cur more : List (List ℕ)) (s : List ℕ) : Type 0 where
  pub now : List (List ℕ)
  pub later : List (List ℕ)
  pub state : At k now later
  pub split : cur ++ more ≡ now ++ later
  pub uses : with_string cur s ≡ now
  pub bytes : r.rest ≡ varint (place_of (cur ++ more) s) ++ k.rest

known_used : (r k : Reading) (cur more : List (List ℕ)) (s : List ℕ) → At r cur more → (t : TookString r s k) → t.place < length cur → Used r k cur more s
known_used r k cur more s h t lt =
    let stands : slice_get (cur ++ more) t.place ≡ Some s = ap (λ (ss : List (List ℕ)). slice_get ss t.place) (sym h.strings) ∙ t.stands in
    let in_cur : slice_get cur t.place ≡ Some s = sym (get_front cur more t.place lt) ∙ stands in
    let place : place_of (cur ++ more) s ≡ t.place = (fresh_at [] (cur ++ more) t.place s h.all stands).1 in
    let other : eqb t.place r.used ≡ false = ne-eqb t.place r.used (omega (arith, h.used)) in
    let used : k.used ≡ r.used = ap (λ (j : Reading). j.used) t.took.same ∙ rw other refl in
    record {
      now = cur;
      later = more;
      state = record { strings = ap (λ (j : Reading). j.strings) t.took.same ∙ h.strings; used = used ∙ h.used; fresh = h.fresh; all = h.all };
      split = refl;
      uses = rw (has_at cur t.place s in_cur) refl;
      bytes = t.took.parts ∙ ap (λ (n : ℕ). varint n ++ k.rest) (sym place);
    }

next_used : (r k : Reading) (cur : List (List ℕ)) (s : List ℕ) (more : List (List ℕ)) → At r cur (s ∷ more) → (t : TookString r s k) → t.place ≡ length cur → Used r k cur (s ∷ more) s
next_used r k cur s more h t eq =
    let stands : slice_get (cur ++ s ∷ more) t.place ≡ Some s = ap (λ (ss : List (List ℕ)). slice_get ss t.place) (sym h.strings) ∙ t.stands in
    let place : place_of (cur ++ s ∷ more) s ≡ t.place = (fresh_at [] (cur ++ s ∷ more) t.place s h.all stands).1 in
    let first : eqb t.place r.used ≡ true = eq-eqb t.place r.used (eq ∙ sym h.used) in
    let used : k.used ≡ t.place + 1 = ap (λ (j : Reading). j.used) t.took.same ∙ rw first refl in
    let split : cur ++ s ∷ more ≡ (cur ++ s ∷ []) ++ more = sym (append_assoc cur (s ∷ []) more) in
    record {
      now = cur ++ s ∷ [];
      later = more;
      state = record { strings = ap (λ (j : Reading). j.strings) t.took.same ∙ h.strings ∙ split; used = used ∙ omega (arith, length-append cur (s ∷ []), eq); fresh = h.fresh.1; all = subst (λ (ss : List (List ℕ)). Fresh [] ss) split h.all };
      split = split;
      uses = rw h.fresh.0 refl;
      bytes = t.took.parts ∙ ap (λ (n : ℕ). varint n ++ k.rest) (sym place);
    }

at_next : (r k : Reading) (cur more : List (List ℕ)) (s : List ℕ) → At r cur more → (t : TookString r s k) → t.place ≡ length cur → Used r k cur more s
at_next r k cur [] s h t eq =
    let stands : slice_get (cur ++ []) (length cur) ≡ Some s = ap (λ (n : ℕ). slice_get (cur ++ []) n) (sym eq) ∙ ap (λ (ss : List (List ℕ)). slice_get ss t.place) (sym h.strings) ∙ t.stands in
    let none : slice_get (cur ++ []) (length cur) ≡ None = get_behind cur [] in
    absurd (let e : some s ≡ None = sym stands ∙ none in cc)
at_next r k cur (u ∷ more) s h t eq =
    let stands : slice_get (cur ++ u ∷ more) (length cur) ≡ Some s = ap (λ (n : ℕ). slice_get (cur ++ u ∷ more) n) (sym eq) ∙ ap (λ (ss : List (List ℕ)). slice_get ss t.place) (sym h.strings) ∙ t.stands in
    let front : some u ≡ some s = sym (get_behind cur (u ∷ more)) ∙ stands in
    let is : u ≡ s = some_is u s front in
    subst (λ (v : List ℕ). At r cur (v ∷ more) → Used r k cur (v ∷ more) s) (sym is) (λ g. next_used r k cur s more g t eq) h

string_used : (r k : Reading) (cur more : List (List ℕ)) (s : List ℕ) → At r cur more → TookString r s k → Used r k cur more s
string_used r k cur more s h t =
    elim (cases_lt t.place (length cur)) [
      | inl lt ↦ known_used r k cur more s h t lt
      | inr le ↦ at_next r k cur more s h t (omega (arith, t.known, h.used))
    ]

string_ended : (r k m : Reading) (cur more : List (List ℕ)) (s : List ℕ) (fs : List Field) (u : Used r k cur more s) → Ended k u.now u.later fs m → Ended r cur more (string s ∷ fs) m
string_ended r k m cur more s fs u e = record {
  now = e.now;
  later = e.later;
  state = e.state;
  split = u.split ∙ e.split;
  uses = ap (λ (ss : List (List ℕ)). with_strings ss (flat_map strings_in_field fs)) u.uses ∙ e.uses;
  bytes = u.bytes ∙ ap (λ (bs : List ℕ). varint (place_of (cur ++ more) s) ++ bs) (e.bytes ∙ ap (λ (ss : List (List ℕ)). flat_map (field_bytes ss) fs ++ m.rest) (sym u.split)) ∙ sym (append_assoc (varint (place_of (cur ++ more) s)) (flat_map (field_bytes (cur ++ more)) fs) m.rest);
}

pub run_ended : (r : Reading) (fs : List Field) (m : Reading) (cur more : List (List ℕ)) → At r cur more → Run r fs m → Ended r cur more fs m
run_ended r [] m cur more h p = record { now = cur; later = more; state = subst (λ (j : Reading). At j cur more) p h; split = refl; uses = refl; bytes = ap (λ (j : Reading). j.rest) p }
run_ended r (byte b ∷ fs) m cur more h p = plain_ended r p.0 m (b ∷ []) cur more (byte b) fs refl refl p.1 (run_ended p.0 fs m cur more (plain_state r p.0 (b ∷ []) cur more h p.1) p.2)
run_ended r (number n ∷ fs) m cur more h p = plain_ended r p.0 m (varint n) cur more (number n) fs refl refl p.1 (run_ended p.0 fs m cur more (plain_state r p.0 (varint n) cur more h p.1) p.2)
run_ended r (run bs ∷ fs) m cur more h p = plain_ended r p.0 m bs cur more (run bs) fs refl refl p.1 (run_ended p.0 fs m cur more (plain_state r p.0 bs cur more h p.1) p.2)
run_ended r (string s ∷ fs) m cur more h p =
    let u = string_used r p.0 cur more s h p.1 in
    string_ended r p.0 m cur more s fs u (run_ended p.0 fs m u.now u.later u.state p.2)

-- ---- and back
-- what is used is what was used, and more
uses_more : (cur xs : List (List ℕ)) → (more : List (List ℕ)) × (with_strings cur xs ≡ cur ++ more) × Fresh cur more
uses_more cur [] = ([], sym (append-nil cur), tt)
uses_more cur (s ∷ xs) = elim (has_string cur s) as (λ b. has_string cur s ≡ b → (more : List (List ℕ)) × (with_strings (cond b cur (cur ++ s ∷ [])) xs ≡ cur ++ more) × Fresh cur more) [
  | true ↦ λ e. uses_more cur xs
  | false ↦ λ e. let p = uses_more (cur ++ s ∷ []) xs in (s ∷ p.0, p.1 ∙ append_assoc cur (s ∷ []) p.0, (e, p.2))
] refl

pub fresh_strings : (fields : List Field) → Fresh [] (strings_of fields)
fresh_strings fields = let p = uses_more [] (flat_map strings_in_field fields) in subst (λ (ss : List (List ℕ)). Fresh [] ss) (sym p.1) p.2

record_is : (r : Reading) (used : ℕ) (rest : List ℕ) → r.used ≡ used → r.rest ≡ rest → r ≡ record r { used = used; rest = rest }
record_is r used rest p q = λ i. record r { used = p i; rest = q i }

module _ (strings : List (List ℕ)) (few : length strings < 2 ^ 32) (fresh : Fresh [] strings) where
  -- cur are used, the fields use what is written behind it, and later are left
  pub run_exists : (fs : List Field) (r : Reading) (cur later : List (List ℕ)) (rest : List ℕ) → r.strings ≡ strings → r.used ≡ length cur → strings ≡ with_strings cur (flat_map strings_in_field fs) ++ later → r.rest ≡ flat_map (field_bytes strings) fs ++ rest
      → Run r fs (record r { used = length (with_strings cur (flat_map strings_in_field fs)); rest = rest })
  run_exists [] r cur later rest a b c d = record_is r (length cur) rest b d
  run_exists (byte x ∷ fs) r cur later rest a b c d =
      let k : Reading = record r { rest = flat_map (field_bytes strings) fs ++ rest } in
      (k, record { parts = d; same = refl }, run_exists fs k cur later rest a b c refl)
  run_exists (number n ∷ fs) r cur later rest a b c d =
      let k : Reading = record r { rest = flat_map (field_bytes strings) fs ++ rest } in
      (k, record { parts = d ∙ append_assoc (varint n) (flat_map (field_bytes strings) fs) rest; same = refl }, run_exists fs k cur later rest a b c refl)
  run_exists (run bs ∷ fs) r cur later rest a b c d =
      let k : Reading = record r { rest = flat_map (field_bytes strings) fs ++ rest } in
      (k, record { parts = d ∙ append_assoc bs (flat_map (field_bytes strings) fs) rest; same = refl }, run_exists fs k cur later rest a b c refl)
  run_exists (string s ∷ fs) r cur later rest a b c d =
      elim (has_string cur s) as (λ h. has_string cur s ≡ h → Run r (string s ∷ fs) (record r { used = length (with_strings (cond h cur (cur ++ s ∷ [])) (flat_map strings_in_field fs)); rest = rest })) [
        | true ↦ λ h.
            let c2 : strings ≡ with_strings cur (flat_map strings_in_field fs) ++ later = c ∙ ap (λ (g : Bool). with_strings (cond g cur (cur ++ s ∷ [])) (flat_map strings_in_field fs) ++ later) h in
            let u = uses_more cur (flat_map strings_in_field fs) in
            let front : strings ≡ cur ++ (u.0 ++ later) = c2 ∙ ap (λ (ss : List (List ℕ)). ss ++ later) u.1 ∙ append_assoc cur u.0 later in
            let p = place_front cur (u.0 ++ later) s h in
            let place : place_of strings s ≡ place_of cur s = ap (λ (ss : List (List ℕ)). place_of ss s) front ∙ p.0 in
            let stands : slice_get r.strings (place_of strings s) ≡ Some s = ap (λ (ss : List (List ℕ)). slice_get ss (place_of strings s)) (a ∙ front) ∙ ap (slice_get (cur ++ (u.0 ++ later))) place ∙ get_front cur (u.0 ++ later) (place_of cur s) p.1 ∙ p.2 in
            let lt : place_of strings s < length cur = subst (λ (n : ℕ). n < length cur) (sym place) p.1 in
            let len : length strings ≡ length cur + length (u.0 ++ later) = ap length front ∙ length-append cur (u.0 ++ later) in
            let other : eqb (place_of strings s) r.used ≡ false = ne-eqb (place_of strings s) r.used (omega (arith, b, lt)) in
            let k : Reading = record r { rest = flat_map (field_bytes strings) fs ++ rest } in
            let same : k ≡ record r { used = cond (eqb (place_of strings s) r.used) (place_of strings s + 1) r.used; rest = k.rest } = rw other refl in
            (k, record { place = place_of strings s; fits = omega (arith, len, lt, few); known = omega (arith, b, lt); stands = stands; took = record { parts = d ∙ append_assoc (varint (place_of strings s)) (flat_map (field_bytes strings) fs) rest; same = same } }, run_exists fs k cur later rest a b c2 refl)
        | false ↦ λ h.
            let c2 : strings ≡ with_strings (cur ++ s ∷ []) (flat_map strings_in_field fs) ++ later = c ∙ ap (λ (g : Bool). with_strings (cond g cur (cur ++ s ∷ [])) (flat_map strings_in_field fs) ++ later) h in
            let u = uses_more (cur ++ s ∷ []) (flat_map strings_in_field fs) in
            let front : strings ≡ cur ++ s ∷ (u.0 ++ later) = c2 ∙ ap (λ (ss : List (List ℕ)). ss ++ later) u.1 ∙ append_assoc (cur ++ s ∷ []) u.0 later ∙ append_assoc cur (s ∷ []) (u.0 ++ later) in
            let there : slice_get strings (length cur) ≡ Some s = ap (λ (ss : List (List ℕ)). slice_get ss (length cur)) front ∙ get_behind cur (s ∷ (u.0 ++ later)) in
            let place : place_of strings s ≡ length cur = (fresh_at [] strings (length cur) s fresh there).1 in
            let stands : slice_get r.strings (place_of strings s) ≡ Some s = ap (λ (ss : List (List ℕ)). slice_get ss (place_of strings s)) a ∙ ap (slice_get strings) place ∙ there in
            let len : length strings ≡ length cur + suc (length (u.0 ++ later)) = ap length front ∙ length-append cur (s ∷ (u.0 ++ later)) in
            let first : eqb (place_of strings s) r.used ≡ true = eq-eqb (place_of strings s) r.used (place ∙ sym b) in
            let k : Reading = record r { used = place_of strings s + 1; rest = flat_map (field_bytes strings) fs ++ rest } in
            let same : k ≡ record r { used = cond (eqb (place_of strings s) r.used) (place_of strings s + 1) r.used; rest = k.rest } = rw first refl in
            let used : k.used ≡ length (cur ++ s ∷ []) = omega (arith, place, length-append cur (s ∷ [])) in
            (k, record { place = place_of strings s; fits = omega (arith, len, place, few); known = omega (arith, b, place); stands = stands; took = record { parts = d ∙ append_assoc (varint (place_of strings s)) (flat_map (field_bytes strings) fs) rest; same = same } }, run_exists fs k (cur ++ s ∷ []) later rest a used c2 refl)
      ] refl
