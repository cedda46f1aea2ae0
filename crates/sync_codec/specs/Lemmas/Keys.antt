-- The readers of keys, columns, cells and places.
use Rattle.std.proofs.Common.{◌≡◌, ℕ, ◌^◌, ◌<◌, Bool, true, false, cond, not, eqb, ltb, List, [], ◌∷◌, length, Result, Ok, ℤ, refl, sym, ap, subst, ◌∙◌, inl, inr}
use Rattle.std.specs.Prelude.{◌&&◌}
use Rattle.std.proofs.lemmas.Bool.{eqb-true}
use Rattle.sync_data.specs.declared.key.Key.{Key}
use Rattle.sync_data.specs.declared.key.Key.TheVariants as keys
use Rattle.sync_data.specs.declared.key.KeyKind.{KeyKind}
use Rattle.sync_data.specs.declared.key.KeyKind.TheVariants as key_kinds
use Rattle.sync_data.specs.declared.column.Shape.{Shape}
use Rattle.sync_data.specs.declared.column.Shape.TheVariants as shapes
use Rattle.sync_io.specs.Varints.{zigzag}
use Rattle.sync_codec.specs.declared.refusal.Fault.{Fault}
use Rattle.sync_codec.specs.declared.refusal.Rule.TheVariants.{BadTag, BadPlace}
use Rattle.sync_codec.specs.Fields.{breaks}
use Rattle.sync_codec.specs.Reading.{Reading, run_at, number32_at, signed64_at, string_at, name_at}
use Rattle.sync_codec.specs.Keys.{flag_at, key_kind_at, shape_at, int_key_at, text_key_at, uuid_key_at, key_at, cell_name_at, element_at, gap_at}
use Rattle.sync_codec.specs.Spelling.{Field, byte, number, run, string, key_kind_byte, shape_byte, flag_byte, key_fields, cell_fields, spot_fields, has_dictionaries}
use Rattle.sync_codec.specs.Valid.{IsName, IsKey, IsCell, IsElement, IsGap}
use Rattle.sync_codec.specs.Lemmas.Runs.{ok_is, choice, Run, From, Reads, one, three, refit, tagged, two_checked}
use Rattle.sync_codec.specs.Lemmas.Fields.{Always, read_byte, read_number32, read_signed64, read_run, read_string, read_name}

pub read_own_name : (second : Bool) → Reads second name_at (λ s. string s ∷ []) IsName
read_own_name second = refit second name_at (λ s. string s ∷ []) _ IsName (read_name second) (λ a h. h.1) (λ a h. (tt, h))

abbrev pub Pair : {A : Type 0} → A → Reading → Result (A × Reading) Fault
Pair x m = Ok (x, m)

pub no_tag : {A : Type 0} (r : Reading) (x : A) (m : Reading) → breaks r.rest BadTag ≡ Pair x m → ⊥
no_tag r x m e = cc

module _ {A : Type 0} (tag : A → ℕ) (tail : A → List Field) (Fits : A → Type 0) where
  -- a value that stands for the byte alone
  pub alone : (t : ℕ) (y : A) (k : Reading) (x : A) (m : Reading) → t ≡ tag y → tail y ≡ [] → Fits y → Pair y k ≡ Pair x m → (t ≡ tag x) × Run k (tail x) m × Fits x
  alone t y k x m is none fits e =
      let left : A × Reading = (y, k) in
      let right : A × Reading = (x, m) in
      subst (λ (z : A × Reading). (t ≡ tag z.0) × Run k (tail z.0) z.1 × Fits z.0) (ok_is left right e) (is, subst (λ (fs : List Field). Run k fs k) (sym none) refl, fits)

eq : (t n : ℕ) → eqb t n ≡ true → t ≡ n
eq t n e = eqb-true t n e

-- ---- flags and kinds of keys
abbrev pub Nothing : {A : Type 0} → A → List Field
Nothing x = []

pick_flag : ℕ → Reading → Reading → Result (Bool × Reading) Fault
pick_flag t k r = cond (eqb t 0) (Ok (false, k)) (cond (eqb t 1) (Ok (true, k)) (breaks r.rest BadTag))

flag_picks : (r k : Reading) (t : ℕ) (x : Bool) (m : Reading) → pick_flag t k r ≡ Ok (x, m) → (t ≡ flag_byte x) × Run k [] m × Always x
unfolding pick_flag
flag_picks r k t x m e =
    elim (choice (eqb t 0) (Pair false k) (cond (eqb t 1) (Pair true k) (breaks r.rest BadTag)) (Pair x m) e) [
      | inl p ↦ alone flag_byte Nothing Always t false k x m (eq t 0 p.0) refl tt p.1
      | inr p ↦ elim (choice (eqb t 1) (Pair true k) (breaks r.rest BadTag) (Pair x m) p.1) [
        | inl q ↦ alone flag_byte Nothing Always t true k x m (eq t 1 q.0) refl tt q.1
        | inr q ↦ absurd (no_tag r x m q.1)
      ]
    ]

flag_picked : (r k : Reading) (x : Bool) (m : Reading) → Run k [] m → pick_flag (flag_byte x) k r ≡ Ok (x, m)
unfolding pick_flag
flag_picked r k true m p = ap (λ (j : Reading). Pair true j) p
flag_picked r k false m p = ap (λ (j : Reading). Pair false j) p

pub read_flag : (second : Bool) → Reads second flag_at (λ b. byte (flag_byte b) ∷ []) Always
unfolding flag_at pick_flag
read_flag second = tagged second pick_flag flag_byte Nothing Always (read_byte second) (λ r k t x m v h e. flag_picks r k t x m e) (λ r k x m v w ok p. flag_picked r k x m p)

pick_key_kind : ℕ → Reading → Reading → Result (KeyKind × Reading) Fault
pick_key_kind t k r = cond (eqb t 0) (Ok (key_kinds.Int, k)) (cond (eqb t 1) (Ok (key_kinds.Text, k)) (cond (eqb t 2) (Ok (key_kinds.Uuid, k)) (breaks r.rest BadTag)))

key_kind_picks : (r k : Reading) (t : ℕ) (x : KeyKind) (m : Reading) → pick_key_kind t k r ≡ Ok (x, m) → (t ≡ key_kind_byte x) × Run k [] m × Always x
unfolding pick_key_kind
key_kind_picks r k t x m e =
    elim (choice (eqb t 0) (Pair key_kinds.Int k) (cond (eqb t 1) (Pair key_kinds.Text k) (cond (eqb t 2) (Pair key_kinds.Uuid k) (breaks r.rest BadTag))) (Pair x m) e) [
      | inl p ↦ alone key_kind_byte Nothing Always t key_kinds.Int k x m (eq t 0 p.0) refl tt p.1
      | inr p ↦ elim (choice (eqb t 1) (Pair key_kinds.Text k) (cond (eqb t 2) (Pair key_kinds.Uuid k) (breaks r.rest BadTag)) (Pair x m) p.1) [
        | inl q ↦ alone key_kind_byte Nothing Always t key_kinds.Text k x m (eq t 1 q.0) refl tt q.1
        | inr q ↦ elim (choice (eqb t 2) (Pair key_kinds.Uuid k) (breaks r.rest BadTag) (Pair x m) q.1) [
          | inl s ↦ alone key_kind_byte Nothing Always t key_kinds.Uuid k x m (eq t 2 s.0) refl tt s.1
          | inr s ↦ absurd (no_tag r x m s.1)
        ]
      ]
    ]

key_kind_picked : (r k : Reading) (x : KeyKind) (m : Reading) → Run k [] m → pick_key_kind (key_kind_byte x) k r ≡ Ok (x, m)
unfolding pick_key_kind
key_kind_picked r k key_kinds.Int m p = ap (λ (j : Reading). Pair key_kinds.Int j) p
key_kind_picked r k key_kinds.Text m p = ap (λ (j : Reading). Pair key_kinds.Text j) p
key_kind_picked r k key_kinds.Uuid m p = ap (λ (j : Reading). Pair key_kinds.Uuid j) p

pub read_key_kind : (second : Bool) → Reads second key_kind_at (λ x. byte (key_kind_byte x) ∷ []) Always
unfolding key_kind_at pick_key_kind
read_key_kind second = tagged second pick_key_kind key_kind_byte Nothing Always (read_byte second) (λ r k t x m v h e. key_kind_picks r k t x m e) (λ r k x m v w ok p. key_kind_picked r k x m p)

-- ---- shapes
abbrev pub ShapeFits : Bool → Shape → Type 0
ShapeFits second x = has_dictionaries x ≡ true → second ≡ true

pick_shape : ℕ → Reading → Reading → Result (Shape × Reading) Fault
pick_shape t k r = cond (eqb t 0) (Ok (shapes.One, k)) (cond (eqb t 1) (Ok (shapes.List, k)) (cond (eqb t 2) (Ok (shapes.Set, k)) (cond (eqb t 3 && r.second) (Ok (shapes.Dict, k)) (breaks r.rest BadTag))))

pub both_true : (a b : Bool) → (a && b) ≡ true → (a ≡ true) × (b ≡ true)
both_true true b e = (refl, e)
both_true false b e = absurd cc

shape_picks : (second : Bool) (r k : Reading) (t : ℕ) (x : Shape) (m : Reading) → r.second ≡ second → pick_shape t k r ≡ Ok (x, m) → (t ≡ shape_byte x) × Run k [] m × ShapeFits second x
unfolding pick_shape
shape_picks second r k t x m v e =
    elim (choice (eqb t 0) (Pair shapes.One k) (cond (eqb t 1) (Pair shapes.List k) (cond (eqb t 2) (Pair shapes.Set k) (cond (eqb t 3 && r.second) (Pair shapes.Dict k) (breaks r.rest BadTag)))) (Pair x m) e) [
      | inl p ↦ alone shape_byte Nothing (ShapeFits second) t shapes.One k x m (eq t 0 p.0) refl (λ h. absurd cc) p.1
      | inr p ↦ elim (choice (eqb t 1) (Pair shapes.List k) (cond (eqb t 2) (Pair shapes.Set k) (cond (eqb t 3 && r.second) (Pair shapes.Dict k) (breaks r.rest BadTag))) (Pair x m) p.1) [
        | inl q ↦ alone shape_byte Nothing (ShapeFits second) t shapes.List k x m (eq t 1 q.0) refl (λ h. absurd cc) q.1
        | inr q ↦ elim (choice (eqb t 2) (Pair shapes.Set k) (cond (eqb t 3 && r.second) (Pair shapes.Dict k) (breaks r.rest BadTag)) (Pair x m) q.1) [
          | inl s ↦ alone shape_byte Nothing (ShapeFits second) t shapes.Set k x m (eq t 2 s.0) refl (λ h. absurd cc) s.1
          | inr s ↦ elim (choice (eqb t 3 && r.second) (Pair shapes.Dict k) (breaks r.rest BadTag) (Pair x m) s.1) [
            | inl u ↦ alone shape_byte Nothing (ShapeFits second) t shapes.Dict k x m (eq t 3 (both_true _ _ u.0).0) refl (λ h. sym v ∙ (both_true (eqb t 3) r.second u.0).1) u.1
            | inr u ↦ absurd (no_tag r x m u.1)
          ]
        ]
      ]
    ]

shape_picked : (second : Bool) (r k : Reading) (x : Shape) (m : Reading) → r.second ≡ second → ShapeFits second x → Run k [] m → pick_shape (shape_byte x) k r ≡ Ok (x, m)
unfolding pick_shape
shape_picked second r k shapes.One m v ok p = ap (λ (j : Reading). Pair shapes.One j) p
shape_picked second r k shapes.List m v ok p = ap (λ (j : Reading). Pair shapes.List j) p
shape_picked second r k shapes.Set m v ok p = ap (λ (j : Reading). Pair shapes.Set j) p
shape_picked second r k shapes.Dict m v ok p = rw (v, ok refl) (ap (λ (j : Reading). Pair shapes.Dict j) p)

pub read_shape : (second : Bool) → Reads second shape_at (λ x. byte (shape_byte x) ∷ []) (ShapeFits second)
unfolding shape_at pick_shape
read_shape second = tagged second pick_shape shape_byte Nothing (ShapeFits second) (read_byte second) (λ r k t x m v h e. shape_picks second r k t x m v e) (λ r k x m v w ok p. shape_picked second r k x m v ok p)

-- ---- keys
abbrev pub key_tag : Key → ℕ
key_tag (keys.Int n) = 0
key_tag (keys.Text s) = 1
key_tag (keys.Uuid id) = 2

abbrev pub key_tail : Key → List Field
key_tail (keys.Int n) = number (zigzag n) ∷ []
key_tail (keys.Text s) = string s ∷ []
key_tail (keys.Uuid id) = run id ∷ []

abbrev KeyOf : ℕ → Key → Type 0
KeyOf t k = (t ≡ key_tag k) × IsKey k

int_parts : (k : Key) → KeyOf 0 k → (n : ℤ) × (keys.Int n ≡ k) × (zigzag n < 2 ^ 64)
int_parts (keys.Int n) h = (n, refl, h.1)
int_parts (keys.Text s) h = absurd cc
int_parts (keys.Uuid id) h = absurd cc

text_parts : (k : Key) → KeyOf 1 k → (s : List ℕ) × (keys.Text s ≡ k) × Always s
text_parts (keys.Int n) h = absurd cc
text_parts (keys.Text s) h = (s, refl, tt)
text_parts (keys.Uuid id) h = absurd cc

uuid_parts : (k : Key) → KeyOf 2 k → (id : List ℕ) × (keys.Uuid id ≡ k) × (length id ≡ 16)
uuid_parts (keys.Int n) h = absurd cc
uuid_parts (keys.Text s) h = absurd cc
uuid_parts (keys.Uuid id) h = (id, refl, h.1)

read_int_key : (second : Bool) → Reads second int_key_at key_tail (KeyOf 0)
unfolding int_key_at
read_int_key second = one second signed64_at (λ z. number (zigzag z) ∷ []) (λ z. zigzag z < 2 ^ 64) (λ n. keys.Int n) key_tail (KeyOf 0) (read_signed64 second) (λ n. refl) (λ n h. (refl, h)) int_parts

read_text_key : (second : Bool) → Reads second text_key_at key_tail (KeyOf 1)
unfolding text_key_at
read_text_key second = one second string_at (λ s. string s ∷ []) Always (λ s. keys.Text s) key_tail (KeyOf 1) (read_string second) (λ s. refl) (λ s h. (refl, tt)) text_parts

read_uuid_key : (second : Bool) → Reads second uuid_key_at key_tail (KeyOf 2)
unfolding uuid_key_at
read_uuid_key second = one second (run_at 16) (λ bs. run bs ∷ []) (λ bs. length bs ≡ 16) (λ id. keys.Uuid id) key_tail (KeyOf 2) (read_run second 16) (λ id. refl) (λ id h. (refl, h)) uuid_parts

pick_key : ℕ → Reading → Reading → Result (Key × Reading) Fault
pick_key t k r = cond (eqb t 0) (int_key_at k) (cond (eqb t 1) (text_key_at k) (cond (eqb t 2) (uuid_key_at k) (breaks r.rest BadTag)))

module _ {A : Type 0} (tag : A → ℕ) (tail : A → List Field) (Fits : A → Type 0) where
  -- what a reader of one tag gives
  pub of_tag : (t n : ℕ) (k m : Reading) (x : A) → eqb t n ≡ true → Run k (tail x) m × ((n ≡ tag x) × Fits x) → (t ≡ tag x) × Run k (tail x) m × Fits x
  of_tag t n k m x e p = (eqb-true t n e ∙ p.1.0, p.0, p.1.1)

key_picks : (second : Bool) (r k : Reading) (t : ℕ) (x : Key) (m : Reading) → From second k → pick_key t k r ≡ Ok (x, m) → (t ≡ key_tag x) × Run k (key_tail x) m × IsKey x
unfolding pick_key
key_picks second r k t x m h e =
    elim (choice (eqb t 0) (int_key_at k) (cond (eqb t 1) (text_key_at k) (cond (eqb t 2) (uuid_key_at k) (breaks r.rest BadTag))) (Pair x m) e) [
      | inl p ↦ of_tag key_tag key_tail IsKey t 0 k m x p.0 ((read_int_key second).takes k x m h p.1)
      | inr p ↦ elim (choice (eqb t 1) (text_key_at k) (cond (eqb t 2) (uuid_key_at k) (breaks r.rest BadTag)) (Pair x m) p.1) [
        | inl q ↦ of_tag key_tag key_tail IsKey t 1 k m x q.0 ((read_text_key second).takes k x m h q.1)
        | inr q ↦ elim (choice (eqb t 2) (uuid_key_at k) (breaks r.rest BadTag) (Pair x m) q.1) [
          | inl s ↦ of_tag key_tag key_tail IsKey t 2 k m x s.0 ((read_uuid_key second).takes k x m h s.1)
          | inr s ↦ absurd (no_tag r x m s.1)
        ]
      ]
    ]

key_picked : (second : Bool) (r k : Reading) (x : Key) (m : Reading) → k.second ≡ second → IsKey x → Run k (key_tail x) m → pick_key (key_tag x) k r ≡ Ok (x, m)
unfolding pick_key
key_picked second r k (keys.Int n) m v ok p = (read_int_key second).again k (keys.Int n) m v (refl, ok) p
key_picked second r k (keys.Text s) m v ok p = (read_text_key second).again k (keys.Text s) m v (refl, ok) p
key_picked second r k (keys.Uuid id) m v ok p = (read_uuid_key second).again k (keys.Uuid id) m v (refl, ok) p

module _ (second : Bool) {A : Type 0} (ra : Reading → Result (A × Reading) Fault) (fa fb : A → List Field) (FA : A → Type 0) where
  pub refield : Reads second ra fa FA → ((a : A) → fa a ≡ fb a) → Reads second ra fb FA
  refield ha same = record {
    takes = λ r x m h e. let t = ha.takes r x m h e in (subst (λ (fs : List Field). Run r fs m) (same x) t.0, t.1);
    again = λ r x m v ok ran. ha.again r x m v ok (subst (λ (fs : List Field). Run r fs m) (sym (same x)) ran);
  }

key_fields_are : (k : Key) → byte (key_tag k) ∷ key_tail k ≡ key_fields k
key_fields_are (keys.Int n) = refl
key_fields_are (keys.Text s) = refl
key_fields_are (keys.Uuid id) = refl

pub read_key : (second : Bool) → Reads second key_at key_fields IsKey
unfolding key_at pick_key
read_key second = refield second key_at (λ k. byte (key_tag k) ∷ key_tail k) key_fields IsKey
    (tagged second pick_key key_tag key_tail IsKey (read_byte second) (λ r k t x m v h e. key_picks second r k t x m h e) (λ r k x m v w ok p. key_picked second r k x m w ok p)) key_fields_are

-- ---- cells and places
pub read_cell : (second : Bool) → Reads second cell_name_at cell_fields IsCell
unfolding cell_name_at
read_cell second = three second name_at (λ s. string s ∷ []) IsName key_at key_fields IsKey name_at (λ s. string s ∷ []) IsName (λ t k c. record { table = t; key = k; column = c }) cell_fields IsCell
    (read_own_name second) (read_key second) (read_own_name second) (λ t k c. refl) (λ t k c p q s. (p, q, s)) (λ d h. (d.table, d.key, d.column, refl, h.0, h.1, h.2))

pub read_element : (second : Bool) → Reads second element_at spot_fields IsElement
unfolding element_at
read_element second = two_checked second number32_at (λ n. number n ∷ []) (λ n. n < 2 ^ 32) number32_at (λ n. number n ∷ []) (λ n. n < 2 ^ 32) (λ p q. record { place = p; prior = q }) (λ d. d.place) (λ d. d.prior) (λ p q. ltb p q) (λ r. record { left = length r.rest; rule = BadPlace })
    (read_number32 second) (read_number32 second) (λ a b. refl) (λ a b. refl) (λ d. refl)

pub read_gap : (second : Bool) → Reads second gap_at spot_fields IsGap
unfolding gap_at
read_gap second = two_checked second number32_at (λ n. number n ∷ []) (λ n. n < 2 ^ 32) number32_at (λ n. number n ∷ []) (λ n. n < 2 ^ 32) (λ p q. record { place = p; prior = q }) (λ d. d.place) (λ d. d.prior) (λ p q. not (ltb q p)) (λ r. record { left = length r.rest; rule = BadPlace })
    (read_number32 second) (read_number32 second) (λ a b. refl) (λ a b. refl) (λ d. refl)
