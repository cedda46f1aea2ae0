-- The readers of values.
use Rattle.std.proofs.Common.{◌≡◌, ℕ, ◌^◌, ◌<◌, Bool, true, false, cond, eqb, List, [], ◌∷◌, length, Option, Some, None, Result, Ok, ℤ, refl, sym, ap, subst, ◌∙◌, inl, inr}
use Rattle.std.specs.Str.{is_utf8}
use Rattle.std.proofs.lemmas.Bool.{eqb-true}
use Rattle.sync_data.specs.Times.{Moment}
use Rattle.sync_data.specs.declared.key.Key.{Key}
use Rattle.sync_data.specs.declared.value.Value.{Value}
use Rattle.sync_data.specs.declared.value.Value.TheVariants as values
use Rattle.sync_io.specs.Varints.{zigzag}
use Rattle.sync_codec.specs.declared.refusal.Fault.{Fault}
use Rattle.sync_codec.specs.declared.refusal.Rule.TheVariants.{BadTag, BadText, BadTime}
use Rattle.sync_codec.specs.Fields.{◌>>=◌, breaks}
use Rattle.sync_codec.specs.Reading.{Reading, run_at, number32_at, signed32_at, signed64_at, name_at}
use Rattle.sync_codec.specs.Keys.{flag_at, key_at}
use Rattle.sync_codec.specs.Values.{is_time, time_at, blob_at, text_at, int_value_at, flag_value_at, text_value_at, bytes_value_at, time_value_at, uuid_value_at, link_value_at, later_value_at, value_at, binding_at}
use Rattle.sync_codec.specs.Spelling.{Field, byte, number, run, string, flag_byte, key_fields, value_fields, binding_fields}
use Rattle.sync_codec.specs.Valid.{IsName, IsKey, IsTimeValue, IsTextValue, IsValue, IsBinding}
use Rattle.sync_codec.specs.Lemmas.Runs.{bind_ok, ok_is, choice, passed, Run, Run-append, run_from, run_same, From, Reads, one, two, tagged, two_checked}
use Rattle.sync_codec.specs.Lemmas.Fields.{Always, read_byte, read_number32, read_signed32, read_signed64, read_run}
use Rattle.sync_codec.specs.Lemmas.Keys.{Pair, no_tag, alone, of_tag, refield, read_own_name, read_flag, read_key}

-- ---- times, bytes and texts
pub read_time : (second : Bool) → Reads second time_at (λ t. number (zigzag t.secs) ∷ number (zigzag t.nanos) ∷ []) IsTimeValue
unfolding time_at
read_time second = two_checked second signed64_at (λ z. number (zigzag z) ∷ []) (λ z. zigzag z < 2 ^ 64) signed32_at (λ z. number (zigzag z) ∷ []) (λ z. zigzag z < 2 ^ 32) (λ p q. record { secs = p; nanos = q }) (λ d. d.secs) (λ d. d.nanos) is_time (λ r. record { left = length r.rest; rule = BadTime })
    (read_signed64 second) (read_signed32 second) (λ a b. refl) (λ a b. refl) (λ d. refl)

pub read_blob : (second : Bool) → Reads second blob_at (λ bs. number (length bs) ∷ run bs ∷ []) (λ bs. length bs < 2 ^ 32)
unfolding blob_at
read_blob second = record {
  takes = λ r x m h e.
      let n = bind_ok (number32_at r) (λ (n : ℕ × Reading). run_at n.0 n.1) (x, m) e in
      let a = (read_number32 second).takes r n.0.0 n.0.1 h n.1 in
      let b = (read_run second n.0.0).takes n.0.1 x m (run_from second r (number n.0.0 ∷ []) n.0.1 a.0 h) n.2 in
      (subst (λ (k : ℕ). Run r (number k ∷ run x ∷ []) m) (sym b.1) (Run-append r (number n.0.0 ∷ []) (run x ∷ []) n.0.1 m a.0 b.0), subst (λ (k : ℕ). k < 2 ^ 32) (sym b.1) a.1);
  again = λ r x m v ok ran.
      let k = ran.0 in
      let first : Run r (number (length x) ∷ []) k = (k, ran.1, refl) in
      rw ((read_number32 second).again r (length x) k v ok first) ((read_run second (length x)).again k x m ((run_same r (number (length x) ∷ []) k first).0 ∙ v) refl ran.2);
}

pub read_text : (second : Bool) → Reads second text_at (λ bs. number (length bs) ∷ run bs ∷ []) IsTextValue
unfolding text_at
read_text second = record {
  takes = λ r x m h e.
      let n = bind_ok (number32_at r) (λ (n : ℕ × Reading). run_at n.0 n.1 >>= λ text. cond (is_utf8 text.0) (Ok text) (breaks n.1.rest BadText)) (x, m) e in
      let t = bind_ok (run_at n.0.0 n.0.1) (λ (text : List ℕ × Reading). cond (is_utf8 text.0) (Ok text) (breaks n.0.1.rest BadText)) (x, m) n.2 in
      let g = passed (is_utf8 t.0.0) (Ok t.0) (record { left = length n.0.1.rest; rule = BadText }) (x, m) t.2 in
      let a = (read_number32 second).takes r n.0.0 n.0.1 h n.1 in
      let b = (read_run second n.0.0).takes n.0.1 t.0.0 t.0.1 (run_from second r (number n.0.0 ∷ []) n.0.1 a.0 h) t.1 in
      let ran = subst (λ (k : ℕ). Run r (number k ∷ run t.0.0 ∷ []) t.0.1) (sym b.1) (Run-append r (number n.0.0 ∷ []) (run t.0.0 ∷ []) n.0.1 t.0.1 a.0 b.0) in
      subst (λ (y : List ℕ × Reading). Run r (number (length y.0) ∷ run y.0 ∷ []) y.1 × IsTextValue y.0) (ok_is t.0 (x, m) g.1) (ran, (subst (λ (k : ℕ). k < 2 ^ 32) (sym b.1) a.1, g.0));
  again = λ r x m v ok ran.
      let k = ran.0 in
      let first : Run r (number (length x) ∷ []) k = (k, ran.1, refl) in
      rw ((read_number32 second).again r (length x) k v ok.0 first, (read_run second (length x)).again k x m ((run_same r (number (length x) ∷ []) k first).0 ∙ v) refl ran.2, ok.1) refl;
}

-- ---- values by their tags
abbrev pub value_tag : Value → ℕ
value_tag values.Null = 0
value_tag (values.Int n) = 1
value_tag (values.Bool b) = 2
value_tag (values.Text t) = 3
value_tag (values.Bytes bs) = 4
value_tag (values.Time t) = 5
value_tag (values.Uuid id) = 6
value_tag (values.Link t k) = 7

abbrev pub value_tail : Value → List Field
value_tail values.Null = []
value_tail (values.Int n) = number (zigzag n) ∷ []
value_tail (values.Bool b) = byte (flag_byte b) ∷ []
value_tail (values.Text t) = number (length t) ∷ run t ∷ []
value_tail (values.Bytes bs) = number (length bs) ∷ run bs ∷ []
value_tail (values.Time t) = number (zigzag t.secs) ∷ number (zigzag t.nanos) ∷ []
value_tail (values.Uuid id) = run id ∷ []
value_tail (values.Link t k) = string t ∷ key_fields k

value_fields_are : (v : Value) → byte (value_tag v) ∷ value_tail v ≡ value_fields v
value_fields_are values.Null = refl
value_fields_are (values.Int n) = refl
value_fields_are (values.Bool b) = refl
value_fields_are (values.Text t) = refl
value_fields_are (values.Bytes bs) = refl
value_fields_are (values.Time t) = refl
value_fields_are (values.Uuid id) = refl
value_fields_are (values.Link t k) = refl

abbrev ValueOf : ℕ → Value → Type 0
ValueOf t v = (t ≡ value_tag v) × IsValue v

int_parts : (v : Value) → ValueOf 1 v → (n : ℤ) × (values.Int n ≡ v) × (zigzag n < 2 ^ 64)
int_parts (values.Int n) h = (n, refl, h.1)
int_parts v h = absurd cc

flag_parts : (v : Value) → ValueOf 2 v → (b : Bool) × (values.Bool b ≡ v) × Always b
flag_parts (values.Bool b) h = (b, refl, tt)
flag_parts v h = absurd cc

text_parts : (v : Value) → ValueOf 3 v → (t : List ℕ) × (values.Text t ≡ v) × IsTextValue t
text_parts (values.Text t) h = (t, refl, h.1)
text_parts v h = absurd cc

bytes_parts : (v : Value) → ValueOf 4 v → (bs : List ℕ) × (values.Bytes bs ≡ v) × (length bs < 2 ^ 32)
bytes_parts (values.Bytes bs) h = (bs, refl, h.1)
bytes_parts v h = absurd cc

time_parts : (v : Value) → ValueOf 5 v → (t : Moment) × (values.Time t ≡ v) × IsTimeValue t
time_parts (values.Time t) h = (t, refl, h.1)
time_parts v h = absurd cc

uuid_parts : (v : Value) → ValueOf 6 v → (id : List ℕ) × (values.Uuid id ≡ v) × (length id ≡ 16)
uuid_parts (values.Uuid id) h = (id, refl, h.1)
uuid_parts v h = absurd cc

link_parts : (v : Value) → ValueOf 7 v → (t : List ℕ) × (k : Key) × (values.Link t k ≡ v) × IsName t × IsKey k
link_parts (values.Link t k) h = (t, k, refl, h.1.0, h.1.1)
link_parts v h = absurd cc

module _ (second : Bool) where
  read_int_value : Reads second int_value_at value_tail (ValueOf 1)
  unfolding int_value_at
  read_int_value = one second signed64_at (λ z. number (zigzag z) ∷ []) (λ z. zigzag z < 2 ^ 64) (λ n. values.Int n) value_tail (ValueOf 1) (read_signed64 second) (λ n. refl) (λ n h. (refl, h)) int_parts

  read_flag_value : Reads second flag_value_at value_tail (ValueOf 2)
  unfolding flag_value_at
  read_flag_value = one second flag_at (λ b. byte (flag_byte b) ∷ []) Always (λ b. values.Bool b) value_tail (ValueOf 2) (read_flag second) (λ b. refl) (λ b h. (refl, tt)) flag_parts

  read_text_value : Reads second text_value_at value_tail (ValueOf 3)
  unfolding text_value_at
  read_text_value = one second text_at (λ bs. number (length bs) ∷ run bs ∷ []) IsTextValue (λ t. values.Text t) value_tail (ValueOf 3) (read_text second) (λ t. refl) (λ t h. (refl, h)) text_parts

  read_bytes_value : Reads second bytes_value_at value_tail (ValueOf 4)
  unfolding bytes_value_at
  read_bytes_value = one second blob_at (λ bs. number (length bs) ∷ run bs ∷ []) (λ bs. length bs < 2 ^ 32) (λ bs. values.Bytes bs) value_tail (ValueOf 4) (read_blob second) (λ bs. refl) (λ bs h. (refl, h)) bytes_parts

  read_time_value : Reads second time_value_at value_tail (ValueOf 5)
  unfolding time_value_at
  read_time_value = one second time_at (λ t. number (zigzag t.secs) ∷ number (zigzag t.nanos) ∷ []) IsTimeValue (λ t. values.Time t) value_tail (ValueOf 5) (read_time second) (λ t. refl) (λ t h. (refl, h)) time_parts

  read_uuid_value : Reads second uuid_value_at value_tail (ValueOf 6)
  unfolding uuid_value_at
  read_uuid_value = one second (run_at 16) (λ bs. run bs ∷ []) (λ bs. length bs ≡ 16) (λ id. values.Uuid id) value_tail (ValueOf 6) (read_run second 16) (λ id. refl) (λ id h. (refl, h)) uuid_parts

  read_link_value : Reads second link_value_at value_tail (ValueOf 7)
  unfolding link_value_at
  read_link_value = two second name_at (λ s. string s ∷ []) IsName key_at key_fields IsKey (λ t k. values.Link t k) value_tail (ValueOf 7) (read_own_name second) (read_key second) (λ t k. refl) (λ t k p q. (refl, (p, q))) link_parts

pick_value : ℕ → Reading → Reading → Result (Value × Reading) Fault
pick_value t k r = cond (eqb t 0) (Ok (values.Null, k)) (cond (eqb t 1) (int_value_at k) (cond (eqb t 2) (flag_value_at k) (cond (eqb t 3) (text_value_at k) (later_value_at t k r.rest))))

abbrev Taken : ℕ → Reading → Value → Reading → Type 0
Taken t k x m = (t ≡ value_tag x) × Run k (value_tail x) m × IsValue x

later_picks : (second : Bool) (r k : Reading) (t : ℕ) (x : Value) (m : Reading) → From second k → later_value_at t k r.rest ≡ Ok (x, m) → Taken t k x m
unfolding later_value_at
later_picks second r k t x m h e =
    elim (choice (eqb t 4) (bytes_value_at k) (cond (eqb t 5) (time_value_at k) (cond (eqb t 6) (uuid_value_at k) (cond (eqb t 7) (link_value_at k) (breaks r.rest BadTag)))) (Pair x m) e) [
      | inl p ↦ of_tag value_tag value_tail IsValue t 4 k m x p.0 ((read_bytes_value second).takes k x m h p.1)
      | inr p ↦ elim (choice (eqb t 5) (time_value_at k) (cond (eqb t 6) (uuid_value_at k) (cond (eqb t 7) (link_value_at k) (breaks r.rest BadTag))) (Pair x m) p.1) [
        | inl q ↦ of_tag value_tag value_tail IsValue t 5 k m x q.0 ((read_time_value second).takes k x m h q.1)
        | inr q ↦ elim (choice (eqb t 6) (uuid_value_at k) (cond (eqb t 7) (link_value_at k) (breaks r.rest BadTag)) (Pair x m) q.1) [
          | inl s ↦ of_tag value_tag value_tail IsValue t 6 k m x s.0 ((read_uuid_value second).takes k x m h s.1)
          | inr s ↦ elim (choice (eqb t 7) (link_value_at k) (breaks r.rest BadTag) (Pair x m) s.1) [
            | inl u ↦ of_tag value_tag value_tail IsValue t 7 k m x u.0 ((read_link_value second).takes k x m h u.1)
            | inr u ↦ absurd (no_tag r x m u.1)
          ]
        ]
      ]
    ]

value_picks : (second : Bool) (r k : Reading) (t : ℕ) (x : Value) (m : Reading) → From second k → pick_value t k r ≡ Ok (x, m) → Taken t k x m
unfolding pick_value
value_picks second r k t x m h e =
    elim (choice (eqb t 0) (Pair values.Null k) (cond (eqb t 1) (int_value_at k) (cond (eqb t 2) (flag_value_at k) (cond (eqb t 3) (text_value_at k) (later_value_at t k r.rest)))) (Pair x m) e) [
      | inl p ↦ alone value_tag value_tail IsValue t values.Null k x m (eqb-true t 0 p.0) refl tt p.1
      | inr p ↦ elim (choice (eqb t 1) (int_value_at k) (cond (eqb t 2) (flag_value_at k) (cond (eqb t 3) (text_value_at k) (later_value_at t k r.rest))) (Pair x m) p.1) [
        | inl q ↦ of_tag value_tag value_tail IsValue t 1 k m x q.0 ((read_int_value second).takes k x m h q.1)
        | inr q ↦ elim (choice (eqb t 2) (flag_value_at k) (cond (eqb t 3) (text_value_at k) (later_value_at t k r.rest)) (Pair x m) q.1) [
          | inl s ↦ of_tag value_tag value_tail IsValue t 2 k m x s.0 ((read_flag_value second).takes k x m h s.1)
          | inr s ↦ elim (choice (eqb t 3) (text_value_at k) (later_value_at t k r.rest) (Pair x m) s.1) [
            | inl u ↦ of_tag value_tag value_tail IsValue t 3 k m x u.0 ((read_text_value second).takes k x m h u.1)
            | inr u ↦ later_picks second r k t x m h u.1
          ]
        ]
      ]
    ]

value_picked : (second : Bool) (r k : Reading) (x : Value) (m : Reading) → k.second ≡ second → IsValue x → Run k (value_tail x) m → pick_value (value_tag x) k r ≡ Ok (x, m)
unfolding pick_value later_value_at
value_picked second r k values.Null m v ok p = ap (λ (j : Reading). Pair values.Null j) p
value_picked second r k (values.Int n) m v ok p = (read_int_value second).again k (values.Int n) m v (refl, ok) p
value_picked second r k (values.Bool b) m v ok p = (read_flag_value second).again k (values.Bool b) m v (refl, tt) p
value_picked second r k (values.Text t) m v ok p = (read_text_value second).again k (values.Text t) m v (refl, ok) p
value_picked second r k (values.Bytes bs) m v ok p = (read_bytes_value second).again k (values.Bytes bs) m v (refl, ok) p
value_picked second r k (values.Time t) m v ok p = (read_time_value second).again k (values.Time t) m v (refl, ok) p
value_picked second r k (values.Uuid id) m v ok p = (read_uuid_value second).again k (values.Uuid id) m v (refl, ok) p
value_picked second r k (values.Link t key) m v ok p = (read_link_value second).again k (values.Link t key) m v (refl, ok) p

pub read_value : (second : Bool) → Reads second value_at value_fields IsValue
unfolding value_at pick_value
read_value second = refield second value_at (λ v. byte (value_tag v) ∷ value_tail v) value_fields IsValue
    (tagged second pick_value value_tag value_tail IsValue (read_byte second) (λ r k t x m v h e. value_picks second r k t x m h e) (λ r k x m v w ok p. value_picked second r k x m w ok p)) value_fields_are

-- ---- bindings
abbrev bound : Bool → Reading → Result (Option Value × Reading) Fault
bound b k = cond b (value_at k >>= λ v. Ok (Some v.0, v.1)) (Ok (None, k))

abbrev bound_tail : Option Value → List Field
bound_tail None = []
bound_tail (Some v) = value_fields v

abbrev bound_flag : Option Value → Bool
bound_flag None = false
bound_flag (Some v) = true

binding_fields_are : (x : Option Value) → binding_fields x ≡ byte (flag_byte (bound_flag x)) ∷ bound_tail x
binding_fields_are None = refl
binding_fields_are (Some v) = refl

some_parts : (x : Option Value) → (bound_flag x ≡ true) × IsBinding x → (v : Value) × (Some v ≡ x) × IsValue v
some_parts (Some v) h = (v, refl, h.1)
some_parts None h = absurd cc

read_some : (second : Bool) → Reads second (λ r. value_at r >>= λ v. Ok (Some v.0, v.1)) bound_tail (λ x. (bound_flag x ≡ true) × IsBinding x)
read_some second = one second value_at value_fields IsValue (λ v. Some v) bound_tail (λ x. (bound_flag x ≡ true) × IsBinding x) (read_value second) (λ v. refl) (λ v h. (refl, h)) some_parts

bound_takes : (second : Bool) (b : Bool) (k : Reading) (x : Option Value) (m : Reading) → From second k → bound b k ≡ Ok (x, m) → (b ≡ bound_flag x) × Run k (bound_tail x) m × IsBinding x
bound_takes second true k x m h e = let t = (read_some second).takes k x m h e in (sym t.1.0, t.0, t.1.1)
bound_takes second false k x m h e =
    let left : Option Value × Reading = (None, k) in
    subst (λ (y : Option Value × Reading). (false ≡ bound_flag y.0) × Run k (bound_tail y.0) y.1 × IsBinding y.0) (ok_is left (x, m) e) (refl, refl, tt)

bound_again : (second : Bool) (k : Reading) (x : Option Value) (m : Reading) → k.second ≡ second → IsBinding x → Run k (bound_tail x) m → bound (bound_flag x) k ≡ Ok (x, m)
bound_again second k None m v ok p = ap (λ (j : Reading). Pair None j) p
bound_again second k (Some w) m v ok p = (read_some second).again k (Some w) m v (refl, ok) p

pub read_binding : (second : Bool) → Reads second binding_at binding_fields IsBinding
unfolding binding_at
read_binding second = record {
  takes = λ r x m h e.
      let b = bind_ok (flag_at r) (λ (b : Bool × Reading). bound b.0 b.1) (x, m) e in
      let tb = (read_flag second).takes r b.0.0 b.0.1 h b.1 in
      let t = bound_takes second b.0.0 b.0.1 x m (run_from second r (byte (flag_byte b.0.0) ∷ []) b.0.1 tb.0 h) b.2 in
      let ran = subst (λ (f : Bool). Run r (byte (flag_byte f) ∷ bound_tail x) m) t.0 (Run-append r (byte (flag_byte b.0.0) ∷ []) (bound_tail x) b.0.1 m tb.0 t.1) in
      (subst (λ (fs : List Field). Run r fs m) (sym (binding_fields_are x)) ran, t.2);
  again = λ r x m v ok ran.
      let ran2 : Run r (byte (flag_byte (bound_flag x)) ∷ bound_tail x) m = subst (λ (fs : List Field). Run r fs m) (binding_fields_are x) ran in
      let k = ran2.0 in
      let first : Run r (byte (flag_byte (bound_flag x)) ∷ []) k = (k, ran2.1, refl) in
      rw ((read_flag second).again r (bound_flag x) k v tt first) (bound_again second k x m ((run_same r (byte (flag_byte (bound_flag x)) ∷ []) k first).0 ∙ v) ok ran2.2);
}
