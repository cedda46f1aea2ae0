-- The readers of single fields.
use Rattle.std.proofs.Common.{◌≡◌, ℕ, ◌+◌, ◌^◌, ◌<◌, ◌≤◌, Bool, true, false, cond, eqb, ltb, List, [], ◌∷◌, ◌++◌, length, take, drop, Option, Some, None, Result, Ok, Err, ℤ, refl, sym, ap, subst, ◌∙◌, arith}
use Rattle.std.specs.Prelude.{slice_get}
use Rattle.std.proofs.lemmas.Bool.{ltb-false, le-ltb}
use Rattle.std.proofs.lemmas.List.{take_at, drop_at, take-append-drop, length-append, length-take}
use Rattle.sync_io.specs.Varints.{varint, varint32_at, varint64_at, zigzag, unzigzag}
use Rattle.sync_io.specs.VarintLaws.{varint32_takes, varint32_again, varint64_takes, varint64_again, zigzag_unzigzag, unzigzag_zigzag}
use Rattle.sync_io.specs.declared.varint.VarintFault.{VarintFault}
use Rattle.sync_io.specs.declared.varint.VarintFault.TheVariants as numbers
use Rattle.sync_codec.specs.declared.refusal.Fault.{Fault}
use Rattle.sync_codec.specs.declared.refusal.Rule.TheVariants.{Truncated, StringOrder, NameLength}
use Rattle.sync_codec.specs.Fields.{◌>>=◌, breaks, byte_in, run_in, numbered, number32_in, number64_in, signed32_in, signed64_in}
use Rattle.sync_codec.specs.Reading.{Reading, behind, byte_at, run_at, number32_at, signed32_at, signed64_at, found, string_at, is_name, name_at}
use Rattle.sync_codec.specs.Spelling.{byte, number, run, string}
use Rattle.sync_codec.specs.Lemmas.Runs.{bind_ok, done, ok_is, not_passed, Took, TookString, single, Reads, checked}

-- what always holds
abbrev pub Always : {A : Type 0} → A → Type 0
Always x = Unit {0}

-- ---- behind a field
behind_takes : {A : Type 0} (r : Reading) (read : Result (A × List ℕ) Fault) (x : A) (m : Reading) → behind r read ≡ Ok (x, m) → (read ≡ Ok (x, m.rest)) × (m ≡ record r { rest = m.rest })
behind_takes {A} r (Ok y) x m e =
    let left : A × Reading = (y.0, record r { rest = y.1 }) in
    let p = ok_is left (x, m) e in
    let rest : y.1 ≡ m.rest = ap (λ (j : A × Reading). j.1.rest) p in
    (ap (λ (j : A × Reading). done (j.0, j.1.rest)) p, sym (ap (λ (j : A × Reading). j.1) p) ∙ ap (λ (bs : List ℕ). record r { rest = bs }) rest)
behind_takes r (Err f) x m e = absurd cc

took_again : {A : Type 0} (r m : Reading) (read : Result (A × List ℕ) Fault) (x : A) (text : List ℕ) → read ≡ Ok (x, m.rest) → Took r text r.used m → behind r read ≡ Ok (x, m)
took_again {A} r m read x text e t = rw e (ap (λ (j : Reading). done (x, j)) (sym t.same))

took_from : (r m : Reading) (text rest : List ℕ) (used : ℕ) → r.rest ≡ text ++ rest → m ≡ record r { used = used; rest = rest } → Took r text used m
took_from r m text rest used p q =
    let e : m.rest ≡ rest = ap (λ (j : Reading). j.rest) q in
    record { parts = p ∙ ap (λ (bs : List ℕ). text ++ bs) (sym e); same = q ∙ ap (λ (bs : List ℕ). record r { used = used; rest = bs }) (sym e) }

-- ---- a byte
byte_ok : (bytes : List ℕ) (x : ℕ × List ℕ) → byte_in bytes ≡ Ok x → bytes ≡ x.0 ∷ x.1
byte_ok [] x e = absurd cc
byte_ok (b ∷ rest) x e = ap (λ (y : ℕ × List ℕ). y.0 ∷ y.1) (ok_is (b, rest) x e)

pub read_byte : (second : Bool) → Reads second byte_at (λ b. byte b ∷ []) Always
read_byte second = record {
  takes = λ r x m h e.
      let p = behind_takes r (byte_in r.rest) x m e in
      ((m, record { parts = byte_ok r.rest (x, m.rest) p.0; same = p.1 }, refl), tt);
  again = λ r x m version ok ran.
      let t = single r (byte x) m ran in
      took_again r m (byte_in r.rest) x (x ∷ []) (ap byte_in t.parts) t;
}

-- ---- numbers
pub numbered_ok : (field : List ℕ) (v : Result (ℕ × List ℕ) VarintFault) (x : ℕ × List ℕ) → numbered field v ≡ Ok x → v ≡ Ok x
numbered_ok field (Ok y) x e = ap (λ (z : ℕ × List ℕ). Ok z) (ok_is y x e)
numbered_ok field (Err numbers.Truncated) x e = absurd cc
numbered_ok field (Err numbers.Bad) x e = absurd cc

pub read_number32 : (second : Bool) → Reads second number32_at (λ n. number n ∷ []) (λ n. n < 2 ^ 32)
read_number32 second = record {
  takes = λ r x m h e.
      let p = behind_takes r (number32_in r.rest) x m e in
      let t = varint32_takes r.rest (x, m.rest) h.bytes (numbered_ok r.rest (varint32_at r.rest) (x, m.rest) p.0) in
      ((m, record { parts = t.0.parts; same = p.1 }, refl), t.1);
  again = λ r x m version ok ran.
      let t = single r (number x) m ran in
      let e : number32_in (varint x ++ m.rest) ≡ Ok (x, m.rest) = ap (numbered (varint x ++ m.rest)) (varint32_again x m.rest ok) in
      took_again r m (number32_in r.rest) x (varint x) (ap number32_in t.parts ∙ e) t;
}

pub read_signed32 : (second : Bool) → Reads second signed32_at (λ z. number (zigzag z) ∷ []) (λ z. zigzag z < 2 ^ 32)
read_signed32 second = record {
  takes = λ r x m h e.
      let p = behind_takes r (signed32_in r.rest) x m e in
      let n = bind_ok (number32_in r.rest) (λ (n : ℕ × List ℕ). Ok (unzigzag n.0, n.1)) (x, m.rest) p.0 in
      let made : ℤ × List ℕ = (unzigzag n.0.0, n.0.1) in
      let q = ok_is made (x, m.rest) n.2 in
      let t = varint32_takes r.rest n.0 h.bytes (numbered_ok r.rest (varint32_at r.rest) n.0 n.1) in
      let is : n.0.0 ≡ zigzag x = sym (zigzag_unzigzag n.0.0) ∙ ap (λ (y : ℤ × List ℕ). zigzag y.0) q in
      let rest : n.0.1 ≡ m.rest = ap (λ (y : ℤ × List ℕ). y.1) q in
      ((m, record { parts = t.0.parts ∙ ap (λ (k : ℕ). varint k ++ n.0.1) is ∙ ap (λ (bs : List ℕ). varint (zigzag x) ++ bs) rest; same = p.1 }, refl), subst (λ (k : ℕ). k < 2 ^ 32) is t.1);
  again = λ r x m version ok ran.
      let t = single r (number (zigzag x)) m ran in
      let e : number32_in (varint (zigzag x) ++ m.rest) ≡ Ok (zigzag x, m.rest) = ap (numbered (varint (zigzag x) ++ m.rest)) (varint32_again (zigzag x) m.rest ok) in
      let s : signed32_in (varint (zigzag x) ++ m.rest) ≡ Ok (x, m.rest) = ap (λ (v : Result (ℕ × List ℕ) Fault). v >>= λ n. done (unzigzag n.0, n.1)) e ∙ ap (λ (z : ℤ). done (z, m.rest)) (unzigzag_zigzag x) in
      took_again r m (signed32_in r.rest) x (varint (zigzag x)) (ap signed32_in t.parts ∙ s) t;
}

pub read_signed64 : (second : Bool) → Reads second signed64_at (λ z. number (zigzag z) ∷ []) (λ z. zigzag z < 2 ^ 64)
read_signed64 second = record {
  takes = λ r x m h e.
      let p = behind_takes r (signed64_in r.rest) x m e in
      let n = bind_ok (number64_in r.rest) (λ (n : ℕ × List ℕ). Ok (unzigzag n.0, n.1)) (x, m.rest) p.0 in
      let made : ℤ × List ℕ = (unzigzag n.0.0, n.0.1) in
      let q = ok_is made (x, m.rest) n.2 in
      let t = varint64_takes r.rest n.0 h.bytes (numbered_ok r.rest (varint64_at r.rest) n.0 n.1) in
      let is : n.0.0 ≡ zigzag x = sym (zigzag_unzigzag n.0.0) ∙ ap (λ (y : ℤ × List ℕ). zigzag y.0) q in
      let rest : n.0.1 ≡ m.rest = ap (λ (y : ℤ × List ℕ). y.1) q in
      ((m, record { parts = t.0.parts ∙ ap (λ (k : ℕ). varint k ++ n.0.1) is ∙ ap (λ (bs : List ℕ). varint (zigzag x) ++ bs) rest; same = p.1 }, refl), subst (λ (k : ℕ). k < 2 ^ 64) is t.1);
  again = λ r x m version ok ran.
      let t = single r (number (zigzag x)) m ran in
      let e : number64_in (varint (zigzag x) ++ m.rest) ≡ Ok (zigzag x, m.rest) = ap (numbered (varint (zigzag x) ++ m.rest)) (varint64_again (zigzag x) m.rest ok) in
      let s : signed64_in (varint (zigzag x) ++ m.rest) ≡ Ok (x, m.rest) = ap (λ (v : Result (ℕ × List ℕ) Fault). v >>= λ n. done (unzigzag n.0, n.1)) e ∙ ap (λ (z : ℤ). done (z, m.rest)) (unzigzag_zigzag x) in
      took_again r m (signed64_in r.rest) x (varint (zigzag x)) (ap signed64_in t.parts ∙ s) t;
}

-- ---- runs of bytes
pub run_ok : (n : ℕ) (bytes : List ℕ) (x : List ℕ × List ℕ) → run_in n bytes ≡ Ok x → (bytes ≡ x.0 ++ x.1) × (length x.0 ≡ n)
run_ok n bytes x e =
    let g = not_passed (ltb (length bytes) n) (Ok (take n bytes, drop n bytes)) (record { left = length bytes; rule = Truncated }) x e in
    let made : List ℕ × List ℕ = (take n bytes, drop n bytes) in
    let long : n ≤ length bytes = ltb-false _ _ g.0 in
    let len : length (take n bytes) ≡ n = omega (arith, length-take n bytes) in
    subst (λ (y : List ℕ × List ℕ). (bytes ≡ y.0 ++ y.1) × (length y.0 ≡ n)) (ok_is made x g.1) (sym (take-append-drop n bytes), len)

pub run_again : (text rest : List ℕ) → run_in (length text) (text ++ rest) ≡ Ok (text, rest)
run_again text rest =
    let long : ltb (length (text ++ rest)) (length text) ≡ false = le-ltb _ _ (omega (arith, length-append text rest)) in
    rw (long, take_at text rest (length text) refl, drop_at text rest (length text) refl) refl

pub read_run : (second : Bool) (n : ℕ) → Reads second (run_at n) (λ bs. run bs ∷ []) (λ bs. length bs ≡ n)
read_run second n = record {
  takes = λ r x m h e.
      let p = behind_takes r (run_in n r.rest) x m e in
      let q = run_ok n r.rest (x, m.rest) p.0 in
      ((m, record { parts = q.0; same = p.1 }, refl), q.1);
  again = λ r x m version ok ran.
      let t = single r (run x) m ran in
      let e : run_in n (x ++ m.rest) ≡ Ok (x, m.rest) = subst (λ (k : ℕ). run_in k (x ++ m.rest) ≡ Ok (x, m.rest)) ok (run_again x m.rest) in
      took_again r m (run_in n r.rest) x x (ap (run_in n) t.parts ∙ e) t;
}

-- ---- strings
found_ok : (field : List ℕ) (n : ℕ) (k : Reading) (o : Option (List ℕ)) (s : List ℕ) (m : Reading) → found field n k o ≡ Ok (s, m) → (o ≡ Some s) × (m ≡ record k { used = cond (eqb n k.used) (n + 1) k.used })
found_ok field n k None s m e = absurd cc
found_ok field n k (Some t) s m e =
    let left : List ℕ × Reading = (t, record k { used = cond (eqb n k.used) (n + 1) k.used }) in
    let p = ok_is left (s, m) e in
    (ap (λ (j : List ℕ × Reading). Some j.0) p, sym (ap (λ (j : List ℕ × Reading). j.1) p))

pub read_string : (second : Bool) → Reads second string_at (λ s. string s ∷ []) Always
unfolding string_at
read_string second = record {
  takes = λ r s m h e.
      let n = bind_ok (number32_at r) (λ (n : ℕ × Reading). cond (ltb r.used n.0) (breaks r.rest StringOrder) (found r.rest n.0 n.1 (slice_get r.strings n.0))) (s, m) e in
      let a = (read_number32 second).takes r n.0.0 n.0.1 h n.1 in
      let t = single r (number n.0.0) n.0.1 a.0 in
      let g = not_passed (ltb r.used n.0.0) (found r.rest n.0.0 n.0.1 (slice_get r.strings n.0.0)) (record { left = length r.rest; rule = StringOrder }) (s, m) n.2 in
      let f = found_ok r.rest n.0.0 n.0.1 (slice_get r.strings n.0.0) s m g.1 in
      let used = cond (eqb n.0.0 r.used) (n.0.0 + 1) r.used in
      let q : m ≡ record r { used = cond (eqb n.0.0 r.used) (n.0.0 + 1) r.used; rest = n.0.1.rest } = f.1 ∙ ap (λ (j : Reading). record j { used = cond (eqb n.0.0 j.used) (n.0.0 + 1) j.used }) t.same in
      let took : TookString r s m = record { place = n.0.0; fits = a.1; known = ltb-false _ _ g.0; stands = f.0; took = took_from r m (varint n.0.0) n.0.1.rest (cond (eqb n.0.0 r.used) (n.0.0 + 1) r.used) t.parts q } in
      ((m, took, refl), tt);
  again = λ r s m version ok ran.
      let t = single r (string s) m ran in
      let k : Reading = record r { rest = m.rest } in
      let took : Took r (varint t.place) r.used k = record { parts = t.took.parts; same = refl } in
      let n = (read_number32 second).again r t.place k version t.fits (k, took, refl) in
      let le : ltb r.used t.place ≡ false = le-ltb _ _ t.known in
      rw (n, le, t.stands) (ap (λ (j : Reading). done (s, j)) (sym t.took.same));
}

pub read_name : (second : Bool) → Reads second name_at (λ s. string s ∷ []) (λ s. Always s × (is_name s ≡ true))
unfolding name_at
read_name second = checked second string_at (λ s. string s ∷ []) Always is_name (λ r. record { left = length r.rest; rule = NameLength }) (read_string second)
