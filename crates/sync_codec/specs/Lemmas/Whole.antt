-- What is read is spelled so, and what is spelled so is read.
use Rattle.std.proofs.Common.{◌≡◌, ℕ, zero, suc, ◌≤◌, Bool, true, false, cond, not, eqb, ltb, List, [], ◌∷◌, ◌++◌, length, Result, Ok, refl, sym, ap, subst, ◌∙◌, append_assoc, arith, inl, inr}
use Rattle.std.specs.Prelude.{◌&&◌, ◌||◌}
use Rattle.std.specs.List.{flat_map, list_any, AllByRecursion}
use Rattle.std.proofs.lemmas.Bool.{ltb-false, le-ltb, eqb-true}
use Rattle.std.proofs.lemmas.List.{append-nil, length-append, nil_from_length}
use Rattle.std.proofs.lemmas.List.Sums.{sum_by-append}
use Rattle.sync_data.specs.Payload.{payload, payload_all}
use Rattle.sync_data.specs.declared.instr.Instr.{Instr}
use Rattle.sync_io.specs.Varints.{varint, varint32_at}
use Rattle.sync_io.specs.VarintLaws.{IsBytes, varint32_takes, varint32_again}
use Rattle.sync_codec.specs.declared.refusal.Fault.{Fault}
use Rattle.sync_codec.specs.declared.refusal.Rule.TheVariants as rules
use Rattle.sync_codec.specs.Fields.{◌>>=◌, breaks, numbered, number32_in}
use Rattle.sync_codec.specs.Reading.{Reading}
use Rattle.sync_codec.specs.Instrs.{instr_at}
use Rattle.sync_codec.specs.Spelling.{Field, instr_fields, needs_second, version_of, strings_of, field_bytes, table_bytes, spelling}
use Rattle.sync_codec.specs.Decoding.{version_in, repeated, next_at, instrs_at, ended, table_in, count_in, instrs_in}
use Rattle.sync_codec.specs.Valid.{IsInstr, IsString, AreInstrs}
use Rattle.sync_codec.specs.Lemmas.Runs.{bind_ok, done, ok_is, choice, not_passed, Run, Run-append, Run-split, run_from, run_same, From}
use Rattle.sync_codec.specs.Lemmas.Fields.{numbered_ok}
use Rattle.sync_codec.specs.Lemmas.Instrs.{InstrFits, read_instr}
use Rattle.sync_codec.specs.Lemmas.Tables.{table_takes}
use Rattle.sync_codec.specs.Lemmas.Uses.{run_ended}

abbrev Read : Type 0
Read = List Instr × Reading

abbrev read_of : List Instr → Reading → Result Read Fault
read_of is r = Ok (is, r)

-- ---- one instruction after the other
pub record TookInstrs (second : Bool) (n : ℕ) (front : List Instr) (r : Reading) (x : Read) : Type 0 where
  pub more : List Instr
  pub added : x.0 ≡ front ++ more
  pub count : length more ≡ n
  pub ran : Run r (flat_map instr_fields more) x.1
  pub fits : AllByRecursion (InstrFits second) more
  pub payload : payload_all front ≤ 4194304 → payload_all x.0 ≤ 4194304

instrs_take : (second : Bool) (n : ℕ) (front : List Instr) (r : Reading) (x : Read) → From second r → instrs_at n front r ≡ Ok x → TookInstrs second n front r x
unfolding repeated next_at
instrs_take second zero front r x h e =
    let start : Read = (front, r) in
    let is : start ≡ x = ok_is start x e in
    record { more = []; added = sym (ap (λ (y : Read). y.0) is) ∙ sym (append-nil front); count = refl; ran = ap (λ (y : Read). y.1) is; fits = tt; payload = λ p. subst (λ (y : Read). payload_all y.0 ≤ 4194304) is p }
instrs_take second (suc n) front r x h e =
    let s = bind_ok (next_at front r) (λ (y : Read). instrs_at n y.0 y.1) x e in
    let i = bind_ok (instr_at r) (λ (i : Instr × Reading). cond (ltb 4194304 (payload_all (front ++ i.0 ∷ []))) (breaks r.rest rules.TooLarge) (Ok (front ++ i.0 ∷ [], i.1))) s.0 s.1 in
    let g = not_passed (ltb 4194304 (payload_all (front ++ i.0.0 ∷ []))) (Ok (front ++ i.0.0 ∷ [], i.0.1)) (record { left = length r.rest; rule = rules.TooLarge }) s.0 i.2 in
    let made : Read = (front ++ i.0.0 ∷ [], i.0.1) in
    let is : made ≡ s.0 = ok_is made s.0 g.1 in
    let ti = (read_instr second).takes r i.0.0 i.0.1 h i.1 in
    let e2 : instrs_at n (front ++ i.0.0 ∷ []) i.0.1 ≡ Ok x = subst (λ (y : Read). instrs_at n y.0 y.1 ≡ Ok x) (sym is) s.2 in
    let rest = instrs_take second n (front ++ i.0.0 ∷ []) i.0.1 x (run_from second r (instr_fields i.0.0) i.0.1 ti.0 h) e2 in
    record {
      more = i.0.0 ∷ rest.more;
      added = rest.added ∙ append_assoc front (i.0.0 ∷ []) rest.more;
      count = ap suc rest.count;
      ran = Run-append r (instr_fields i.0.0) (flat_map instr_fields rest.more) i.0.1 x.1 ti.0 rest.ran;
      fits = (ti.1, rest.fits);
      payload = λ p. rest.payload (ltb-false _ _ g.0);
    }

both_are : (a b : List Instr) (r m : Reading) → a ≡ b → r ≡ m → read_of a r ≡ read_of b m
both_are a b r m p q = λ i. Ok (p i, q i)

pub instrs_again : (second : Bool) (more front : List Instr) (r m : Reading) → r.second ≡ second → AllByRecursion (InstrFits second) more → payload_all (front ++ more) ≤ 4194304 → Run r (flat_map instr_fields more) m → instrs_at (length more) front r ≡ Ok (front ++ more, m)
unfolding repeated next_at
instrs_again second [] front r m v ok small ran = both_are front (front ++ []) r m (sym (append-nil front)) ran
instrs_again second (i ∷ more) front r m v ok small ran =
    let s = Run-split r (instr_fields i) (flat_map instr_fields more) m ran in
    let one = (read_instr second).again r i s.0 v ok.0 s.1 in
    let group : (front ++ i ∷ []) ++ more ≡ front ++ i ∷ more = append_assoc front (i ∷ []) more in
    let small2 : payload_all ((front ++ i ∷ []) ++ more) ≤ 4194304 = subst (λ (is : List Instr). payload_all is ≤ 4194304) (sym group) small in
    let here : payload_all (front ++ i ∷ []) ≤ 4194304 = omega (arith, small2, sum_by-append payload (front ++ i ∷ []) more) in
    let test : ltb 4194304 (payload_all (front ++ i ∷ [])) ≡ false = le-ltb _ _ here in
    let rest = instrs_again second more (front ++ i ∷ []) s.0 m ((run_same r (instr_fields i) s.0 s.1).0 ∙ v) ok.1 small2 s.2 in
    rw (one, test) (rest ∙ ap (λ (is : List Instr). done (is, m)) group)

-- ---- the version, the number of instructions, and the end
abbrev pub version_byte : Bool → ℕ
version_byte second = cond second 2 1

abbrev second_is : Bool → List ℕ → Result (Bool × List ℕ) Fault
second_is b rest = Ok (b, rest)

pair_of : (b : Bool) (rest : List ℕ) (x : Bool × List ℕ) → second_is b rest ≡ Ok x → (let left : Bool × List ℕ = (b, rest) in left) ≡ x
pair_of b rest x e = let left : Bool × List ℕ = (b, rest) in ok_is left x e

version_ok : (bytes : List ℕ) (x : Bool × List ℕ) → version_in bytes ≡ Ok x → bytes ≡ version_byte x.0 ∷ x.1
unfolding version_in
version_ok [] x e = absurd cc
version_ok (b ∷ rest) x e =
    elim (choice (eqb b 1) (second_is false rest) (cond (eqb b 2) (second_is true rest) (breaks (b ∷ rest) rules.Version)) (Ok x) e) [
      | inl p ↦ ap (λ (n : ℕ). n ∷ rest) (eqb-true b 1 p.0) ∙ ap (λ (y : Bool × List ℕ). version_byte y.0 ∷ y.1) (pair_of false rest x p.1)
      | inr p ↦ elim (choice (eqb b 2) (second_is true rest) (breaks (b ∷ rest) rules.Version) (Ok x) p.1) [
        | inl q ↦ ap (λ (n : ℕ). n ∷ rest) (eqb-true b 2 q.0) ∙ ap (λ (y : Bool × List ℕ). version_byte y.0 ∷ y.1) (pair_of true rest x q.1)
        | inr q ↦ absurd cc
      ]
    ]

pub version_again : (second : Bool) (rest : List ℕ) → version_in (version_byte second ∷ rest) ≡ Ok (second, rest)
unfolding version_in
version_again true rest = refl
version_again false rest = refl

count_ok : (bytes : List ℕ) (x : ℕ × List ℕ) → IsBytes bytes → count_in bytes ≡ Ok x → (bytes ≡ varint x.0 ++ x.1) × (x.0 ≤ 65536) × IsBytes x.1
unfolding count_in
count_ok bytes x h e =
    let n = bind_ok (number32_in bytes) (λ (n : ℕ × List ℕ). cond (ltb 65536 n.0) (breaks bytes rules.TooLarge) (Ok n)) x e in
    let g = not_passed (ltb 65536 n.0.0) (Ok n.0) (record { left = length bytes; rule = rules.TooLarge }) x n.2 in
    let v = varint32_takes bytes n.0 h (numbered_ok bytes (varint32_at bytes) n.0 n.1) in
    subst (λ (y : ℕ × List ℕ). (bytes ≡ varint y.0 ++ y.1) × (y.0 ≤ 65536) × IsBytes y.1) (ok_is n.0 x g.1) (v.0.parts, ltb-false _ _ g.0, v.0.rest_fits)

pub count_again : (n : ℕ) (rest : List ℕ) → n ≤ 65536 → count_in (varint n ++ rest) ≡ Ok (n, rest)
unfolding count_in
count_again n rest le =
    let e : number32_in (varint n ++ rest) ≡ Ok (n, rest) = ap (numbered (varint n ++ rest)) (varint32_again n rest (omega arith)) in
    rw (e, le-ltb 65536 n le) refl

pub record AtEnd (is : List Instr) (r : Reading) (x : List Instr) : Type 0 where
  pub used : length r.strings ≤ r.used
  pub needed : (r.second && not (list_any needs_second is)) ≡ false
  pub nothing : r.rest ≡ []
  pub same : is ≡ x

none_left : (rest : List ℕ) → ltb 0 (length rest) ≡ false → rest ≡ []
none_left rest e = nil_from_length rest (omega (arith, ltb-false 0 (length rest) e))

ended_ok : (bytes : List ℕ) (is : List Instr) (r : Reading) (x : List Instr) → ended bytes is r ≡ Ok x → AtEnd is r x
unfolding ended
ended_ok bytes is r x e =
    let a = not_passed (ltb r.used (length r.strings)) (cond (r.second && not (list_any needs_second is)) (breaks bytes rules.NeedlessVersion) (cond (ltb 0 (length r.rest)) (breaks r.rest rules.Trailing) (Ok is))) (record { left = length r.rest; rule = rules.StringUnused }) x e in
    let b = not_passed (r.second && not (list_any needs_second is)) (cond (ltb 0 (length r.rest)) (breaks r.rest rules.Trailing) (Ok is)) (record { left = length bytes; rule = rules.NeedlessVersion }) x a.1 in
    let c = not_passed (ltb 0 (length r.rest)) (Ok is) (record { left = length r.rest; rule = rules.Trailing }) x b.1 in
    record { used = ltb-false _ _ a.0; needed = b.0; nothing = none_left r.rest c.0; same = ok_is is x c.1 }

-- ---- what is read is spelled so
valid_each : (second : Bool) (is : List Instr) → AllByRecursion (InstrFits second) is → AllByRecursion IsInstr is
valid_each second [] h = tt
valid_each second (i ∷ is) h = (h.0.0, valid_each second is h.1)

none_needs : (is : List Instr) → AllByRecursion (InstrFits false) is → list_any needs_second is ≡ false
none_needs [] h = refl
none_needs (i ∷ is) h = elim (needs_second i) as (λ b. needs_second i ≡ b → (b || list_any needs_second is) ≡ false) [ true ↦ λ e. absurd (let x : false ≡ true = h.0.1 e in cc) | false ↦ λ e. none_needs is h.1 ] refl

byte_is : (second : Bool) (is : List Instr) → AllByRecursion (InstrFits second) is → (second && not (list_any needs_second is)) ≡ false → version_byte second ≡ version_of is
byte_is true is h e = elim (list_any needs_second is) as (λ b. not b ≡ false → version_byte true ≡ version_byte b) [ true ↦ λ k. refl | false ↦ λ k. absurd cc ] e
byte_is false is h e = rw (none_needs is h) refl

bytes_tail : (b : ℕ) (bytes : List ℕ) → IsBytes (b ∷ bytes) → IsBytes bytes
bytes_tail b bytes h i = h (suc i)

whole_bytes : (bytes rest1 rest2 rest3 rest4 : List ℕ) (strings : List (List ℕ)) (fs : List Field) (v w n k : ℕ) → bytes ≡ v ∷ rest1 → v ≡ w → rest1 ≡ table_bytes strings ++ rest2 → rest2 ≡ varint n ++ rest3 → n ≡ k → rest3 ≡ flat_map (field_bytes strings) fs ++ rest4 → rest4 ≡ [] → strings ≡ strings_of fs
    → bytes ≡ w ∷ (table_bytes (strings_of fs) ++ (varint k ++ flat_map (field_bytes (strings_of fs)) fs))
whole_bytes bytes rest1 rest2 rest3 rest4 strings fs v w n k a b c d f g h i =
    a ∙ rw (b, c, d, f, g, h, i, append-nil (flat_map (field_bytes (strings_of fs)) fs)) refl

pub spelled_so : (bytes : List ℕ) (is : List Instr) → IsBytes bytes → instrs_in bytes ≡ Ok is → AreInstrs is × (bytes ≡ spelling is)
unfolding instrs_in spelling
spelled_so bytes is h e =
    let v = bind_ok (version_in bytes) (λ (second : Bool × List ℕ). table_in second.1 >>= λ strings. count_in strings.1 >>= λ count. instrs_at count.0 [] (record { second = second.0; strings = strings.0; used = 0; rest = count.1 }) >>= λ is. ended bytes is.0 is.1) is e in
    let t = bind_ok (table_in v.0.1) (λ (strings : List (List ℕ) × List ℕ). count_in strings.1 >>= λ count. instrs_at count.0 [] (record { second = v.0.0; strings = strings.0; used = 0; rest = count.1 }) >>= λ is. ended bytes is.0 is.1) is v.2 in
    let c = bind_ok (count_in t.0.1) (λ (count : ℕ × List ℕ). instrs_at count.0 [] (record { second = v.0.0; strings = t.0.0; used = 0; rest = count.1 }) >>= λ is. ended bytes is.0 is.1) is t.2 in
    let start : Reading = record { second = v.0.0; strings = t.0.0; used = 0; rest = c.0.1 } in
    let i = bind_ok (instrs_at c.0.0 [] start) (λ (is : Read). ended bytes is.0 is.1) is c.2 in
    let end = ended_ok bytes i.0.0 i.0.1 is i.2 in
    let front = version_ok bytes v.0 v.1 in
    let table = table_takes v.0.1 t.0 (bytes_tail (version_byte v.0.0) v.0.1 (subst (λ (bs : List ℕ). IsBytes bs) front h)) t.1 in
    let count = count_ok t.0.1 c.0 table.rest_bytes c.1 in
    let from : From v.0.0 start = record { version = refl; bytes = count.2 } in
    let took = instrs_take v.0.0 c.0.0 [] start i.0 from i.1 in
    let fields = flat_map instr_fields took.more in
    let all_is : took.more ≡ is = sym took.added ∙ end.same in
    let ran = run_ended start (flat_map instr_fields took.more) i.0.1 [] t.0.0 (record { strings = refl; used = refl; fresh = table.fresh; all = table.fresh }) took.ran in
    let later_nil : ran.later ≡ [] = nil_from_length ran.later (omega (arith, end.used, ran.state.used, ap length ran.state.strings, length-append ran.now ran.later)) in
    let strings_are : t.0.0 ≡ strings_of (flat_map instr_fields took.more) = ran.split ∙ ap (λ (ss : List (List ℕ)). ran.now ++ ss) later_nil ∙ append-nil ran.now ∙ sym ran.uses in
    let needed : (v.0.0 && not (list_any needs_second took.more)) ≡ false = subst (λ (b : Bool). (b && not (list_any needs_second took.more)) ≡ false) ((run_same start (flat_map instr_fields took.more) i.0.1 took.ran).0) (subst (λ (xs : List Instr). (i.0.1.second && not (list_any needs_second xs)) ≡ false) took.added end.needed) in
    let version : version_byte v.0.0 ≡ version_of took.more = byte_is v.0.0 took.more took.fits needed in
    let spelled = whole_bytes bytes v.0.1 t.0.1 c.0.1 i.0.1.rest t.0.0 (flat_map instr_fields took.more) (version_byte v.0.0) (version_of took.more) c.0.0 (length took.more) front version table.parts count.0 (sym took.count) ran.bytes end.nothing strings_are in
    let few : length took.more ≤ 65536 = omega (arith, took.count, count.1) in
    let small : payload_all took.more ≤ 4194304 = subst (λ (xs : List Instr). payload_all xs ≤ 4194304) took.added (took.payload (omega arith)) in
    let valid : AreInstrs took.more = record { small = (few, small); each = valid_each v.0.0 took.more took.fits; strings = subst (λ (ss : List (List ℕ)). AllByRecursion IsString ss) strings_are table.valid } in
    subst (λ (xs : List Instr). AreInstrs xs × (bytes ≡ spelling xs)) all_is (valid, spelled)
