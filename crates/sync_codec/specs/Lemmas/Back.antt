-- What is spelled so is read, and no spelling begins another.
use Rattle.std.proofs.Common.{◌≡◌, ℕ, suc, Bool, true, false, cond, not, ltb, List, [], ◌∷◌, ◌++◌, length, Ok, refl, sym, ap, ◌∙◌, append_assoc, arith}
use Rattle.std.specs.Prelude.{◌&&◌, ◌||◌}
use Rattle.std.specs.List.{flat_map, list_any, AllByRecursion}
use Rattle.std.proofs.lemmas.Bool.{le-ltb, lt-ltb}
use Rattle.std.proofs.lemmas.List.{append-nil}
use Rattle.sync_data.specs.declared.instr.Instr.{Instr}
use Rattle.sync_io.specs.Varints.{varint}
use Rattle.sync_codec.specs.declared.refusal.Rule.TheVariants as rules
use Rattle.sync_codec.specs.Fields.{breaks}
use Rattle.sync_codec.specs.Reading.{Reading}
use Rattle.sync_codec.specs.Spelling.{instr_fields, needs_second, strings_of, field_bytes, table_bytes, spelling}
use Rattle.sync_codec.specs.Decoding.{instrs_at, ended, instrs_in}
use Rattle.sync_codec.specs.Valid.{IsInstr, AreInstrs}
use Rattle.sync_codec.specs.Lemmas.Runs.{done, Run}
use Rattle.sync_codec.specs.Lemmas.Instrs.{InstrFits}
use Rattle.sync_codec.specs.Lemmas.Tables.{table_again}
use Rattle.sync_codec.specs.Lemmas.Uses.{fresh_strings, run_exists}
use Rattle.sync_codec.specs.Lemmas.Whole.{version_byte, version_again, count_again, instrs_again}
use Rattle.sync_codec.specs.Lemmas.Few.{strings_few}

either : (b : Bool) → (b || true) ≡ true
either true = refl
either false = refl

fits_each : (all is : List Instr) → ((i : Instr) → needs_second i ≡ true → list_any needs_second is ≡ true → list_any needs_second all ≡ true) → AllByRecursion IsInstr is → AllByRecursion (InstrFits (list_any needs_second all)) is
fits_each all [] h v = tt
fits_each all (i ∷ is) h v =
    ((v.0, λ e. h i e (rw e refl)), fits_each all is (λ j e k. h j e (rw k (either (needs_second i)))) v.1)

same_both : (b : Bool) → (b && not b) ≡ false
same_both true = refl
same_both false = refl

ended_again : (bytes extra : List ℕ) (is : List Instr) (r : Reading) → r.second ≡ list_any needs_second is → r.used ≡ length r.strings → r.rest ≡ extra → ended bytes is r ≡ cond (ltb 0 (length extra)) (breaks extra rules.Trailing) (Ok is)
unfolding ended
ended_again bytes extra is r v u e =
    let all : ltb r.used (length r.strings) ≡ false = le-ltb _ _ (omega (arith, u)) in
    rw (all, v, same_both (list_any needs_second is), e) refl

pub read_again : (is : List Instr) (extra : List ℕ) → AreInstrs is → instrs_in (spelling is ++ extra) ≡ cond (ltb 0 (length extra)) (breaks extra rules.Trailing) (Ok is)
unfolding instrs_in spelling
read_again is extra valid =
    let second : Bool = list_any needs_second is in
    let fs = flat_map instr_fields is in
    let strings = strings_of (flat_map instr_fields is) in
    let body = flat_map (field_bytes (strings_of (flat_map instr_fields is))) (flat_map instr_fields is) in
    let rest3 : List ℕ = body ++ extra in
    let rest2 : List ℕ = varint (length is) ++ (body ++ extra) in
    let parts : spelling is ++ extra ≡ version_byte second ∷ (table_bytes strings ++ (varint (length is) ++ (body ++ extra))) =
    ap (λ (bs : List ℕ). version_byte second ∷ bs) (append_assoc (table_bytes strings) (varint (length is) ++ body) extra ∙ ap (λ (bs : List ℕ). table_bytes strings ++ bs) (append_assoc (varint (length is)) body extra)) in
    let few = strings_few is valid.small.0 in
    let fresh = fresh_strings (flat_map instr_fields is) in
    let start : Reading = record { second = second; strings = strings; used = 0; rest = body ++ extra } in
    let end : Reading = record { second = second; strings = strings; used = length strings; rest = extra } in
    let ran : Run start (flat_map instr_fields is) end = run_exists strings few fresh (flat_map instr_fields is) start [] [] extra refl refl (sym (append-nil strings)) refl in
    let fits = fits_each is is (λ i e k. k) valid.each in
    let took : instrs_at (length is) [] start ≡ Ok (is, end) = instrs_again second is [] start end refl fits valid.small.1 ran in
    let v = version_again second (table_bytes strings ++ (varint (length is) ++ (body ++ extra))) in
    let t = table_again strings (varint (length is) ++ (body ++ extra)) fresh valid.strings few in
    let c = count_again (length is) (body ++ extra) valid.small.0 in
    let d = ended_again (version_byte second ∷ (table_bytes strings ++ (varint (length is) ++ (body ++ extra)))) extra is end refl refl refl in
    ap instrs_in parts ∙ rw (v, t, c, took) d

pub read_back : (bytes : List ℕ) (is : List Instr) → AreInstrs is → bytes ≡ spelling is → instrs_in bytes ≡ Ok is
read_back bytes is valid e = ap instrs_in (e ∙ sym (append-nil (spelling is))) ∙ read_again is [] valid

ended_or : (extra : List ℕ) (b : Bool) (is js : List Instr) → ltb 0 (length extra) ≡ b → cond b (breaks extra rules.Trailing) (done is) ≡ Ok js → (extra ≡ []) × (is ≡ js)
ended_or extra true is js t e = absurd cc
ended_or [] false is js t e = (refl, cc)
ended_or (x ∷ extra) false is js t e = absurd (let h : ltb 0 (suc (length extra)) ≡ true = lt-ltb _ _ (omega arith) in cc)

pub no_prefix : (is js : List Instr) (more : List ℕ) → AreInstrs is → AreInstrs js → spelling is ++ more ≡ spelling js → (more ≡ []) × (is ≡ js)
no_prefix is js more valid_is valid_js e =
    let one = read_again is more valid_is in
    let two = read_back (spelling is ++ more) js valid_js e in
    ended_or more (ltb 0 (length more)) is js refl (sym one ∙ two)
