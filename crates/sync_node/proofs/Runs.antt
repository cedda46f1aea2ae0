-- How the parts of a run make the whole: what is written, and what is added.
use Rattle.std.proofs.Common.{◌≡◌, ℕ, zero, suc, ◌+◌, ◌≤◌, true, false, List, [], ◌∷◌, ◌++◌, length, take, min, Option, None, Some, inl, inr, refl, sym, ap, subst, ◌∙◌, append_assoc, append-nil, arith, length-append}
use Rattle.std.proofs.lemmas.List.{take_min, take-append-le, length-take-le}
use Rattle.std.proofs.Math.Seq.{take-append-add, take-length}
use Rattle.std.specs.Bool.{MatchBool}
use Rattle.std.specs.Option.{option_map}
use Rattle.sync_io.specs.Devices.{Took, TookSome}
use Rattle.sync_io.proofs.Inputs.{took_more}
use Rattle.sync_io.specs.declared.status.Status.{Status}
use Rattle.sync_io.specs.declared.sink.SinkRefusal.{SinkRefusal}
use Rattle.sync_io.specs.declared.sink.SinkRefusal.TheVariants as sinks
use Rattle.sync_node.specs.Texts.{write_status}
use Rattle.sync_node.specs.Items.{Items, Over, Bad, Limit, Next}
use Rattle.sync_node.specs.Runs.{AllTold, Answer, Follows, IsTold, Run, WroteAtLeast, added, answered, ended, is_fault, noting_runs, onto, run_from, texts}

-- ---- sinks
pub took_none : (sink : Option (List ℕ)) → Took [] sink sink
took_none None = refl
took_none (Some had) = ap Some (sym (append-nil had))

some_length : Option (List ℕ) → ℕ
some_length None = 0
some_length (Some bytes) = length bytes

-- nothing was written
pub wrote_none : (n : ℕ) (sink : Option (List ℕ)) → WroteAtLeast n sink sink → n ≤ 0
unfolding some_length
wrote_none n sink w =
    let a : some_length sink ≡ length w.0 = ap some_length w.2 in
    let b : some_length sink ≡ length w.1 = ap some_length w.3 in
    omega (arith, a, b, w.4)

-- at most so much was written
pub wrote_within : (n : ℕ) (text : List ℕ) (old new : Option (List ℕ)) → TookSome text old new → WroteAtLeast n old new → n ≤ length text
unfolding some_length
wrote_within n text old new took w =
    let after : new ≡ Some (w.0 ++ take took.0 text) = subst (λ o. new ≡ option_map (λ had. had ++ take took.0 text) o) w.2 took.1 in
    let a : some_length new ≡ length (w.0 ++ take took.0 text) = ap some_length after in
    let b : some_length new ≡ length w.1 = ap some_length w.3 in
    let short : length (take (min took.0 (length text)) text) ≡ min took.0 (length text) = length-take-le (min took.0 (length text)) text (omega arith) in
    let same : length (take took.0 text) ≡ length (take (min took.0 (length text)) text) = ap length (sym (take_min took.0 text)) in
    omega (arith, a, b, w.4, short, same, length-append w.0 (take took.0 text))

-- what was written behind the first text
pub wrote_behind : (n : ℕ) (text : List ℕ) (old mid new : Option (List ℕ)) → Took text old mid → WroteAtLeast (length text + n) old new → WroteAtLeast n mid new
wrote_behind n text old mid new took w =
    let after : mid ≡ Some (w.0 ++ text) = subst (λ o. mid ≡ option_map (λ had. had ++ text) o) w.2 took in
    (w.0 ++ text, w.1, after, w.3, omega (arith, w.4, length-append w.0 text))

module _ {R : Type 0} where
  -- ---- texts and records
  pub texts_append : (xs ys : List (Answer R)) → texts (xs ++ ys) ≡ texts xs ++ texts ys
  texts_append [] ys = refl
  texts_append (x ∷ xs) ys = ap (λ t. x.text ++ t) (texts_append xs ys) ∙ sym (append_assoc x.text (texts xs) (texts ys))

  pub added_append : (xs ys : List (Answer R)) → added (xs ++ ys) ≡ added xs ++ added ys
  added_append [] ys = refl
  added_append (x ∷ xs) ys = ap (λ t. x.records ++ t) (added_append xs ys) ∙ sym (append_assoc x.records (added xs) (added ys))

  pub told_append : (xs ys : List (Answer R)) → AllTold xs → AllTold ys → AllTold (xs ++ ys)
  told_append [] ys first then = then
  told_append (x ∷ xs) ys first then = (first.0, told_append xs ys first.1 then)

  -- where nothing was said, nothing was added
  pub added_none : (n : ℕ) (answers : List (Answer R)) → AllTold answers → length (texts (take n answers)) ≤ 0 → length (added (take n answers)) ≤ 0
  added_none zero answers says short = omega arith
  added_none (suc n) [] says short = omega arith
  added_none (suc n) (a ∷ answers) says short =
      let long : length (a.text ++ texts (take n answers)) ≡ length a.text + length (texts (take n answers)) = length-append a.text (texts (take n answers)) in
      elim says.0 [
        | inl few ↦
            let rest : length (added (take n answers)) ≤ 0 = added_none n answers says.1 (omega (arith, long, short)) in
            omega (arith, few, rest, length-append a.records (added (take n answers)))
        | inr one ↦ let none : 1 ≤ 0 = omega (arith, long, short, one) in absurd (omega (arith, none))
      ]

  pub onto_onto : (xs ys : List (Answer R)) (run : Run R) → onto xs (onto ys run) ≡ onto (xs ++ ys) run
  onto_onto xs ys run = λ i. record { answers = sym (append_assoc xs ys run.answers) i; status = run.status }

  pub onto_twice : (xs ys : List (Answer R)) (meant : Option (Run R)) → option_map (onto xs) (option_map (onto ys) meant) ≡ option_map (onto (xs ++ ys)) meant
  onto_twice xs ys None = refl
  onto_twice xs ys (Some run) = ap Some (onto_onto xs ys run)

  pub answered_says : (number : ℕ) (meant : Option (Answer R)) (rest : List R → Run R) → ((answer : Answer R) → meant ≡ Some answer → IsTold answer) → ((new : List R) → AllTold (rest new).answers) → AllTold (answered number meant rest).answers
  answered_says number None rest says others = tt
  answered_says number (Some answer) rest says others = (says answer refl, others answer.records)

  -- ---- one answer more
  pub texts_one : (answers : List (Answer R)) (answer : Answer R) → texts (answers ++ answer ∷ []) ≡ texts answers ++ answer.text
  texts_one answers answer = texts_append answers (answer ∷ []) ∙ ap (λ t. texts answers ++ t) (append-nil answer.text)

  pub added_one : (records : List R) (answers : List (Answer R)) (answer : Answer R) → (records ++ added answers) ++ answer.records ≡ records ++ added (answers ++ answer ∷ [])
  added_one records answers answer =
      append_assoc records (added answers) answer.records ∙ ap (λ rs. records ++ (added answers ++ rs)) (sym (append-nil answer.records)) ∙ ap (λ rs. records ++ rs) (sym (added_append answers (answer ∷ [])))

  -- ---- what follows of it
  -- nothing was written
  pub follows_fault : (status : Status) (run : Run R) (sink : Option (List ℕ)) → is_fault status ≡ true → Follows status run sink sink
  follows_fault status run sink fault = subst (λ b. MatchBool b (TookSome (texts run.answers) sink sink) ((status ≡ run.status) × Took (texts run.answers) sink sink)) (sym fault) (0, took_none sink)

  -- a part of some answers was written
  pub follows_part : (answers : List (Answer R)) (status : Status) (run : Run R) (old new : Option (List ℕ)) → is_fault status ≡ true → TookSome (texts answers) old new → Follows status (onto answers run) old new
  follows_part answers status run old new fault took =
      let text = texts answers in
      let all = texts (answers ++ run.answers) in
      subst (λ b. MatchBool b (TookSome all old new) ((status ≡ run.status) × Took all old new)) (sym fault)
      (subst (λ t. TookSome t old new) (sym (texts_append answers run.answers))
      (min took.0 (length text), subst (λ p. Took p old new) (sym (take-append-le (min took.0 (length text)) text (texts run.answers) (omega arith) ∙ take_min took.0 text)) took.1))

  -- behind the answers so far
  pub follows_onto : (answers : List (Answer R)) (status : Status) (run : Run R) (old mid new : Option (List ℕ)) → Took (texts answers) old mid → Follows status run mid new → Follows status (onto answers run) old new
  follows_onto answers status run old mid new took follows =
      let text = texts answers in
      let rest = texts run.answers in
      subst (λ t. MatchBool (is_fault status) (TookSome t old new) ((status ≡ run.status) × Took t old new)) (sym (texts_append answers run.answers))
      (elim (is_fault status) as (λ b. MatchBool b (TookSome rest mid new) ((status ≡ run.status) × Took rest mid new) → MatchBool b (TookSome (text ++ rest) old new) ((status ≡ run.status) × Took (text ++ rest) old new)) [
        | true ↦ λ some. (length text + some.0, subst (λ p. Took p old new) (sym (take-append-add text rest some.0)) (took_more text (take some.0 rest) old mid new took some.1))
        | false ↦ λ all. (all.0, took_more text rest old mid new took all.1)
      ] follows)

  -- at least a part was written
  pub follows_some : (status : Status) (run : Run R) (old new : Option (List ℕ)) → Follows status run old new → TookSome (texts run.answers) old new
  follows_some status run old new follows =
      let text = texts run.answers in
      elim (is_fault status) as (λ b. MatchBool b (TookSome text old new) ((status ≡ run.status) × Took text old new) → TookSome text old new) [
        | true ↦ λ some. some
        | false ↦ λ all. (length text, subst (λ p. Took p old new) (sym (take-length text)) all.1)
      ] follows

  -- a fault at the end leaves a part at least
  pub follows_cut : (status fault : Status) (run : Run R) (old mid new : Option (List ℕ)) → is_fault fault ≡ true → new ≡ mid → Follows status run old mid → Follows fault run old new
  follows_cut status fault run old mid new is same follows =
      subst (λ n. Follows fault run old n) (sym same)
      (subst (λ b. MatchBool b (TookSome (texts run.answers) old mid) ((fault ≡ run.status) × Took (texts run.answers) old mid)) (sym is) (follows_some status run old mid follows))

-- ---- a run of a command that keeps notes
module _ {N R : Type 0} (step : N → List R → ℕ → List ℕ → Option (Answer R)) (noted : N → List R → List ℕ → N) where
  -- no answer of a run is empty but those that add no record
  pub run_says : ((notes : N) (records : List R) (number : ℕ) (item : List ℕ) (answer : Answer R) → step notes records number item ≡ Some answer → IsTold answer) → (notes : N) (records : List R) (items : Items) → AllTold (run_from step noted notes records items).answers
  run_says says notes records Over = tt
  run_says says notes records (Bad number) = tt
  run_says says notes records Limit = tt
  run_says says notes records (Next number item rest) = answered_says number (step notes records number item) (λ new. run_from step noted (noted notes records item) (records ++ new) rest) (says notes records number item) (λ new. run_says says (noted notes records item) (records ++ new) rest)

  -- the answer of an item goes behind those so far
  pub runs_answered : (notes : N) (records : List R) (number : ℕ) (item : List ℕ) (old new : Option Items) (answer : Answer R) → old ≡ option_map (Next number item) new → step notes records number item ≡ Some answer
      → noting_runs step noted notes records old ≡ option_map (onto (answer ∷ [])) (noting_runs step noted (noted notes records item) (records ++ answer.records) new)
  runs_answered notes records number item old None answer e is = ap (noting_runs step noted notes records) e
  runs_answered notes records number item old (Some rest) answer e is = ap (noting_runs step noted notes records) e ∙ ap (λ a. Some (answered number a (λ more. run_from step noted (noted notes records item) (records ++ more) rest))) is

  pub nothing_yet : (notes : N) (records : List R) (items : Option Items) → noting_runs step noted notes records items ≡ option_map (onto []) (noting_runs step noted notes (records ++ []) items)
  nothing_yet notes records items = ap (λ rs. noting_runs step noted notes rs items) (sym (append-nil records)) ∙ sym (onto_none (noting_runs step noted notes (records ++ []) items))
    where
      onto_none : (o : Option (Run R)) → option_map (onto []) o ≡ o
      onto_none None = refl
      onto_none (Some run) = refl

  pub runs_one : (notes : N) (records : List R) (answers : List (Answer R)) (meant : Option (Run R)) (number : ℕ) (item : List ℕ) (old new : Option Items) (answer : Answer R)
      → meant ≡ option_map (onto answers) (noting_runs step noted notes (records ++ added answers) old) → old ≡ option_map (Next number item) new → step notes (records ++ added answers) number item ≡ Some answer
      → meant ≡ option_map (onto (answers ++ answer ∷ [])) (noting_runs step noted (noted notes (records ++ added answers) item) (records ++ added (answers ++ answer ∷ [])) new)
  runs_one notes records answers meant number item old new answer so_far read is =
      let after = noted notes (records ++ added answers) item in
      so_far ∙ ap (option_map (onto answers)) (runs_answered notes (records ++ added answers) number item old new answer read is)
      ∙ onto_twice answers (answer ∷ []) (noting_runs step noted after ((records ++ added answers) ++ answer.records) new)
      ∙ ap (λ rs. option_map (onto (answers ++ answer ∷ [])) (noting_runs step noted after rs new)) (added_one records answers answer)

-- nothing was left to be written
pub follows_end : (R : Type 0) (status : Status) (sink : Option (List ℕ)) → is_fault status ≡ false → Follows {R = R} status (ended status) sink sink
follows_end R status sink ok = subst (λ b. MatchBool b (TookSome [] sink sink) ((status ≡ status) × Took [] sink sink)) (sym ok) (refl, took_none sink)

pub is_write_fault : (refusal : SinkRefusal) → is_fault (write_status refusal) ≡ true
is_write_fault sinks.Failed = refl
is_write_fault sinks.NoMemory = refl
