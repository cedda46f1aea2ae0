-- The laws of an exchange hold of the project's own instructions, states and bytes.
use Rattle.std.specs.Prelude.{◌≡◌, ℕ, ◌+◌, ◌≤◌, Bool, true, false, ◌&&◌, nat_le, List, [], ◌∷◌, length, sum_by, Option, None, Some, Result, Ok, Err, IfOk, if◌then◌else◌, refl}
use Rattle.std.specs.List.{AllByRecursion}
use Rattle.std.specs.Str.{bytes_eq}
use Rattle.std.proofs.Common.{sym, ap, ◌∙◌, arith}
use Rattle.std.proofs.lemmas.Bool.{leb-true, le-leb}
use Rattle.std.proofs.lemmas.List.Sums.{sum_by-append}
use Rattle.std.proofs.lemmas.Slice.Eq.{bytes_eq-Decides}
use Rattle.sync_data.specs.Payload.{IsSmall, payload}
use Rattle.sync_data.specs.declared.instr.Instr.{Instr}
use Rattle.sync_base.specs.declared.answers.Mismatch.{Mismatch}
use Rattle.sync_base.specs.declared.answers.Outcome.{Outcome}
use Rattle.sync_base.specs.Objects.{CarriesAsMuch}
use Rattle.sync_base.specs.Lemmas.Payloads.{payloads_stay}
use Rattle.sync_base.specs.Lemmas.Whole.{empty_is_state}
use Rattle.sync_base.specs.Rules.{meeting}
use Rattle.sync_base.specs.States.{IsState}
use Rattle.sync_law.specs.Instrs.{as_pair}
use Rattle.sync_law.specs.Coded.{coded, meet_by_code}
use Rattle.sync_law.specs.CodedLaw.{keeps_by_code, two_sided_by_code, kinds_by_code}
use Rattle.sync_codec.specs.declared.refusal.Fault.{Fault}
use Rattle.sync_codec.specs.Spelling.{spelling}
use Rattle.sync_codec.specs.Decoding.{instrs_in}
use Rattle.sync_codec.specs.Valid.{AreInstrs}
use Rattle.sync_codec.specs.Lemmas.Back.{read_back}
use Rattle.sync_model.specs.Profile.{Lawful, IsNoHeavier}
use Rattle.sync_exchange.specs.Profile.{weight, fits_changeset, as_read, unspell, the_profile}
use Rattle.sync_exchange.specs.Lemmas.Whole.{IsWhole}
use Rattle.sync_exchange.specs.Lemmas.Weights.{light_whole, carried}
use Rattle.sync_exchange.specs.Lemmas.Strings.{are_instrs, whole_each}
use Rattle.sync_exchange.specs.Lemmas.Adapting.{lighter, same_form, same_tables}
use Rattle.sync_exchange.specs.Lemmas.Parts.{lawful_parts}
use Rattle.sync_exchange.specs.Lemmas.Left.{LeftWhole, meeting_keeps}

left_true : (a b : Bool) → (a && b) ≡ true → a ≡ true
left_true true b e = refl
left_true false b e = e

right_true : (a b : Bool) → (a && b) ≡ true → b ≡ true
right_true true b e = e
right_true false b e = cc

both_true : (a b : Bool) → a ≡ true → b ≡ true → (a && b) ≡ true
both_true true b e f = f
both_true false b e f = e

-- ---- weights

no_heavier : (i : Instr) (o : Option Instr) → IsWhole i → LeftWhole o → CarriesAsMuch i o → IsNoHeavier the_profile i o
no_heavier i None w l c = tt
no_heavier i (Some j) w l c = let m = carried i w in let n = carried j l in omega (arith, m, n, c)

coded_weighs : (a b : Instr) (m : Result Outcome Mismatch) → IsWhole a → IsWhole b → IfOk m (λ o. LeftWhole o.left × LeftWhole o.right) → IfOk m (λ o. CarriesAsMuch a o.left × CarriesAsMuch b o.right) → IfOk (coded (as_pair m)) (λ o. IsNoHeavier the_profile a o.0 × IsNoHeavier the_profile b o.1)
coded_weighs a b (Ok o) v w l c = (no_heavier a o.left v l.0 c.0, no_heavier b o.right w l.1 c.1)
coded_weighs a b (Err m) v w l c = tt

weighs : (later : Bool) (a b : Instr) → weight a ≤ 4194304 → weight b ≤ 4194304 → IfOk (meet_by_code a b later) (λ o. IsNoHeavier the_profile a o.0 × IsNoHeavier the_profile b o.1)
weighs later a b light light_too =
    let v = light_whole a light in
    let w = light_whole b light_too in
    coded_weighs a b (meeting a b later) v w (meeting_keeps a b later v w) (payloads_stay a b later)

-- ---- lists within the limits

sum_first : (size : Instr → ℕ) (i : Instr) (is : List Instr) → sum_by size (i ∷ is) ≡ size i + sum_by size is
sum_first size i is = let e : sum_by size (i ∷ is) ≡ (0 + size i) + sum_by size is = sum_by-append size (i ∷ []) is in e ∙ ap (λ n. n + sum_by size is) (omega arith)

first_light : (i : Instr) (is : List Instr) → sum_by weight (i ∷ is) ≡ weight i + sum_by weight is
first_light i is = sum_first weight i is

first_payload : (i : Instr) (is : List Instr) → sum_by payload (i ∷ is) ≡ payload i + sum_by payload is
first_payload i is = sum_first payload i is

each_whole : (is : List Instr) → sum_by weight is ≤ 4194304 → AllByRecursion IsWhole is
each_whole [] h = tt
each_whole (i ∷ is) h = let e = first_light i is in (light_whole i (omega (arith, h, e)), each_whole is (omega (arith, h, e)))

same_sum : (is : List Instr) → AllByRecursion IsWhole is → sum_by weight is ≡ sum_by payload is
same_sum [] h = refl
same_sum (i ∷ is) h = let e = first_light i is in let f = first_payload i is in let g = carried i h.0 in let k = same_sum is h.1 in omega (arith, e, f, g, k)

-- a list within the limits is one that the codec reads back, and the other way round
pub small_instrs : (is : List Instr) → fits_changeset is ≡ true → AreInstrs is
small_instrs is e =
    let few = leb-true (length is) 65536 (left_true _ _ e) in
    let light = leb-true (sum_by weight is) 4194304 (right_true (nat_le (length is) 65536) (nat_le (sum_by weight is) 4194304) e) in
    let whole = each_whole is light in
    let same = same_sum is whole in
    are_instrs is (few, omega (arith, light, same)) whole

pub instrs_small : (is : List Instr) → AreInstrs is → fits_changeset is ≡ true
instrs_small is v =
    let same = same_sum is (whole_each is v) in
    let light = v.small.1 in
    both_true (nat_le (length is) 65536) (nat_le (sum_by weight is) 4194304) (le-leb (length is) 65536 v.small.0) (le-leb (sum_by weight is) 4194304 (omega (arith, light, same)))

-- what is within the limits is few and small
pub fitting_small : (is : List Instr) → fits_changeset is ≡ true → IsSmall is
fitting_small is e = (small_instrs is e).small

same_bytes : (s t : List ℕ) → s ≡ t → bytes_eq s t ≡ true
same_bytes s t e = (bytes_eq-Decides s t).1 e

kept_if : (b : Bool) (is : List Instr) → b ≡ true → ◌≡◌ {A = Result (List Instr) (ℕ × ℕ)} (if b then Ok is else Err (0, 0)) (Ok is)
kept_if true is e = refl
kept_if false is e = cc

-- the bytes of a list that the codec takes as one are read as that list
pub reads : (bytes : List ℕ) (is : List Instr) → AreInstrs is → bytes ≡ spelling is → unspell bytes ≡ Ok is
reads bytes is v e =
    ap (as_read bytes) (read_back bytes is v e) ∙ kept_if (fits_changeset is && bytes_eq (spelling is) bytes) is (both_true _ _ (instrs_small is v) (same_bytes (spelling is) bytes (sym e)))

-- and a fault is told as the codec tells it
pub faults : (bytes : List ℕ) (fault : Fault) → instrs_in bytes ≡ Err fault → unspell bytes ≡ as_read bytes (Err fault)
faults bytes fault e = ap (as_read bytes) e

spelled : (is : List Instr) → fits_changeset is ≡ true → unspell (spelling is) ≡ Ok is
spelled is e = reads (spelling is) is (small_instrs is e) refl

-- what was read passed both tests
tested : (bytes : List ℕ) (r : Result (List Instr) Fault) → IfOk (as_read bytes r) (λ is. (fits_changeset is && bytes_eq (spelling is) bytes) ≡ true)
tested bytes (Err fault) = tt
tested bytes (Ok is) = go (fits_changeset is && bytes_eq (spelling is) bytes) refl
  where
    go : (b : Bool) → (fits_changeset is && bytes_eq (spelling is) bytes) ≡ b → IfOk {E = ℕ × ℕ} (if b then Ok is else Err (0, 0)) (λ js. (fits_changeset js && bytes_eq (spelling js) bytes) ≡ true)
    go true e = e
    go false e = tt

small_of : (bytes : List ℕ) (r : Result (List Instr) (ℕ × ℕ)) → IfOk r (λ is. (fits_changeset is && bytes_eq (spelling is) bytes) ≡ true) → IfOk r (λ is. fits_changeset is ≡ true)
small_of bytes (Ok is) h = left_true (fits_changeset is) (bytes_eq (spelling is) bytes) h
small_of bytes (Err f) h = tt

spelled_of : (bytes : List ℕ) (r : Result (List Instr) (ℕ × ℕ)) → IfOk r (λ is. (fits_changeset is && bytes_eq (spelling is) bytes) ≡ true) → IfOk r (λ is. spelling is ≡ bytes)
spelled_of bytes (Ok is) h = (bytes_eq-Decides (spelling is) bytes).0 (right_true (fits_changeset is) (bytes_eq (spelling is) bytes) h)
spelled_of bytes (Err f) h = tt

pub real_lawful : Lawful the_profile IsState
real_lawful = record {
  first = empty_is_state;
  keeps = keeps_by_code;
  two_sided = two_sided_by_code;
  kinds = λ later a b s sa sb fits e f. kinds_by_code later a b s sa sb e f;
  weighs = weighs;
  adapts = λ s i. record { lighter = lighter s i; form = same_form s i; tables = λ t. same_tables t s i };
  spelled = spelled;
  read_small = λ bytes. small_of bytes (unspell bytes) (tested bytes (instrs_in bytes));
  spelling = λ bytes. spelled_of bytes (unspell bytes) (tested bytes (instrs_in bytes));
  parts = lawful_parts;
}
