-- Instructions that act one after the other, and are taken back.
use Rattle.std.proofs.Common.{◌≡◌, ℕ, zero, suc, ◌+◌, ◌≤◌, Bool, true, false, List, [], ◌∷◌, ◌++◌, length, drop, Option, None, Some, Ok, Err, cond, refl, sym, ◌∙◌, ap, get_or, ◌<◌, arith}
use Rattle.std.proofs.Math.ListN.{get_or-append}
use Rattle.std.proofs.Math.Seq.{drop-cons, get_or-append_seam}
use Rattle.std.proofs.lemmas.List.Sums.{sum_by-append}
use Rattle.std.specs.List.{IsLastAndRest}
use Rattle.std.specs.Option.{option_and_then, option_map}
use Rattle.sync_data.specs.declared.instr.Instr.{Instr}
use Rattle.sync_base.specs.declared.answers.Break.{Break}
use Rattle.sync_base.specs.After.{after}
use Rattle.sync_base.specs.Checks.{act, act_all, break_of, break_at, unbroken}
use Rattle.sync_base.specs.Effects.{effect_of, is_effect}
use Rattle.sync_base.specs.Lemmas.Whole.{keeps_state}
use Rattle.sync_base.specs.States.{State, IsState}
use Rattle.sync_store.specs.Asking.{verdict}
use Rattle.sync_store.specs.Small.{most_bytes, IsSmallState, MayGrow}
use Rattle.sync_store.proofs.Small.{stays_small}
use Rattle.sync_data.specs.Payload.{payload, payload_all}
use Rattle.sync_store.specs.Backs.{back, all_back, back_last}
use Rattle.sync_store.specs.declared.undo.Undo.{Undo}

pub not_broken : (b : Option Break) → Ok tt ≡ verdict b → b ≡ None
not_broken None e = refl
not_broken (Some b) e = cc

pub broken_by : (b : Option Break) {cause : Break} → Err cause ≡ verdict b → b ≡ Some cause
broken_by None e = cc
broken_by (Some b) e = cc

acting_on : (placed : Bool) (o : Option Break) (t : State) → placed ≡ true → o ≡ None → cond placed (unbroken o t) None ≡ Some t
acting_on true None t e f = refl
acting_on true (Some b) t e f = cc
acting_on false o t e f = cc

-- an instruction whose place lies in its list, and which meets no break, acts
pub acts_on : (i : Instr) (s : State) {t : State} → is_effect (effect_of i) ≡ true → break_of s (effect_of i) ≡ None → t ≡ after s (effect_of i) → act i s ≡ Some t
acts_on i s e f g = acting_on (is_effect (effect_of i)) (break_of s (effect_of i)) (after s (effect_of i)) e f ∙ ap Some (sym g)

-- ---- how far a list has come: what is left gives what all gives, and what was done is taken back
abbrev pub shifted : ℕ → Option (ℕ × Break) → Option (ℕ × Break)
shifted n = option_map (λ p. (n + p.0, p.1))

pub record Goes (is : List Instr) (old now : State) (place : ℕ) (undos : List Undo) : Type 0 where
  pub stands : IsState now
  pub small : payload_all is ≤ most_bytes → IsSmallState old → IsSmallState now
  pub acts : act_all (drop place is) now ≡ act_all is old
  pub breaks : shifted place (break_at (drop place is) now) ≡ break_at is old
  pub back : all_back undos now ≡ old

same_pair : (p : Option (ℕ × Break)) → shifted 0 p ≡ p
same_pair None = refl
same_pair (Some p) = let n : 0 + p.0 ≡ p.0 = omega arith in λ i. Some (n i, p.1)

pub begins : (is : List Instr) (s : State) → IsState s → Goes is s s 0 []
begins is s ok = record { stands = ok; small = λ _ h. h; acts = refl; breaks = same_pair (break_at is s); back = refl }

cut_at : (place : ℕ) (is : List Instr) (i : Instr) → place < length is → i ≡ get_or is place i → drop place is ≡ i ∷ drop (place + 1) is
cut_at place is i h e =
    let first : drop place is ≡ get_or is place i ∷ drop (suc place) is = drop-cons is place i h in
    let one_more : suc place ≡ place + 1 = omega arith in
    cc

sum_first : (i : Instr) (is : List Instr) → payload_all (i ∷ is) ≡ payload i + payload_all is
sum_first i is = let e : payload_all (i ∷ is) ≡ (0 + payload i) + payload_all is = sum_by-append payload (i ∷ []) is in e ∙ ap (λ n. n + payload_all is) (omega arith)

-- an instruction bears no more than its list
bears_less : (is : List Instr) (place : ℕ) (i : Instr) → place < length is → i ≡ get_or is place i → payload i ≤ payload_all is
bears_less [] place i h e = omega arith
bears_less (j ∷ is) zero i h e = let f = sum_first j is in let g = ap payload e in omega arith
bears_less (j ∷ is) (suc place) i h e = let f = sum_first j is in let g = bears_less is place i (omega arith) e in omega arith

-- an instruction before the last stands in the list at its own place
pub stands_before : (is others : List Instr) (place : ℕ) (last i : Instr) → IsLastAndRest is last others → place < length others → i ≡ get_or others place i
    → (place < length is) × (i ≡ get_or is place i)
stands_before is others place last i split h at =
    (omega (arith, split.1), at ∙ sym (ap (λ l. get_or l place i) split.0 ∙ get_or-append others (last ∷ []) i place h))

-- and the last behind the others
pub stands_last : (is others : List Instr) (place : ℕ) (last : Instr) → IsLastAndRest is last others → place ≡ length others
    → (place < length is) × (last ≡ get_or is place last)
stands_last is others place last split at_end =
    (omega (arith, split.1), sym (ap (λ l. get_or l place last) split.0 ∙ ap (λ n. get_or (others ++ last ∷ []) n last) at_end ∙ get_or-append_seam others last [] last))

rest_broken : (place : ℕ) (o : Option Break) (rest : Option (ℕ × Break)) → o ≡ None
    → shifted place (elim o [ Some b ↦ Some (0, b) | None ↦ option_map (λ p. (suc p.0, p.1)) rest ]) ≡ shifted (place + 1) rest
rest_broken place None None e = refl
rest_broken place None (Some p) e = let n : place + suc p.0 ≡ (place + 1) + p.0 = omega arith in ap (λ m. Some (m, p.1)) n
rest_broken place (Some b) rest e = cc

pub goes_on : (is : List Instr) (old now new : State) (place : ℕ) (undos : List Undo) (i : Instr) (undo : Undo) → Goes is old now place undos
    → place < length is → i ≡ get_or is place i → break_of now (effect_of i) ≡ None → is_effect (effect_of i) ≡ true → new ≡ after now (effect_of i) → back undo new ≡ now → MayGrow (effect_of i)
    → Goes is old new (place + 1) (undos ++ undo ∷ [])
goes_on is old now new place undos i undo so h at none placed is_after is_back grows =
    let cut = cut_at place is i h at in
    let acted = acts_on i now placed none is_after in
    record {
      stands = keeps_state i now new so.stands acted;
      small = λ light ok. stays_small i now new so.stands ((let b = bears_less is place i h at in omega (arith, b, light)), grows) (so.small light ok) acted;
      acts = sym (ap (λ l. act_all l now) cut ∙ ap (option_and_then (act_all (drop (place + 1) is))) acted) ∙ so.acts;
      breaks = ap (λ s. shifted (place + 1) (break_at (drop (place + 1) is) s)) is_after ∙ sym (ap (λ l. shifted place (break_at l now)) cut ∙ rest_broken place (break_of now (effect_of i)) (break_at (drop (place + 1) is) (after now (effect_of i))) none) ∙ so.breaks;
      back = back_last undos undo new ∙ ap (all_back undos) is_back ∙ so.back;
    }

first_broken : (place : ℕ) (o : Option Break) (rest : Option (ℕ × Break)) {b : Break} → o ≡ Some b
    → shifted place (elim o [ Some b ↦ Some (0, b) | None ↦ option_map (λ p. (suc p.0, p.1)) rest ]) ≡ Some (place, b)
first_broken place None rest e = cc
first_broken place (Some b) rest e = let n : place + 0 ≡ place = omega arith in (λ i. Some (n i, b)) ∙ ap (λ b. Some (place, b)) (same_some e)
  where
    same_some : {A : Type 0} {x y : A} → Some x ≡ Some y → x ≡ y
    same_some e = cc

-- the break at that place is the first of all
pub breaks_here : (is : List Instr) (old now : State) (place : ℕ) (undos : List Undo) (i : Instr) {b : Break} → Goes is old now place undos
    → place < length is → i ≡ get_or is place i → break_of now (effect_of i) ≡ Some b → break_at is old ≡ Some (place, b)
breaks_here is old now place undos i so h at e =
    sym so.breaks ∙ ap (λ l. shifted place (break_at l now)) (cut_at place is i h at) ∙ first_broken place (break_of now (effect_of i)) (break_at (drop (place + 1) is) (after now (effect_of i))) e
