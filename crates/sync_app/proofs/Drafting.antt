-- A transaction with an instruction more.
use Rattle.std.proofs.Common.{◌≡◌, ℕ, ◌+◌, ◌<◌, ◌≤◌, true, List, [], ◌∷◌, ◌++◌, length, Option, None, Some, Result, Ok, Err, refl, sym, ◌∙◌, ap, subst, arith}
use Rattle.std.specs.Option.{option_and_then}
use Rattle.std.proofs.lemmas.List.Sums.{sum_by-append}
use Rattle.std.proofs.lemmas.List.{length-append}
use Rattle.sync_data.specs.declared.instr.Instr.{Instr}
use Rattle.sync_data.specs.Payload.{IsSmall, payload, payload_all, capped}
use Rattle.sync_base.specs.After.{after}
use Rattle.sync_base.specs.Checks.{act, act_all, break_of, unbroken}
use Rattle.sync_base.specs.Effects.{effect_of, is_effect}
use Rattle.sync_base.specs.States.{State}
use Rattle.sync_base.specs.declared.answers.Break.{Break}
use Rattle.sync_base.specs.Lemmas.Runs.{act_or_break}
use Rattle.sync_store.specs.Applying.{after_all}
use Rattle.sync_app.specs.Checking.{break_in}
use Rattle.sync_app.specs.Drafts.{Draft, IsDraft, Puts, Weighs, and_instr, objects_of}
use Rattle.sync_app.specs.Finding.{Finds}
use Rattle.sync_app.specs.Keeping.{Keeps}
use Rattle.sync_app.specs.Sketches.{IsSketchOf, ShowsSame, Takes, base_of, note_of}
use Rattle.sync_app.specs.Notes.{Note}
use Rattle.sync_app.specs.Notes as notes
use Rattle.sync_app.specs.declared.refusal.Refusal.{Refusal}
use Rattle.sync_app.specs.declared.refusal.Refusal.TheVariants as refusals
use Rattle.sync_app.specs.declared.sketch.Sketch.{Sketch}
use Rattle.sync_app.proofs.Finding.{finds}
use Rattle.sync_app.proofs.Following.{followed, same_sketch}

-- ---- one more
act_all-append : (is js : List Instr) (s : State) → act_all (is ++ js) s ≡ option_and_then (act_all js) (act_all is s)
act_all-append [] js s = refl
act_all-append (i ∷ is) js s = elim (act i s) as (λ x. option_and_then (act_all (is ++ js)) x ≡ option_and_then (act_all js) (option_and_then (act_all is) x)) [
  | None ↦ refl
  | Some t ↦ act_all-append is js t
]

pub after_one : (is : List Instr) (i : Instr) (s : State) → after_all (is ++ i ∷ []) s ≡ after (after_all is s) (effect_of i)
after_one [] i s = refl
after_one (j ∷ is) i s = after_one is i (after s (effect_of j))

-- an instruction that is well placed and meets no break acts
pub acts_so : (i : Instr) (s : State) → is_effect (effect_of i) ≡ true → break_of s (effect_of i) ≡ None → act i s ≡ Some (after s (effect_of i))
acts_so i s h e = act_or_break i s h ∙ ap (λ b. unbroken b (after s (effect_of i))) e

one_more : (is : List Instr) (i : Instr) → length (is ++ i ∷ []) ≡ length is + 1
one_more is i = length-append is (i ∷ [])

pub weighs_more : (is : List Instr) (i : Instr) → payload_all (is ++ i ∷ []) ≡ payload_all is + payload i
weighs_more is i = let a = sum_by-append payload is (i ∷ []) in let b : payload_all (i ∷ []) ≡ payload i = omega arith in omega (a, b, arith)

pub small_more : (is : List Instr) (i : Instr) → length is < 65536 → payload_all is + payload i ≤ 4194304 → IsSmall (is ++ i ∷ [])
small_more is i h w = let a = one_more is i in let b = weighs_more is i in (omega (a, h, arith), omega (b, w, arith))

pub too_long : (is : List Instr) (i : Instr) → 65536 ≤ length is → ¬ IsSmall (is ++ i ∷ [])
too_long is i h small = let a = one_more is i in let b = small.0 in omega (a, b, h, arith)

pub too_heavy : (is : List Instr) (i : Instr) → 4194304 < payload_all is + payload i → ¬ IsSmall (is ++ i ∷ [])
too_heavy is i h small = let a = weighs_more is i in let b = small.1 in omega (a, b, h, arith)

-- ---- an instruction that acts is put
abbrev draft : Sketch → List Instr → Draft
draft k is = record { base = base_of k; instrs = is }

-- what is taken leaves the objects before all
same_base : (note : Note) (old new : Sketch) → Takes note old new → base_of new ≡ base_of old
same_base notes.Nothing old new h = ap base_of h
same_base (notes.Table add) old new h = ap base_of h
same_base (notes.Column add) old new h = ap base_of h
same_base (notes.Object o x) old new h = ap base_of h.1
same_base (notes.List p e) old new h = ap base_of h.1

-- nothing has come to it
pub kept_same : (old new : Sketch) (is : List Instr) (w : ℕ) → ShowsSame old new → Keeps old is w → {js : List Instr} → js ≡ is → Keeps new js w
kept_same old new is w h k e = subst (λ js. Keeps new js w) (sym e) (record {
  draft = subst (λ s. IsDraft (record { base = s; instrs = is })) (sym h.base) k.draft;
  sketch = subst (λ s. IsSketchOf new (after_all is s) (length is)) (sym h.base) (same_sketch old new (after_all is (base_of old)) (length is) h k.sketch);
  payload_is = k.payload_is;
})

kept_more : (old new : Sketch) (is : List Instr) (i : Instr) (weight more : ℕ) → Keeps old is weight → is_effect (effect_of i) ≡ true → break_of (after_all is (base_of old)) (effect_of i) ≡ None
    → IsSmall (is ++ i ∷ []) → more ≡ payload_all (is ++ i ∷ []) → base_of new ≡ base_of old → Takes (note_of old (length is) (effect_of i)) old new
    → Keeps new (is ++ i ∷ []) more
kept_more old new is i weight more k placed fine small heavy base taken =
    let s = after_all is (base_of old) in
    let acts : act i s ≡ Some (after s (effect_of i)) = acts_so i s placed fine in
    let after_is : after_all (is ++ i ∷ []) (base_of new) ≡ after s (effect_of i) = ap (after_all (is ++ i ∷ [])) base ∙ after_one is i (base_of old) in
    record {
      draft = record {
        acts = ap (act_all (is ++ i ∷ [])) base ∙ act_all-append is (i ∷ []) (base_of old) ∙ ap (option_and_then (act_all (i ∷ []))) k.draft.acts
            ∙ ap (option_and_then (act_all [])) acts ∙ ap Some (sym after_is);
        small = small;
      };
      sketch = subst (λ m. IsSketchOf new (after_all (is ++ i ∷ []) (base_of new)) m) (sym (one_more is i)) (subst (λ t. IsSketchOf new t (length is + 1)) (sym after_is) (followed old new i s (length is) k.sketch acts taken));
      payload_is = heavy;
    }

-- one more has come to it
pub kept_put : (old new : Sketch) (is : List Instr) (w : ℕ) → Keeps old is w → (i : Instr) (n : ℕ) {d : Draft} → draft old is ≡ d → Weighs (Ok n) i d → Takes (note_of old (length is) (effect_of i)) old new
    → {js : List Instr} → js ≡ is ++ i ∷ [] → Keeps new js n
kept_put old new is w k i n view h taken e =
    let g = subst (λ d. Weighs (Ok n) i d) (sym view) h in
    subst (λ js. Keeps new js n) (sym e) (kept_more old new is i w n k g.0 g.1 g.2 g.3 (same_base (note_of old (length is) (effect_of i)) old new taken) taken)

pub put_so : (old new : Sketch) (is : List Instr) (w : ℕ) → Keeps old is w → (i : Instr) (n : ℕ) {d : Draft} → draft old is ≡ d → Weighs (Ok n) i d → Takes (note_of old (length is) (effect_of i)) old new
    → {js : List Instr} → js ≡ is ++ i ∷ [] → Puts (Ok tt) i d (draft new js)
put_so old new is w k i n {d} view h taken e =
    let g = subst (λ d. Weighs (Ok n) i d) (sym view) h in
    let base = same_base (note_of old (length is) (effect_of i)) old new taken in
    let same : draft new _ ≡ and_instr (draft old is) i = λ j. record { base = base j; instrs = e j } in
    let acts : act i (objects_of (draft old is)) ≡ Some (objects_of (and_instr (draft old is) i)) = acts_so i (after_all is (base_of old)) g.0 g.1 ∙ ap Some (sym (after_one is i (base_of old))) in
    subst (λ t. Puts (Ok tt) i d t) (sym same) (subst (λ d. Puts (Ok tt) i d (and_instr (draft old is) i)) view (refl, acts))

-- ---- what is refused, and what is found fine
refused_by : (k : Sketch) (is : List Instr) (i : Instr) (why : Refusal) (found : Option Break) → Finds (Err why) found → found ≡ break_of (objects_of (draft k is)) (effect_of i) → Puts (Err why) i (draft k is) (draft k is)
refused_by k is i (refusals.Break b) found h e = (sym e ∙ h, refl)
refused_by k is i refusals.NoMemory found h e = refl
refused_by k is i refusals.TooLarge found h e = absurd h
refused_by k is i refusals.ListFull found h e = absurd h
refused_by k is i (refusals.OutOfRange p l) found h e = absurd h

pub refused_so : (k : Sketch) (is : List Instr) (w : ℕ) → Keeps k is w → (i : Instr) {why : Refusal} {r : Result (Unit {0}) Refusal} → Finds r (break_in k (effect_of i)) → r ≡ Err why → {d : Draft} → draft k is ≡ d → Puts (Err why) i d d
refused_so k is w so i {why} found e view =
    subst (λ d. Puts (Err why) i d d) view (refused_by k is i why (break_in k (effect_of i)) (subst (λ r. Finds r (break_in k (effect_of i))) e found) (finds k (after_all is (base_of k)) (length is) (effect_of i) so.sketch))

pub fine_so : (k : Sketch) (is : List Instr) (w : ℕ) → Keeps k is w → (i : Instr) {u : Unit {0}} {r : Result (Unit {0}) Refusal} → Finds r (break_in k (effect_of i)) → r ≡ Ok u → break_of (after_all is (base_of k)) (effect_of i) ≡ None
fine_so k is w so i found e =
    sym (finds k (after_all is (base_of k)) (length is) (effect_of i) so.sketch) ∙ subst (λ r. Finds r (break_in k (effect_of i))) e found

-- ---- what they carry
pub within : (n : ℕ) → capped n ≤ 4194304 → capped n ≡ n
within n h = omega (h, arith)

pub beyond : (n : ℕ) → 4194304 < capped n → 4194304 < n
beyond n h = omega (h, arith)

-- one more acts and fits in
pub weighed : (k : Sketch) (is : List Instr) (w : ℕ) → Keeps k is w → (i : Instr) {u : Unit {0}} {r : Result (Unit {0}) Refusal} → Finds r (break_in k (effect_of i)) → r ≡ Ok u → is_effect (effect_of i) ≡ true
    → (n : ℕ) → n ≡ capped (w + payload i) → n ≤ 4194304 → length is < 65536 → {d : Draft} → draft k is ≡ d → Weighs (Ok n) i d
weighed k is w so i found e placed n heavy light few view =
    let whole : n ≡ w + payload i = heavy ∙ within (w + payload i) (subst (λ m. m ≤ 4194304) heavy light) in
    let all : n ≡ payload_all is + payload i = whole ∙ ap (λ m. m + payload i) so.payload_is in
    subst (λ d. Weighs (Ok n) i d) view
    (placed, fine_so k is w so i found e, small_more is i few (subst (λ m. m ≤ 4194304) all light), all ∙ sym (weighs_more is i))
