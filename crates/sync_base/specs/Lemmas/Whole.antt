-- The laws of instructions, from those of their effects.
use Rattle.std.specs.Prelude.{◌≡◌, ◌↔◌, ◌⊎◌, Bool, true, false, if◌then◌else◌, is_some, Option, None, Some, IfOk, Ok, Err, refl}
use Rattle.std.specs.Option.{option_map, option_map_or, option_and_then}
use Rattle.std.specs.FinMap as map
use Rattle.std.proofs.Common.{sym, ◌∙◌, ap, subst, inl, inr}
use Rattle.sync_data.specs.Orders.{name_cmp}
use Rattle.sync_data.specs.declared.key.Key.{Key}
use Rattle.sync_data.specs.declared.instr.Instr.{Instr}
use Rattle.sync_data.specs.declared.instr.Instr.TheVariants as instrs
use Rattle.sync_base.specs.Effects.{Effect, Set, Add, Replace, Insert, Remove, Include, Exclude, Bind, Empty, NewTable, NewColumn, Create, Erase, Change, effect_of, instr_of}
use Rattle.sync_base.specs.States.{State, Table, Cells, object_cmp, no_state, is_of_kind, IsState}
use Rattle.sync_base.specs.After.{after}
use Rattle.sync_base.specs.Checks.{act, act_effect}
use Rattle.sync_base.specs.Merged.{merge, merged_state, is_defined}
use Rattle.sync_base.specs.Rules.{Answer, Outcomes, rule, outcome_of}
use Rattle.sync_base.specs.Agreement.{act_rest, Agree, TwoSided, Mirrored, Differ, SizesFit}
use Rattle.sync_base.specs.Agreement as agreement
use Rattle.sync_base.specs.Lemmas.Shaped.{IsShaped}
use Rattle.sync_base.specs.Lemmas.Sound.{IsSound, sound-after}
use Rattle.sync_base.specs.Lemmas.Steps.{found, state-after}
use Rattle.sync_base.specs.Lemmas.Agreed.{after_outcome, ActsOutcome, AgreesIfMet}
use Rattle.sync_base.specs.Lemmas.Mirror.{mirrored, rule_turned}
use Rattle.sync_base.specs.Lemmas.Leaves.{listed, AreEffects, leaves}
use Rattle.sync_base.specs.Lemmas.Places.{acted, acting}
use Rattle.sync_base.specs.Lemmas.Sides.{two_sided}
use Rattle.sync_base.specs.declared.answers.Mismatch.TheVariants as mismatches
use Rattle.sync_base.specs.Lemmas.Answers.{NoSizes, no_sizes}
use Rattle.sync_base.specs.Lemmas.Defined.{Told, told}

-- ---- instructions and their effects are one to one
pub effect-instr : (d : Effect) → effect_of (instr_of d) ≡ d
effect-instr (Change p (Set v)) = refl
effect-instr (Change p (Add n)) = refl
effect-instr (Change p (Replace s v)) = refl
effect-instr (Change p (Insert s v)) = refl
effect-instr (Change p (Remove s)) = refl
effect-instr (Change p (Include v)) = refl
effect-instr (Change p (Exclude v)) = refl
effect-instr (Change p (Bind k v)) = refl
effect-instr (Change p Empty) = refl
effect-instr (NewTable t k) = refl
effect-instr (NewColumn t c def) = refl
effect-instr (Create o) = refl
effect-instr (Erase o) = refl

pub instr-effect : (i : Instr) → instr_of (effect_of i) ≡ i
instr-effect (instrs.AddTable i) = refl
instr-effect (instrs.AddColumn i) = refl
instr-effect (instrs.CreateObject i) = refl
instr-effect (instrs.EraseObject i) = refl
instr-effect (instrs.Update i) = refl
instr-effect (instrs.AddInteger i) = refl
instr-effect (instrs.ListUpdate i) = refl
instr-effect (instrs.ListInsert i) = refl
instr-effect (instrs.ListErase i) = refl
instr-effect (instrs.SetInsert i) = refl
instr-effect (instrs.SetErase i) = refl
instr-effect (instrs.DictUpdate i) = refl
instr-effect (instrs.Clear i) = refl

-- ---- a state by its two halves
housed_by_key : (x : Option Table) (k : Key) → option_map_or (λ table. is_of_kind table.key k) x false ≡ true → is_some x ≡ true
housed_by_key None k h = cc
housed_by_key (Some t) k h = refl

pub shaped_of : (s : State) → IsState s → IsShaped s
shaped_of s ok = record { housed = λ o h. housed_by_key (map.get s.tables o.0) o.1 (ok.keyed o h); filled = ok.filled; shaped = ok.shaped }

pub sound_of : (s : State) → IsState s → IsSound s
sound_of s ok = record { keyed = ok.keyed; columns = ok.columns; fitting = ok.fitting }

pub state_of : (s : State) → IsShaped s → IsSound s → IsState s
state_of s a b = record { keyed = b.keyed; filled = a.filled; shaped = a.shaped; fitting = b.fitting; columns = b.columns }

-- ---- an instruction that acts keeps a state a state
pub keeps_state : (i : Instr) (s t : State) → IsState s → act i s ≡ Some t → IsState t
keeps_state i s t ok e =
    let a = acted (effect_of i) s t e in
    let f = found s (effect_of i) a.acts in
    subst IsState a.gives (state_of (after s (effect_of i)) (state-after s (shaped_of s ok) (effect_of i) f) (sound-after s (shaped_of s ok) (sound_of s ok) (effect_of i) f))

none_there : {A : Type 0} (o : Option A) → o ≡ None → is_some o ≡ true → ⊥
none_there o e h = let g : is_some o ≡ false = ap is_some e in cc

pub empty_is_state : IsState no_state
empty_is_state = record {
  keyed = λ o h. absurd (none_there (map.get (map.empty {R = object_cmp}) o) (map.get-empty object_cmp o) h);
  filled = λ o c h. absurd (none_there (map.get (map.empty {R = object_cmp}) o) (map.get-empty object_cmp o) h);
  shaped = λ o c x col e f. let g : None ≡ Some x = sym (ap (option_and_then (λ (m : Cells). map.get m c)) (map.get-empty object_cmp o)) ∙ e in cc;
  fitting = λ o c x col e f. let g : None ≡ Some x = sym (ap (option_and_then (λ (m : Cells). map.get m c)) (map.get-empty object_cmp o)) ∙ e in cc;
  columns = λ t c col h. let g : None ≡ Some col = sym (ap (option_and_then (λ (u : Table). map.get u.columns c)) (map.get-empty name_cmp t)) ∙ h in cc;
}

-- ---- the two-sided law
rest_acts : (s u : State) (o : Option Effect) → AreEffects (listed o) → ActsOutcome s o → after_outcome s o ≡ u → act_rest (option_map instr_of o) s ≡ Some u
rest_acts s u None i h e = ap Some e
rest_acts s u (Some d) i h e = ap (λ k. act_effect k s) (effect-instr d) ∙ acting d s u (record { fine = i.0; acts = h; gives = e })

mirrored_outcome : (m : Answer Effect) → outcome_of (mirrored m) ≡ agreement.mirrored (outcome_of m)
mirrored_outcome (Ok f) = refl
mirrored_outcome (Err m) = refl

pub meeting_turned : (a b : Instr) → Mirrored a b
meeting_turned a b later = ap outcome_of (rule_turned later (effect_of a) (effect_of b)) ∙ mirrored_outcome (rule later (effect_of a) (effect_of b))

defined_is : (d : Bool) (t : State) → d ≡ true → (if d then Some t else None) ≡ Some t
defined_is true t h = refl
defined_is false t h = cc

agreed : (a b : Instr) (l : Bool) (s sa sb : State) (m : Answer Effect) → after s (effect_of a) ≡ sa → after s (effect_of b) ≡ sb
    → ((f : Outcomes Effect) → m ≡ Ok f → AreEffects (listed f.left) × AreEffects (listed f.right))
    → AgreesIfMet s (effect_of a) (effect_of b) l m → Told m (is_defined (effect_of a) (effect_of b)) → IfOk (outcome_of m) (Agree a b l s sa sb)
agreed a b l s sa sb (Err m) p q fine h t = tt
agreed a b l s sa sb (Ok f) p q fine h t =
    let both = merged_state s (effect_of a) (effect_of b) l in
    let is : merge a b l s ≡ Some both = defined_is (is_defined (effect_of a) (effect_of b)) both t.told in
    record {
      defined = ap is_some is;
      left_first = ap (act_rest (option_map instr_of f.right)) (sym p) ∙ rest_acts (after s (effect_of a)) both f.right (fine f refl).1 h.right_acts h.right_gives ∙ sym is;
      right_first = ap (act_rest (option_map instr_of f.left)) (sym q) ∙ rest_acts (after s (effect_of b)) both f.left (fine f refl).0 h.left_acts h.left_gives ∙ sym is;
    }

pub instrs_two_sided : (a b : Instr) → TwoSided a b
instrs_two_sided a b l s sa sb ok e f =
    let p = acted (effect_of a) s sa e in
    let q = acted (effect_of b) s sb f in
    agreed a b l s sa sb (rule l (effect_of a) (effect_of b)) p.gives q.gives (λ r h. leaves (effect_of a) (effect_of b) l r p.fine q.fine h)
    (two_sided (effect_of a) (effect_of b) s l (shaped_of s ok) p.fine q.fine p.acts q.acts) (told l (effect_of a) (effect_of b))

-- ---- the mismatches
sizes_not : (m : Answer Effect) → NoSizes m → ¬ (outcome_of m ≡ Err mismatches.SizesDiffer)
sizes_not (Ok f) h e = cc
sizes_not (Err mismatches.SizesDiffer) h e = h.fine
sizes_not (Err mismatches.TablesDiffer) h e = cc
sizes_not (Err mismatches.ColumnsDiffer) h e = cc
sizes_not (Err mismatches.Range) h e = cc

pub sizes_fit : (a b : Instr) → SizesFit a b
sizes_fit a b l s sa sb e f =
    let p = acted (effect_of a) s sa e in
    let q = acted (effect_of b) s sb f in
    sizes_not (rule l (effect_of a) (effect_of b)) (no_sizes s l (effect_of a) (effect_of b) (found s (effect_of a) p.acts) (found s (effect_of b) q.acts))

abbrev DifferAt : Answer Effect → Type 0
DifferAt m = (outcome_of m ≡ Err mismatches.TablesDiffer) ⊎ (outcome_of m ≡ Err mismatches.ColumnsDiffer)

neither_way : {A : Type 0} (m : Answer Effect) → ¬ (outcome_of m ≡ Err mismatches.TablesDiffer) → ¬ (outcome_of m ≡ Err mismatches.ColumnsDiffer) → DifferAt m → A
neither_way m g h (inl e) = absurd (g e)
neither_way m g h (inr e) = absurd (h e)

differ_is : (m : Answer Effect) (d : Bool) (t : State) → Told m d → ((if d then Some t else None) ≡ None) ↔ DifferAt m
differ_is (Ok f) true t h = (λ e. cc, neither_way (Ok f) (λ e. cc) (λ e. cc))
differ_is (Ok f) false t h = let e = h.told in cc
differ_is (Err mismatches.SizesDiffer) true t h = (λ e. cc, neither_way (Err mismatches.SizesDiffer) (λ e. cc) (λ e. cc))
differ_is (Err mismatches.SizesDiffer) false t h = let e = h.told in cc
differ_is (Err mismatches.Range) true t h = (λ e. cc, neither_way (Err mismatches.Range) (λ e. cc) (λ e. cc))
differ_is (Err mismatches.Range) false t h = let e = h.told in cc
differ_is (Err mismatches.TablesDiffer) false t h = (λ e. inl refl, λ e. refl)
differ_is (Err mismatches.TablesDiffer) true t h = let e = h.told in cc
differ_is (Err mismatches.ColumnsDiffer) false t h = (λ e. inr refl, λ e. refl)
differ_is (Err mismatches.ColumnsDiffer) true t h = let e = h.told in cc

pub definitions_differ : (a b : Instr) (later : Bool) (s : State) → (merge a b later s ≡ None) ↔ Differ a b later
definitions_differ a b l s = differ_is (rule l (effect_of a) (effect_of b)) (is_defined (effect_of a) (effect_of b)) (merged_state s (effect_of a) (effect_of b) l) (told l (effect_of a) (effect_of b))
