-- Lines that are no transaction leave the objects as they are.
use Rattle.std.proofs.Common.{◌≡◌, ◌⊎◌, inl, inr, if◌then◌else◌, ℕ, Bool, true, false, List, [], ◌∷◌, ◌++◌, Option, Some, None, Result, Ok, Err, refl, sym, ◌∙◌, ap, subst}
use Rattle.std.specs.Prelude.{IfOk, ⊤}
use Rattle.sync_data.specs.declared.instr.Instr.{Instr}
use Rattle.sync_base.specs.Effects.{CellPath}
use Rattle.sync_base.specs.Footprints.{Part, TableAt, ColumnAt, ObjectAt, CellAt, SameAt}
use Rattle.sync_base.specs.States.{State}
use Rattle.sync_exchange.specs.Profile.{the_profile}
use Rattle.sync_model.specs.Clients.{Client, ClientRecord, Born, Form, Subset, after_record, after_records, answers, appends, born, born_once, client_of, commit, if_born, is_late, no_client, refuse, subscribe, subscribed_once, upgrade, TooLate}
use Rattle.sync_model.specs.Bytes.{Tables}
use Rattle.sync_model.proofs.Own.{after_append}
use Rattle.sync_subset.specs.declared.subset.Subset.{Subset as CodeSubset}
use Rattle.sync_edits.specs.declared.event.NodeLine.{NodeLine}
use Rattle.sync_edits.specs.declared.event.NodeLine.TheVariants as node_lines
use Rattle.sync_changed.specs.Ends.{SameEndsAt, all_spare}
use Rattle.sync_changed.specs.declared.place.Place.{Place}
use Rattle.sync_host.specs.Steps.{Answer, Spares, Tells, line_answer}

abbrev Held : Type 0
Held = Client Instr State

-- none of these records is of instructions
abbrev IsQuiet : List ClientRecord → Type 0
IsQuiet [] = Unit {0}
IsQuiet (Born id ∷ rs) = IsQuiet rs
IsQuiet (Form ∷ rs) = IsQuiet rs
IsQuiet (Subset tables ∷ rs) = IsQuiet rs
IsQuiet (r ∷ rs) = ⊥

quiet : (c : Held) (rs : List ClientRecord) → IsQuiet rs → (after_records the_profile c rs).objects ≡ c.objects
quiet c [] h = refl
quiet c (Born id ∷ rs) h = quiet (after_record the_profile c (Born id)) rs h
quiet c (Form ∷ rs) h = quiet (after_record the_profile c Form) rs h
quiet c (Subset tables ∷ rs) h = quiet (after_record the_profile c (Subset tables)) rs h
quiet c (r ∷ rs) h = absurd h

same_itself : (s : State) (x : Part) → SameAt s s x
same_itself s (TableAt t) = refl
same_itself s (ColumnAt t c) = refl
same_itself s (ObjectAt o) = refl
same_itself s (CellAt p) = refl

abbrev IsStill : List ClientRecord → Option Answer → Type 0
IsStill records None = Unit {0}
IsStill records (Some answer) = (client_of the_profile (records ++ answer.records)).objects ≡ (client_of the_profile records).objects

still : (rs more : List ClientRecord) → IsQuiet more → (client_of the_profile (rs ++ more)).objects ≡ (client_of the_profile rs).objects
still rs more h = ap (λ (c : Held). c.objects) (after_append the_profile (no_client the_profile) rs more) ∙ quiet (client_of the_profile rs) more h

born_quiet : (o : Option (List ℕ)) (id : List ℕ) → IsQuiet (born_once o (appends {A = ⊤} (Born id) tt)).records
born_quiet None id = tt
born_quiet (Some other) id = tt

form_quiet : (o : Option (List ℕ)) (second : Bool) → IsQuiet (if_born o (λ id. if second then answers false else appends Form true)).records
form_quiet None second = tt
form_quiet (Some id) true = tt
form_quiet (Some id) false = tt

tables_quiet : (o : Option (List ℕ)) (s : Option Tables) (late : Bool) (tables : Tables) → IsQuiet (if_born o (λ id. subscribed_once s (if late then refuse TooLate else appends {A = ⊤} (Subset tables) tt))).records
tables_quiet None s late tables = tt
tables_quiet (Some id) (Some t) late tables = tt
tables_quiet (Some id) None true tables = tt
tables_quiet (Some id) None false tables = tt

born_still : (records : List ClientRecord) (id : List ℕ) → IsStill records (Some (line_answer records (node_lines.Born id)))
born_still records id = still records (born (client_of the_profile records) id).records (born_quiet (client_of the_profile records).id id)

upgrade_still : (records : List ClientRecord) → IsStill records (Some (line_answer records node_lines.Upgrade))
upgrade_still records = still records (upgrade (client_of the_profile records)).records (form_quiet (client_of the_profile records).id (client_of the_profile records).second)

subscribe_still : (records : List ClientRecord) (tables : Tables) → IsStill records (Some (line_answer records (node_lines.Subscribe tables)))
subscribe_still records tables = let c = client_of the_profile records in still records (subscribe c tables).records (tables_quiet c.id c.subset (is_late c) tables)

abbrev IsOther : NodeLine → Type 0
IsOther line = ((id : List ℕ) × (line ≡ node_lines.Born id)) ⊎ ((line ≡ node_lines.Upgrade) ⊎ ((tables : CodeSubset) × (line ≡ node_lines.Subscribe tables)))

others_still : (line : NodeLine) (records : List ClientRecord) → IsOther line → IsStill records (Some (line_answer records line))
others_still line records (inl is) = subst (λ (l : NodeLine). IsStill records (Some (line_answer records l))) (sym is.1) (born_still records is.0)
others_still line records (inr (inl is)) = subst (λ (l : NodeLine). IsStill records (Some (line_answer records l))) (sym is) (upgrade_still records)
others_still line records (inr (inr is)) = subst (λ (l : NodeLine). IsStill records (Some (line_answer records l))) (sym is.1) (subscribe_still records is.0)

pub others_tell : (line : NodeLine) (records : List ClientRecord) → IsOther line → Tells [] records (Some (line_answer records line))
others_tell line records is = λ x untold. subst (λ (s : State). SameAt s (client_of the_profile records).objects x) (sym (others_still line records is)) (same_itself (client_of the_profile records).objects x)

pub others_spare : (line : NodeLine) (records : List ClientRecord) → IsOther line → Spares [] records (Some (line_answer records line))
others_spare line records is = λ front back list spared. subst (λ (s : State). SameEndsAt front back list s (client_of the_profile records).objects) (sym (others_still line records is)) (record { beginning = refl; end = refl })

-- ---- a transaction's line, by the places of its edits
pub commit_spares : {E V : Type 0} (items : V → List Place) (line : NodeLine) (ms : ℕ) (edits told : List Instr) (r : Result V E) → line ≡ node_lines.Commit ms edits → told ≡ edits
    → IfOk r (λ places. (records : List ClientRecord) (ms front back : ℕ) (list : CellPath) → all_spare front back list (items places) ≡ true
    → SameEndsAt front back list (client_of the_profile (records ++ (commit the_profile (client_of the_profile records) ms told).records)).objects (client_of the_profile records).objects)
    → IfOk r (λ places. (records : List ClientRecord) → Spares (items places) records (Some (line_answer records line)))
commit_spares items line ms edits told (Ok places) is same h = λ records.
    subst (λ (l : NodeLine). Spares (items places) records (Some (line_answer records l))) (sym is)
    (subst (λ (e : List Instr). Spares (items places) records (Some (line_answer records (node_lines.Commit ms e)))) same (h records ms))
commit_spares items line ms edits told (Err why) is same h = tt
