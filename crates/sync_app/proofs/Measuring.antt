-- What a list measures by a sketch.
use Rattle.std.proofs.Common.{◌≡◌, ℕ, true, List, length, Option, None, Result, Ok, Err, sym, ◌∙◌, ap, subst}
use Rattle.sync_data.specs.declared.instr.CellName.{CellName}
use Rattle.sync_data.specs.declared.instr.Instr.{Instr}
use Rattle.sync_data.specs.declared.value.Value.{Value}
use Rattle.sync_base.specs.Checks.{first_failed}
use Rattle.sync_base.specs.Effects.{path_of}
use Rattle.sync_base.specs.declared.answers.Break.{Break}
use Rattle.sync_store.specs.Applying.{after_all}
use Rattle.sync_store.specs.Asking.{takes}
use Rattle.sync_app.specs.Checking.{cell_checks}
use Rattle.sync_app.specs.Drafts.{Draft, length_of}
use Rattle.sync_app.specs.Finding.{Finds}
use Rattle.sync_app.specs.Keeping.{Keeps}
use Rattle.sync_app.specs.Placing.{Measures, list_break}
use Rattle.sync_app.specs.Sketches.{base_of, size_in, tables_in}
use Rattle.sync_app.specs.Wants.{is_wanted}
use Rattle.sync_app.specs.declared.refusal.Refusal.{Refusal}
use Rattle.sync_app.specs.declared.refusal.Refusal.TheVariants as refusals
use Rattle.sync_app.specs.declared.sketch.Sketch.{Sketch}
use Rattle.sync_app.specs.declared.wanted.Wanted.TheVariants as wanted
use Rattle.sync_app.proofs.Finding.{asked}

-- ---- a list is measured
measured : (why : Refusal) (len : ℕ) (found other : Option Break) → Finds (Err why) found → found ≡ other → Measures (Err why) len other
measured (refusals.Break b) len found other h e = sym e ∙ h
measured refusals.NoMemory len found other h e = tt
measured refusals.TooLarge len found other h e = absurd h
measured refusals.ListFull len found other h e = absurd h
measured (refusals.OutOfRange p l) len found other h e = absurd h

-- what a sketch finds of a list
abbrev list_found : Sketch → CellName → Option Value → Option Break
list_found k c v = first_failed (cell_checks k (path_of c) (is_wanted wanted.List) (takes (tables_in k) v) true)

found_so : (k : Sketch) (is : List Instr) (w : ℕ) → Keeps k is w → (c : CellName) (v : Option Value) → list_found k c v ≡ list_break (record { base = base_of k; instrs = is }) c v
found_so k is w so c v = asked k (after_all is (base_of k)) (length is) so.sketch (path_of c) (is_wanted wanted.List) v

pub unmeasured : (k : Sketch) (is : List Instr) (w : ℕ) → Keeps k is w → (c : CellName) (v : Option Value) (len : ℕ) {why : Refusal} {r : Result (Unit {0}) Refusal}
    → Finds r (list_found k c v) → r ≡ Err why → {d : Draft} → record { base = base_of k; instrs = is } ≡ d → Measures (Err why) len (list_break d c v)
unmeasured k is w so c v len {why} found e view =
    subst (λ d. Measures (Err why) len (list_break d c v)) view (measured why len _ _ (subst (λ r. Finds r (list_found k c v)) e found) (found_so k is w so c v))

pub measured_so : (k : Sketch) (is : List Instr) (w : ℕ) → Keeps k is w → (c : CellName) (v : Option Value) {u : Unit {0}} {r : Result (Unit {0}) Refusal}
    → Finds r (list_found k c v) → r ≡ Ok u → {d : Draft} → record { base = base_of k; instrs = is } ≡ d → list_break d c v ≡ None
measured_so k is w so c v found e view =
    subst (λ d. list_break d c v ≡ None) view (sym (found_so k is w so c v) ∙ subst (λ r. Finds r (list_found k c v)) e found)

pub length_so : (k : Sketch) (is : List Instr) (w : ℕ) → Keeps k is w → (c : CellName) → {d : Draft} → record { base = base_of k; instrs = is } ≡ d → size_in k (path_of c) ≡ length_of d c
length_so k is w so c view = so.sketch.sizes (path_of c) ∙ ap (λ d. length_of d c) view
