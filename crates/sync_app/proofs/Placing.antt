-- What a call for a place in a list answers: its instruction bears the length that the list has.
use Rattle.std.proofs.Common.{◌≡◌, ℕ, Bool, true, false, ◌==◌, ◌∷◌, ◌++◌, [], Option, None, Some, is_some, Result, Ok, Err, refl, sym, ◌∙◌, ap, subst}
use Rattle.std.specs.Option.{option_map_or}
use Rattle.std.proofs.lemmas.Bool.{eq-eqb}
use Rattle.sync_data.specs.declared.column.Column.{Column}
use Rattle.sync_data.specs.declared.column.Shape.{Shape}
use Rattle.sync_data.specs.Spot.{Spot}
use Rattle.sync_data.specs.declared.instr.CellName.{CellName}
use Rattle.sync_data.specs.declared.instr.Instr.{Instr}
use Rattle.sync_data.specs.declared.instr.Instr.TheVariants as instrs
use Rattle.sync_data.specs.declared.value.Value.{Value}
use Rattle.sync_base.specs.Checks.{break_of, column_check, first_failed, object_checks, size}
use Rattle.sync_base.specs.Effects.{CellPath, effect_of, path_of}
use Rattle.sync_base.specs.States.{State, Cell, cell_at, column_in, has}
use Rattle.sync_base.specs.declared.answers.Break.{Break}
use Rattle.sync_base.specs.declared.answers.Break.TheVariants as breaks
use Rattle.sync_store.specs.Asking.{change_checks, has_size, takes}
use Rattle.sync_app.specs.Drafts.{Draft, Puts, PutsAt, length_of, objects_of}
use Rattle.sync_app.specs.Placing.{Places, list_break}
use Rattle.sync_app.specs.Sizes.{size_at}
use Rattle.sync_app.specs.Wants.{is_wanted}
use Rattle.sync_app.specs.declared.refusal.Refusal.{Refusal}
use Rattle.sync_app.specs.declared.refusal.Refusal.TheVariants as refusals
use Rattle.sync_app.specs.declared.wanted.Wanted.TheVariants as wanted

itself : (n : ℕ) → (n == n) ≡ true
itself n = eq-eqb n n refl

own_length : (x : Option Cell) → option_map_or (has_size None) x false ≡ option_map_or (λ y. option_map_or size x 0 == size y) x false
own_length None = refl
own_length (Some y) = sym (itself (size y))

-- what a list asks is the break of an instruction that bears its length
pub own_break : (s : State) (p : CellPath) (shape : Shape → Bool) (kind : Column → Bool) (n : ℕ) → n ≡ size_at s p
    → first_failed (change_checks s p shape kind (has_size None)) ≡ first_failed (change_checks s p shape kind (λ y. n == size y))
own_break s p shape kind n e =
    (λ i. first_failed (
    object_checks s.tables p.0 ++ (has s p.0, breaks.NoObject) ∷ (is_some (column_in s.tables p.0.0 p.1), breaks.NoColumn)
    ∷ (column_check (λ c. shape c.shape) (column_in s.tables p.0.0 p.1), breaks.WrongShape)
    ∷ (column_check kind (column_in s.tables p.0.0 p.1), breaks.WrongKind) ∷ (own_length (cell_at s p.0 p.1) i, breaks.BadPrior) ∷ []))
    ∙ ap (λ m. first_failed (change_checks s p shape kind (λ y. m == size y))) (sym e)

pub insert_break : (d : Draft) (c : CellName) (place : ℕ) (v : Value) → list_break d c (Some v) ≡ break_of (objects_of d) (effect_of (instrs.ListInsert (record { cell = c; spot = record { place = place; prior = length_of d c }; value = v })))
insert_break d c place v = own_break (objects_of d) (path_of c) (is_wanted wanted.List) (takes (objects_of d).tables (Some v)) (length_of d c) refl

pub replace_break : (d : Draft) (c : CellName) (place : ℕ) (v : Value) → list_break d c (Some v) ≡ break_of (objects_of d) (effect_of (instrs.ListUpdate (record { cell = c; spot = record { place = place; prior = length_of d c }; value = v })))
replace_break d c place v = own_break (objects_of d) (path_of c) (is_wanted wanted.List) (takes (objects_of d).tables (Some v)) (length_of d c) refl

pub remove_break : (d : Draft) (c : CellName) (place : ℕ) → list_break d c None ≡ break_of (objects_of d) (effect_of (instrs.ListErase (record { cell = c; spot = record { place = place; prior = length_of d c } })))
remove_break d c place = own_break (objects_of d) (path_of c) (is_wanted wanted.List) (takes (objects_of d).tables None) (length_of d c) refl

-- ---- the answers
pub refused_at : (why : Refusal) (inside : Bool) (place n : ℕ) (found : Option Break) (i : Instr) (d : Draft) → Places (Err why) inside place n found → found ≡ break_of (objects_of d) (effect_of i) → PutsAt (Err why) inside place n i d d
refused_at (refusals.Break b) inside place n found i d h e = (sym e ∙ h, refl)
refused_at refusals.NoMemory inside place n found i d h e = refl
refused_at refusals.ListFull inside place n found i d h e = (h, refl)
refused_at refusals.TooLarge inside place n found i d h e = absurd h
refused_at (refusals.OutOfRange p l) inside place n found i d h e = (h.0, h.1, h.2, sym e ∙ h.3, refl)

put_at : (r : Result (Unit {0}) Refusal) (inside : Bool) (place n : ℕ) (i : Instr) (old new : Draft) → Puts r i old new → PutsAt r inside place n i old new
put_at (Ok u) inside place n i old new h = h
put_at (Err (refusals.Break b)) inside place n i old new h = h
put_at (Err refusals.TooLarge) inside place n i old new h = h
put_at (Err refusals.NoMemory) inside place n i old new h = h
put_at (Err refusals.ListFull) inside place n i old new h = absurd h
put_at (Err (refusals.OutOfRange p l)) inside place n i old new h = absurd h

-- the instruction that bears a place that was found
pub put_spot : (make : Spot → Instr) {spot other : Spot} → spot ≡ other → (r : Result (Unit {0}) Refusal) (inside : Bool) (place n : ℕ) (old new : Draft) → Puts r (make spot) old new → PutsAt r inside place n (make other) old new
put_spot make {other} e r inside place n old new h = put_at r inside place n (make other) old new (subst (λ t. Puts r (make t) old new) e h)
