-- Two instructions that meet where they lie.
use Rattle.std.proofs.Common.{◌≡◌, Bool, true, false, [], ◌∷◌, ℤ, Some, Ok, refl, sym, ap, ◌∙◌}
use Rattle.std.specs.Cmp.{eq_by_cmp_equiv}
use Rattle.sync_data.specs.declared.value.Value.{Value}
use Rattle.sync_data.specs.declared.value.Value.TheVariants as values
use Rattle.sync_data.specs.declared.instr.AddInteger.{AddInteger}
use Rattle.sync_data.specs.declared.instr.CellName.{CellName}
use Rattle.sync_data.specs.declared.instr.Instr.{Instr}
use Rattle.sync_data.specs.declared.instr.Instr.TheVariants as instrs
use Rattle.sync_data.specs.declared.instr.Update.{Update}
use Rattle.sync_base.specs.After.{added}
use Rattle.sync_base.specs.Effects.{CellPath, Add, Set, effect_of, path_of}
use Rattle.sync_base.specs.Lemmas.Apart.{changes_there}
use Rattle.sync_base.specs.Lemmas.Looks.{path_total}
use Rattle.sync_base.specs.Rules.{lifted, outcome_of, rule_of_edits, kept}
use Rattle.sync_law.specs.Instrs.{as_pair, meet}
use Rattle.sync_base.specs.Objects.{cell_in}
use Rattle.list_places.specs.Moves.{action_at, moved, Move}
use Rattle.list_places.specs.declared.moves.ListAction.{ListAction}
use Rattle.list_places.specs.declared.moves.Moves.{Moves}
use Rattle.sync_transform.proofs.Anywhere.{one_left}
use Rattle.sync_transform.proofs.Shown.{lists_cross}

-- of one list
pub lists_meet : (l : Bool) (x y : ListAction) (m : Moves) (a b : Instr) → Move x y l m → action_at a ≡ Some x → action_at b ≡ Some y → cell_in (effect_of a) ≡ cell_in (effect_of b)
    → meet a b l ≡ Ok (Some (moved m.left a), Some (moved m.right b))
lists_meet l x y m a b move is_x is_y same =
    one_left (λ a b. meet a b l) (meet a b l) (moved m.left a) (moved m.right b) (lists_cross l x y m (a ∷ []) (b ∷ []) move is_x is_y same)

-- an addition and an update of one cell, of which the addition is later
later_addition : (n : ℤ) (v : Value) → rule_of_edits true (Add n) (Set v) ≡ kept (Add n) (Set (added n v))
later_addition n values.Null = refl
later_addition n (values.Int m) = refl
later_addition n (values.Bool b) = refl
later_addition n (values.Text t) = refl
later_addition n (values.Bytes b) = refl
later_addition n (values.Time t) = refl
later_addition n (values.Uuid u) = refl
later_addition n (values.Link t k) = refl

earlier_update : (n : ℤ) (v : Value) → rule_of_edits false (Set v) (Add n) ≡ kept (Set (added n v)) (Add n)
earlier_update n values.Null = refl
earlier_update n (values.Int m) = refl
earlier_update n (values.Bool b) = refl
earlier_update n (values.Text t) = refl
earlier_update n (values.Bytes b) = refl
earlier_update n (values.Time t) = refl
earlier_update n (values.Uuid u) = refl
earlier_update n (values.Link t k) = refl

abbrev pub raised : AddInteger → Update → Update
raised a u = record { cell = u.cell; value = added a.amount u.value }

abbrev named : CellPath → CellName
named c = record { table = c.0.0; key = c.0.1; column = c.1 }

pub addition_meets : (a : AddInteger) (u : Update) → path_of u.cell ≡ path_of a.cell → meet (instrs.AddInteger a) (instrs.Update u) true ≡ Ok (Some (instrs.AddInteger a), Some (instrs.Update (raised a u)))
addition_meets a u same =
    ap (λ (c : CellPath). meet (instrs.AddInteger (record { cell = named c; amount = a.amount })) (instrs.Update u) true) (sym same)
    ∙ ap (λ r. as_pair (outcome_of r)) (changes_there true (path_of u.cell) (path_of u.cell) (Add a.amount) (Set u.value) ((eq_by_cmp_equiv path_total).refl (path_of u.cell)) refl)
    ∙ ap (λ r. as_pair (outcome_of (lifted (path_of u.cell) r))) (later_addition a.amount u.value)
    ∙ ap (λ (c : CellPath). Ok (Some (instrs.AddInteger (record { cell = named c; amount = a.amount })), Some (instrs.Update (raised a u)))) same

pub update_meets : (u : Update) (a : AddInteger) → path_of u.cell ≡ path_of a.cell → meet (instrs.Update u) (instrs.AddInteger a) false ≡ Ok (Some (instrs.Update (raised a u)), Some (instrs.AddInteger a))
update_meets u a same =
    ap (λ (c : CellPath). meet (instrs.Update u) (instrs.AddInteger (record { cell = named c; amount = a.amount })) false) (sym same)
    ∙ ap (λ r. as_pair (outcome_of r)) (changes_there false (path_of u.cell) (path_of u.cell) (Set u.value) (Add a.amount) ((eq_by_cmp_equiv path_total).refl (path_of u.cell)) refl)
    ∙ ap (λ r. as_pair (outcome_of (lifted (path_of u.cell) r))) (earlier_update a.amount u.value)
    ∙ ap (λ (c : CellPath). Ok (Some (instrs.Update (raised a u)), Some (instrs.AddInteger (record { cell = named c; amount = a.amount })))) same
