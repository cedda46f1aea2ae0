use Rattle.std.proofs.Common.{Some, not, sym, ap, ◌∙◌, subst}
use Rattle.sync_data.specs.declared.instr.Instr.{Instr}
use Rattle.sync_base.specs.Effects.{path_of}
use Rattle.long_sets.specs.Parts.{Stranger}
use Rattle.long_sets.proofs.Effects.{erase_stranger, insert_stranger, remove_stranger, replace_stranger, clear_stranger}
use Rattle.long_sets.proofs.strangers.is_stranger.Goals as goal

pub returns-in-EraseObject : goal.returns-in-EraseObject
returns-in-EraseObject c = λ told.
    let p = path_of c.args.cell.now in
    subst (λ (i : Instr). Stranger p (Some i)) (sym c.in-EraseObject.is) (erase_stranger p c.in-EraseObject.erase (ap not (sym c.erases.ensures) ∙ told))

pub returns-in-ListInsert : goal.returns-in-ListInsert
returns-in-ListInsert c = λ told.
    let p = path_of c.args.cell.now in
    subst (λ (i : Instr). Stranger p (Some i)) (sym c.in-ListInsert.is) (insert_stranger p c.in-ListInsert.insert (ap not (sym c.same_cell.ensures.test) ∙ told))

pub returns-in-ListErase : goal.returns-in-ListErase
returns-in-ListErase c = λ told.
    let p = path_of c.args.cell.now in
    subst (λ (i : Instr). Stranger p (Some i)) (sym c.in-ListErase.is) (remove_stranger p c.in-ListErase.erase (ap not (sym c.same_cell-in-ListErase.ensures.test) ∙ told))

pub returns-in-ListUpdate : goal.returns-in-ListUpdate
returns-in-ListUpdate c = λ told.
    let p = path_of c.args.cell.now in
    subst (λ (i : Instr). Stranger p (Some i)) (sym c.in-ListUpdate.is) (replace_stranger p c.in-ListUpdate.update (ap not (sym c.same_cell-in-ListUpdate.ensures.test) ∙ told))

pub returns-in-Clear : goal.returns-in-Clear
returns-in-Clear c = λ told.
    let p = path_of c.args.cell.now in
    subst (λ (i : Instr). Stranger p (Some i)) (sym c.in-Clear.is) (clear_stranger p c.in-Clear.clear (ap not (sym c.same_cell-in-Clear.ensures.test) ∙ told))
