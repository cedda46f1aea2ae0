use Rattle.std.proofs.Common.{refl, ◌∙◌, ap, ◌+◌, ◌-◌}
use Rattle.std.proofs.lemmas.Result.{err_from_is_err_and}
use Rattle.sync_base.specs.Effects as effects
use Rattle.sync_base.specs.After.{edited}
use Rattle.sync_cells.specs.declared.edit.Edit.TheVariants as edits
use Rattle.sync_cells.specs.declared.edit.Former.TheVariants as formers
use Rattle.sync_cells.specs.Undoing.{undone}
use Rattle.sync_cells.proofs.Back.{replaced_back, inserted_back, removed_back, included_back, excluded_back, bound_back}
use Rattle.sync_cells.proofs.cell.Cell.edit.Goals as goal

pub returns-in_ok-list_replace-in-Replace-clause-former : goal.returns-in_ok-list_replace-in-Replace-clause-former
returns-in_ok-list_replace-in-Replace-clause-former c =
    let h = c.in_ok-list_replace-in-Replace.ensures.ok in rw c.in-Replace.is (ap (edited (effects.Replace c.in-Replace.spot _)) h.1 ∙ replaced_back c.in-Replace.spot c.in-Replace.value _ c.args.self.now h.0)

pub returns-in_ok-list_insert-in-Insert-clause-former : goal.returns-in_ok-list_insert-in-Insert-clause-former
returns-in_ok-list_insert-in-Insert-clause-former c =
    let h = c.in_ok-list_insert-in-Insert.ensures in rw c.in-Insert.is (ap (edited (effects.Remove (record { place = c.in-Insert.spot.place; prior = c.in-Insert.spot.prior + 1 }))) h.ok ∙ inserted_back c.in-Insert.spot c.in-Insert.value c.args.self.now h.placed h.refused)

pub returns-in_ok-list_remove-in-Remove-clause-former : goal.returns-in_ok-list_remove-in-Remove-clause-former
returns-in_ok-list_remove-in-Remove-clause-former c =
    let h = c.in_ok-list_remove-in-Remove.ensures.ok in rw c.in-Remove.is (ap (edited (effects.Insert (record { place = c.in-Remove.spot.place; prior = c.in-Remove.spot.prior - 1 }) _)) h.1 ∙ removed_back c.in-Remove.spot _ c.args.self.now h.0)

pub returns-in_ok-set_add-in-Include-clause-former : goal.returns-in_ok-set_add-in-Include-clause-former
returns-in_ok-set_add-in-Include-clause-former c =
    let h = c.in_ok-set_add-in-Include.ensures.ok in rw c.in-Include.is (ap (undone (edits.Include _) (formers.Changed _)) h.1 ∙ included_back _ _ c.args.self.now h.0)

pub returns-in_ok-set_remove-in-Exclude-clause-former : goal.returns-in_ok-set_remove-in-Exclude-clause-former
returns-in_ok-set_remove-in-Exclude-clause-former c =
    let h = c.in_ok-set_remove-in-Exclude.ensures.ok in rw c.in-Exclude.is (ap (undone (edits.Exclude _) (formers.Changed _)) h.1 ∙ excluded_back _ _ c.args.self.now h.0)

pub returns-in_ok-dict_bind-in-Bind-clause-former : goal.returns-in_ok-dict_bind-in-Bind-clause-former
returns-in_ok-dict_bind-in-Bind-clause-former c =
    let h = c.in_ok-dict_bind-in-Bind.ensures.ok in rw c.in-Bind.is (ap (edited (effects.Bind _ _)) h.1 ∙ bound_back _ _ _ c.args.self.now h.0)

pub returns-in_err-replace-in-Set-clause-refused : goal.returns-in_err-replace-in-Set-clause-refused
returns-in_err-replace-in-Set-clause-refused c =
    let e = err_from_is_err_and c.from_residual.result c.from_residual.ensures.1 in rw (c.in-Set.is, e.1, e.2, c.in_err-replace-in-Set.ensures.refused) refl

pub returns-in_err-take_content-in-Empty-clause-refused : goal.returns-in_err-take_content-in-Empty-clause-refused
returns-in_err-take_content-in-Empty-clause-refused c =
    let e = err_from_is_err_and c.from_residual-in_err-take_content-in-Empty.result c.from_residual-in_err-take_content-in-Empty.ensures.1 in rw (c.in-Empty.is, e.1, e.2, c.in_err-take_content-in-Empty.ensures.refused) refl
