use Rattle.std.proofs.Common.{sym, ◌∙◌}
use Rattle.sync_data.specs.declared.value.Value.TheVariants as values
use Rattle.list_places.specs.Moves.{instr_at}
use Rattle.list_places.specs.declared.places.Does.TheVariants.{Inserts, Erases, Updates}
use Rattle.long_sets.proofs.lane.parts.Goals as goal

pub returns-in-ListInsert-clause-is : goal.returns-in-ListInsert-clause-is
returns-in-ListInsert-clause-is c =
    let i = c.in-ListInsert.insert in
    (i.value, c.in-ListInsert.is ∙ (λ k. instr_at i.cell i.value Inserts (sym c.place.ensures.value k) (sym c.prior.ensures.value k)))

pub returns-in-ListErase-clause-is : goal.returns-in-ListErase-clause-is
returns-in-ListErase-clause-is c =
    let i = c.in-ListErase.erase in
    (values.Null, c.in-ListErase.is ∙ (λ k. instr_at i.cell values.Null Erases (sym c.place-in-ListErase.ensures.value k) (sym c.prior-in-ListErase.ensures.value k)))

pub returns-in-ListUpdate-clause-is : goal.returns-in-ListUpdate-clause-is
returns-in-ListUpdate-clause-is c =
    let i = c.in-ListUpdate.update in
    (i.value, c.in-ListUpdate.is ∙ (λ k. instr_at i.cell i.value Updates (sym c.place-in-ListUpdate.ensures.value k) (sym c.prior-in-ListUpdate.ensures.value k)))
