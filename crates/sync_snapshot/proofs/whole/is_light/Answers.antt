use Rattle.std.proofs.Common.{◌≤◌, sym, subst}
use Rattle.sync_data.specs.Payload.{payload}
use Rattle.sync_exchange.specs.Profile.{weight}
use Rattle.sync_snapshot.proofs.Held.{table_light, column_light, object_light, update_light, insert_light, include_light}
use Rattle.sync_snapshot.proofs.whole.is_light.Goals as goal

pub returns-in-AddTable : goal.returns-in-AddTable
returns-in-AddTable c = λ _. subst (λ j. weight j ≤ 4194304) (sym c.in-AddTable.is) (table_light c.in-AddTable.i c.name_is_held.ensures)

pub returns-in-AddColumn : goal.returns-in-AddColumn
returns-in-AddColumn c = λ _. subst (λ j. weight j ≤ 4194304) (sym c.in-AddColumn.is) (column_light c.in-AddColumn.i c.name_is_held-in-AddColumn.ensures c.name_is_held-in-AddColumn-2.ensures c.kind_is_held.ensures)

pub returns-in-CreateObject : goal.returns-in-CreateObject
returns-in-CreateObject c = λ _. subst (λ j. weight j ≤ 4194304) (sym c.in-CreateObject.is) (object_light c.in-CreateObject.i c.name_is_held-in-CreateObject.ensures c.key_is_held.ensures)

pub returns-in-Update : goal.returns-in-Update
returns-in-Update c = λ _. subst (λ j. weight j ≤ 4194304) (sym c.in-Update.is)
    (update_light c.in-Update.i c.cell_is_held.ensures c.value_is_held.ensures.value c.value_is_held.ensures.strings (subst (λ j. payload j ≤ 4194304) c.in-Update.is c.requires.small))

pub returns-in-ListInsert : goal.returns-in-ListInsert
returns-in-ListInsert c = λ _. subst (λ j. weight j ≤ 4194304) (sym c.in-ListInsert.is)
    (insert_light c.in-ListInsert.i c.cell_is_held-in-ListInsert.ensures c.gap_is_held.ensures c.value_is_held-in-ListInsert.ensures.value c.value_is_held-in-ListInsert.ensures.strings (subst (λ j. payload j ≤ 4194304) c.in-ListInsert.is c.requires.small))

pub returns-in-SetInsert : goal.returns-in-SetInsert
returns-in-SetInsert c = λ _. subst (λ j. weight j ≤ 4194304) (sym c.in-SetInsert.is)
    (include_light c.in-SetInsert.i c.cell_is_held-in-SetInsert.ensures c.value_is_held-in-SetInsert.ensures.value c.value_is_held-in-SetInsert.ensures.strings (subst (λ j. payload j ≤ 4194304) c.in-SetInsert.is c.requires.small))
