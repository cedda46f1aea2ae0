use Rattle.std.proofs.Common.{ℕ, None, Some, sym, ◌∙◌, ap}
use Rattle.sync_base.specs.Checks.{first_failed, break_of}
use Rattle.sync_base.specs.Effects.{path_of, effect_of}
use Rattle.sync_store.specs.Asking.{verdict, change_checks, is_wanted, takes, has_size}
use Rattle.sync_store.specs.declared.wanted.Wanted.TheVariants as wanted
use Rattle.sync_store.proofs.parts.Parts.check.Goals as goal

pub returns-in-AddTable : goal.returns-in-AddTable
returns-in-AddTable c = c.check_table.ensures c.in-AddTable.i.key ∙ ap (λ i. verdict (break_of c.args.self.now (effect_of i))) (sym c.in-AddTable.is)

pub returns-in-ListUpdate : goal.returns-in-ListUpdate
returns-in-ListUpdate c =
    c.check_change-in-ListUpdate.ensures
    ∙ ap (λ (n : ℕ). verdict (first_failed (change_checks c.args.self.now (path_of c.in-ListUpdate.i.cell) (is_wanted wanted.List) (takes c.args.self.now.tables (Some c.in-ListUpdate.i.value)) (has_size (Some n))))) c.prior.ensures.value
    ∙ ap (λ i. verdict (break_of c.args.self.now (effect_of i))) (sym c.in-ListUpdate.is)

pub returns-in-ListInsert : goal.returns-in-ListInsert
returns-in-ListInsert c =
    c.check_change-in-ListInsert.ensures
    ∙ ap (λ (n : ℕ). verdict (first_failed (change_checks c.args.self.now (path_of c.in-ListInsert.i.cell) (is_wanted wanted.List) (takes c.args.self.now.tables (Some c.in-ListInsert.i.value)) (has_size (Some n))))) c.prior-in-ListInsert.ensures.value
    ∙ ap (λ i. verdict (break_of c.args.self.now (effect_of i))) (sym c.in-ListInsert.is)

pub returns-in-ListErase : goal.returns-in-ListErase
returns-in-ListErase c =
    c.check_change-in-ListErase.ensures
    ∙ ap (λ (n : ℕ). verdict (first_failed (change_checks c.args.self.now (path_of c.in-ListErase.i.cell) (is_wanted wanted.List) (takes c.args.self.now.tables None) (has_size (Some n))))) c.prior-in-ListErase.ensures.value
    ∙ ap (λ i. verdict (break_of c.args.self.now (effect_of i))) (sym c.in-ListErase.is)
