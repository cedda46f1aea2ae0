use Rattle.std.proofs.Common.{◌∙◌, ap, sym, is_some, ◌∷◌, if◌then◌else◌, Some}
use Rattle.std.specs.Option.{option_and_then}
use Rattle.std.specs.FinMap as map
use Rattle.sync_base.specs.declared.answers.Break.TheVariants as breaks
use Rattle.sync_base.specs.Checks.{first_failed}
use Rattle.sync_base.specs.States.{Table, column_in}
use Rattle.sync_store.proofs.parts.Parts.find_column.Goals as goal

pub returns-in-Err-clause-cause : goal.returns-in-Err-clause-cause
returns-in-Err-clause-cause c rest = c.in-Err.ensures.cause ((is_some (column_in c.args.self.now.tables c.args.cell.now.table c.args.cell.now.column), breaks.NoColumn) ∷ rest)

pub returns-in-None-clause-cause : goal.returns-in-None-clause-cause
returns-in-None-clause-cause c rest =
    let absent = ap (λ x. is_some (option_and_then (λ (t : Table). map.get t.columns c.args.cell.now.column) x)) c.in-Ok.ensures.there ∙ sym (ap is_some c.in-None.ensures) in
    c.in-Ok.ensures.passed ((is_some (column_in c.args.self.now.tables c.args.cell.now.table c.args.cell.now.column), breaks.NoColumn) ∷ rest)
    ∙ ap (λ b. if b then first_failed rest else Some breaks.NoColumn) absent
