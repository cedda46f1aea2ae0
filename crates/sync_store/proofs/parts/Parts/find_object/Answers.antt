use Rattle.std.proofs.Common.{◌∙◌, ap, sym, is_some, ◌∷◌, if◌then◌else◌, Some}
use Rattle.sync_base.specs.declared.answers.Break.TheVariants as breaks
use Rattle.sync_base.specs.Checks.{first_failed}
use Rattle.sync_base.specs.States.{State, has}
use Rattle.sync_store.proofs.parts.Parts.find_object.Goals as goal

pub returns-in-Err-clause-cause : goal.returns-in-Err-clause-cause
returns-in-Err-clause-cause c rest = c.in-Err.ensures.cause ((has c.args.self.now (c.args.table.now, c.args.key.now), breaks.NoObject) ∷ rest)

pub returns-in-None-clause-cause : goal.returns-in-None-clause-cause
returns-in-None-clause-cause c rest =
    let absent = ap (λ (s : State). has s (c.args.table.now, c.args.key.now)) (sym c.self.view_is) ∙ sym (ap is_some c.in-None.ensures) in
    c.in-Ok.ensures.passed ((has c.args.self.now (c.args.table.now, c.args.key.now), breaks.NoObject) ∷ rest)
    ∙ ap (λ b. if b then first_failed rest else Some breaks.NoObject) absent
