use Rattle.std.proofs.Common.{Some, Ok, true, sym, ◌∙◌}
use Rattle.sync_data.specs.declared.instr.Instr.TheVariants as instrs
use Rattle.sync_law.specs.Instrs.{meet}
use Rattle.sync_transform.proofs.InPlace.{addition_meets}
use Rattle.sync_transform.proofs.in_place.add_to_right.Goals as goal

pub returns-clause-both : goal.returns-clause-both
returns-clause-both c = λ told.
    (λ i. meet (c.in-AddInteger.is i) (c.in-Update.is i) true)
    ∙ addition_meets c.in-AddInteger.add c.in-Update.update (c.raise.ensures.cell told)
    ∙ (λ i. Ok (Some (sym c.in-AddInteger.is i), Some (instrs.Update (sym (c.raise.ensures.raised told) i))))
