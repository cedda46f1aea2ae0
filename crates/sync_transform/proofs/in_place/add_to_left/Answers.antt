use Rattle.std.proofs.Common.{Some, Ok, false, sym, ◌∙◌}
use Rattle.sync_data.specs.declared.instr.Instr.TheVariants as instrs
use Rattle.sync_law.specs.Instrs.{meet}
use Rattle.sync_transform.proofs.InPlace.{update_meets}
use Rattle.sync_transform.proofs.in_place.add_to_left.Goals as goal

pub returns-clause-both : goal.returns-clause-both
returns-clause-both c = λ told.
    (λ i. meet (c.in-Update.is i) (c.in-AddInteger.is i) false)
    ∙ update_meets c.in-Update.update c.in-AddInteger.add (c.raise.ensures.cell told)
    ∙ (λ i. Ok (Some (instrs.Update (sym (c.raise.ensures.raised told) i)), Some (sym c.in-AddInteger.is i)))
