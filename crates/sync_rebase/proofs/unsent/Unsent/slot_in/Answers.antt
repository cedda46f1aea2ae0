use Rattle.std.proofs.Common.{refl, sym, ap, ◌∙◌}
use Rattle.sync_data.specs.declared.instr.Instr.{Instr}
use Rattle.sync_model.specs.Clients.{Unsent}
use Rattle.sync_rebase.proofs.Making.{none_slot}
use Rattle.sync_rebase.proofs.unsent.Unsent.slot_in.Goals as goal

pub returns-then-is_empty : goal.returns-then-is_empty
returns-then-is_empty c = none_slot c.args.self.now _ c.args.own c.args.length (sym (ap (λ (u : Unsent Instr). u.current) c.self.view_is) ∙ c.if-is_empty.ensures.0 refl)
