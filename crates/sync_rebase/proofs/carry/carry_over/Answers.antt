use Rattle.std.proofs.Common.{sym, subst}
use Rattle.sync_rivals.specs.Lists.{Serves}
use Rattle.sync_rebase.proofs.carry.carry_over.Goals as goal

pub walk-requires-clause-served : goal.walk-requires-clause-served
walk-requires-clause-served c = subst (λ l. Serves c.args.rivals.now l c.args.entry.changes.instrs) (sym c.deref.ensures.value) c.in_ok-codes.ensures.served
