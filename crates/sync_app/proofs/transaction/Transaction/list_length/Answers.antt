use Rattle.std.specs.Option.{option_copied}
use Rattle.sync_app.specs.Drafts.{length_of}
use Rattle.sync_app.proofs.Measuring.{unmeasured}
use Rattle.sync_app.proofs.transaction.Transaction.list_length.Goals as goal

pub returns-in-Err : goal.returns-in-Err
returns-in-Err c =
    unmeasured c.self.inside.sketch c.self.inside.instrs.items c.self.inside.payload c.self.invariant c.args.cell.now (option_copied c.args.value)
    (length_of c.args.self.now c.args.cell.now) c.check_change.ensures c.in-Err.is c.self.view_is
