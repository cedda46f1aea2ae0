use Rattle.std.proofs.Common.{arith}
use Rattle.sync_app.proofs.Drafting.{refused_so, weighed}
use Rattle.sync_app.proofs.transaction.Transaction.weigh.Goals as goal

pub returns-in-Err : goal.returns-in-Err
returns-in-Err c = refused_so c.self.inside.sketch c.self.inside.instrs.items c.self.inside.payload c.self.invariant c.args.instr.now c.check.ensures c.in-Err.is c.self.view_is

pub returns : goal.returns
returns c =
    weighed c.self.inside.sketch c.self.inside.instrs.items c.self.inside.payload c.self.invariant c.args.instr.now c.check.ensures c.in-Ok.is c.is_placed.ensures
    c.weight_with-payload.result c.weight_with-payload.ensures (omega (c.if-payload-gt-MOST_PAYLOAD.false, arith)) (omega (c.if-len-ge-MOST_INSTRS.false, c.len.ensures, arith)) c.self.view_is
