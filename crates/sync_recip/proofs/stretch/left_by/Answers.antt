use Rattle.std.proofs.Common.{refl}
use Rattle.sync_recip.proofs.Crossings.{leaves_some, leaves_none}
use Rattle.sync_recip.proofs.stretch.left_by.Goals as goal

pub returns-in-Some : goal.returns-in-Some
returns-in-Some c =
    leaves_some c.args.stretch.now c.args.across.now c.op_of.result c.in-Some.op c.action_of.result c.last.result c.requires c.first.ensures.chains c.op_of.ensures.is c.op_of.ensures.within c.last.ensures c.action_of.ensures c.in-Some.ensures.is_left.does (c.in-Some.ensures.on_right refl)

pub returns-in-None : goal.returns-in-None
returns-in-None c =
    leaves_none c.args.stretch.now c.args.across.now c.op_of.result c.requires c.first.ensures.chains c.op_of.ensures.is c.op_of.ensures.within (c.in-None.ensures.on_right refl)
