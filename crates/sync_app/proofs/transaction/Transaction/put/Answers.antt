use Rattle.std.proofs.Common.{◌++◌, ◌∷◌, [], ◌∙◌, ap}
use Rattle.sync_app.proofs.Drafting.{kept_put, kept_same, put_so}
use Rattle.sync_app.proofs.transaction.Transaction.put.Goals as goal

pub invariant_of-self : goal.invariant_of-self
invariant_of-self c =
    kept_same c.self.inside.sketch c.prepare.new.sketch c.self.inside.instrs.items c.self.inside.payload c.in-Err-prepare.ensures.unchanged c.self.invariant c.prepare.ensures.instrs

pub invariant_of-self-2 : goal.invariant_of-self-2
invariant_of-self-2 c =
    kept_put c.self.inside.sketch c.prepare.new.sketch c.self.inside.instrs.items c.self.inside.payload c.self.invariant c.args.instr c.in-Ok.payload c.self.view_is c.in-Ok.ensures
    c.in-Ok-prepare.ensures.taken (c.put_last.ensures ∙ ap (λ is. is ++ c.args.instr ∷ []) c.prepare.ensures.instrs)

pub returns : goal.returns
returns c =
    put_so c.self.inside.sketch c.prepare.new.sketch c.self.inside.instrs.items c.self.inside.payload c.self.invariant c.args.instr c.in-Ok.payload c.self.view_is c.in-Ok.ensures
    c.in-Ok-prepare.ensures.taken (c.put_last.ensures ∙ ap (λ is. is ++ c.args.instr ∷ []) c.prepare.ensures.instrs)
