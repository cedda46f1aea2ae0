use Rattle.std.proofs.Common.{sym, ap, subst}
use Rattle.sync_data.specs.declared.instr.Instr.{Instr}
use Rattle.sync_model.specs.Parts.{Given}
use Rattle.server_memory.specs.Merging.{Carries}
use Rattle.server_memory.proofs.Coded.{carried_answers}
use Rattle.server_memory.proofs.given.Given.carry.Goals as goal

pub returns-clause-carries : goal.returns-clause-carries
returns-clause-carries c = λ number.
    let is = ap (λ (g : Given Instr). g.reciprocal) c.self.view_is in
    let r = c.carry.ensures in
    subst (λ x. Carries x c.args.own number c.args.changes c.args.base c.args.self.now.reciprocal) (sym c.answer_of.ensures)
    (carried_answers c.args.own number c.args.changes c.args.base c.self.inside.reciprocal c.args.self.now.reciprocal is c.carry.result r.ok r.base r.fits r.stuck)
