use Rattle.std.proofs.Common.{sym, ◌∙◌, ap}
use Rattle.sync_index.specs.Touched.{touches}
use Rattle.sync_index.specs.Lemmas.{apart_from_all}
use Rattle.sync_index.proofs.index.Index.may_touch.Goals as goal

pub returns-in-Some-clause-apart : goal.returns-in-Some-clause-apart
returns-in-Some-clause-apart c = λ e instrs there.
    apart_from_all c.args.self.now c.args.instr.now instrs (ap (touches c.args.self.now) (sym c.in-Some.ensures) ∙ sym c.has_object.ensures ∙ e) there

pub returns-in-None-clause-apart : goal.returns-in-None-clause-apart
returns-in-None-clause-apart c = λ e instrs there.
    apart_from_all c.args.self.now c.args.instr.now instrs (ap (touches c.args.self.now) (sym c.in-None.ensures) ∙ sym (ap (λ t. t.schema) c.self.view_is) ∙ e) there
