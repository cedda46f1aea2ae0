use Rattle.std.proofs.Common.{ap, sym, ◌∙◌}
use Rattle.server_memory.specs.Kept.{parts}
use Rattle.server_memory.specs.declared.history.History.{History}
use Rattle.std.specs.Prelude.{not}
use Rattle.server_memory.proofs.kept.Kept.admit_form.Goals as goal

pub returns-then-second : goal.returns-then-second
returns-then-second c = ap not (sym c.second.ensures ∙ c.if-second.true)

pub returns : goal.returns
returns c = record {
  admitted = ap not (sym c.second.ensures ∙ c.if-second.false);
  kept = ap (λ (h : History). parts (record c.args.self.now { history = h })) c.upgrade.ensures;
}
