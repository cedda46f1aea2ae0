use Rattle.std.proofs.Common.{sym, ap, subst, ◌∙◌}
use Rattle.life_bytes.specs.Runs.{AreLives, runs_of}
use Rattle.life_bytes.proofs.RunLaws.{are_back, are_lives}
use Rattle.life_bytes.proofs.runs.Runs.runs.Goals as goal

pub returns-clause-value : goal.returns-clause-value
returns-clause-value c = c.as_slice.ensures.value ∙ sym (are_back c.self.inside.runs.items c.self.invariant.are) ∙ ap runs_of c.self.view_is

pub returns-clause-are : goal.returns-clause-are
returns-clause-are c = subst AreLives c.self.view_is (are_lives c.self.inside.runs.items c.self.invariant.are)
