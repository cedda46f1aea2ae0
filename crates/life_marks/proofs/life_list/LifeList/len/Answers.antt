use Rattle.std.proofs.Common.{length, sym, ap, ◌∙◌}
use Rattle.life_bytes.proofs.RunLaws.{count_is}
use Rattle.life_marks.proofs.life_list.LifeList.len.Goals as goal

pub returns : goal.returns
returns c = c.self.invariant ∙ sym (count_is c.self.inside.runs.items) ∙ ap length c.self.view_is
