use Rattle.std.proofs.Common.{ap, sym, ◌∙◌, ◌++◌, ◌+◌, replicate}
use Rattle.life_bytes.specs.Runs.{Lives, lives_of, count_of}
use Rattle.life_bytes.proofs.RunLaws.{pushed_lives, pushed_count}
use Rattle.life_marks.proofs.life_list.LifeList.push_many.Goals as goal

pub invariant_of-self-2 : goal.invariant_of-self-2
invariant_of-self-2 c = ap (λ n. n + c.args.count) c.self.invariant ∙ sym (ap count_of c.in_ok-put_lives.ensures.ok ∙ pushed_count c.args.life c.args.count c.self.inside.runs.items)

pub returns-clause-ok : goal.returns-clause-ok
returns-clause-ok c = ap lives_of c.in_ok-put_lives.ensures.ok ∙ pushed_lives c.args.life c.args.count c.self.inside.runs.items ∙ ap (λ (xs : Lives). xs ++ replicate c.args.count c.args.life) c.self.view_is
