use Rattle.std.proofs.Common.{◌-◌, arith, ◌∙◌, sym, ap}
use Rattle.life_bytes.specs.Runs.{ends_with}
use Rattle.life_bytes.proofs.RunLaws.{ends_some, made_longer, run_pushed}
use Rattle.life_bytes.proofs.runs.put_lives.Goals as goal

pub returns-then-ends_with-clause-ok : goal.returns-then-ends_with-clause-ok
returns-then-ends_with-clause-ok c =
    let ends = ap (ends_with c.args.life) (sym c.as_slice.ensures.value) ∙ sym c.ends_with.ensures ∙ c.if-ends_with.true in
    let some = ends_some c.args.life c.args.runs.now.items ends in
    made_longer c.args.life c.args.count c.args.runs.now.items (c.len-last.result - 1) c.index.result.now (omega (arith, some)) c.index.ensures ends

pub returns-in-Ok-clause-ok : goal.returns-in-Ok-clause-ok
returns-in-Ok-clause-ok c = c.in-Ok.ensures.items ∙ run_pushed c.args.life c.args.count c.args.runs.now.items (ap (ends_with c.args.life) (sym c.as_slice.ensures.value) ∙ sym c.ends_with.ensures ∙ c.if-ends_with.false)
