use Rattle.std.proofs.Common.{length, sym, ◌∙◌, arith}
use Rattle.std.proofs.lemmas.Bool.{le-leb}
use Rattle.std.proofs.lemmas.Bool.Decides.{nat_tests}
use Rattle.life_bytes.specs.Runs.{most_runs, pushed}
use Rattle.life_bytes.proofs.RunLaws.{longer_len, more_len}
use Rattle.life_bytes.proofs.runs.has_room.Goals as goal

pub returns-then-ends_with : goal.returns-then-ends_with
returns-then-ends_with c = λ count.
    le-leb (length (pushed c.args.life count c.args.runs.now)) most_runs (omega (arith, longer_len c.args.life count c.args.runs.now (sym c.ends_with.ensures ∙ c.if-ends_with.true), c.requires))

pub returns : goal.returns
returns c = λ count.
    let more = more_len c.args.life count c.args.runs.now (sym c.ends_with.ensures ∙ c.if-ends_with.false) in
    grind (arith, nat_tests, more)
