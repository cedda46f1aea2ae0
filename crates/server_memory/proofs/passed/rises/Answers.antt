use Rattle.std.proofs.Common.{length, sym, ◌∙◌}
use Rattle.std.proofs.lemmas.Bool.{eqb-false}
use Rattle.server_memory.proofs.Passing.{rises_as}
use Rattle.server_memory.proofs.passed.rises.Goals as goal

pub returns : goal.returns
returns c =
    let ps = c.args.passed.now in
    let some = eqb-false (length ps) 0 (sym c.is_empty.ensures ∙ c.if-is_empty.false) in
    c.is_before.ensures ∙ sym (rises_as ps c.args.ident c.args.version c.index-passed-passed.result some c.index-passed-passed.is)
