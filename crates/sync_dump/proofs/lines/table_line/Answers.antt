use Rattle.std.proofs.Common.{◌≡◌, ◌++◌, ap, ◌∙◌}
use Rattle.sync_maps.specs.Answers.{then_so}
use Rattle.sync_dump.specs.Dump.{line, data_of_table}
use Rattle.sync_dump.specs.Tokens.{tokens_of}
use Rattle.sync_dump.proofs.lines.table_line.Goals as goal

pub returns : goal.returns
returns c =
    let d = data_of_table c.args.table.now c.args.kind in
    let whole : c.put_table.new.writer.tokens ≡ tokens_of d = c.in_ok-put_table.ensures.0 ∙ ap (λ w. w ++ tokens_of d) c.new-writer.ensures.tokens in
    then_so c.end_line.result (λ new is. is ∙ ap (λ w. w ++ line d) (c.in_ok-put_table.ensures.1 ∙ c.new-writer.ensures.before)) (c.end_line.ensures d whole)
