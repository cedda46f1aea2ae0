use Rattle.std.proofs.Common.{sym, ap, ◌∙◌}
use Rattle.sync_top.proofs.Jobs.{number_plain, parsed_number}
use Rattle.sync_top.specs.Jobs.{is_padded}
use Rattle.sync_top.proofs.job.number_of.Goals as goal

pub returns-then-is_padded : goal.returns-then-is_padded
returns-then-is_padded c = λ n. (λ none. cc, λ is. let plain = number_plain n c.args.word.now is in let bytes = ap is_padded c.as_bytes.ensures.value in absurd (cc))

pub returns : goal.returns
returns c = parsed_number c.args.word.now c.parse.result c.ok.result c.ok.ensures.value c.parse.ensures.value.0 (sym (ap is_padded c.as_bytes.ensures.value) ∙ sym c.is_padded.ensures ∙ c.if-is_padded.false)
