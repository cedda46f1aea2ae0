use Rattle.std.proofs.Common.{◌+◌, ◌++◌, drop, sym, ap, ◌∙◌, append_assoc}
use Rattle.sync_dump.specs.Dump.{data_of}
use Rattle.sync_dump.specs.Tokens.{tokens_of, tokens_of_values}
use Rattle.sync_dump.proofs.Elements.{next_value}
use Rattle.sync_dump.proofs.cells.put_elements.Goals as goal

pub loop-element-preserved : goal.loop-element-preserved
loop-element-preserved c =
    let s = c.args.store.now in let vs = c.args.elements.now in
    let i = c.loop-element.element-index in let v = c.element-item.result in
    let old = c.loop-element.writer.tokens in let rest = tokens_of_values s (drop (i + 1) vs) in (
      ap (λ w. w ++ rest) (c.in_ok-put_value.ensures.0 ∙ ap (λ w. old ++ tokens_of (data_of s w)) c.value.ensures) ∙ append_assoc old (tokens_of (data_of s v)) rest
          ∙ ap (λ w. old ++ w) (sym (next_value s vs i v c.loop-element-test.true c.element-item.is)) ∙ c.loop-element.invariant.0,
      c.in_ok-put_value.ensures.1 ∙ c.loop-element.invariant.1,
    )
