use Rattle.std.proofs.Common.{◌∷◌, ◌++◌, sym, ap, ◌∙◌}
use Rattle.json.specs.Token.{begin_object}
use Rattle.json.specs.Tree.{members_tokens}
use Rattle.serde_json.specs.Written.{members_outline}
use Rattle.sync_base.specs.Lemmas.Looks.{name_total, name_exact}
use Rattle.sync_maps.specs.Answers.{then_ok}
use Rattle.sync_dump.specs.Dump.{bindings_of}
use Rattle.sync_dump.proofs.Ordered.{entries_of}
use Rattle.sync_dump.proofs.cells.put_dict.Goals as goal

pub returns : goal.returns
returns c =
    let s = c.args.store.now in
    let entries = c.args.dict.now.entries in
    then_ok c.end_object.result (λ t. (
      t ∙ ap (λ es. c.loop-key.writer.tokens ++ members_tokens (members_outline (bindings_of s es))) (sym c.in-None.ensures.steps.0) ∙ c.loop-key.invariant.0
          ∙ ap (λ es. c.args.writer.now.tokens ++ begin_object ∷ members_tokens (members_outline (bindings_of s es))) (sym (entries_of name_total name_exact entries c.into_iter-key-iterator.ensures.into_iter_gives.5)),
      c.end_object.ensures.room.0 ∙ c.loop-key.invariant.1,
    )) c.end_object.ensures.ok
