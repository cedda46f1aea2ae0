use Rattle.std.proofs.Common.{◌∙◌}
use Rattle.std.specs.Prelude.{codes}
use Rattle.json.specs.Token.{begin_object, end_object, key, string, boolean}
use Rattle.sync_base.specs.States.{has}
use Rattle.sync_value_text.specs.Printed.{data_of_key}
use Rattle.sync_maps.specs.Answers.{then_ok}
use Rattle.sync_dump.specs.Tokens.{tokens_of}
use Rattle.sync_dump.proofs.Joined.{link_tokens}
use Rattle.sync_dump.proofs.values.put_link.Goals as goal

pub returns : goal.returns
returns c =
    let table = c.args.table.now in
    let all = link_tokens c.args.writer.now.tokens (tokens_of (data_of_key c.args.key.now)) begin_object (key (codes "key")) (key (codes "link")) (string table) (key (codes "resolved")) (boolean (has c.args.store.now (table, c.args.key.now))) end_object in
    then_ok c.end_object.result (λ t. (
      cc (all, t, c.text.ensures.value, c.has.ensures, c.in_ok-put_flag_field.ensures.0, c.in_ok-put_text_field.ensures.0, c.in_ok-put_key.ensures.0, c.in_ok-key.ensures.ok, c.in_ok-begin_object.ensures.ok),
      c.end_object.ensures.room.0 ∙ c.in_ok-put_flag_field.ensures.1 ∙ c.in_ok-put_text_field.ensures.1 ∙ c.in_ok-put_key.ensures.1 ∙ c.key.ensures.room.0 ∙ c.begin_object.ensures.room.0,
    )) c.end_object.ensures.ok
