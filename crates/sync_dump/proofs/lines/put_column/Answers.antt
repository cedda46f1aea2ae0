use Rattle.std.proofs.Common.{◌∙◌}
use Rattle.std.specs.Prelude.{codes}
use Rattle.json.specs.Token.{begin_object, key, string, boolean}
use Rattle.json.specs.Tree.{members_tokens}
use Rattle.serde_json.specs.Written.{members_outline}
use Rattle.sync_value_text.specs.Printed.{kind_word, shape_word, target_name, target_field}
use Rattle.sync_maps.specs.Answers.{then_ok}
use Rattle.sync_dump.proofs.Joined.{column_tokens}
use Rattle.sync_dump.proofs.lines.put_column.Goals as goal

pub returns : goal.returns
returns c =
    let column = c.args.column.now in
    let all = column_tokens c.args.writer.now.tokens (members_tokens (members_outline (target_field (target_name column.kind)))) begin_object (key (codes "column")) (string c.args.name.now) (key (codes "kind")) (string (kind_word column.kind)) (key (codes "nullable")) (boolean column.nullable) (key (codes "shape")) (string (shape_word column.shape)) (key (codes "table")) (string c.args.table.now) in
    then_ok c.put_target.result (λ t. (
      cc (all, t.0, c.text.ensures.value, c.text-2.ensures.value, c.kind_word.ensures, c.shape_word.ensures, c.in_ok-put_text_field-4.ensures.0, c.in_ok-put_text_field-3.ensures.0, c.in_ok-put_flag_field.ensures.0, c.in_ok-put_text_field-2.ensures.0, c.in_ok-put_text_field.ensures.0, c.in_ok-begin_object.ensures.ok),
      t.1 ∙ c.in_ok-put_text_field-4.ensures.1 ∙ c.in_ok-put_text_field-3.ensures.1 ∙ c.in_ok-put_flag_field.ensures.1 ∙ c.in_ok-put_text_field-2.ensures.1 ∙ c.in_ok-put_text_field.ensures.1 ∙ c.begin_object.ensures.room.0,
    )) c.put_target.ensures
