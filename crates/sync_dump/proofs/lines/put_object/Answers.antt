use Rattle.std.proofs.Common.{[], ◌∷◌, ◌++◌, ap, ◌∙◌}
use Rattle.std.specs.Prelude.{codes}
use Rattle.json.specs.Token.{begin_object, end_object, key, string}
use Rattle.serde_json.specs.Data.{object}
use Rattle.sync_value_text.specs.Printed.{data_of_key}
use Rattle.sync_maps.specs.Answers.{then_ok}
use Rattle.sync_dump.specs.Dump.{cells_of}
use Rattle.sync_dump.specs.Tokens.{tokens_of}
use Rattle.sync_dump.specs.Walks.{columns_in}
use Rattle.sync_dump.proofs.Joined.{object_joined}
use Rattle.sync_dump.proofs.lines.put_object.Goals as goal

pub returns : goal.returns
returns c =
    let table = c.args.table.now in
    let s = c.args.store.now in
    let before_table = c.put_key.new.writer.tokens in
    then_ok c.end_object.result (λ t. (
      object_joined c.args.writer.now.tokens c.begin_object.new.self.tokens c.key.new.self.tokens c.put_cells.new.writer.tokens c.key-2.new.self.tokens before_table c.put_text_field.new.writer.tokens c.end_object.new.self.tokens
          (tokens_of (object (cells_of s (table, c.args.key.now) (columns_in s.tables table)))) (tokens_of (data_of_key c.args.key.now))
          begin_object (key (codes "cells")) (key (codes "key")) (key (codes "table")) (string table) end_object
          c.in_ok-begin_object.ensures.ok c.in_ok-key.ensures.ok c.in_ok-put_cells.ensures.0 c.in_ok-key-2.ensures.ok c.in_ok-put_key.ensures.0
          (c.in_ok-put_text_field.ensures.0 ∙ ap (λ n. before_table ++ key (codes "table") ∷ string n ∷ []) c.text.ensures.value) t,
      c.end_object.ensures.room.0 ∙ c.in_ok-put_text_field.ensures.1 ∙ c.in_ok-put_key.ensures.1 ∙ c.key-2.ensures.room.0 ∙ c.in_ok-put_cells.ensures.1 ∙ c.key.ensures.room.0 ∙ c.begin_object.ensures.room.0,
    )) c.end_object.ensures.ok
