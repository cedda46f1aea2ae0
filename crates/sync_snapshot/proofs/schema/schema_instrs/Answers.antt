use Rattle.std.proofs.Common.{◌++◌, ap, ◌∙◌}
use Rattle.sync_snapshot.proofs.Lists.{tables_list, columns_each, schema_is}
use Rattle.sync_snapshot.proofs.schema.schema_instrs.Goals as goal

pub returns : goal.returns
returns c =
    let s = c.args.objects.now in
    record {
      made = c.in_ok-put_columns.ensures
          ∙ (λ i. (c.in_ok-put_tables.ensures ∙ ap (λ l. l ++ tables_list s) c.new-list.ensures.items) i ++ columns_each s i)
          ∙ schema_is s;
    }
