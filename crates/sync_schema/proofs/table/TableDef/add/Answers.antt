use Rattle.std.proofs.Common.{◌∙◌, ap}
use Rattle.sync_base.specs.After.{with_column}
use Rattle.sync_maps.specs.Answers.{was_ok}
use Rattle.sync_schema.proofs.Names.{inserted_name}
use Rattle.sync_schema.proofs.table.TableDef.add.Goals as goal

pub returns-clause-ok : goal.returns-clause-ok
returns-clause-ok c =
    let put = was_ok c.insert.result c.if-is_err.ensures.value c.insert.ensures.updates in
    (λ i. record { key = c.self.inside.kind; columns = inserted_name c.self.inside.columns c.insert.new.self c.args.name c.args.def put.0 i }) ∙ ap (with_column c.args.name c.args.def) c.self.view_is
