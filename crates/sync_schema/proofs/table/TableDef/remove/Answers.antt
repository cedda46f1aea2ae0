use Rattle.std.proofs.Common.{◌∙◌, ap}
use Rattle.sync_schema.specs.Steps.{without_column}
use Rattle.sync_schema.proofs.Names.{removed_name}
use Rattle.sync_schema.proofs.table.TableDef.remove.Goals as goal

pub returns : goal.returns
returns c = (λ i. record { key = c.self.inside.kind; columns = removed_name c.self.inside.columns c.remove.new.self c.args.name.now c.remove.ensures.updates.0 i }) ∙ ap (without_column c.args.name.now) c.self.view_is
