use Rattle.std.proofs.Common.{◌∙◌, ap}
use Rattle.std.specs.FinMap as map
use Rattle.sync_schema.proofs.Names.{removed_name}
use Rattle.sync_schema.proofs.schema.Schema.remove_table.Goals as goal

pub returns : goal.returns
returns c = removed_name c.self.inside.tables c.remove.new.self c.args.table.now c.remove.ensures.updates.0 ∙ ap (λ ts. map.remove ts c.args.table.now) c.self.view_is
