use Rattle.std.proofs.Common.{sym}
use Rattle.sync_schema.proofs.Names.{at_name}
use Rattle.sync_schema.proofs.schema.Schema.definition.Goals as goal

pub returns : goal.returns
returns c = sym (at_name c.self.inside.tables c.args.name.now c.self.view_is c.get.ensures.value)
