use Rattle.std.proofs.Common.{sym, ap}
use Rattle.sync_base.specs.States.{Table}
use Rattle.sync_schema.proofs.Names.{at_name}
use Rattle.sync_schema.proofs.table.TableDef.column.Goals as goal

pub returns : goal.returns
returns c = sym (at_name c.self.inside.columns c.args.name.now (ap (λ (t : Table). t.columns) c.self.view_is) c.get.ensures.value)
