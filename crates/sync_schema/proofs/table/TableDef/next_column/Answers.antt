use Rattle.std.proofs.Common.{ap}
use Rattle.sync_base.specs.States.{Table}
use Rattle.sync_base.specs.Lemmas.Looks.{name_total}
use Rattle.sync_maps.specs.Nexts.{next_seen}
use Rattle.sync_schema.proofs.table.TableDef.next_column.Goals as goal

pub returns : goal.returns
returns c = next_seen name_total c.self.inside.columns c.args.self.now.columns (ap (λ (t : Table). t.columns) c.self.view_is) _ _ c.next_key.ensures
