use Rattle.sync_base.specs.Lemmas.Looks.{name_total}
use Rattle.sync_maps.specs.Nexts.{next_seen}
use Rattle.sync_schema.proofs.schema.Schema.next_table.Goals as goal

pub returns : goal.returns
returns c = next_seen name_total c.self.inside.tables c.args.self.now c.self.view_is _ _ c.next_key.ensures
