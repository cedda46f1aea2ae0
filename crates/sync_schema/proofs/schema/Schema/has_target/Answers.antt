use Rattle.std.proofs.Common.{sym, ◌∙◌, ap, refl, is_some}
use Rattle.sync_schema.proofs.Names.{at_name}
use Rattle.sync_schema.proofs.schema.Schema.has_target.Goals as goal

pub returns-in-Link : goal.returns-in-Link
returns-in-Link c = rw c.in-Link.is (c.contains_key.ensures ∙ sym (ap is_some (at_name c.self.inside.tables c.in-Link.target c.self.view_is refl)))
