use Rattle.std.proofs.Common.{sym, ◌∙◌, ap, Some}
use Rattle.std.specs.Option.{option_map}
use Rattle.sync_base.specs.States.{Table}
use Rattle.sync_schema.proofs.Names.{at_name}
use Rattle.sync_schema.proofs.schema.Schema.columns.Goals as goal

pub returns-in_err-get : goal.returns-in_err-get
returns-in_err-get c = rw c.from_residual.ensures (sym (ap (option_map (λ (t : Table). t.columns)) (at_name c.self.inside.tables c.args.table.now c.self.view_is c.in_err-get.ensures.value)))

pub returns : goal.returns
returns c = ap Some c.columns.ensures ∙ sym (ap (option_map (λ (t : Table). t.columns)) (at_name c.self.inside.tables c.args.table.now c.self.view_is c.in_ok-get.ensures.value))
