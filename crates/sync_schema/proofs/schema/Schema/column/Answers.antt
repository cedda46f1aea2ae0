use Rattle.std.proofs.Common.{sym, ◌∙◌, ap}
use Rattle.std.specs.Option.{option_and_then, option_copied}
use Rattle.std.specs.FinMap as map
use Rattle.sync_base.specs.States.{Table}
use Rattle.sync_schema.proofs.Names.{at_name}
use Rattle.sync_schema.proofs.schema.Schema.column.Goals as goal

pub returns-in_err-get : goal.returns-in_err-get
returns-in_err-get c = ap option_copied c.from_residual.ensures ∙ sym (ap (option_and_then (λ (t : Table). map.get t.columns c.args.column.now)) (at_name c.self.inside.tables c.args.table.now c.self.view_is c.in_err-get.ensures.value))

pub returns : goal.returns
returns c = c.column.ensures ∙ sym (ap (option_and_then (λ (t : Table). map.get t.columns c.args.column.now)) (at_name c.self.inside.tables c.args.table.now c.self.view_is c.in_ok-get.ensures.value))
