use Rattle.std.proofs.Common.{is_some, sym, ap, subst}
use Rattle.std.specs.Option.{option_and_then, option_copied}
use Rattle.std.specs.FinMap as map
use Rattle.sync_data.specs.Orders.{name_cmp}
use Rattle.sync_base.specs.States.{Table}
use Rattle.sync_maps.specs.Next.{IsNext}
use Rattle.sync_maps.specs.Nexts.{no_other}
use Rattle.sync_schema.proofs.Names.{at_name}
use Rattle.sync_schema.proofs.schema.Schema.next_column.Goals as goal

pub returns-in_err-get : goal.returns-in_err-get
returns-in_err-get c = rw c.from_residual.ensures (λ q h.
    no_other (ap (option_and_then (λ (t : Table). map.get t.columns q)) (at_name c.self.inside.tables c.args.table.now c.self.view_is c.in_err-get.ensures.value)) h _)

pub returns : goal.returns
returns c = subst (λ x. IsNext name_cmp (λ q. is_some (option_and_then (λ (t : Table). map.get t.columns q) x)) (option_copied c.args.after) (option_copied c.next_column.result))
    (sym (at_name c.self.inside.tables c.args.table.now c.self.view_is c.in_ok-get.ensures.value)) c.next_column.ensures
