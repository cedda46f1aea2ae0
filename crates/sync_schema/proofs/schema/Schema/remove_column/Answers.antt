use Rattle.std.proofs.Common.{sym, ◌∙◌, ap}
use Rattle.std.specs.FinMap as map
use Rattle.std.specs.Option.{option_copied_mut}
use Rattle.sync_schema.proofs.Names.{at_name, written_name, column_cut, column_not_cut}
use Rattle.sync_schema.proofs.schema.Schema.remove_column.Goals as goal

pub returns-in_default : goal.returns-in_default
returns-in_default c =
    let gone = ap option_copied_mut (sym c.in_default.is) ∙ c.get_mut.ensures.value in
    ap (λ m. map.from_entries m.entries) c.get_mut.follows.holds-at-none ∙ c.self.view_is
    ∙ column_not_cut c.args.self.now c.args.table.now c.args.column.now (at_name c.self.inside.tables c.args.table.now c.self.view_is gone)

pub returns : goal.returns
returns c =
    written_name c.self.inside.tables c.args.table.now c.self.view_is c.in-Some.ensures.value (c.get_mut.follows.lender c.remove.new.self) _ (c.get_mut.follows.holds c.remove.new.self)
    ∙ ap (λ t. map.insert c.args.self.now c.args.table.now t) c.remove.ensures
    ∙ column_cut c.args.self.now c.args.table.now c.args.column.now (at_name c.self.inside.tables c.args.table.now c.self.view_is c.in-Some.ensures.value)
