use Rattle.std.proofs.Common.{sym, ◌∙◌, ap}
use Rattle.std.specs.FinMap as map
use Rattle.std.specs.Option.{option_copied_mut}
use Rattle.sync_maps.specs.Answers.{then_ok, then_err}
use Rattle.sync_schema.proofs.Names.{at_name, written_name, rewritten_name, column_put, column_not_put}
use Rattle.sync_schema.proofs.schema.Schema.put_column.Goals as goal

pub returns-in_default-clause-ok : goal.returns-in_default-clause-ok
returns-in_default-clause-ok c =
    let gone = ap option_copied_mut (sym c.in_default.is) ∙ c.get_mut.ensures.value in
    ap (λ m. map.from_entries m.entries) c.get_mut.follows.holds-at-none ∙ c.self.view_is
    ∙ column_not_put c.args.self.now c.args.table.now c.args.column c.args.def (at_name c.self.inside.tables c.args.table.now c.self.view_is gone)

pub returns-clause-ok : goal.returns-clause-ok
returns-clause-ok c = then_ok c.add.result (λ done.
    written_name c.self.inside.tables c.args.table.now c.self.view_is c.in-Some.ensures.value (c.get_mut.follows.lender c.add.new.self) _ (c.get_mut.follows.holds c.add.new.self)
    ∙ ap (λ t. map.insert c.args.self.now c.args.table.now t) done
    ∙ column_put c.args.self.now c.args.table.now c.args.column c.args.def (at_name c.self.inside.tables c.args.table.now c.self.view_is c.in-Some.ensures.value)) c.add.ensures.ok

pub returns-clause-unchanged : goal.returns-clause-unchanged
returns-clause-unchanged c = then_err c.add.result (λ same.
    rewritten_name c.self.inside.tables c.args.table.now c.self.view_is c.in-Some.ensures.value (c.get_mut.follows.lender c.add.new.self) _ (c.get_mut.follows.holds c.add.new.self) same) c.add.ensures.no_memory
