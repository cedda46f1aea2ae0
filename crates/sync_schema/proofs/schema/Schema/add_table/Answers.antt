use Rattle.std.proofs.Common.{not, None, Some, is_some, refl, sym, ◌∙◌, ap, if◌then◌else◌}
use Rattle.std.specs.FinMap as map
use Rattle.sync_base.specs.declared.answers.Break.TheVariants as breaks
use Rattle.sync_maps.specs.Answers.{was_ok}
use Rattle.sync_schema.proofs.Names.{at_name, inserted_name}
use Rattle.sync_schema.proofs.schema.Schema.add_table.Goals as goal

pub returns-then-contains_key-clause-refused : goal.returns-then-contains_key-clause-refused
returns-then-contains_key-clause-refused c =
    ap (λ b. if not b then None else Some breaks.TableExists) (ap is_some (at_name c.self.inside.tables c.args.add.table c.self.view_is refl) ∙ sym c.contains_key.ensures ∙ c.if-contains_key.true)

pub returns-then-is_err-clause-refused : goal.returns-then-is_err-clause-refused
returns-then-is_err-clause-refused c =
    ap (λ b. if not b then None else Some breaks.TableExists) (ap is_some (at_name c.self.inside.tables c.args.add.table c.self.view_is refl) ∙ sym c.contains_key.ensures ∙ c.if-contains_key.false)

pub returns-clause-ok : goal.returns-clause-ok
returns-clause-ok c =
    let put = was_ok c.insert.result c.if-is_err.ensures.value c.insert.ensures.updates in
    inserted_name c.self.inside.tables c.insert.new.self _ _ put.0 ∙ (λ i. map.insert (c.self.view_is i) c.args.add.table (c.new-table.ensures i))

pub returns-clause-refused : goal.returns-clause-refused
returns-clause-refused c =
    ap (λ b. if not b then None else Some breaks.TableExists) (ap is_some (at_name c.self.inside.tables c.args.add.table c.self.view_is refl) ∙ sym c.contains_key.ensures ∙ c.if-contains_key.false)
