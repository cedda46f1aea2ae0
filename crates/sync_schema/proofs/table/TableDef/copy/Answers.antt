use Rattle.std.proofs.Common.{◌≡◌, sym, ◌∙◌, ap}
use Rattle.std.specs.FinMap as map
use Rattle.sync_data.specs.Orders.{name_cmp}
use Rattle.sync_base.specs.Lemmas.Looks.{name_total, name_exact}
use Rattle.sync_maps.specs.Answers.{was_ok}
use Rattle.sync_maps.specs.Filled.{filled, filled_all}
use Rattle.sync_schema.proofs.Names.{inserted_name}
use Rattle.sync_schema.proofs.table.TableDef.copy.Goals as goal

pub loop-name-init : goal.loop-name-init
loop-name-init c =
    let given = c.into_iter-name-iterator.ensures.into_iter_gives in
    (λ i. filled (λ v. v) (map.from_entries {R = name_cmp} (c.new-columns.ensures.empty i)) (given.0 i)) ∙ filled_all name_total name_exact c.self.inside.columns.entries given.5

pub loop-name-preserved : goal.loop-name-preserved
loop-name-preserved c =
    let put = was_ok c.insert.result c.if-is_err.ensures.value c.insert.ensures.updates in
    let name : c.in_ok-copy.field-0 ≡ c.in-Some.name.now = cc c.in_ok-copy.ensures.equal in
    let def : c.in_ok-copy-2.field-0 ≡ c.in-Some.def.now = cc c.in_ok-copy-2.ensures.equal in
    let now = inserted_name c.loop-name.columns c.insert.new.self _ _ put.0 in
    ap (λ m. filled (λ v. v) m c.next.new.self) (now ∙ (λ i. map.insert (map.from_entries {R = name_cmp} c.loop-name.columns.entries) (name i) (def i))) ∙ ap (filled (λ v. v) (map.from_entries {R = name_cmp} c.loop-name.columns.entries)) (sym c.in-Some.ensures.steps) ∙ c.loop-name.invariant

pub returns : goal.returns
returns c =
    let all = ap (filled (λ v. v) (map.from_entries {R = name_cmp} c.loop-name.columns.entries)) (sym c.in-None.ensures.steps.0) ∙ c.loop-name.invariant in
    record { equal = (λ i. record { key = c.self.inside.kind; columns = all i }) ∙ c.self.view_is }
