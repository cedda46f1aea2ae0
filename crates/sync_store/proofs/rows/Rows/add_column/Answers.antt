use Rattle.std.proofs.Common.{sym, ◌∙◌, ap}
use Rattle.std.specs.FinMap as map
use Rattle.sync_data.specs.Orders.{key_cmp, key_cmp_total, key_cmp_exact}
use Rattle.sync_maps.specs.Filled.{filled}
use Rattle.sync_store.specs.Flat.{each_row, with_cell}
use Rattle.sync_store.proofs.Filling.{filled_with}
use Rattle.sync_store.proofs.rows.Rows.add_column.Goals as goal

pub loop-key-init : goal.loop-key-init
loop-key-init c =
    let given = c.into_iter-key-iterator.ensures.into_iter_gives in
    (λ i. filled (with_cell c.args.column.now c.args.def.now) (map.from_entries {R = key_cmp} (c.replace-objects.ensures.after i).entries) c.into_iter-key-iterator.result)
    ∙ (λ i. filled (with_cell c.args.column.now c.args.def.now) (map.from_entries {R = key_cmp} (c.new-empty.ensures.empty i)) (given.0 i)) ∙ filled_with key_cmp_total key_cmp_exact (with_cell c.args.column.now c.args.def.now) c.replace-objects.result.entries given.5
    ∙ ap (λ t. each_row (with_cell c.args.column.now c.args.def.now) (map.from_entries t.entries)) c.replace-objects.ensures.value ∙ ap (each_row (with_cell c.args.column.now c.args.def.now)) c.self.view_is

pub loop-key-preserved : goal.loop-key-preserved
loop-key-preserved c =
    ap (λ m. filled (with_cell c.args.column.now c.args.def.now) m c.next.new.self) (c.in_ok-insert.ensures ∙ ap (map.insert c.loop-key.self c.in-Some.key) c.in_ok-add_default.ensures)
    ∙ ap (filled (with_cell c.args.column.now c.args.def.now) c.loop-key.self) (sym c.in-Some.ensures.steps) ∙ c.loop-key.invariant

pub returns : goal.returns
returns c = ap (filled (with_cell c.args.column.now c.args.def.now) c.loop-key.self) (sym c.in-None.ensures.steps.0) ∙ c.loop-key.invariant
