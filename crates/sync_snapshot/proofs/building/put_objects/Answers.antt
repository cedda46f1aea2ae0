use Rattle.std.proofs.Common.{ℕ, List, Option, length, ◌<◌, sym, ap, subst, refl}
use Rattle.std.specs.Prelude.{flat_map}
use Rattle.std.specs.Option.{option_copied}
use Rattle.std.specs.FinMap as fin
use Rattle.sync_data.specs.Orders.{name_cmp}
use Rattle.store_walks.specs.Walk.{from, IsAt, smaller}
use Rattle.store_walks.specs.Standing.{table_first, table_step}
use Rattle.sync_snapshot.specs.Lists.{table_instrs}
use Rattle.sync_snapshot.specs.Parts.{Leaves}
use Rattle.sync_snapshot.proofs.Cutting.{takes_step}
use Rattle.sync_snapshot.proofs.building.put_objects.Goals as goal

pub loop-table-init : goal.loop-table-init
loop-table-init c =
    let s = c.args.objects.now in
    let w = table_first s.tables (option_copied c.next_table-table.result) c.next_table-table.ensures in
    (w.1, subst (λ es. Leaves c.args.cutter.now c.args.cutter.now (flat_map (λ e. table_instrs s e.0) (fin.entries s.tables)) (flat_map (λ e. table_instrs s e.0) es)) (sym w.0) (λ rest. refl))

pub loop-table-smaller : goal.loop-table-smaller
loop-table-smaller c =
    let ts = c.args.objects.now.tables in
    let tables = fin.entries ts in
    let here = ap (option_copied {T = List ℕ}) c.in-Some.is in
    let next = option_copied c.next_table-table-in-Some.result in
    let step = table_step ts c.in-Some.name.now next (subst (λ (x : Option (List ℕ)). IsAt name_cmp x tables) here c.loop-table.invariant.0) c.next_table-table-in-Some.ensures in
    subst (λ (x : Option (List ℕ)). length (from name_cmp next tables) < length (from name_cmp x tables)) (sym here) (smaller name_cmp _ _ _ step)

pub loop-table-preserved : goal.loop-table-preserved
loop-table-preserved c =
    let s = c.args.objects.now in
    let name = c.in-Some.name.now in
    let tables = fin.entries s.tables in
    let here = ap (option_copied {T = List ℕ}) c.in-Some.is in
    let next = option_copied c.next_table-table-in-Some.result in
    let step = table_step s.tables name next (subst (λ (x : Option (List ℕ)). IsAt name_cmp x tables) here c.loop-table.invariant.0) c.next_table-table-in-Some.ensures in (
      step.at,
      takes_step name_cmp (λ e. table_instrs s e.0) c.args.cutter.now c.loop-table.cutter c.put_table_objects.new.cutter (flat_map (λ e. table_instrs s e.0) tables) name next tables step
          (subst (λ (x : Option (List ℕ)). Leaves c.args.cutter.now c.loop-table.cutter (flat_map (λ e. table_instrs s e.0) tables) (flat_map (λ e. table_instrs s e.0) (from name_cmp x tables))) here c.loop-table.invariant.1)
          c.in_ok-put_table_objects.ensures,
    )
