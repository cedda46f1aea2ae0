use Rattle.std.proofs.Common.{◌++◌, ap, ◌∙◌}
use Rattle.std.specs.Option.{option_map}
use Rattle.std.specs.FinMap as map
use Rattle.sync_base.specs.States.{Table}
use Rattle.sync_maps.specs.Answers.{then_so}
use Rattle.sync_dump.specs.Dump.{column_lines, object_lines, objects_in}
use Rattle.sync_dump.specs.Walks.{columns_in}
use Rattle.sync_dump.proofs.Standing.{table_whole}
use Rattle.sync_dump.proofs.dump.put_table.Goals as goal

pub returns-in_ok-out-in-Some-2 : goal.returns-in_ok-out-in-Some-2
returns-in_ok-out-in-Some-2 c =
    let s = c.args.store.now in
    let t = c.args.table.now in
    let columns = columns_in s.tables t in
    let objects = object_lines s columns t (objects_in t (map.entries s.objects)) in
    then_so c.put_objects.result (λ new is.
    is ∙ ap (λ w. w ++ objects) (c.in_ok-out-in-Some-2.ensures ∙ ap (λ w. w ++ column_lines t columns) c.in_ok-out-in-Some.ensures)
    ∙ table_whole s t c.in-Some.kind c.args.out.items (c.in-Some.ensures ∙ ap (λ ts. option_map (λ (table : Table). table.key) (map.get ts t)) c.schema.ensures)) c.put_objects.ensures
