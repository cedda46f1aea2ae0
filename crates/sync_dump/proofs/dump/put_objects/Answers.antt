use Rattle.std.proofs.Common.{[], ◌++◌, length, ◌<◌, Option, sym, ap, ◌∙◌, subst}
use Rattle.std.specs.Option.{option_copied, option_map_or}
use Rattle.std.specs.FinMap as map
use Rattle.sync_data.specs.Orders.{key_cmp}
use Rattle.sync_data.specs.declared.key.Key.{Key}
use Rattle.sync_base.specs.States.{Cells}
use Rattle.sync_dump.specs.Dump.{line, data_of_object, object_lines, objects_in}
use Rattle.sync_dump.specs.Walks.{columns_in}
use Rattle.sync_dump.proofs.Walk.{from, IsAt, smaller, lines_on}
use Rattle.sync_dump.proofs.Standing.{object_first, object_step}
use Rattle.sync_dump.proofs.dump.put_objects.Goals as goal

pub loop-object-init : goal.loop-object-init
loop-object-init c =
    let s = c.args.store.now in
    let t = c.args.table.now in
    let w = object_first s t (option_copied c.next_key-object.result) c.next_key-object.ensures in
    (w.1, ap (λ es. c.args.out.items ++ object_lines s (columns_in s.tables t) t es) w.0)

pub loop-object-smaller : goal.loop-object-smaller
loop-object-smaller c =
    let objects = objects_in c.args.table.now (map.entries c.args.store.now.objects) in
    let here = ap (option_copied {T = Key}) c.in-Some.is in
    let next = option_copied c.next_key-object-in-Some.result in
    let step = object_step c.args.store.now c.args.table.now c.in-Some.key.now next (subst (λ (x : Option Key). IsAt key_cmp x objects) here c.loop-object.invariant.0) c.next_key-object-in-Some.ensures in
    subst (λ (x : Option Key). length (from key_cmp next objects) < length (from key_cmp x objects)) (sym here) (smaller key_cmp _ _ _ step)

pub loop-object-preserved : goal.loop-object-preserved
loop-object-preserved c =
    let s = c.args.store.now in
    let t = c.args.table.now in
    let key = c.in-Some.key.now in
    let columns = columns_in s.tables t in
    let objects = objects_in t (map.entries s.objects) in
    let here = ap (option_copied {T = Key}) c.in-Some.is in
    let next = option_copied c.next_key-object-in-Some.result in
    let out = c.loop-object.out.items in
    let step = object_step s t key next (subst (λ (x : Option Key). IsAt key_cmp x objects) here c.loop-object.invariant.0) c.next_key-object-in-Some.ensures in (
      step.at,
      lines_on key_cmp (λ e. line (data_of_object s columns (t, e.0))) out c.in_ok-out.out.items _ key next objects step
          (ap (λ x. out ++ object_lines s columns t (from key_cmp x objects)) (sym here) ∙ c.loop-object.invariant.1)
          (c.in_ok-out.ensures ∙ ap (λ (x : Option Cells). out ++ option_map_or (λ v. line (data_of_object s columns (t, key))) x []) (sym step.there)),
    )
