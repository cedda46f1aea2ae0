use Rattle.std.proofs.Common.{Option, [], map, length, ◌<◌, sym, ap, ◌∙◌, subst, refl}
use Rattle.std.specs.Prelude.{flat_map}
use Rattle.std.specs.Option.{option_copied, option_map_or}
use Rattle.std.specs.FinMap as fin
use Rattle.sync_data.specs.Orders.{key_cmp}
use Rattle.sync_data.specs.declared.key.Key.{Key}
use Rattle.sync_base.specs.Effects.{instr_of}
use Rattle.store_walks.specs.Along.{objects_in}
use Rattle.store_walks.specs.Walk.{from, IsAt, smaller}
use Rattle.store_walks.specs.Standing.{object_found, object_at, object_first, object_step}
use Rattle.snapshot_law.specs.Build.{object_effects}
use Rattle.sync_snapshot.specs.Lists.{table_instrs}
use Rattle.sync_snapshot.specs.Parts.{Leaves, Takes}
use Rattle.sync_snapshot.proofs.Cutting.{takes_step}
use Rattle.sync_snapshot.proofs.building.put_table_objects.Goals as goal

pub loop-key-init : goal.loop-key-init
loop-key-init c =
    let s = c.args.objects.now in
    let t = c.args.table.now in
    let w = object_first s t (option_copied c.next_key-key.result) c.next_key-key.ensures in
    (w.1, subst (λ es. Leaves c.args.cutter.now c.args.cutter.now (table_instrs s t) (flat_map (λ e. map instr_of (object_effects s (t, e.0) e.1)) es)) (sym w.0) (λ rest. refl))

pub object_instrs-requires : goal.object_instrs-requires
object_instrs-requires c =
    let s = c.args.objects.now in
    let t = c.args.table.now in
    let es = objects_in t (fin.entries s.objects) in
    let here = ap (option_copied {T = Key}) c.in-Some.is in
    record { there = object_at s t c.in-Some.found.now ∙ subst (λ (x : Option Key). IsAt key_cmp x es) here c.loop-key.invariant.0 }

pub loop-key-smaller : goal.loop-key-smaller
loop-key-smaller c =
    let s = c.args.objects.now in
    let t = c.args.table.now in
    let es = objects_in t (fin.entries s.objects) in
    let here = ap (option_copied {T = Key}) c.in-Some.is in
    let next = option_copied c.next_key-key-in-Some.result in
    let step = object_step s t c.in-Some.found.now next (subst (λ (x : Option Key). IsAt key_cmp x es) here c.loop-key.invariant.0) c.next_key-key-in-Some.ensures in
    subst (λ (x : Option Key). length (from key_cmp next es) < length (from key_cmp x es)) (sym here) (smaller key_cmp _ _ _ step)

pub loop-key-preserved : goal.loop-key-preserved
loop-key-preserved c =
    let s = c.args.objects.now in
    let t = c.args.table.now in
    let k = c.in-Some.found.now in
    let es = objects_in t (fin.entries s.objects) in
    let here = ap (option_copied {T = Key}) c.in-Some.is in
    let next = option_copied c.next_key-key-in-Some.result in
    let step = object_step s t k next (subst (λ (x : Option Key). IsAt key_cmp x es) here c.loop-key.invariant.0) c.next_key-key-in-Some.ensures in
    let made = c.in_ok-made.ensures.made ∙ ap (λ x. option_map_or (λ cells. map instr_of (object_effects s (t, k) cells)) x []) (object_found s t k ∙ step.there) in (
      step.at,
      takes_step key_cmp (λ e. map instr_of (object_effects s (t, e.0) e.1)) c.args.cutter.now c.loop-key.cutter c.push_all.new.self (table_instrs s t) k next es step
          (subst (λ (x : Option Key). Leaves c.args.cutter.now c.loop-key.cutter (table_instrs s t) (flat_map (λ e. map instr_of (object_effects s (t, e.0) e.1)) (from key_cmp x es))) here c.loop-key.invariant.1)
          (subst (λ is. Takes c.loop-key.cutter c.push_all.new.self is) made c.in_ok-push_all.ensures),
    )
