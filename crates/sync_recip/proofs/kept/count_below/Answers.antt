use Rattle.std.proofs.Common.{◌<◌, ◌≤◌, ltb, ltb-true, ltb-false, length-take, length-drop, sym, subst, rules, arith}
use Rattle.std.proofs.lemmas.List.{get_or-take, get_or-drop}
use Rattle.std.proofs.lemmas.List.Sorted.{IsPartitionPoint-from_clause, IsPartitionedBy-ltb}
use Rattle.sync_recip.proofs.Versions.{rising_far}
use Rattle.sync_recip.proofs.kept.count_below.Goals as goal

pub returns-clause-below : goal.returns-clause-below
returns-clause-below c =
    let xs = c.args.kept.now in
    let n = c.partition_point.result in
    let parted = IsPartitionedBy-ltb (λ k. k.version) xs c.args.base (rising_far xs c.requires) in
    let point = IsPartitionPoint-from_clause (λ k. ltb k.version c.args.base) _ _ c.partition_point.ensures.partitioned parted (λ a r q k. search rules) in
    λ k d h.
    let before : k < n = omega (arith, h, length-take n xs) in
    subst (λ x. x.version < c.args.base) (sym (get_or-take n xs k d before)) (ltb-true _ _ (point.0 k d (omega arith) before))

pub returns-clause-above : goal.returns-clause-above
returns-clause-above c =
    let xs = c.args.kept.now in
    let n = c.partition_point.result in
    let parted = IsPartitionedBy-ltb (λ k. k.version) xs c.args.base (rising_far xs c.requires) in
    let point = IsPartitionPoint-from_clause (λ k. ltb k.version c.args.base) _ _ c.partition_point.ensures.partitioned parted (λ a r q k. search rules) in
    λ k d h. subst (λ x. c.args.base ≤ x.version) (sym (get_or-drop n xs k d)) (ltb-false _ _ (point.1 _ d (omega arith) (omega (arith, h, length-drop n xs))))
