use Rattle.std.proofs.Common.{◌≡◌, ◌++◌, map}
use Rattle.sync_base.specs.Effects.{Include, path_of}
use Rattle.sync_snapshot.specs.Lists.{edit_instrs}
use Rattle.sync_snapshot.proofs.cells.put_members.Given as goal

-- the insertions so far, and those of the values that are left
abbrev pub invariant-loop-value : goal.invariant-loop-value
invariant-loop-value l =
    l.list.items ++ edit_instrs (path_of l.name) (map (λ v. Include v) l.value-iterator) ≡ l.fn.list.items ++ edit_instrs (path_of l.name) (map (λ v. Include v) l.values.keys)
