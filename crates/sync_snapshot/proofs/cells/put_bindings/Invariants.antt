use Rattle.std.proofs.Common.{◌≡◌, ◌++◌, map, Some}
use Rattle.sync_base.specs.Effects.{Bind, path_of}
use Rattle.sync_snapshot.specs.Lists.{edit_instrs}
use Rattle.sync_snapshot.proofs.cells.put_bindings.Given as goal

-- the bindings so far, and those that are left
abbrev pub invariant-loop-at : goal.invariant-loop-at
invariant-loop-at l =
    l.list.items ++ edit_instrs (path_of l.name) (map (λ e. Bind e.0 (Some e.1)) l.at-iterator) ≡ l.fn.list.items ++ edit_instrs (path_of l.name) (map (λ e. Bind e.0 (Some e.1)) l.bindings.entries)
