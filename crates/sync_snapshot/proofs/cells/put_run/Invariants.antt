use Rattle.std.proofs.Common.{◌≡◌, ◌+◌, ◌++◌, drop}
use Rattle.sync_base.specs.Effects.{path_of}
use Rattle.snapshot_law.specs.Build.{insertions}
use Rattle.sync_snapshot.specs.Lists.{edit_instrs}
use Rattle.sync_snapshot.proofs.cells.put_run.Given as goal

-- the insertions so far, and those of the elements that are left
abbrev pub invariant-loop-i : goal.invariant-loop-i
invariant-loop-i l =
    l.list.items ++ edit_instrs (path_of l.name) (insertions (l.first + l.i) (drop l.i l.run)) ≡ l.fn.list.items ++ edit_instrs (path_of l.name) (insertions l.first l.run)
