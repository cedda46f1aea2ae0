use Rattle.std.proofs.Common.{◌≡◌, ◌++◌, map, drop, length}
use Rattle.marked_server.specs.Marked.{marks_of}
use Rattle.marked_server.proofs.server.MarkedServer.numbers_of.Given as goal

-- those that are left stand behind those so far
abbrev pub invariant-loop-life : goal.invariant-loop-life
invariant-loop-life g l = record {
  so_far : l.numbers.items ++ map (marks_of l.self).reached (drop l.life-index l.lives) ≡ map (marks_of l.self).reached l.lives;
  count : length l.numbers.items ≡ l.life-index;
}
