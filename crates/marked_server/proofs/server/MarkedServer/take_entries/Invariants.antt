use Rattle.std.proofs.Common.{◌≡◌}
use Rattle.marked_server.proofs.server.MarkedServer.take_entries.Given as goal

-- the marks alone change
abbrev pub invariant-loop-version : goal.invariant-loop-version
invariant-loop-version g l = record { server : l.self.server ≡ l.fn.self.server; life : l.self.life ≡ l.fn.self.life }
