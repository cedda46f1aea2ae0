use Rattle.std.proofs.Common.{◌≡◌, ◌-◌, ◌≤◌}
use Rattle.sync_io.specs.Input.{max_input}
use Rattle.sync_node.specs.Readers.{IsReady, lines_ahead}
use Rattle.sync_node.proofs.lines.LinesItemReader.next.Given as goal

abbrev pub invariant-lines : goal.invariant-lines
invariant-lines g l = record {
  ready : IsReady l.self;
  ahead : lines_ahead l.initial.self (g.S.Source.left l.initial.source) ≡ lines_ahead l.self (g.S.Source.left l.source);
  counts : l.initial.self.count ≤ l.self.count;
  faults : g.S.Source.faults l.initial.source ≤ g.S.Source.faults l.source;
}

abbrev pub decreases-lines : goal.decreases-lines
decreases-lines g l = max_input - l.self.count
