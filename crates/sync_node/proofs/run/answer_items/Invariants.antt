use Rattle.std.proofs.Common.{◌≡◌, ◌-◌, ◌≤◌, List}
use Rattle.sync_io.specs.Input.{max_input}
use Rattle.sync_node.specs.Runs.{noting_runs}
use Rattle.sync_node.proofs.Waiting.{SoFar}
use Rattle.sync_node.proofs.run.answer_items.Given as goal

abbrev pub invariant-items : goal.invariant-items
invariant-items g l = record {
  so_far : (notes : g.C.Command.Notes) (records : List g.C.Command.Record) → g.C.Command.Stands l.initial.command notes records → g.C.Command.Holds l.initial.command records
      → SoFar g.C.Command.step g.C.Command.noted (g.C.Command.Stands l.command) (g.C.Command.Holds l.command) records
      (noting_runs g.C.Command.step g.C.Command.noted notes records (g.I.ItemReader.ahead l.initial.items (g.S.Source.left l.initial.source))) (g.I.ItemReader.ahead l.items (g.S.Source.left l.source)) l.answers.items
      (g.K.Sink.taken l.initial.sink) (g.K.Sink.taken l.sink);
  ready : g.I.ItemReader.ready l.items;
  source_faults : g.S.Source.faults l.initial.source ≤ g.S.Source.faults l.source;
  sink_faults : g.K.Sink.faults l.initial.sink ≤ g.K.Sink.faults l.sink;
  disk_faults : g.D.Disk.faults (g.C.Command.disk_below l.initial.command) ≤ g.D.Disk.faults (g.C.Command.disk_below l.command);
  loan : (g.D.Disk.origin (g.C.Command.disk_below l.command)).listed ≡ (g.D.Disk.origin (g.C.Command.disk_below l.initial.command)).listed;
}

abbrev pub decreases-items : goal.decreases-items
decreases-items g l = max_input - g.I.ItemReader.count l.items
