use Rattle.std.proofs.Common.{◌≡◌, ◌-◌, ◌≤◌, List, ℕ, None}
use Rattle.sync_io.specs.Devices.{Took}
use Rattle.sync_io.specs.Input.{max_input}
use Rattle.sync_io.specs.Readers.{readings_of}
use Rattle.sync_top.specs.Runs.{Went}
use Rattle.sync_top.proofs.lines.answer_all.Given as goal

abbrev pub invariant-lines : goal.invariant-lines
invariant-lines g l = record {
  stands : (s : g.C.Command.State) → g.C.Command.holds s l.initial.command
      → (text : List ℕ) × (next : g.C.Command.State) × Took text (g.K.Sink.taken l.initial.sink) (g.K.Sink.taken l.sink)
      × Went g.C.Command.answers l.number (readings_of l.initial.reader (g.S.Source.left l.initial.source)) s text next (readings_of l.reader (g.S.Source.left l.source))
      × g.C.Command.holds next l.command;
  counted : l.number ≡ l.reader.lines;
  fresh : l.reader.refused ≡ None;
  source_faults : g.S.Source.faults l.initial.source ≤ g.S.Source.faults l.source;
  sink_faults : g.K.Sink.faults l.initial.sink ≤ g.K.Sink.faults l.sink;
}

abbrev pub decreases-lines : goal.decreases-lines
decreases-lines g l = max_input - l.number
