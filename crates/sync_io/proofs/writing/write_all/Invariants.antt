use Rattle.std.proofs.Common.{◌≤◌, ◌-◌, length, take}
use Rattle.sync_io.specs.Devices.{Took}
use Rattle.sync_io.proofs.writing.write_all.Given as goal

abbrev pub invariant-loop-done : goal.invariant-loop-done
invariant-loop-done g l = record {
  within : l.done ≤ length l.bytes;
  written : Took (take l.done l.bytes) (g.K.Sink.taken l.initial.sink) (g.K.Sink.taken l.sink);
  grows : g.K.Sink.faults l.initial.sink ≤ g.K.Sink.faults l.sink;
}

abbrev pub decreases-loop-done : goal.decreases-loop-done
decreases-loop-done g l = length l.initial.bytes - l.done
