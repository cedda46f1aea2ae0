use Rattle.std.proofs.Common.{◌≡◌, ◌+◌, ◌-◌, ◌≤◌, length}
use Rattle.sync_io.specs.Input.{input_of, max_input}
use Rattle.sync_io.proofs.frame_reader.find_frame.Given as goal

abbrev pub invariant-pieces : goal.invariant-pieces
invariant-pieces g l = record {
  same : input_of l.intake.taken l.intake.held (g.S.Source.left l.source) ≡ input_of l.initial.intake.taken l.initial.intake.held (g.S.Source.left l.initial.source);
  counted : length l.intake.held + l.initial.intake.taken ≡ length l.initial.intake.held + l.intake.taken;
  grows : g.S.Source.faults l.initial.source ≤ g.S.Source.faults l.source;
}

abbrev pub decreases-pieces : goal.decreases-pieces
decreases-pieces g l = max_input - l.intake.taken
