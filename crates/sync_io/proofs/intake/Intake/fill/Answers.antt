use Rattle.std.proofs.Common.{◌+◌, ◌≤◌, ◌∙◌, ap, take, length, rules}
use Rattle.sync_io.specs.Input.{input_of, max_input}
use Rattle.sync_io.proofs.Inputs.{gave_step}
use Rattle.sync_io.proofs.intake.Intake.fill.Goals as goal

pub returns-in-Ok-keep-clause-same : goal.returns-in-Ok-keep-clause-same
returns-in-Ok-keep-clause-same g c =
    let piece = take c.in-Ok.count c.read.new.into in
    let kept = rw c.in-Ok-keep.is at c.keep.ensures.ok in
    let few : c.args.self.now.taken + length piece ≤ max_input = search rules in
    ap (λ t. input_of t.taken t.held (g.S.Source.left c.read.new.self)) kept ∙ gave_step c.args.self.now.taken c.args.self.now.held piece _ _ few c.in-Ok.ensures.bytes
