use Rattle.std.proofs.Common.{List, ℕ, ap, arith, sym, subst, ◌∙◌}
use Rattle.sync_gen.specs.Edits.{edit_of}
use Rattle.sync_model.specs.Worlds.{empty_world}
use Rattle.sync_top.specs.declared.counts.Counts.{Counts}
use Rattle.sync_top.specs.Counting.{Goes}
use Rattle.gen_law.specs.Generated.{objects_of, world_by}
use Rattle.sync_top.proofs.Plays.{edit_plays}
use Rattle.sync_top.proofs.Steps.{on_ok}
use Rattle.sync_top.proofs.progress.Progress.edit.Goals as goal

pub returns : goal.returns
returns c = λ es small goes.
    let w = world_by empty_world es in
    let drawn = c.in_ok-edit.ensures in
    let name = c.client_name-client in
    let before = subst (λ (k : Counts). Goes es k c.args.world.now) (sym drawn.counts) goes in
    on_ok c.step.result (c.step.ensures es (omega arith) before)
    (λ after. record {
      goes = edit_plays es c.args.client c.args.ms c.args.self.now.draws name.result c.in_ok-edit.edit c.in_ok-edits.edits c.step.new.self c.step.new.world name.ensures c.in_ok-edits.ensures (drawn.edit w goes.holds) after;
      draws = drawn.draws w goes.holds ∙ ap (λ (n : List ℕ). (edit_of (objects_of w n) c.args.self.now.draws).1) name.ensures;
    })
