use Rattle.std.proofs.Common.{ap, ◌∙◌}
use Rattle.sync_top.specs.declared.progress.Progress.{Progress}
use Rattle.sync_top.proofs.Whole.{any_ok, are_moves, few_parts, whole_goes, whole_summary}
use Rattle.sync_top.proofs.generated.generated.Goals as goal

pub play_all-requires-clause-few : goal.play_all-requires-clause-few
play_all-requires-clause-few c = few_parts c.deref.result.now c.args.count (c.deref.ensures.value ∙ c.in_ok-parts.ensures) c.requires.turns

pub play_all-requires-clause-moves : goal.play_all-requires-clause-moves
play_all-requires-clause-moves c = are_moves c.deref.result.now c.args.count (c.deref.ensures.value ∙ c.in_ok-parts.ensures)

pub returns-clause-summary : goal.returns-clause-summary
returns-clause-summary c =
    let counts = c.play_all.new.self.counts in
    let goes = whole_goes c.args.seed c.args.count c.new-progress.result.draws c.deref.result.now counts c.play_all.new.world (c.deref.ensures.value ∙ c.in_ok-parts.ensures) (ap (λ (p : Progress). p.draws) c.new-progress.ensures) c.in_ok-play_all.ensures in
    whole_summary c.args.seed c.args.count counts c.play_all.new.world c.summary_of.result goes c.summary_of.ensures

pub returns-clause-world : goal.returns-clause-world
returns-clause-world c =
    let goes = whole_goes c.args.seed c.args.count c.new-progress.result.draws c.deref.result.now c.play_all.new.self.counts c.play_all.new.world (c.deref.ensures.value ∙ c.in_ok-parts.ensures) (ap (λ (p : Progress). p.draws) c.new-progress.ensures) c.in_ok-play_all.ensures in
    any_ok c.summary_of.result goes.holds
