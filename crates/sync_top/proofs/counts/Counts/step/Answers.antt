use Rattle.sync_model.specs.Worlds.{empty_world, happens}
use Rattle.sync_exchange.specs.Profile.{the_profile}
use Rattle.sync_world.specs.Events.{event_seen}
use Rattle.sync_words.specs.Outcomes.{outcome_seen}
use Rattle.gen_law.specs.Generated.{world_by}
use Rattle.sync_top.proofs.Playing.{stepped}
use Rattle.sync_top.proofs.Steps.{of_seen}
use Rattle.sync_top.proofs.counts.Counts.step.Goals as goal

pub returns : goal.returns
returns c = λ es small goes.
    let said = c.in_ok-outcome.ensures (world_by empty_world es) goes.holds in
    let came = happens the_profile (world_by empty_world es) (event_seen c.args.event) in
    stepped es (event_seen c.args.event) c.args.self.now c.count.new.self c.args.world.now c.step.new.self small goes said.1
    (of_seen _ (outcome_seen c.in_ok-outcome.outcome) came.words said.0 c.count.ensures)
