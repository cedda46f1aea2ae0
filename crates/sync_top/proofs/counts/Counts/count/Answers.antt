use Rattle.std.proofs.Common.{◌≡◌, ap, ◌+◌, ◌∙◌, Option, Some, None}
use Rattle.std.specs.Prelude.{IfSome}
use Rattle.sync_model.specs.Worlds.{Words}
use Rattle.sync_words.specs.Outcomes.{outcome_seen}
use Rattle.sync_top.specs.Counting.{HasRoom, counted}
use Rattle.gen_law.specs.Refusals.{is_refused}
use Rattle.sync_top.specs.Telling.{is_made, is_message, one_if}
use Rattle.sync_top.specs.declared.counts.Counts.{Counts}
use Rattle.sync_top.proofs.Steps.{counts_are}
use Rattle.sync_top.proofs.counts.Counts.count.Goals as goal

pub returns : goal.returns
returns c = on (outcome_seen c.args.outcome.now) c.is_message.ensures c.is_made.ensures c.is_refused.ensures
  where
    old : Counts
    old = c.args.self.now

    new : Counts
    new = record { messages = c.plus_if-self.result; made = c.plus_if-self-2.result; refused = c.plus_if-self-3.result }

    on : (o : Option Words) → IfSome o (λ w. c.is_message.result ≡ is_message w) → IfSome o (λ w. c.is_made.result ≡ is_made w) → IfSome o (λ w. c.is_refused.result ≡ is_refused w) → IfSome o (λ w. HasRoom old → new ≡ counted old w)
    on None a b d = tt
    on (Some w) a b d = λ room.
        counts_are old new w (c.plus_if-self.ensures room.messages ∙ ap (λ x. old.messages + one_if x) a)
        (c.plus_if-self-2.ensures room.made ∙ ap (λ x. old.made + one_if x) b)
        (c.plus_if-self-3.ensures room.refused ∙ ap (λ x. old.refused + one_if x) d)
