-- The outcomes of the code as words of the model, and as text.
use Rattle.std.specs.Prelude.{ℕ, List, Option, Some, None, codes}
use Rattle.std.specs.Option.{option_map}
use Rattle.sync_model.specs.Worlds.{Words}
use Rattle.sync_exchange.specs.Seen.{message_seen}
use Rattle.sync_client.specs.Refusals.{refusal_seen}
use Rattle.sync_words.specs.Words.{words_text}
use Rattle.sync_words.specs.declared.outcome.Outcome.{Outcome}
use Rattle.sync_words.specs.declared.outcome.Outcome.TheVariants as outcomes

-- what the model says of an event; of a client's birth, and of a refusal that the model doesn't know, it says nothing
abbrev pub outcome_seen : Outcome → Option Words
outcome_seen outcomes.Born = None
outcome_seen (outcomes.Joined name) = Some (Words.Joined name)
outcome_seen (outcomes.Made number) = Some (Words.Made number)
outcome_seen (outcomes.Messaged place) = Some (Words.Messaged place)
outcome_seen (outcomes.Took cursor) = Some (Words.Took cursor)
outcome_seen (outcomes.Replied place reply) = Some (Words.Replied place (message_seen reply))
outcome_seen outcomes.Opened = Some Words.Opened
outcome_seen outcomes.Armed = Some Words.Armed
outcome_seen outcomes.Stopped = Some Words.Stopped
outcome_seen outcomes.Upgraded = Some Words.Upgraded
outcome_seen outcomes.Current = Some Words.Current
outcome_seen outcomes.Subscribed = Some Words.SubscribedTo
outcome_seen (outcomes.Declined why) = option_map Words.Declined (refusal_seen why)
outcome_seen outcomes.NameTaken = Some Words.NameTaken
outcome_seen outcomes.UuidTaken = Some Words.UuidTaken
outcome_seen outcomes.NoNode = Some Words.NoNode
outcome_seen outcomes.NoMessage = Some Words.NoMessage
outcome_seen outcomes.BadMessage = Some Words.BadMessage
outcome_seen outcomes.OwnIdent = Some Words.OwnIdent

-- its text
abbrev pub outcome_text : Outcome → Option (List ℕ)
outcome_text outcomes.Born = Some (codes "born")
outcome_text outcome = option_map words_text (outcome_seen outcome)
