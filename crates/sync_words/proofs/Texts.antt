-- The text of an outcome that the model has.
use Rattle.std.proofs.Common.{◌≡◌, Some, ap}
use Rattle.std.specs.Option.{option_map}
use Rattle.sync_model.specs.Worlds.{Words}
use Rattle.sync_words.specs.Outcomes.{outcome_seen, outcome_text}
use Rattle.sync_words.specs.Words.{words_text}
use Rattle.sync_words.specs.declared.outcome.Outcome.{Outcome}
use Rattle.sync_words.specs.declared.outcome.Outcome.TheVariants as outcomes

pub text_seen : (o : Outcome) (words : Words) → outcome_seen o ≡ Some words → outcome_text o ≡ Some (words_text words)
text_seen outcomes.Born words is = absurd (cc)
text_seen (outcomes.Joined name) words is = ap (option_map words_text) is
text_seen (outcomes.Made number) words is = ap (option_map words_text) is
text_seen (outcomes.Messaged place) words is = ap (option_map words_text) is
text_seen (outcomes.Took cursor) words is = ap (option_map words_text) is
text_seen (outcomes.Replied place reply) words is = ap (option_map words_text) is
text_seen outcomes.Opened words is = ap (option_map words_text) is
text_seen outcomes.Armed words is = ap (option_map words_text) is
text_seen outcomes.Stopped words is = ap (option_map words_text) is
text_seen outcomes.Upgraded words is = ap (option_map words_text) is
text_seen outcomes.Current words is = ap (option_map words_text) is
text_seen outcomes.Subscribed words is = ap (option_map words_text) is
text_seen (outcomes.Declined why) words is = ap (option_map words_text) is
text_seen outcomes.NameTaken words is = ap (option_map words_text) is
text_seen outcomes.UuidTaken words is = ap (option_map words_text) is
text_seen outcomes.NoNode words is = ap (option_map words_text) is
text_seen outcomes.NoMessage words is = ap (option_map words_text) is
text_seen outcomes.BadMessage words is = ap (option_map words_text) is
text_seen outcomes.OwnIdent words is = ap (option_map words_text) is
