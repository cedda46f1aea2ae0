use Rattle.std.proofs.Common.{◌-◌, Some, sym, ◌∙◌, ap, subst, arith}
use Rattle.std.specs.Option.{option_map}
use Rattle.sync_world.specs.Messages.{Reads}
use Rattle.sync_words.specs.Messages.{message_read}
use Rattle.sync_world.proofs.Spelled.{none_at, numbered_at, reads_it, spelled_at}
use Rattle.sync_world.proofs.messages.find.Goals as goal

pub returns-in-None : goal.returns-in-None
returns-in-None c ms all =
    numbered_at ms c.args.number (omega (arith, c.if-number-eq0.false)) ∙ none_at ms c.args.made.now (c.args.number - 1) all (sym c.get.ensures ∙ ap (option_map (λ s. s.now)) c.in-None.is)

pub returns-in-Some : goal.returns-in-Some
returns-in-Some c ms all =
    let bytes = c.in-Some.bytes.now in
    let s = spelled_at ms c.args.made.now (c.args.number - 1) bytes all (sym c.get.ensures ∙ ap (option_map (λ s. s.now)) c.in-Some.is) in
    subst (λ o. Reads o c.read.result) (reads_it s.0 bytes s.2 ∙ sym s.1 ∙ sym (numbered_at ms c.args.number (omega (arith, c.if-number-eq0.false)))) c.read.ensures
