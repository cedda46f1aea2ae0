use Rattle.std.proofs.Common.{◌+◌, drop, sym, ◌∙◌}
use Rattle.sync_client.proofs.States.{blank_grows, blank_refused, grown_on}
use Rattle.sync_client.proofs.replica.Replica.admit_state.Goals as goal

pub returns-then-not-is_blank : goal.returns-then-not-is_blank
returns-then-not-is_blank c = λ before k. blank_refused before c.args.self.now k c.args.records.now c.args.place c.requires.there (sym (c.is_blank.ensures k.past k.count) ∙ c.if-not-is_blank.true) c.requires.of_state

pub returns : goal.returns
returns c = λ before k.
    grown_on before c.args.self.now c.admit_parts.new.self k (drop c.args.place c.args.records.now) (λ n. drop (c.args.place + n) c.args.records.now) c.args.place c.admit_parts.result
    (c.admit_parts.ensures k.past (blank_grows before c.args.self.now k (sym (c.is_blank.ensures k.past k.count) ∙ c.if-not-is_blank.false)))
