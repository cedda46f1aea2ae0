use Rattle.std.proofs.Common.{◌≡◌, ◌+◌, ◌<◌, ◌≤◌, ◌∷◌, List, ℕ, [], drop, length, refl, ap, sym, subst, ◌∙◌, arith}
use Rattle.sync_journal.proofs.Gates.{left_at, none_left}
use Rattle.sync_client.specs.Fronts.{FindsResumed}
use Rattle.sync_client.proofs.Fronts.{finds_none, finds_some, front_on, front_refused, front_unread, none_more_left, resumed_past, resumed_within, some_more_left}
use Rattle.sync_client.proofs.replica.Replica.admit_front.Goals as goal
use Rattle.sync_client.proofs.replica.Replica.admit_front.Goals.{then-not-is_blank-via-then-not-is_blank, then-not-is_blank-via-else-not-is_blank+then-waiting-number, then-not-is_blank-via-else-not-is_blank+else-waiting-number+then-place-len}

pub returns-in-Ok-None : goal.returns-in-Ok-None
returns-in-Ok-None c = λ before k.
    let left = left_at c.args.records.now c.args.place c.at.result.now c.requires.there c.at.ensures in
    front_unread before c.args.records.now c.args.place c.at.result.now left (c.requires.of_front c.at.result.now (drop (c.args.place + 1) c.args.records.now) left) (finds_none c.at.result.now c.in-Ok-None.field-0 c.in-Ok-None.field-0-is c.in-Ok-None.ensures)

pub returns-then-not-is_blank : goal.returns-then-not-is_blank
returns-then-not-is_blank c = λ before k.
    let counts = c.in-Ok-Some.counts in
    let there = c.requires.there in
    let left = left_at c.args.records.now c.args.place c.at.result.now there c.at.ensures in
    front_refused before c.args.self.now k counts.0 counts.1 c.args.records.now c.args.place c.at.result.now left (finds_some c.at.result.now c.in-Ok-Some.field-0 counts c.in-Ok-Some.field-0-is c.in-Ok-Some.ensures)
    (λ blank small some. elim c.then-not-is_blank.branch [
      | then-not-is_blank-via-then-not-is_blank w ↦ (let e = sym blank ∙ sym (c.is_blank.ensures k.past k.count) ∙ w.if-not-is_blank.true in cc)
      | then-not-is_blank-via-else-not-is_blank+then-waiting-number w ↦ (let t = w.if-waiting-number.true in absurd (omega (arith, small, t)))
      | then-not-is_blank-via-else-not-is_blank+else-waiting-number+then-place-len w ↦ none_more_left c.args.records.now (c.args.place + 1) some (let t = w.if-place-len.true in let e = w.len.ensures in omega (arith, t, e))
    ])

pub returns : goal.returns
returns c = λ before k.
    let counts = c.in-Ok-Some.counts in
    let there = c.requires.there in
    let left = left_at c.args.records.now c.args.place c.at.result.now there c.at.ensures in
    let blank = sym (c.is_blank.ensures k.past k.count) ∙ c.if-not-is_blank.false in
    let is = finds_some c.at.result.now c.in-Ok-Some.field-0 counts c.in-Ok-Some.field-0-is c.in-Ok-Some.ensures in
    let number = is.number in
    let small = c.if-waiting-number.false in
    front_on before c.args.self.now c.admit_waiting.new.self k counts.0 counts.1 c.args.records.now c.args.place c.at.result.now c.admit_waiting.result blank
    is (omega (arith, number, small)) left
    (some_more_left c.args.records.now (c.args.place + 1) (let t = c.if-place-len.false in let e = c.len.ensures in omega (arith, there, t, e)))
    (c.admit_waiting.ensures (resumed_past k.past counts.0 counts.1) (resumed_within before c.args.self.now k counts.0 counts.1 blank))
