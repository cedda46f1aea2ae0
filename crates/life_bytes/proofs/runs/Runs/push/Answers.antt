use Rattle.std.proofs.Common.{length, leb, replicate, ap, sym, ◌∙◌, ◌++◌, arith}
use Rattle.std.proofs.lemmas.List.{append-nil}
use Rattle.life_bytes.specs.Runs.{Lives, lives_of, pushed, most_runs}
use Rattle.life_bytes.proofs.RunLaws.{pushed_lives, holds_more, no_number_more, no_run_more}
use Rattle.life_bytes.proofs.runs.Runs.push.Goals as goal

pub returns-then-count-eq0-clause-ok : goal.returns-then-count-eq0-clause-ok
returns-then-count-eq0-clause-ok c = sym (append-nil c.args.self.now) ∙ ap (λ n. c.args.self.now ++ replicate n c.args.life) (sym c.if-count-eq0.true)

pub returns-then-left-count-clause-full : goal.returns-then-left-count-clause-full
returns-then-left-count-clause-full c = λ e are.
    no_number_more c.self.inside.runs.items c.args.life c.args.count c.args.self.now c.self.view_is (omega (arith, c.self.invariant.counted, c.if-left-count.true)) are

pub returns-then-not-has_room-clause-full : goal.returns-then-not-has_room-clause-full
returns-then-not-has_room-clause-full c = λ e are.
    let full = ap (λ runs. leb (length (pushed c.args.life c.args.count runs)) most_runs) (sym c.as_slice.ensures.value) ∙ c.has_room.ensures c.args.count ∙ c.if-not-has_room.true in
    no_run_more c.self.inside.runs.items c.args.life c.args.count c.args.self.now (omega (arith, c.if-count-eq0.false)) c.self.view_is c.self.invariant.are full are

pub invariant_of-self : goal.invariant_of-self
invariant_of-self c =
    let few = ap (λ runs. leb (length (pushed c.args.life c.args.count runs)) most_runs) (sym c.as_slice.ensures.value) ∙ c.has_room.ensures c.args.count ∙ c.if-not-has_room.false in
    holds_more c.self.inside.runs.items c.put_lives.new.runs.items c.args.life c.args.count c.self.inside.count (omega (arith, c.if-count-eq0.false)) c.in-Ok.ensures.ok few (omega (arith, c.if-count-eq0.false, c.if-left-count.false)) c.self.invariant

pub returns-in-Ok-clause-ok : goal.returns-in-Ok-clause-ok
returns-in-Ok-clause-ok c = ap lives_of c.in-Ok.ensures.ok ∙ pushed_lives c.args.life c.args.count c.self.inside.runs.items ∙ ap (λ (xs : Lives). xs ++ replicate c.args.count c.args.life) c.self.view_is
