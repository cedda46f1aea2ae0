use Rattle.std.proofs.Common.{◌≡◌, Bool, List, ℕ, false, refl, subst, true}
use Rattle.sync_host.specs.Hosts.{node_of}
use Rattle.sync_host.specs.Nodes.{Answered}
use Rattle.sync_host.specs.Verbs.{is_new}
use Rattle.sync_host.specs.declared.verb.Verb.{Verb}
use Rattle.sync_host.proofs.host.Host.reply_to.Goals as goal

pub returns-in-Some-clause-answered : goal.returns-in-Some-clause-answered
returns-in-Some-clause-answered c = λ verb body asks.
    let found = c.in-Some.ensures.found verb body asks in
    subst (λ (v : Verb). Answered v body (node_of c.args.self.now) c.answer.result c.answer.new.self) found.0
    (subst (λ (b : List ℕ). Answered c.in-Some.verb b (node_of c.args.self.now) c.answer.result c.answer.new.self) found.1 c.answer.ensures)

where_not : {P : Type 0} (b : Bool) → (b ≡ true → ⊥) → (b ≡ false → P) → P
where_not true never then = absurd (never refl)
where_not false never then = then refl

pub returns-in-Some-clause-no_request : goal.returns-in-Some-clause-no_request
returns-in-Some-clause-no_request c = λ nothing. where_not (is_new c.in-Some.verb) (nothing c.in-Some.verb c.in-Some.body.now c.in-Some.ensures.asks) c.answer.ensures.no_request

pub returns-in-None-clause-answered : goal.returns-in-None-clause-answered
returns-in-None-clause-answered c = λ verb body asks. absurd (c.in-None.ensures.none verb body asks)
