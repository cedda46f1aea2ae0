use Rattle.std.proofs.Common.{Some, sym, ap, ◌∙◌, subst}
use Rattle.list_places.specs.Moves.{moved}
use Rattle.slot_law.specs.Lanes.{told_by}
use Rattle.long_sets.specs.Lists.{Suits}
use Rattle.long_sets.proofs.Telling.{told_is}
use Rattle.long_sets.proofs.lane.told.Goals as goal

pub returns : goal.returns
returns c = λ d v s.
    let a = c.in-Some.op in
    let suits = subst (λ x. Suits d v x (Some a)) c.in-Some-slot.is (subst (Suits d v c.args.slot.now) c.in-Some.is s) in
    told_is d v c.in-Some-slot.instr c.put_action.new.instr a c.args.length suits (c.put_action.ensures ∙ (λ k. moved (c.action_of.ensures k) (c.in-Ok.ensures.equal k)))
    ∙ ap (told_by d v c.args.length) (sym c.in-Some.is)
