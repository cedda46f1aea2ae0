use Rattle.std.proofs.Common.{[], ◌∷◌, ◌++◌, ap, ◌∙◌}
use Rattle.list_lane.specs.Flat.{joined}
use Rattle.list_lane.proofs.Turns.{ok_then}
use Rattle.list_lane.proofs.Joins.{joined_one}
use Rattle.list_lane.proofs.bursts.push_new.Goals as goal

pub returns-clause-ok : goal.returns-clause-ok
returns-clause-ok c =
    ok_then c.push_burst.result (λ e. ap joined e ∙ joined_one c.args.bursts.now.items c.push.new.self c.args.slot (c.in_ok-push.ensures.ok ∙ ap (λ l. l ++ c.args.slot ∷ []) c.new-burst.ensures)) c.push_burst.ensures.ok
