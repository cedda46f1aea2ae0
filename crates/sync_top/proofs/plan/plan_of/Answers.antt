use Rattle.std.proofs.Common.{List, ◌++◌, [], ◌∷◌, ap, map, ◌∙◌}
use Rattle.gen_law.specs.declared.plan.Move.{Move}
use Rattle.gen_law.specs.declared.plan.Move.TheVariants as moves
use Rattle.gen_law.specs.Plans.{clients, plan, rounds, turns}
use Rattle.sync_top.proofs.plan.plan_of.Goals as goal

pub returns : goal.returns
unfolding plan
returns c =
    c.in_ok-add_rounds.ensures ∙ ap (λ (l : List Move). l ++ rounds 64)
    (c.in_ok-add_turns.ensures ∙ ap (λ (l : List Move). l ++ turns c.args.count)
    (c.in_ok-add_pulls.ensures ∙ ap (λ (l : List Move). l ++ map moves.Pull clients)
    (c.in_ok-add-2.ensures ∙ ap (λ (l : List Move). l ++ moves.Push 1 ∷ [])
    (c.in_ok-add.ensures ∙ ap (λ (l : List Move). l ++ moves.Found ∷ [])
    (c.in_ok-add_joins.ensures ∙ ap (λ (l : List Move). l ++ map moves.Join clients) c.new-parts.ensures.items)))))
