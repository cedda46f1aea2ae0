use Rattle.std.proofs.Common.{Ok, sym, ap, ◌∙◌}
use Rattle.sync_theory.specs.Changesets.{cross_sets}
use Rattle.sync_law.specs.Instrs.{meet}
use Rattle.sync_transform.specs.Sets.{made_by}
use Rattle.sync_recip.proofs.Turns.{element}
use Rattle.sync_recip.proofs.carry.cross_one.Goals as goal

pub cross_long-requires : goal.cross_long-requires
cross_long-requires c =
    let k = element c.args.items.now c.args.place c.requires.within in
    λ same. c.requires.other k.0 k.1 (sym (same ∙ c.origin.ensures k.0 k.1))

pub returns-in-Ok-changed-clause-ok : goal.returns-in-Ok-changed-clause-ok
returns-in-Ok-changed-clause-ok c = λ k at number.
    let own = c.args.own in
    (λ i. cross_sets meet (made_by own number c.args.changes) (made_by (sym (c.origin.ensures k at) i) k.item.number (sym (c.in-Ok.ensures k at) i)))
    ∙ c.in-Ok-cross_long.ensures.ok number k.item.number
    ∙ (λ i. Ok (made_by own number c.in-Ok-cross_long.left, made_by (c.origin.ensures k at i) k.item.number c.in-Ok-cross_long.right))
    ∙ ap (λ e. Ok (made_by own number c.in-Ok-cross_long.left, e)) (sym (c.in-Ok-changed.ensures.is k at))

pub returns-in-Err-clause-stuck : goal.returns-in-Err-clause-stuck
returns-in-Err-clause-stuck c = λ k at number. record {
  right = c.in-Err.stop.right_place;
  is = (λ i. cross_sets meet (made_by c.args.own number c.args.changes) (made_by (sym (c.origin.ensures k at) i) k.item.number (sym (c.in-Ok.ensures k at) i)))
      ∙ c.in-Err.ensures.stuck number k.item.number;
}
