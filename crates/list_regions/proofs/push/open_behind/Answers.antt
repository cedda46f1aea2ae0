use Rattle.std.proofs.Common.{[], ◌∷◌, ◌++◌, sym, ap, ◌∙◌, subst, arith}
use Rattle.list_regions.specs.Kept.{at, fresh, Opened, Touches}
use Rattle.list_lane.specs.declared.op.Op.{Op}
use Rattle.list_regions.proofs.Meeting.{more_of}
use Rattle.list_regions.proofs.Ending.{end_low, opened_tail}
use Rattle.list_regions.proofs.push.open_behind.Goals as goal

pub push_fresh-requires : goal.push_fresh-requires
push_fresh-requires c =
    let low = end_low c.args.items.now c.args.op c.args.number c.requires.ends in
    let place = c.requires.found.place in
    let size = c.elements_of.ensures in
    omega (arith, low, place, size)

pub returns-clause-ok : goal.returns-clause-ok
returns-clause-ok c =
    let qs = c.args.items.now in
    let b = c.args.op in
    let more = more_of c.args.offset c.args.place c.else-offset-eq0.either in
    let new = c.in_ok-push_fresh.ensures.ok ∙ ap (λ n. qs ++ fresh c.args.offset n ∷ []) c.elements_of.ensures in
    let r = opened_tail qs b c.args.place c.args.offset c.requires.found c.requires.last more in (
      subst (Opened qs b) (sym new) r.0,
      subst (λ (o : Op). Touches c.push_fresh.new.items b c.args.place o) (sym c.placed.ensures) (subst (λ zs. Touches zs b c.args.place (at b 0)) (sym new) r.1),
    )
