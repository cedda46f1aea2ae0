use Rattle.std.proofs.Common.{◌≡◌, Some, None, Ok, sym, ◌∙◌, ap, refl}
use Rattle.sync_law.specs.Instrs.{as_pair, meet}
use Rattle.sync_transform.proofs.Turns.{row_turn}
use Rattle.sync_transform.proofs.row.meet_apart.Goals as goal

pub returns-in-Some-clause-ok : goal.returns-in-Some-clause-ok
returns-in-Some-clause-ok c =
    let own = c.replace-own.ensures.value in
    let told = ap as_pair (sym c.meet.ensures ∙ c.in-Ok.is) in
    let kept = c.in-Some.is in
    let placed = c.put.ensures in
    let m : meet c.args.left.now c.lift-right.result c.args.left_later ≡ Ok (Some c.put.new.place, c.in-Ok.field-0.right) = cc in
    row_turn c.args.rights.now c.lift-right.new.items c.lay-next.new.items c.args.written c.args.read c.lay-next.result c.lift-right.result c.in-Ok.field-0.right c.lift-right.ensures.after c.lift-right.ensures.before c.lay-next.ensures.before c.lay-next.ensures.after c.requires.order
    (λ a b. meet a b c.args.left_later) _ c.args.left.now (Some c.put.new.place) refl m

pub returns-in-None-clause-ok : goal.returns-in-None-clause-ok
returns-in-None-clause-ok c =
    let own = c.replace-own.ensures.value in
    let told = ap as_pair (sym c.meet.ensures ∙ c.in-Ok.is) in
    let kept = c.in-None.is in
    let m : meet c.args.left.now c.lift-right.result c.args.left_later ≡ Ok (None, c.in-Ok.field-0.right) = cc in
    row_turn c.args.rights.now c.lift-right.new.items c.lay-next.new.items c.args.written c.args.read c.lay-next.result c.lift-right.result c.in-Ok.field-0.right c.lift-right.ensures.after c.lift-right.ensures.before c.lay-next.ensures.before c.lay-next.ensures.after c.requires.order
    (λ a b. meet a b c.args.left_later) _ c.args.left.now None refl m
