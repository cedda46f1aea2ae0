use Rattle.std.proofs.Common.{◌≡◌, Option, Some, None, IfSome, refl, ap, ◌∙◌, subst}
use Rattle.list_lane.specs.Lanes.{Fits}
use Rattle.slot_law.specs.Lanes.{told_by}
use Rattle.long_sets.specs.Lists.{ToldSlot}
use Rattle.long_sets.proofs.Telling.{none_goes, one_goes}
use Rattle.long_sets.proofs.lane.cross_one.Goals as goal

if_so : {A : Type 0} (P Q : A → Type 0) (r : Option A) → ((x : A) → P x → Q x) → IfSome r P → IfSome r Q
if_so P Q None f h = tt
if_so P Q (Some x) f h = f x h

pub returns-in_default : goal.returns-in_default
returns-in_default c = none_goes c.args.cell.now c.args.stamp c.first.result c.args.slot.now c.in_ok-op.field-0 c.args.lane.now c.in_ok-op.ensures.told c.in_default.is

pub returns : goal.returns
returns c =
    let cell = c.args.cell.now in
    let a = c.args.lane.now in
    let o = c.in_ok-op.field-0 in
    let op = c.in-Some.op in
    let rest = c.in-Ok.rest in
    let x = c.args.slot.now in
    let told = subst (λ n. ToldSlot cell n x o) c.first.ensures.is c.in_ok-op.ensures.told in
    let stamp = subst (λ s. IfSome s (λ a. a.stamp ≡ c.args.stamp)) c.in-Some.is c.in_ok-op.ensures.stamp in
    let within = subst (λ n. Fits n (Some op)) c.first.ensures.is (subst (Fits c.first.result) c.in-Some.is c.in_ok-op.ensures.fits) in
    if_so _ _ c.told.result (λ z h. one_goes cell c.args.stamp x o op a c.cross.new.self rest z told c.in-Some.is stamp c.first.ensures.chains (c.if-not-has_room.ensures refl) within c.in-Ok.ensures.lane c.in-Ok.ensures.left c.in-Ok.ensures.is_left
    (λ v s. h cell v s ∙ ap (λ n. told_by cell v n rest) c.last-end.ensures)) c.told.ensures
