use Rattle.std.proofs.Common.{◌<◌, ◌+◌, [], ◌∷◌, ◌++◌, Some, length, sym, ap, ◌∙◌, subst, arith}
use Rattle.sync_base.specs.Rules.{top}
use Rattle.list_places.specs.Places.{Within}
use Rattle.list_lane.specs.Lanes.{LaneOf, length_at_end}
use Rattle.list_lane.proofs.Rooms.{last_below}
use Rattle.list_regions.specs.Kept.{IsRegions}
use Rattle.list_regions.proofs.Sets.{on_err}
use Rattle.list_regions.proofs.Keeping.{all, ends, opened_is, opened_keeps, pushed_is, pushed_keeps}
use Rattle.list_regions.proofs.regions.Regions.push.Goals as goal

pub push_to-requires : goal.push_to-requires
push_to-requires c =
    let a = c.self.inside in
    let b = c.args.op in
    let within = subst (λ (v : LaneOf). Within b.does b.place (length_at_end v.first v.slots)) (sym c.self.view_is) c.requires.within in
    let room = subst (λ (v : LaneOf). v.first + length v.slots + 1 < top) (sym c.self.view_is) c.requires.room in
    ends a.popped a.count a.first a.last a.items b c.in_ok-number.number c.self.invariant within room c.in_ok-number.ensures.ok.0

pub invariant_of-self : goal.invariant_of-self
invariant_of-self c =
    let a = c.self.inside in
    let b = c.args.op in
    let within = subst (λ (v : LaneOf). Within b.does b.place (length_at_end v.first v.slots)) (sym c.self.view_is) c.requires.within in
    opened_keeps a.popped a.count a.first a.last a.items c.push_to.new.items b c.self.invariant within c.in_err-push_to.ensures.err

pub returns-in_err-push_to-clause-err : goal.returns-in_err-push_to-clause-err
returns-in_err-push_to-clause-err c =
    let a = c.self.inside in
    let b = c.args.op in
    let within = subst (λ (v : LaneOf). Within b.does b.place (length_at_end v.first v.slots)) (sym c.self.view_is) c.requires.within in
    let is = opened_is a.popped a.count a.first a.last a.items c.push_to.new.items b c.self.invariant within c.in_err-push_to.ensures.err in
    on_err c.from_residual-in_err-push_to.result ((λ i. record { first = a.first; slots = is i }) ∙ c.self.view_is)

pub length_after-self-inside-requires : goal.length_after-self-inside-requires
length_after-self-inside-requires c =
    let a = c.self.inside in
    let low = last_below (all a.popped a.count a.items) a.first in
    let last = c.self.invariant.lane.last_is in
    let room = c.self.invariant.lane.room in
    omega (arith, low, last, room)

pub invariant_of-self-2 : goal.invariant_of-self-2
invariant_of-self-2 c =
    let a = c.self.inside in
    let b = c.args.op in
    let n = c.in_ok-number.number in
    let within = subst (λ (v : LaneOf). Within b.does b.place (length_at_end v.first v.slots)) (sym c.self.view_is) c.requires.within in
    let room = subst (λ (v : LaneOf). v.first + length v.slots + 1 < top) (sym c.self.view_is) c.requires.room in
    let zs = c.push_to.new.items in
    subst (λ m. IsRegions a.popped (a.count + 1) a.first m zs (all a.popped (a.count + 1) zs)) (sym c.length_after-self-inside.ensures)
    (pushed_keeps a.popped a.count a.first a.last a.items zs b c.self.invariant within n c.in_ok-number.ensures.ok.0 c.in_ok-number.ensures.ok.1 c.in_ok-push_to.ensures.ok room)

pub returns-clause-ok : goal.returns-clause-ok
returns-clause-ok c =
    let a = c.self.inside in
    let b = c.args.op in
    let n = c.in_ok-number.number in
    let within = subst (λ (v : LaneOf). Within b.does b.place (length_at_end v.first v.slots)) (sym c.self.view_is) c.requires.within in
    let zs = c.push_to.new.items in
    let is = pushed_is a.popped a.count a.first a.last a.items zs b c.self.invariant within n c.in_ok-number.ensures.ok.0 c.in_ok-number.ensures.ok.1 c.in_ok-push_to.ensures.ok in
    (λ i. record { first = a.first; slots = is i }) ∙ ap (λ (v : LaneOf). record { first = v.first; slots = v.slots ++ Some b ∷ [] }) c.self.view_is
