use Rattle.std.proofs.Common.{◌<◌, ◌+◌, [], ◌∷◌, ◌++◌, None, length, sym, ap, ◌∙◌, subst, arith}
use Rattle.sync_base.specs.Rules.{top}
use Rattle.list_lane.specs.Lanes.{LaneOf}
use Rattle.list_regions.proofs.Keeping.{empty_is, empty_keeps}
use Rattle.list_regions.proofs.regions.Regions.push_empty.Goals as goal

pub invariant_of-self : goal.invariant_of-self
invariant_of-self c =
    let a = c.self.inside in
    let room = subst (λ (v : LaneOf). v.first + length v.slots + 1 < top) (sym c.self.view_is) c.requires in
    let low = c.in_ok-_number.ensures.ok.1 in
    let is = c.in_ok-_number.ensures.ok.0 in
    empty_keeps a.popped a.count a.first a.last a.items c.self.invariant room (omega (arith, low, is))

pub returns-clause-ok : goal.returns-clause-ok
returns-clause-ok c =
    let a = c.self.inside in
    let is = empty_is a.popped a.count a.first a.last a.items c.self.invariant in
    (λ i. record { first = a.first; slots = is i }) ∙ ap (λ (v : LaneOf). record { first = v.first; slots = v.slots ++ None ∷ [] }) c.self.view_is
