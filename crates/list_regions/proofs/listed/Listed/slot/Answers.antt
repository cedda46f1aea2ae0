use Rattle.std.proofs.Common.{◌≡◌, ℕ, zero, suc, ◌<◌, List, [], ◌∷◌, length, get_or, Option, sym, ap, ◌∙◌, subst, arith}
use Rattle.list_lane.specs.Lanes.{slot_at, length_before, Fits}
use Rattle.list_lane.specs.declared.op.Op.{Op}
use Rattle.list_lane.proofs.Rooms.{slot_fits}
use Rattle.list_regions.specs.Regions.{RegionOf}
use Rattle.list_regions.proofs.listed.Listed.slot.Goals as goal

slot_of : (ss : List (Option Op)) (i : ℕ) (d x : Option Op) → i < length ss → x ≡ get_or ss i d → x ≡ slot_at i ss
slot_of [] i d x lt e = absurd (omega (arith, lt))
slot_of (s ∷ ss) zero d x lt e = e
slot_of (s ∷ ss) (suc i) d x lt e = slot_of ss i d x (omega (arith, lt)) e

pub returns-clause-slot : goal.returns-clause-slot
returns-clause-slot c =
    let a = c.self.inside in
    let view = ap (λ (v : RegionOf). length v.lane.slots) c.self.view_is in
    let within = c.requires in
    slot_of a.slots.items c.args.place _ c.index.result.now (omega (arith, view, within)) c.index.ensures ∙ ap (λ (v : RegionOf). slot_at c.args.place v.lane.slots) c.self.view_is

pub returns-clause-fits : goal.returns-clause-fits
returns-clause-fits c =
    let a = c.self.inside in
    let view = ap (λ (v : RegionOf). length v.lane.slots) c.self.view_is in
    let within = c.requires in
    let slot = slot_of a.slots.items c.args.place _ c.index.result.now (omega (arith, view, within)) c.index.ensures in
    subst (λ (v : RegionOf). Fits (length_before c.args.place v.lane.first v.lane.slots) c.index.result.now) c.self.view_is
    (subst (Fits (length_before c.args.place a.elements a.slots.items)) (sym slot) (slot_fits c.args.place a.elements a.slots.items c.self.invariant.chains))
