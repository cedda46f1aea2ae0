use Rattle.std.proofs.Common.{◌≡◌, suc, ◌+◌, ◌<◌, length, sym, ap, ◌∙◌, subst, arith}
use Rattle.std.specs.Prelude.{slice_get, remove}
use Rattle.std.specs.Option.{option_copied}
use Rattle.sync_base.specs.Rules.{top}
use Rattle.list_regions.specs.Regions.{RegionOf}
use Rattle.list_regions.specs.Merges.{Slots, IsMerged}
use Rattle.list_regions.proofs.Sets.{set_length}
use Rattle.list_regions.proofs.Meeting.{there}
use Rattle.list_regions.proofs.Alike.{merged_alike, merge_low, slots_of}
use Rattle.list_regions.proofs.merge.merge_at.Goals as goal

pub merged-requires-clause-left : goal.merged-requires-clause-left
merged-requires-clause-left c = subst Slots (sym c.in_ok-first.ensures) (slots_of c.args.items.now c.args.place c.in-Some.left.now c.requires.holds (sym c.get.ensures ∙ ap option_copied c.in-Some.is))

pub merged-requires-clause-right : goal.merged-requires-clause-right
merged-requires-clause-right c = subst Slots (sym c.in_ok-second.ensures) (slots_of c.args.items.now (c.args.place + 1) c.in-Some-get.right.now c.requires.holds (sym c.get-2.ensures ∙ ap option_copied c.in-Some-get.is))

pub merged-requires-clause-room : goal.merged-requires-clause-room
merged-requires-clause-room c =
    let k : suc c.args.place ≡ c.args.place + 1 = omega arith in
    subst (λ (o : RegionOf). o.gap + (o.lane.first + (c.in_ok-second.second.gap + c.in_ok-second.second.lane.first)) < top) (sym c.in_ok-first.ensures)
    (subst (λ (o : RegionOf). c.in-Some.left.now.gap + (c.in-Some.left.now.lane.first + (o.gap + o.lane.first)) < top) (sym c.in_ok-second.ensures)
    (merge_low c.args.items.now c.args.place c.in-Some.left.now c.in-Some-get.right.now c.requires.holds (sym c.get.ensures ∙ ap option_copied c.in-Some.is) (ap (slice_get c.args.items.now) k ∙ sym c.get-2.ensures ∙ ap option_copied c.in-Some-get.is)))

pub replace-requires : goal.replace-requires
replace-requires c = there c.args.items.now c.args.place c.in-Some.left.now (sym c.get.ensures ∙ ap option_copied c.in-Some.is)

pub remove-requires : goal.remove-requires
remove-requires c =
    let lt = there c.args.items.now (c.args.place + 1) c.in-Some-get.right.now (sym c.get-2.ensures ∙ ap option_copied c.in-Some-get.is) in
    let list = ap length c.replace.ensures.list in
    let same = set_length c.args.items.now c.args.place c.in_ok-one.one in
    omega (arith, lt, list, same)

pub returns : goal.returns
returns c =
    let qs = c.args.items.now in
    let i = c.args.place in
    let k : i + 1 ≡ suc i = omega arith in
    let both = subst (λ (o : RegionOf). IsMerged c.in_ok-first.first o c.in_ok-one.one) c.in_ok-second.ensures c.in_ok-one.ensures in
    merged_alike c.in-Some.left.now c.in-Some-get.right.now c.in_ok-one.one (subst (λ (o : RegionOf). IsMerged o c.in-Some-get.right.now c.in_ok-one.one) c.in_ok-first.ensures both) qs c.remove.new.self i
    (sym c.get.ensures ∙ ap option_copied c.in-Some.is)
    (ap (slice_get qs) (sym k) ∙ sym c.get-2.ensures ∙ ap option_copied c.in-Some-get.is)
    (c.remove.ensures.list ∙ (λ j. remove (c.replace.ensures.list j) (k j)))
