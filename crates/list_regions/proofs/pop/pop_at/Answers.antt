use Rattle.std.proofs.Common.{◌≡◌, ◌+◌, take, set, ap, ◌∙◌, arith}
use Rattle.list_regions.specs.Regions.{befores, moved_on}
use Rattle.list_regions.specs.Kept.{popped_region}
use Rattle.list_regions.proofs.Sets.{set_twice}
use Rattle.list_regions.proofs.Found.{befores_are}
use Rattle.list_regions.proofs.Views.{before_at}
use Rattle.list_regions.proofs.Popping.{has_first, moved_is, pops, popped_low}
use Rattle.list_regions.proofs.pop.pop_at.Goals as goal

before_is : (c : goal.After-drop-replace-2) → c.sums_to-before.result.before ≡ befores (take c.args.place c.args.items.now)
before_is c =
    let there = c.requires.there in
    let place = c.sums_to-before.ensures.place in
    let same : c.sums_to-before.result.place ≡ c.args.place = omega (arith, there, place) in
    c.sums_to-before.ensures.sums.before ∙ befores_are (take c.sums_to-before.result.place c.args.items.now) ∙ ap (λ n. befores (take n c.args.items.now)) same

pub overflow_add-before : goal.overflow_add-before
overflow_add-before c =
    let is = before_is c in
    let low = before_at c.args.items.now c.args.place c.replace-region.result c.replace-region.ensures.value in
    let all = c.requires.low in
    let gap = c.gap-gap.ensures in
    omega (arith, is, low, all, gap)

pub lifted-requires : goal.lifted-requires
lifted-requires c =
    let q = c.replace-region.result in
    let is = before_is c in
    let low = before_at c.args.items.now c.args.place q c.replace-region.ensures.value in
    let all = c.requires.low in
    let gap = c.gap-gap.ensures in
    popped_low c.pop_first-slot.result q.lane.first (c.sums_to-before.result.before + c.gap-gap.result) (befores (take c.args.place c.args.items.now) + q.gap) c.pop_first-slot.ensures.fits (omega (arith, low, all)) (omega (arith, is, gap))

pub returns : goal.returns
returns c =
    let qs = c.args.items.now in
    let i = c.args.place in
    let q = c.replace-region.result in
    let here = c.replace-region.ensures.value in
    let low = before_at qs i q here in
    let all = c.requires.low in
    let there = c.requires.there in
    let place = c.sums_to-before.ensures.place in
    let same : c.sums_to-before.result.place ≡ i = omega (arith, there, place) in
    let is = c.sums_to-before.ensures.sums.before ∙ befores_are (take c.sums_to-before.result.place qs) ∙ ap (λ n. befores (take n qs)) same in
    let gap = c.gap-gap.ensures in
    let sum : c.sums_to-before.result.before + c.gap-gap.result ≡ befores (take i qs) + q.gap = omega (arith, is, gap) in
    pops qs c.args.number i q c.lifted.result c.replace.new.self here
    (has_first c.args.number q (c.requires.number q here) c.requires.some (c.requires.same q here))
    (c.replace.ensures.list ∙ (λ j. set (c.replace-region.ensures.list j) i (c.pop_first-slot.ensures.region j)) ∙ set_twice qs i c.empty.result (popped_region q))
    (c.lifted.ensures ∙ moved_is (c.sums_to-before.result.before + c.gap-gap.result) c.pop_first-slot.result ∙ (λ j. moved_on (sum j) (c.pop_first-slot.ensures.slot j)))
