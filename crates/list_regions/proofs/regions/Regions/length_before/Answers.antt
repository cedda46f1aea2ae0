use Rattle.std.proofs.Common.{◌≡◌, ◌+◌, ◌-◌, ◌<◌, length, take, sym, ap, ◌∙◌, subst, arith}
use Rattle.list_lane.specs.Lanes.{LaneOf, length_before}
use Rattle.list_regions.specs.Regions.{befores}
use Rattle.list_regions.proofs.Found.{befores_are, take_all_of}
use Rattle.list_regions.proofs.Keeping.{lengths_kept, lengths_few}
use Rattle.list_regions.proofs.regions.Regions.length_before.Goals as goal

pub overflow_sub-result : goal.overflow_sub-result
overflow_sub-result c =
    let qs = c.self.inside.items in
    let place : c.sums_to-covered.result.place ≡ length qs = omega arith in
    let is = c.sums_to-covered.ensures.sums.before ∙ befores_are (take c.sums_to-covered.result.place qs) ∙ ap (λ n. befores (take n qs)) place ∙ ap befores (take_all_of qs) in
    let fits = c.self.invariant.fits in
    omega (arith, is, fits)

pub overflow_add-result : goal.overflow_add-result
overflow_add-result c =
    let a = c.self.inside in
    let qs = a.items in
    let place : c.sums_to-covered.result.place ≡ length qs = omega arith in
    let is = c.sums_to-covered.ensures.sums.before ∙ befores_are (take c.sums_to-covered.result.place qs) ∙ ap (λ n. befores (take n qs)) place ∙ ap befores (take_all_of qs) in
    let there = subst (λ (v : LaneOf). c.args.place < length v.slots) (sym c.self.view_is) c.requires in
    let count = c.self.invariant.lane.count_is in
    let kept = lengths_kept a.popped a.count a.first a.last qs c.args.place c.self.invariant in
    let few = lengths_few a.popped a.count a.first a.last qs c.args.place c.self.invariant (omega (arith, there, count)) in
    let lengths = c.lengths_in-lengths.ensures in
    omega (arith, is, kept, few, lengths)

pub overflow_cast-result-2 : goal.overflow_cast-result-2
overflow_cast-result-2 c =
    let a = c.self.inside in
    let qs = a.items in
    let place : c.sums_to-covered.result.place ≡ length qs = omega arith in
    let is = c.sums_to-covered.ensures.sums.before ∙ befores_are (take c.sums_to-covered.result.place qs) ∙ ap (λ n. befores (take n qs)) place ∙ ap befores (take_all_of qs) in
    let there = subst (λ (v : LaneOf). c.args.place < length v.slots) (sym c.self.view_is) c.requires in
    let count = c.self.invariant.lane.count_is in
    let kept = lengths_kept a.popped a.count a.first a.last qs c.args.place c.self.invariant in
    let few = lengths_few a.popped a.count a.first a.last qs c.args.place c.self.invariant (omega (arith, there, count)) in
    let lengths = c.lengths_in-lengths.ensures in
    omega (arith, is, kept, few, lengths)

pub returns : goal.returns
returns c =
    let a = c.self.inside in
    let qs = a.items in
    let place : c.sums_to-covered.result.place ≡ length qs = omega arith in
    let is = c.sums_to-covered.ensures.sums.before ∙ befores_are (take c.sums_to-covered.result.place qs) ∙ ap (λ n. befores (take n qs)) place ∙ ap befores (take_all_of qs) in
    let kept = lengths_kept a.popped a.count a.first a.last qs c.args.place c.self.invariant in
    let lengths = c.lengths_in-lengths.ensures in
    (λ j. a.first - is j + lengths j) ∙ sym kept ∙ ap (λ (v : LaneOf). length_before c.args.place v.first v.slots) c.self.view_is
