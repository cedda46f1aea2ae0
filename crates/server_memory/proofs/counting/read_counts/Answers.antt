use Rattle.std.proofs.Common.{◌≡◌, ◌+◌, ◌<◌, ◌∷◌, [], length, map, sym, ap, ◌∙◌, subst, arith, length-append}
use Rattle.std.specs.Option.{option_map}
use Rattle.sync_model.specs.Fronts.{count_is, count_step}
use Rattle.server_memory.specs.Fronting.{counted_seen}
use Rattle.server_memory.proofs.Tallies.{count_more, count_not, sum_more}
use Rattle.server_memory.proofs.Walking.{LoopSoFar, loop_done, loop_full, loop_next, loop_other, loop_refuses}
use Rattle.server_memory.proofs.counting.read_counts.Goals as goal

pub returns-then-len-most-clause-read : goal.returns-then-len-most-clause-read
returns-then-len-most-clause-read c =
    let cs = c.loop-place.counts.items in
    loop_full count_is (count_step 4294967295) c.args.most c.args.records.now c.args.first c.loop-place.place [] (map counted_seen cs) (length cs) c.loop-place.invariant.so_far (omega (arith, c.len.ensures, c.loop-place.counts.ok.0, c.if-len-most.true))

pub returns-in-None-clause-read : goal.returns-in-None-clause-read
returns-in-None-clause-read c =
    let cs = c.loop-place.counts.items in
    let r = c.index-records-place.result in
    let kind = sym c.as_count.ensures in
    loop_other count_is (count_step 4294967295) c.args.most c.args.records.now c.args.first c.loop-place.place [] (map counted_seen cs) (length cs) c.loop-place.invariant.so_far r c.loop-place-test.true c.index-records-place.is (kind ∙ ap (option_map counted_seen) c.in-None.is)

pub returns-then-not-is_next-clause-read : goal.returns-then-not-is_next-clause-read
returns-then-not-is_next-clause-read c =
    let cs = c.loop-place.counts.items in
    let r = c.index-records-place.result in
    let kind = sym c.as_count.ensures in
    let few : length cs < c.args.most = omega (arith, c.loop-place.invariant.few, c.len.ensures, c.loop-place.counts.ok.0, c.if-len-most.false) in
    let count = c.in-Some.count in
    let size : c.len-in-Some.result ≡ length cs = omega (arith, c.len-in-Some.ensures, c.loop-place.counts.ok.0) in
    loop_refuses count_is (count_step 4294967295) c.args.most c.args.records.now c.args.first c.loop-place.place [] (map counted_seen cs) (length cs) c.loop-place.invariant.so_far r (counted_seen count) few c.loop-place-test.true c.index-records-place.is (kind ∙ ap (option_map counted_seen) c.in-Some.is)
    (count_not cs count c.len-in-Some.result c.loop-place.sum size c.loop-place.invariant.sum c.is_next.result c.is_next.ensures c.if-not-is_next.true)

pub loop-place-preserved : goal.loop-place-preserved
loop-place-preserved c =
    let cs = c.loop-place.counts.items in
    let r = c.index-records-place.result in
    let kind = sym c.as_count.ensures in
    let few : length cs < c.args.most = omega (arith, c.loop-place.invariant.few, c.len.ensures, c.loop-place.counts.ok.0, c.if-len-most.false) in
    let count = c.in-Some.count in
    let size : c.len-in-Some.result ≡ length cs = omega (arith, c.len-in-Some.ensures, c.loop-place.counts.ok.0) in
    let now = c.keep.new.items.items in
    let long : length cs + 1 ≡ length now = omega (arith, ap length c.in-Ok.ensures.ok, length-append cs (count ∷ [])) in
    let more = loop_next count_is (count_step 4294967295) c.args.most c.args.records.now c.args.first c.loop-place.place [] (map counted_seen cs) (length cs) c.loop-place.invariant.so_far r (counted_seen count) (map counted_seen now) few c.loop-place-test.true c.index-records-place.is (kind ∙ ap (option_map counted_seen) c.in-Some.is)
    (count_more cs now count c.len-in-Some.result c.loop-place.sum size c.loop-place.invariant.sum c.is_next.result c.is_next.ensures c.if-not-is_next.false c.in-Ok.ensures.ok) in
    record {
      so_far = subst (LoopSoFar count_is (count_step 4294967295) c.args.most c.args.records.now c.args.first (c.loop-place.place + 1) [] (map counted_seen now)) long more;
      sum = ap (λ n. n + count.number) c.loop-place.invariant.sum ∙ sum_more cs now count c.in-Ok.ensures.ok;
      few = omega (arith, long, few);
    }

pub returns-clause-read : goal.returns-clause-read
returns-clause-read c =
    let cs = c.loop-place.counts.items in
    loop_done count_is (count_step 4294967295) c.args.most c.args.records.now c.args.first c.loop-place.place [] (map counted_seen cs) (length cs) c.loop-place.invariant.so_far c.loop-place-test.false
