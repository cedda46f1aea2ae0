use Rattle.std.proofs.Common.{◌≡◌, ◌+◌, ◌<◌, Some, None, length, sym, subst, arith}
use Rattle.std.proofs.lemmas.List.{length-map}
use Rattle.sync_exchange.specs.Profile.{the_profile}
use Rattle.sync_recip.specs.Lists.{entry_of}
use Rattle.sync_model.specs.Fronts.{entry_is, entry_step}
use Rattle.server_memory.specs.Fronting.{begun_on, carried_seen, grown_seen}
use Rattle.server_memory.proofs.Entering.{entered, not_entered, stepped}
use Rattle.server_memory.proofs.Walking.{LoopSoFar, loop_done, loop_full, loop_next, loop_other, loop_refuses}
use Rattle.server_memory.proofs.carried.read_entries.Goals as goal

pub returns-then-len-most-clause-read : goal.returns-then-len-most-clause-read
returns-then-len-most-clause-read c =
    let g = c.loop-place.grown in
    loop_full entry_is (entry_step the_profile c.args.second c.args.idents.now) c.args.most c.args.records.now c.args.first c.loop-place.place (begun_on c.args.objects) (grown_seen g) (length g.entries.items) c.loop-place.invariant.so_far (omega (arith, c.len.ensures, g.entries.ok.0, c.if-len-most.true))

pub returns-in-None-clause-read : goal.returns-in-None-clause-read
returns-in-None-clause-read c =
    let g = c.loop-place.grown in
    loop_other entry_is (entry_step the_profile c.args.second c.args.idents.now) c.args.most c.args.records.now c.args.first c.loop-place.place (begun_on c.args.objects) (grown_seen g) (length g.entries.items) c.loop-place.invariant.so_far c.index-records-place.result c.loop-place-test.true c.index-records-place.is (sym c.in-None.ensures)

pub returns-in-Ok-false-clause-read : goal.returns-in-Ok-false-clause-read
returns-in-Ok-false-clause-read c =
    let g = c.loop-place.grown in
    let few : length g.entries.items < c.args.most = omega (arith, c.loop-place.invariant.few, c.len.ensures, g.entries.ok.0, c.if-len-most.false) in
    let read = carried_seen c.in-Some.origin c.in-Some.head c.bytes.result.now in
    let e = carried_seen c.in-Some.origin c.in-Some.head c.in-Some.body.now in
    let none = not_entered (length c.args.idents.now) (grown_seen g) (grown_seen c.take_entry.new.self) (entry_step the_profile c.args.second c.args.idents.now (grown_seen g) read) c.take_entry.result c.in-Ok-false.field-0 c.in-Ok-false.is c.in-Ok-false.field-0-test c.take_entry.ensures in
    let step = subst (λ b. entry_step the_profile c.args.second c.args.idents.now (grown_seen g) (carried_seen c.in-Some.origin c.in-Some.head b) ≡ None) c.bytes.ensures none in
    loop_refuses entry_is (entry_step the_profile c.args.second c.args.idents.now) c.args.most c.args.records.now c.args.first c.loop-place.place (begun_on c.args.objects) (grown_seen g) (length g.entries.items) c.loop-place.invariant.so_far c.index-records-place.result e few c.loop-place-test.true c.index-records-place.is (sym c.in-Some.ensures) step

pub loop-place-preserved : goal.loop-place-preserved
loop-place-preserved c =
    let g = c.loop-place.grown in
    let new = c.take_entry.new.self in
    let few : length g.entries.items < c.args.most = omega (arith, c.loop-place.invariant.few, c.len.ensures, g.entries.ok.0, c.if-len-most.false) in
    let read = carried_seen c.in-Some.origin c.in-Some.head c.bytes.result.now in
    let e = carried_seen c.in-Some.origin c.in-Some.head c.in-Some.body.now in
    let more = entered (length c.args.idents.now) (grown_seen g) (grown_seen new) (entry_step the_profile c.args.second c.args.idents.now (grown_seen g) read) c.take_entry.result c.in-Ok-true.field-0 c.in-Ok-true.is c.in-Ok-true.field-0-test c.take_entry.ensures in
    let step = subst (λ b. entry_step the_profile c.args.second c.args.idents.now (grown_seen g) (carried_seen c.in-Some.origin c.in-Some.head b) ≡ Some (grown_seen new)) c.bytes.ensures more.0 in
    let long = stepped c.args.second c.args.idents.now (grown_seen g) (grown_seen new) e step in
    let size : length g.entries.items + 1 ≡ length new.entries.items = omega (arith, long, length-map g.entries.items entry_of, length-map new.entries.items entry_of) in
    record {
      so_far =
          subst (LoopSoFar entry_is (entry_step the_profile c.args.second c.args.idents.now) c.args.most c.args.records.now c.args.first (c.loop-place.place + 1) (begun_on c.args.objects) (grown_seen new)) size
          (loop_next entry_is (entry_step the_profile c.args.second c.args.idents.now) c.args.most c.args.records.now c.args.first c.loop-place.place (begun_on c.args.objects) (grown_seen g) (length g.entries.items) c.loop-place.invariant.so_far c.index-records-place.result e (grown_seen new) few c.loop-place-test.true c.index-records-place.is (sym c.in-Some.ensures) step);
      few = omega (arith, size, few);
      grown = more.1 c.loop-place.invariant.grown;
    }

pub returns-clause-read : goal.returns-clause-read
returns-clause-read c =
    let g = c.loop-place.grown in
    loop_done entry_is (entry_step the_profile c.args.second c.args.idents.now) c.args.most c.args.records.now c.args.first c.loop-place.place (begun_on c.args.objects) (grown_seen g) (length g.entries.items) c.loop-place.invariant.so_far c.loop-place-test.false
