use Rattle.std.proofs.Common.{◌≡◌, ◌+◌, [], ◌∷◌, Some, None, length, map, sym, ap, ◌∙◌, subst, arith, length-append}
use Rattle.std.proofs.lemmas.List.{map-append}
use Rattle.sync_exchange.specs.Profile.{the_profile}
use Rattle.sync_recip.specs.Lists.{entry_of}
use Rattle.sync_model.specs.Fronts.{crossed_is, crossed_step}
use Rattle.server_memory.specs.Crossing.{NextPassed, passed_seen, past_seen}
use Rattle.server_memory.proofs.Passing.{each_next, sorted_next}
use Rattle.server_memory.proofs.Walking.{KeptSoFar, keep_done, keep_next, keep_other, keep_refuses}
use Rattle.server_memory.proofs.passed.read_passed.Goals as goal

pub returns-in-None-clause-read : goal.returns-in-None-clause-read
returns-in-None-clause-read c =
    let ps = c.loop-place.passed.items in
    keep_other crossed_is (crossed_step the_profile c.args.second c.args.floor c.args.idents.now (map entry_of c.args.entries.now)) c.args.records.now c.args.first c.requires c.loop-place.place [] (map passed_seen ps) (length ps) c.index-records-place.result c.loop-place.invariant.so_far c.loop-place-test.true c.index-records-place.is (sym c.in-None.ensures)

pub returns-in-Ok-None-clause-read : goal.returns-in-Ok-None-clause-read
returns-in-Ok-None-clause-read c =
    let ps = c.loop-place.passed.items in
    let known = c.as_slice-known.result.now in
    let e = past_seen c.in-Some.head c.in-Some.body.now in
    let told = subst (NextPassed c.args.second c.args.floor c.args.idents.now (map entry_of c.args.entries.now) known (past_seen c.in-Some.head c.bytes-bytes.result.now)) c.in-Ok-None.field-0-is c.in-Ok-None.ensures in
    let bytes = subst (λ b. NextPassed c.args.second c.args.floor c.args.idents.now (map entry_of c.args.entries.now) known (past_seen c.in-Some.head b) None) c.bytes-bytes.ensures told in
    let none = subst (λ l. NextPassed c.args.second c.args.floor c.args.idents.now (map entry_of c.args.entries.now) l e None) c.as_slice-known.ensures.value bytes in
    keep_refuses crossed_is (crossed_step the_profile c.args.second c.args.floor c.args.idents.now (map entry_of c.args.entries.now)) c.args.records.now c.args.first c.requires c.loop-place.place [] (map passed_seen ps) (length ps) c.index-records-place.result e c.loop-place.invariant.so_far c.loop-place-test.true c.index-records-place.is (sym c.in-Some.ensures) none

pub loop-place-preserved : goal.loop-place-preserved
loop-place-preserved c =
    let ps = c.loop-place.passed.items in
    let known = c.as_slice-known.result.now in
    let next = c.in-Ok-Some.next in
    let now = c.keep.new.items.items in
    let kept = c.in-Ok.ensures.ok in
    let e = past_seen c.in-Some.head c.in-Some.body.now in
    let told = subst (NextPassed c.args.second c.args.floor c.args.idents.now (map entry_of c.args.entries.now) known (past_seen c.in-Some.head c.bytes-bytes.result.now)) c.in-Ok-Some.field-0-is c.in-Ok-Some.ensures in
    let bytes = subst (λ b. NextPassed c.args.second c.args.floor c.args.idents.now (map entry_of c.args.entries.now) known (past_seen c.in-Some.head b) (Some next)) c.bytes-bytes.ensures told in
    let one = subst (λ l. NextPassed c.args.second c.args.floor c.args.idents.now (map entry_of c.args.entries.now) l e (Some next)) c.as_slice-known.ensures.value bytes in
    let step : crossed_step the_profile c.args.second c.args.floor c.args.idents.now (map entry_of c.args.entries.now) (map passed_seen ps) e ≡ Some (map passed_seen now) = one.step ∙ ap (λ l. Some l) (sym (ap (map passed_seen) kept ∙ map-append passed_seen ps (next ∷ []))) in
    let long : length ps + 1 ≡ length now = omega (arith, ap length kept, length-append ps (next ∷ [])) in
    record {
      so_far =
          subst (KeptSoFar crossed_is (crossed_step the_profile c.args.second c.args.floor c.args.idents.now (map entry_of c.args.entries.now)) c.args.records.now c.args.first (c.loop-place.place + 1) [] (map passed_seen now)) long
          (keep_next crossed_is (crossed_step the_profile c.args.second c.args.floor c.args.idents.now (map entry_of c.args.entries.now)) c.args.records.now c.args.first c.requires c.loop-place.place [] (map passed_seen ps) (map passed_seen now) (length ps) c.index-records-place.result e c.loop-place.invariant.so_far c.loop-place-test.true c.index-records-place.is (sym c.in-Some.ensures) step);
      sorted = sorted_next ps now next kept c.loop-place.invariant.sorted one.rises_;
      each = each_next c.args.floor (map entry_of c.args.entries.now) ps now next kept c.loop-place.invariant.each one.of_;
    }

pub returns-clause-read : goal.returns-clause-read
returns-clause-read c =
    let ps = c.loop-place.passed.items in
    keep_done crossed_is (crossed_step the_profile c.args.second c.args.floor c.args.idents.now (map entry_of c.args.entries.now)) c.args.records.now c.args.first c.requires c.loop-place.place [] (map passed_seen ps) (length ps) c.loop-place.invariant.so_far c.loop-place-test.false
