use Rattle.std.proofs.Common.{◌≡◌, ◌+◌, ◌<◌, ◌≤◌, ◌∷◌, List, ℕ, [], drop, length, refl, ap, sym, subst, ◌∙◌, arith}
use Rattle.sync_journal.proofs.Gates.{left_at, none_left}
use Rattle.sync_client.specs.Fronts.{Behind}
use Rattle.sync_client.specs.Parts.{IsOfState, IsNoState, OfState}
use Rattle.sync_client.proofs.Fronts.{all_came_now, behind_none, behind_some, last_stops, of_state_at, other_stops, owed_stops, some_more_left, waits_first, waits_next, waits_stop, waits_then}
use Rattle.sync_client.proofs.replica.Replica.admit_waiting.Goals as goal

pub loop-next-init : goal.loop-next-init
loop-next-init c = λ past w. waits_first past c.args.self.now c.args.waiting c.args.records.now c.args.place w

pub returns-then-owed-ne0 : goal.returns-then-owed-ne0
returns-then-owed-ne0 c = λ past w.
    let s = c.loop-next.invariant past w in
    let there : c.loop-next.next < length c.args.records.now = omega (arith, c.loop-next-test.true, c.len-next-end.ensures) in
    let left = left_at c.args.records.now c.loop-next.next c.at-bytes.result.now there c.at-bytes.ensures in
    waits_stop past c.args.self.now c.loop-next.self c.loop-next.owed c.args.records.now c.args.place c.loop-next.next s
    (owed_stops s.past c.loop-next.self c.loop-next.owed s.within c.args.records.now c.loop-next.next there (of_state_at c.args.records.now c.loop-next.next c.at-bytes.result.now left (c.is_of_state.ensures.is c.if-is_of_state.true)) c.if-owed-ne0.true)

pub returns-then-is_of_state : goal.returns-then-is_of_state
returns-then-is_of_state c = λ past w.
    let s = c.loop-next.invariant past w in
    waits_then past c.args.self.now c.loop-next.self c.admit_parts.new.self c.loop-next.owed c.args.records.now c.args.place c.loop-next.next c.admit_parts.result s
    (c.admit_parts.ensures s.past (all_came_now s.past c.loop-next.self c.loop-next.owed s.within c.if-owed-ne0.false))

pub returns-then-next-len : goal.returns-then-next-len
returns-then-next-len c = λ past w.
    let s = c.loop-next.invariant past w in
    let there : c.loop-next.next < length c.args.records.now = omega (arith, c.loop-next-test.true, c.len-next-end.ensures) in
    let left = left_at c.args.records.now c.loop-next.next c.at-bytes.result.now there c.at-bytes.ensures in
    let none = none_left c.args.records.now (c.loop-next.next + 1) (omega (arith, c.if-next-len.true, c.len.ensures)) in
    waits_stop past c.args.self.now c.loop-next.self c.loop-next.owed c.args.records.now c.args.place c.loop-next.next s
    (last_stops s.past c.loop-next.self c.loop-next.owed s.within c.args.records.now c.loop-next.next c.at-bytes.result.now left none (c.is_of_state.ensures.other c.if-is_of_state.false))

pub returns-in-Ok-None : goal.returns-in-Ok-None
returns-in-Ok-None c = λ past w.
    let s = c.loop-next.invariant past w in
    let there : c.loop-next.next < length c.args.records.now = omega (arith, c.loop-next-test.true, c.len-next-end.ensures) in
    let left = left_at c.args.records.now c.loop-next.next c.at-bytes.result.now there c.at-bytes.ensures in
    waits_stop past c.args.self.now c.loop-next.self c.loop-next.owed c.args.records.now c.args.place c.loop-next.next s
    (other_stops s.past c.loop-next.self c.loop-next.owed s.within c.args.records.now c.loop-next.next c.at-bytes.result.now left
    (behind_none s.past c.loop-next.self c.admit_behind.new.self c.at-bytes.result.now c.in-Ok-None.field-0 c.in-Ok-None.field-0-is (c.in-Ok-None.ensures s.past s.within)))

pub loop-next-preserved : goal.loop-next-preserved
loop-next-preserved c = λ past w.
    let s = c.loop-next.invariant past w in
    let there : c.loop-next.next < length c.args.records.now = omega (arith, c.loop-next-test.true, c.len-next-end.ensures) in
    let left = left_at c.args.records.now c.loop-next.next c.at-bytes.result.now there c.at-bytes.ensures in
    waits_next past c.args.self.now c.loop-next.self c.admit_behind.new.self c.loop-next.owed c.in-Ok-Some.left c.args.records.now c.args.place c.loop-next.next c.at-bytes.result.now s left
    (some_more_left c.args.records.now (c.loop-next.next + 1) (let e = c.len.ensures in let t = c.if-next-len.false in omega (arith, there, e, t)))
    (behind_some s.past c.loop-next.self c.admit_behind.new.self c.at-bytes.result.now c.in-Ok-Some.field-0 c.in-Ok-Some.left c.in-Ok-Some.field-0-is (c.in-Ok-Some.ensures s.past s.within))
