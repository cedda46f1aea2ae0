use Rattle.std.proofs.Common.{◌+◌, ◌≤◌, length, map, drop, ap, sym, subst, arith}
use Rattle.std.proofs.lemmas.Result.{err_from_is_err_and}
use Rattle.sync_exchange.specs.Seen.{sent_seen}
use Rattle.sync_client.proofs.Downloads.{at_first, ends, ends_survives, goes_on, left_at, length_map, none_left, stops, stops_survives}
use Rattle.sync_client.proofs.client.Client.take_all.Goals as goal

pub loop-sent-init : goal.loop-sent-init
loop-sent-init g c = at_first c.args.self.now (map sent_seen c.args.entries.now) g.met.D.Disk.only_now c.requires.open_ c.requires.named (subst (λ n. c.args.self.now.replica.cursor + n ≤ 4294967295) (sym (length_map c.args.entries.now)) c.requires.room)

pub take_sent-requires-clause-open_ : goal.take_sent-requires-clause-open_
take_sent-requires-clause-open_ g c = c.loop-sent.invariant.open_

pub take_sent-requires-clause-room : goal.take_sent-requires-clause-room
take_sent-requires-clause-room g c =
    let left = ap length (left_at c.args.entries.now c.loop-sent.sent-index c.sent-item.result c.loop-sent-test.true c.sent-item.is) in
    let room = c.loop-sent.invariant.room in
    omega (arith, left, room)

pub take_sent-requires-clause-named : goal.take_sent-requires-clause-named
take_sent-requires-clause-named g c = c.loop-sent.invariant.named

pub returns-in_err-take_sent-clause-does : goal.returns-in_err-take_sent-clause-does
returns-in_err-take_sent-clause-does g c =
    let p = err_from_is_err_and c.from_residual.result c.from_residual.ensures.1 in
    rw (p.1, p.2) (stops c.args.self.now c.loop-sent.self c.take_sent.new.self (map sent_seen c.args.entries.now) (map sent_seen (drop (c.loop-sent.sent-index + 1) c.args.entries.now)) _ (sent_seen c.sent-item.result) c.in_err-take_sent.field-0.0 c.loop-sent.invariant
    (left_at c.args.entries.now c.loop-sent.sent-index c.sent-item.result c.loop-sent-test.true c.sent-item.is) c.in_err-take_sent.ensures.does)

pub loop-sent-preserved : goal.loop-sent-preserved
loop-sent-preserved g c = goes_on c.args.self.now c.loop-sent.self c.take_sent.new.self (map sent_seen c.args.entries.now) (map sent_seen (drop (c.loop-sent.sent-index + 1) c.args.entries.now)) _ (sent_seen c.sent-item.result) c.loop-sent.invariant
    (left_at c.args.entries.now c.loop-sent.sent-index c.sent-item.result c.loop-sent-test.true c.sent-item.is) c.in_ok-take_sent.ensures.stays_open c.in_ok-take_sent.ensures.ident c.in_ok-take_sent.ensures.cursor c.take_sent.ensures.disk.later c.in_ok-take_sent.ensures.does c.in_ok-take_sent.ensures.survives c.take_sent.ensures.disk.same_origin c.take_sent.ensures.disk.told

pub returns-clause-does : goal.returns-clause-does
returns-clause-does g c = ends c.args.self.now c.loop-sent.self (map sent_seen c.args.entries.now) _ c.loop-sent.invariant (none_left c.args.entries.now c.loop-sent.sent-index c.loop-sent-test.false)

pub returns-in_err-take_sent-clause-survives : goal.returns-in_err-take_sent-clause-survives
returns-in_err-take_sent-clause-survives g c =
    let p = err_from_is_err_and c.from_residual.result c.from_residual.ensures.1 in
    rw (p.1, p.2) (stops_survives c.args.self.now c.loop-sent.self c.take_sent.new.self (map sent_seen c.args.entries.now) (map sent_seen (drop (c.loop-sent.sent-index + 1) c.args.entries.now)) _ (sent_seen c.sent-item.result) c.in_err-take_sent.field-0.0 c.loop-sent.invariant
    (left_at c.args.entries.now c.loop-sent.sent-index c.sent-item.result c.loop-sent-test.true c.sent-item.is) c.in_err-take_sent.ensures.does c.in_err-take_sent.ensures.survives)

pub returns-clause-survives : goal.returns-clause-survives
returns-clause-survives g c = ends_survives c.args.self.now c.loop-sent.self (map sent_seen c.args.entries.now) _ c.loop-sent.invariant (none_left c.args.entries.now c.loop-sent.sent-index c.loop-sent-test.false)
