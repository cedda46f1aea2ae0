use Rattle.std.proofs.Common.{◌+◌, ◌++◌, map, drop, sym, ap, ◌∙◌, append_assoc}
use Rattle.std.specs.Prelude.{slice_get}
use Rattle.sync_recip.specs.Lists.{entry_of}
use Rattle.sync_model.specs.Trimmed.{crossed_record}
use Rattle.sync_exchange.specs.Profile.{the_profile}
use Rattle.sync_exchange.specs.Seen.{server_seen}
use Rattle.server_memory.specs.Kept.{parts}
use Rattle.server_memory.specs.Readers.{item_from}
use Rattle.sync_server.specs.Serving.{kept_of}
use Rattle.sync_trim.proofs.Crossed.{Pair, crossed, crossed_left, got_none, got_some, passed}
use Rattle.sync_trim.proofs.Pieces.{at_some, none_next, get_at}
use Rattle.sync_trim.proofs.past.put_past_of.Goals as goal

pub loop-place-preserved-in_default : goal.loop-place-preserved-in_default
loop-place-preserved-in_default g c =
    let kept = parts (kept_of c.args.server.now) in
    let place = c.loop-place.place in
    let list = c.args.list.now in
    let ident = c.args.ident in
    let from = c.args.from in
    let now = map server_seen c.loop-place.records.items in
    λ floor above below.
    ap (λ l. now ++ crossed_left ident kept.floor floor from kept.entries l) (sym (none_next list place (sym (get_at list place) ∙ got_none c.in_ok-found.found (slice_get list place) c.in_ok-found.ensures c.in_default.is)))
    ∙ c.loop-place.invariant floor above below

pub loop-place-preserved-then-version-from : goal.loop-place-preserved-then-version-from
loop-place-preserved-then-version-from g c =
    let kept = parts (kept_of c.args.server.now) in
    let place = c.loop-place.place in
    let list = c.args.list.now in
    let ident = c.args.ident in
    let from = c.args.from in
    let now = map server_seen c.loop-place.records.items in
    let q : Pair = (c.in-Some.version, entry_of c.in-Some.crossed) in
    let first = at_some list place q (sym (get_at list place) ∙ sym (got_some c.in_ok-found.found (slice_get list place) c.in-Some.version c.in-Some.crossed c.in_ok-found.ensures c.in-Some.is)) in
    λ floor above below.
    ap (λ l. now ++ l) (sym (passed ident kept.floor floor from kept.entries (drop place list) (drop (place + 1) list) q first c.if-version-from.true))
    ∙ c.loop-place.invariant floor above below

pub loop-place-preserved : goal.loop-place-preserved
loop-place-preserved g c =
    let kept = parts (kept_of c.args.server.now) in
    let place = c.loop-place.place in
    let list = c.args.list.now in
    let ident = c.args.ident in
    let from = c.args.from in
    let now = map server_seen c.loop-place.records.items in
    let q : Pair = (c.in-Some.version, entry_of c.in-Some.crossed) in
    let first = at_some list place q (sym (get_at list place) ∙ sym (got_some c.in_ok-found.found (slice_get list place) c.in-Some.version c.in-Some.crossed c.in_ok-found.ensures c.in-Some.is)) in
    λ floor above below.
    let left = crossed_left ident kept.floor floor from kept.entries (drop (place + 1) list) in
    let made = crossed_record the_profile ident q (item_from kept.floor kept.entries q.0) in
    ap (λ l. l ++ left) c.in_ok-put_crossed.ensures
    ∙ append_assoc now made left
    ∙ ap (λ l. now ++ l) (sym (crossed ident kept.floor floor from kept.entries (drop place list) (drop (place + 1) list) q first c.if-version-from.false above below))
    ∙ c.loop-place.invariant floor above below
