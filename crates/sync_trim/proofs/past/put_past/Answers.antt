use Rattle.std.proofs.Common.{◌+◌, ◌-◌, ◌<◌, ◌++◌, [], length, map, drop, sym, ap, ◌∙◌, add-one, append_assoc, arith}
use Rattle.std.specs.Prelude.{if◌then◌else◌, max}
use Rattle.sync_model.specs.Trimmed.{crossed_of, crossed_records}
use Rattle.sync_model.specs.Trims.{is_live, pairs_from}
use Rattle.sync_exchange.specs.Profile.{the_profile}
use Rattle.sync_exchange.specs.Seen.{server_seen}
use Rattle.server_memory.specs.Kept.{parts}
use Rattle.sync_server.specs.Serving.{kept_of}
use Rattle.sync_trim.proofs.Given.{ident_some, is_given}
use Rattle.sync_trim.proofs.past.put_past.Goals as goal

pub loop-place-preserved : goal.loop-place-preserved
loop-place-preserved g c =
    let kept = parts (kept_of c.args.server.now) in
    let place = c.loop-place.place in
    let floor = c.args.floor in
    let xs = drop (floor - kept.floor) kept.entries in
    let now = map server_seen c.loop-place.records.items in
    let within : place < length kept.idents = omega (arith, c.loop-place-test.true, c.idents-place-end.ensures) in
    let w = is_given kept.idents place within in
    let made = if is_live w.0 then crossed_of the_profile (place + 1) floor xs (pairs_from (max floor w.0.last) w.0.reciprocal) else [] in
    let left = crossed_records the_profile (place + 1 + 1) floor xs (drop (place + 1) kept.idents) in
    ap (λ l. l ++ left) (c.in_ok-put_past_by.ensures w.0 w.1)
    ∙ append_assoc now made left
    ∙ ap (λ l. now ++ l) (ap (λ n. made ++ crossed_records the_profile n floor xs (drop (place + 1) kept.idents)) (add-one (place + 1)) ∙ sym (ap (crossed_records the_profile (place + 1) floor xs) (ident_some kept.idents place w.0 w.1)))
    ∙ c.loop-place.invariant
