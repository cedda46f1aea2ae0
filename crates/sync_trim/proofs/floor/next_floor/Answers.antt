use Rattle.std.proofs.Common.{◌+◌, ◌<◌, ◌≤◌, drop, length, sym, subst, arith}
use Rattle.server_memory.specs.Kept.{parts}
use Rattle.sync_server.specs.Serving.{kept_of}
use Rattle.sync_trim.proofs.Floors.{Lowered, lowered_first, lowered_more}
use Rattle.sync_trim.proofs.Given.{ident_some, is_given}
use Rattle.sync_trim.proofs.floor.next_floor.Goals as goal

pub loop-place-init : goal.loop-place-init
loop-place-init g c =
    let kept = parts (kept_of c.args.server.now) in
    let above : kept.floor ≤ kept.floor + length kept.entries = omega arith in
    subst (λ n. Lowered kept.floor kept.len n kept.idents kept.idents) (sym c.len-next.ensures) (lowered_first kept.floor kept.len kept.idents above)

pub loop-place-preserved : goal.loop-place-preserved
loop-place-preserved g c =
    let kept = parts (kept_of c.args.server.now) in
    let place = c.loop-place.place in
    let within : place < length kept.idents = omega (arith, c.loop-place-test.true, c.idents-place-end.ensures) in
    let w = is_given kept.idents place within in
    lowered_more kept.floor kept.len c.loop-place.next w.0 (drop place kept.idents) (drop (place + 1) kept.idents) kept.idents c.lowered-next.result (ident_some kept.idents place w.0 w.1) (c.lowered-next.ensures w.0 w.1) c.loop-place.invariant
