use Rattle.std.proofs.Common.{◌<◌, ◌≤◌, refl, length, arith}
use Rattle.std.proofs.lemmas.Option.{slice_get_read}
use Rattle.sum_list.specs.Blocks.{joined}
use Rattle.sum_list.proofs.Joined.{ends_last}
use Rattle.sum_list.proofs.blocks.seat_of.Goals as goal
use Rattle.sum_list.proofs.blocks.seat_of.Goals.{then-within-len-via-then-within-len, then-within-len-via-else-within-len+then-i-blocks}

pub returns-then-within-len : goal.returns-then-within-len
returns-then-within-len g c =
    let bs = c.args.blocks.now in let i = c.loop-i.i in let b = c.index-blocks-i.result in let low = c.loop-i-test.true in
    let len = c.len-len.ensures.len in let place = c.loop-i.invariant.place in let whole = c.requires.within in
    let ends : (c.loop-i.within ≤ length b) × (c.args.place < length (joined bs) → c.loop-i.within < length b) =
    elim c.then-within-len.branch [
      | then-within-len-via-then-within-len w ↦ let less = w.if-within-len.true in (omega arith, λ _. omega arith)
      | then-within-len-via-else-within-len+then-i-blocks w ↦
          let last = ends_last bs i b (omega (arith, w.if-i-blocks.true)) c.index-blocks-i.is in (omega arith, λ h. omega (arith, h))
    ] in
    record { block = b; is = slice_get_read bs (length bs) i b refl low c.index-blocks-i.is; place_is = place; ends = ends.0; within = ends.1 }
