use Rattle.std.proofs.Common.{◌≡◌, ◌++◌, length, ap, sym, subst, ◌∙◌, arith}
use Rattle.byteorder.specs.Endian.{big_bytes}
use Rattle.sync_messages.specs.Spelling.{message_spelling}
use Rattle.sync_node.specs.Frames.{framed}
use Rattle.sync_node.proofs.Lengths.{message_back, message_short}
use Rattle.sync_node.proofs.frame.frame_of.Goals as goal

pub overflow_cast-len : goal.overflow_cast-len
overflow_cast-len c =
    let short = message_short c.args.message.now c.in_ok-bytes.ensures.is in
    let spelled = ap length c.in_ok-bytes.ensures.spelled in
    omega (arith, short, spelled, c.len.ensures, c.in_ok-bytes.bytes.ok.0)

pub returns : goal.returns
returns c =
    let m = c.args.message.now in
    let spelled = c.in_ok-bytes.ensures.spelled in
    let bytes = c.deref.ensures.value ∙ spelled in
    let long : c.len.result ≡ length (message_spelling m) = omega (arith, ap length spelled, c.len.ensures, c.in_ok-bytes.bytes.ok.0) in
    let whole = c.in_ok-put-2.ensures ∙ ap (λ l. l ++ c.deref.result.now) (c.in_ok-put.ensures ∙ ap (λ l. l ++ c.write_u32.new.buf) c.new-out.ensures.items ∙ c.write_u32.ensures)
    ∙ ap (λ l. big_bytes 4 c.len.result ++ l) bytes ∙ ap (λ n. big_bytes 4 n ++ message_spelling m) long in
    subst (λ k. c.put-2.new.out.items ≡ framed (message_spelling k)) (sym (message_back m c.in_ok-bytes.ensures.is)) whole
