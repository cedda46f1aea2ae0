use Rattle.std.proofs.Common.{◌+◌, ◌/◌, ◌%◌, ◌++◌, ◌∷◌, List, ℕ, [], ◌∙◌, ap, sym, append_assoc, arith}
use Rattle.sync_io.specs.Varints.{varint}
use Rattle.sync_io.specs.VarintLaws.{varint_small, varint_large}
use Rattle.sync_io.proofs.varint.put_varint64.Goals as goal

pub bytes-preserved : goal.bytes-preserved
bytes-preserved c =
    let n = c.bytes.rest in
    ap (λ (t : List ℕ). t ++ varint (n / 128)) c.in_ok-push.ensures.items
    ∙ append_assoc c.bytes.out.items ((128 + n % 128) ∷ []) (varint (n / 128))
    ∙ ap (λ (t : List ℕ). c.bytes.out.items ++ t) (sym (varint_large n c.bytes-test.true))
    ∙ c.bytes.invariant

pub returns : goal.returns
returns c =
    c.in_ok-push-2.ensures.items
    ∙ ap (λ (t : List ℕ). c.bytes.out.items ++ t) (sym (varint_small c.bytes.rest (omega (arith, c.bytes-test.false))))
    ∙ c.bytes.invariant
