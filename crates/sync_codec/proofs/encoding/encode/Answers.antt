use Rattle.std.proofs.Common.{subst, sym}
use Rattle.std.proofs.lemmas.List.Elements.{recursion_from_All}
use Rattle.std.proofs.lemmas.Result.{on_ok_weaker}
use Rattle.sync_data.specs.Payload.{IsSmall}
use Rattle.sync_codec.specs.Valid.{IsInstr, AreInstrs}
use Rattle.sync_codec.proofs.encoding.encode.Goals as goal

pub returns-clause-are : goal.returns-clause-are
returns-clause-are c =
    let is = c.instrs-instrs.result.now in
    let listed = c.instrs-instrs.ensures.listed in
    on_ok_weaker c.with_head.result (λ strings. subst AreInstrs listed (record {
      small = subst IsSmall (sym listed) c.instrs-instrs.ensures.small;
      each = recursion_from_All IsInstr is c.in_ok-instrs.ensures.are;
      strings = strings;
    })) c.with_head.ensures.strings
