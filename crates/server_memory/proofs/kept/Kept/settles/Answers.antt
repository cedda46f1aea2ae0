use Rattle.std.proofs.Common.{◌≡◌, ◌≤◌, Some, nat_lt, sym, ap, ◌∙◌, arith}
use Rattle.sync_model.specs.Parts.{at_ident}
use Rattle.sync_model.specs.Servers.{is_refusal}
use Rattle.server_memory.specs.Kept.{parts}
use Rattle.server_memory.proofs.Sending.{plain_reply, settles_as}
use Rattle.server_memory.proofs.kept.Kept.settles.Goals as goal

pub returns-in-Some : goal.returns-in-Some
returns-in-Some c =
    let idents = c.args.self.now.history.idents in
    let ask = c.args.ask.now in
    let g = c.in-Some.given.now in
    let here : at_ident ask.ident idents ≡ Some g = ap (λ n. at_ident n idents) (sym c.ident.ensures.value) ∙ sym c.in-Some.ensures.given in
    let within : ask.settled ≤ ask.cursor = omega (arith, c.cursor-cursor.ensures.value, c.cursor-cursor.ensures.settled) in
    record {
      given = λ e. (g, here);
      says = λ tables second e.
          settles_as (parts c.args.self.now) ask.ident ask.cursor ask.settled tables second g (nat_lt c.mark.result c.settled-settled.result) here (ap is_refusal (sym e) ∙ plain_reply c.args.reply.now c.in_default.not-Refused) within
          (λ i. nat_lt (c.mark.ensures i) (c.settled-settled.ensures.value i));
    }
