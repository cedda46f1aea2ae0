use Rattle.std.proofs.Common.{[], ◌∷◌, ◌++◌, length, refl, sym, ◌∙◌, ap, subst, arith, length-append}
use Rattle.sync_exchange.specs.Seen.{message_seen}
use Rattle.sync_world.specs.Messages.{AreSpelled, IsSpelled}
use Rattle.sync_world.proofs.Spelled.{same_many, spelled_more}
use Rattle.sync_world.proofs.messages.keep.Goals as goal

pub returns-in-Ok-clause-number : goal.returns-in-Ok-clause-number
returns-in-Ok-clause-number c ms all =
    let old = c.args.made.now in
    let bytes = c.as_slice.result.now in
    omega (arith, c.len.ensures, ap length c.in-Ok.ensures.ok, length-append old (bytes ∷ []), same_many ms old all)

pub returns-in-Ok-clause-kept : goal.returns-in-Ok-clause-kept
returns-in-Ok-clause-kept c ms all =
    let old = c.args.made.now in
    let bytes = c.as_slice.result.now in
    let one : IsSpelled (message_seen c.args.message.now) bytes = record { message = c.args.message.now; is = c.in_ok-bytes.ensures.is; spelled = c.as_slice.ensures.value ∙ c.in_ok-bytes.ensures.spelled; seen = refl } in
    subst (AreSpelled (ms ++ message_seen c.args.message.now ∷ [])) (sym c.in-Ok.ensures.ok)
    (spelled_more ms old (message_seen c.args.message.now) bytes all one)
