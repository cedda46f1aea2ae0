use Rattle.std.proofs.Common.{ap, subst}
use Rattle.sync_codec.specs.Decoding.{Refuses, bad_bytes, instrs_in}
use Rattle.sync_model.specs.Servers.{BadBytes}
use Rattle.sync_exchange.specs.Lemmas.Lawful.{instrs_small, reads, faults}
use Rattle.server_memory.proofs.merging.read.Goals as goal

pub returns-in-Ok : goal.returns-in-Ok
returns-in-Ok c =
    let found = c.in-Ok.ensures.found in
    (found.0, reads c.args.body.now c.in-Ok.changes.instrs found.1 found.2, instrs_small c.in-Ok.changes.instrs found.1)

pub returns-in-Err-Bad : goal.returns-in-Err-Bad
returns-in-Err-Bad c =
    let bytes = c.args.body.now in
    let bad = subst (λ e. Refuses bytes e (instrs_in bytes)) c.in-Err-Bad.field-0-is c.in-Err-Bad.ensures.exact in
    (((bad_bytes bytes bad.0).offset, (bad_bytes bytes bad.0).rule), faults bytes bad.0 bad.1, ap (λ b. BadBytes b.offset b.rule) bad.2)
