use Rattle.std.proofs.Common.{◌<◌, length, sym, ap, ◌∙◌, subst, arith}
use Rattle.sync_model.specs.Clients.{Unsent}
use Rattle.sync_data.specs.declared.instr.Instr.{Instr}
use Rattle.sync_rivals.specs.Lists.{StandsAt}
use Rattle.sync_rivals.proofs.Listed.{stands_at}
use Rattle.sync_rebase.specs.Settling.{currents}
use Rattle.sync_rebase.proofs.Places.{element}
use Rattle.sync_rebase.proofs.list.PendingList.list_more.Goals as goal

pub loop-preserved : goal.loop-preserved
loop-preserved c =
    let us = c.loop.self-inside.items in
    let size = ap length (c.loop.invariant.same ∙ sym c.self.view_is) in
    let within : c.listed-place.result < length us = omega (arith, c.if-place-count.false, c.len-count.ensures, size) in
    let u = element us c.listed-place.result within in
    let at = stands_at (λ (u : Unsent Instr). u.current) us c.listed-place.result u.0 within u.1 in
    record {
      same = c.loop.invariant.same;
      listed = c.list.ensures u.0.current (currents us) (c.listed-in-loop.ensures u.0.current at) c.loop.invariant.listed (subst (λ n. StandsAt n u.0.current (currents us)) c.listed-place.ensures at);
    }
