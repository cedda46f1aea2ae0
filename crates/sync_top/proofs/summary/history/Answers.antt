use Rattle.std.proofs.Common.{ap, ◌∙◌}
use Rattle.sync_base.specs.States.{State}
use Rattle.sync_data.specs.declared.instr.Instr.{Instr}
use Rattle.sync_model.specs.Parts.{Parts}
use Rattle.server_memory.specs.Kept.{parts}
use Rattle.sync_server.specs.Serving.{kept_of}
use Rattle.sync_top.specs.Summaries.{history_in}
use Rattle.sync_top.proofs.summary.history.Goals as goal

pub returns : goal.returns
unfolding history_in
returns c = λ w h.
    c.len.ensures
    ∙ ap (λ (kept : Parts Instr State). kept.len) (c.servers_keep.ensures w (parts (kept_of c.server.result.now)) h.reached (c.server.ensures.server w h).gives)
