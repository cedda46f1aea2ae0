use Rattle.std.proofs.Common.{ap, ◌∙◌}
use Rattle.sync_base.specs.States.{State}
use Rattle.sync_data.specs.declared.instr.Instr.{Instr}
use Rattle.sync_dump.specs.Dump.{dump}
use Rattle.sync_model.specs.Parts.{Parts}
use Rattle.server_memory.specs.Kept.{parts}
use Rattle.sync_server.specs.Serving.{kept_of}
use Rattle.sync_top.specs.Summaries.{server_dump}
use Rattle.sync_top.proofs.summary.equal_clients.Goals as goal

pub returns : goal.returns
unfolding server_dump
returns c = λ w h. c.equal_among.ensures w h (c.deref.ensures.value ∙ c.in_ok-dump.ensures ∙ ap dump (c.objects.ensures ∙ ap (λ (kept : Parts Instr State). kept.objects) (c.servers_keep.ensures w (parts (kept_of c.server.result.now)) h.reached (c.server.ensures.server w h).gives)))
