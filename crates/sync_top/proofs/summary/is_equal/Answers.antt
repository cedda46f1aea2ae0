use Rattle.std.proofs.Common.{◌≡◌, ◌==◌, ◌&&◌, Bool, ℕ, List, ap, ◌∙◌}
use Rattle.std.specs.Str.{bytes_eq}
use Rattle.sync_base.specs.States.{State}
use Rattle.sync_data.specs.declared.instr.Instr.{Instr}
use Rattle.sync_dump.specs.Dump.{dump}
use Rattle.sync_model.specs.Parts.{Parts}
use Rattle.server_memory.specs.Kept.{parts}
use Rattle.sync_server.specs.Serving.{kept_of}
use Rattle.sync_top.specs.Summaries.{history_in}
use Rattle.sync_top.proofs.Summing.{compared, not_there}
use Rattle.sync_top.proofs.summary.is_equal.Goals as goal

pub returns-in-None : goal.returns-in-None
returns-in-None c = λ w h is. not_there w c.args.name.now (c.in-None.ensures.none w h)

pub returns : goal.returns
unfolding history_in
returns c = λ w h same.
    let cursor = c.cursor.result in
    let unsent = c.unsent-sent.result in
    let own = c.as_slice.result.now in
    let long : c.len.result ≡ history_in w = c.len.ensures ∙ ap (λ (kept : Parts Instr State). kept.len) (c.servers_keep.ensures w (parts (kept_of c.server.result.now)) h.reached (c.server.ensures.server w h).gives) in
    ap (λ (k : ℕ). ((cursor == k) && (unsent == 0)) && c.eq-same.result) long
    ∙ ap (λ (b : Bool). ((cursor == history_in w) && (unsent == 0)) && b) (c.eq-same.ensures ∙ ap (λ (t : List ℕ). bytes_eq own t) same)
    ∙ compared w c.args.name.now c.in-Some.client.now cursor unsent own (c.in-Some.ensures.some w h) c.cursor.ensures c.unsent-sent.ensures (λ records k. c.as_slice.ensures.value ∙ c.in_ok-own.ensures ∙ ap dump (c.objects.ensures records k))
