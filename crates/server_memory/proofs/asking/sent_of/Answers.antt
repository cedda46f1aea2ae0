use Rattle.std.proofs.Common.{◌≡◌, ◌≤◌, false, length, sym, ap, ◌∙◌, arith}
use Rattle.std.specs.Prelude.{not, ◌&&◌}
use Rattle.sync_model.specs.Profile.{needs}
use Rattle.sync_exchange.specs.Profile.{the_profile}
use Rattle.server_memory.proofs.Sending.{not_asked, not_needed, sent_fits}
use Rattle.server_memory.proofs.asking.sent_of.Goals as goal
use Rattle.server_memory.proofs.asking.sent_of.Goals.{else-not-second-via-then-not-second+else-needs_second, else-not-second-via-else-not-second}

pub returns : goal.returns
returns c =
    let v = c.args.changes.now in
    let body = c.in_ok-body.ensures.equal ∙ c.deref.ensures.value in
    let small : length c.in_ok-body.body ≤ c.args.room = omega (arith, ap length body, c.len.ensures, c.in-Ok.body.ok.0, c.if-len-room.false) in
    let shown : (not c.args.second && needs the_profile v.instrs) ≡ false =
    elim c.else-not-second.branch [
      | else-not-second-via-then-not-second+else-needs_second w ↦ not_needed c.args.second (needs the_profile v.instrs) (ap (needs the_profile) (sym w.instrs.ensures.listed) ∙ sym w.needs_second.ensures ∙ w.if-needs_second.false)
      | else-not-second-via-else-not-second w ↦ not_asked c.args.second (needs the_profile v.instrs) w.if-not-second.false
    ]
    in
    sent_fits c.args.second c.args.room c.args.origin c.args.number v c.new-2.result c.ms.result c.in_ok-body.body c.new-2.ensures c.ms.ensures (body ∙ c.in-Ok.ensures.spelled) small shown
