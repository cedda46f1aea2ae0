use Rattle.std.proofs.Common.{◌++◌, ◌-◌, sym, ap, ◌∙◌, arith}
use Rattle.sync_recip.specs.Lists.{entry_of}
use Rattle.server_memory.specs.Kept.{parts}
use Rattle.sync_server.specs.Serving.{kept_of}
use Rattle.sync_words.specs.Reports.{entries_text}
use Rattle.sync_words.proofs.Entries.{item_is, no_gap, one_put}
use Rattle.sync_words.proofs.report.put_entries.Goals as goal
use Rattle.sync_words.proofs.report.put_entries.Goals.{in-Some+in_ok-put_entry, in_default}

pub loop-version-preserved : goal.loop-version-preserved
loop-version-preserved g c =
    let all = (parts (kept_of c.args.server.now)).entries in
    let f = (parts (kept_of c.args.server.now)).floor in
    let le = c.loop-version.invariant.0 in
    elim c.match-entry.branch [
      | in-Some+in_ok-put_entry w ↦ (omega (arith, le), one_put all f c.loop-version.version (entry_of w.in-Some.entry.now) c.loop-version.out.items c.match-entry.out.items (c.args.out.now.items ++ entries_text f all) le (sym (item_is f c.loop-version.version all le) ∙ sym w.in-Some.ensures) (ap (λ o. o.items) w.out-is ∙ w.in_ok-put_entry.ensures) c.loop-version.invariant.1)
      | in_default w ↦ absurd (no_gap all (c.loop-version.version - f) (sym (item_is f c.loop-version.version all le) ∙ sym w.in_default.ensures) (let t = c.loop-version-test.true in let e = c.len-version-end.ensures in omega (arith, t, e, le)))
    ]
