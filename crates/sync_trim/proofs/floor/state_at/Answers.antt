use Rattle.std.proofs.Common.{◌+◌, ◌-◌, ◌≤◌, Err, drop, sym, ap, ◌∙◌, subst}
use Rattle.std.specs.Option.{option_map}
use Rattle.sync_recip.specs.Lists.{entry_of}
use Rattle.sync_store.specs.Applying.{AppliesAll}
use Rattle.sync_store.specs.declared.refusals.AllRefusal.{AllRefusal}
use Rattle.server_memory.specs.Kept.{parts}
use Rattle.sync_server.specs.Serving.{kept_of}
use Rattle.sync_trim.proofs.States.{acts_on, none_left, stops_at}
use Rattle.sync_trim.proofs.Versions.{item_none, item_some}
use Rattle.sync_trim.proofs.floor.state_at.Goals as goal

pub returns-in_default : goal.returns-in_default
returns-in_default g c =
    let kept = parts (kept_of c.args.server.now) in
    let next = c.loop-next.next in
    let above : kept.floor ≤ next = subst (λ n. n ≤ next) c.floor-next.ensures c.loop-next.auto.next in
    none_left kept.below (c.args.version - next) (drop (next - kept.floor) kept.entries) c.loop-next.objects
    (item_none kept.floor next kept.entries above (sym (ap (option_map (λ e. entry_of e.now)) c.in_default.is) ∙ c.entry.ensures))
    ∙ c.loop-next.invariant

pub returns-in-Err-Break : goal.returns-in-Err-Break
returns-in-Err-Break g c =
    let kept = parts (kept_of c.args.server.now) in
    let next = c.loop-next.next in
    let above : kept.floor ≤ next = subst (λ n. n ≤ next) c.floor-next.ensures c.loop-next.auto.next in
    let entry = c.in-Some.entry.now in
    let here = item_some kept.floor next kept.entries (entry_of entry) above (sym (ap (option_map (λ e. entry_of e.now)) c.in-Some.is) ∙ c.entry.ensures) in
    let broken = subst (λ (e : AllRefusal). AppliesAll (Err e) entry.changes.instrs c.loop-next.objects c.apply_all.new.self) c.in-Err-Break.field-0-is c.in-Err-Break.ensures.applied in
    c.in_ok-unchanged-in-Err-Break.ensures ∙ c.floor_objects-below.ensures
    ∙ stops_at kept.below c.args.version next (drop (next - kept.floor) kept.entries) (drop (next + 1 - kept.floor) kept.entries) (entry_of entry) c.loop-next.objects _ c.loop-next-test.true here broken.0
    ∙ c.loop-next.invariant

pub loop-next-preserved : goal.loop-next-preserved
loop-next-preserved g c =
    let kept = parts (kept_of c.args.server.now) in
    let next = c.loop-next.next in
    let above : kept.floor ≤ next = subst (λ n. n ≤ next) c.floor-next.ensures c.loop-next.auto.next in
    let entry = c.in-Some.entry.now in
    let here = item_some kept.floor next kept.entries (entry_of entry) above (sym (ap (option_map (λ e. entry_of e.now)) c.in-Some.is) ∙ c.entry.ensures) in
    acts_on kept.below c.args.version next (drop (next - kept.floor) kept.entries) (drop (next + 1 - kept.floor) kept.entries) (entry_of entry) c.loop-next.objects c.apply_all.new.self c.loop-next-test.true here c.in-Ok.ensures.applied
    ∙ c.loop-next.invariant
