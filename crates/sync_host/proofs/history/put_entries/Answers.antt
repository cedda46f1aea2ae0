use Rattle.std.proofs.Common.{◌+◌, ◌-◌, ◌≤◌, drop, sym, ap, ◌∙◌, arith}
use Rattle.std.specs.Option.{option_map}
use Rattle.sync_recip.specs.Lists.{entry_of}
use Rattle.server_memory.specs.Kept.{parts}
use Rattle.sync_server.specs.Serving.{kept_of}
use Rattle.sync_host.specs.Histories.{entry_told}
use Rattle.sync_host.proofs.Histories.{asked_for, ends_there, entry_there, goes_on, none_there}
use Rattle.sync_host.proofs.history.put_entries.Goals as goal

pub returns-then-left-eq0 : goal.returns-then-left-eq0
returns-then-left-eq0 g c = let kept = parts (kept_of c.args.server.now) in
    asked_for entry_told c.loop-next.out.items _ c.loop-next.left (drop (c.loop-next.next - kept.floor) kept.entries) (omega arith) c.loop-next.invariant

pub returns-in_default : goal.returns-in_default
returns-in_default g c =
    let kept = parts (kept_of c.args.server.now) in
    let next = c.loop-next.next in
    let above : kept.floor ≤ next = omega (arith, c.requires, c.loop-next.auto.next) in
    ends_there entry_told c.loop-next.out.items _ c.loop-next.left (drop (next - kept.floor) kept.entries)
    (none_there kept.floor next kept.entries above (sym (ap (option_map (λ e. entry_of e.now)) c.in_default.is) ∙ c.entry.ensures)) c.loop-next.invariant

pub loop-next-preserved : goal.loop-next-preserved
loop-next-preserved g c =
    let kept = parts (kept_of c.args.server.now) in
    let next = c.loop-next.next in
    let above : kept.floor ≤ next = omega (arith, c.requires, c.loop-next.auto.next) in
    goes_on entry_told c.loop-next.out.items c.put_entry.new.out.items _ c.loop-next.left (c.loop-next.left - 1) (drop (next - kept.floor) kept.entries) (drop (next + 1 - kept.floor) kept.entries) (entry_of c.in-Some.entry.now)
    (omega arith) (entry_there kept.floor next kept.entries (entry_of c.in-Some.entry.now) above (sym (ap (option_map (λ e. entry_of e.now)) c.in-Some.is) ∙ c.entry.ensures)) c.in_ok-put_entry.ensures c.loop-next.invariant
