use Rattle.std.proofs.Common.{◌+◌, ◌-◌, ◌≤◌, ◌∷◌, ◌++◌, map, drop, sym, ap, ◌∙◌, arith}
use Rattle.std.specs.Option.{option_map}
use Rattle.sync_recip.specs.Lists.{entry_of}
use Rattle.sync_model.specs.Servers as model
use Rattle.sync_model.specs.Trimmed.{entry_records}
use Rattle.sync_exchange.specs.Profile.{the_profile}
use Rattle.sync_exchange.specs.Seen.{server_seen}
use Rattle.server_memory.specs.Kept.{parts}
use Rattle.sync_server.specs.Serving.{kept_of}
use Rattle.sync_trim.proofs.Pieces.{no_more, one_more}
use Rattle.sync_trim.proofs.Versions.{item_none, item_some, no_bases, no_entries}
use Rattle.sync_trim.proofs.history.put_entries.Goals as goal

pub returns-in_default : goal.returns-in_default
returns-in_default g c =
    let kept = parts (kept_of c.args.server.now) in
    let version = c.loop-version.version in
    let above : kept.floor ≤ version = omega (arith, c.requires.above, c.loop-version.auto.version) in
    let entries = drop (version - kept.floor) kept.entries in
    let bases = drop (version - kept.floor) kept.bases in
    no_more (map server_seen c.loop-version.records.items) (entry_records the_profile entries bases) _
    (no_bases entries bases (item_none kept.floor version kept.bases above (sym c.in_default.is-1 ∙ c.base_of.ensures)))
    c.loop-version.invariant

pub returns-in_default-2 : goal.returns-in_default-2
returns-in_default-2 g c =
    let kept = parts (kept_of c.args.server.now) in
    let version = c.loop-version.version in
    let above : kept.floor ≤ version = omega (arith, c.requires.above, c.loop-version.auto.version) in
    let entries = drop (version - kept.floor) kept.entries in
    let bases = drop (version - kept.floor) kept.bases in
    no_more (map server_seen c.loop-version.records.items) (entry_records the_profile entries bases) _
    (no_entries entries bases (item_none kept.floor version kept.entries above (sym (ap (option_map (λ e. entry_of e.now)) c.in_default.is-0) ∙ c.entry.ensures)))
    c.loop-version.invariant

pub loop-version-preserved : goal.loop-version-preserved
loop-version-preserved g c =
    let kept = parts (kept_of c.args.server.now) in
    let version = c.loop-version.version in
    let above : kept.floor ≤ version = omega (arith, c.requires.above, c.loop-version.auto.version) in
    let entry = c.in-Some-Some.entry.now in
    let base = c.in-Some-Some.base in
    let left = entry_records the_profile (drop (version + 1 - kept.floor) kept.entries) (drop (version + 1 - kept.floor) kept.bases) in
    let e = item_some kept.floor version kept.entries (entry_of entry) above (sym (ap (option_map (λ e. entry_of e.now)) c.in-Some-Some.is-0) ∙ c.entry.ensures) in
    let b = item_some kept.floor version kept.bases base above (sym c.in-Some-Some.is-1 ∙ c.base_of.ensures) in
    one_more server_seen c.loop-version.records.items c.put.new.list.items _ left c.in_ok-put.ensures
    ∙ ap (λ l. map server_seen c.loop-version.records.items ++ l)
    ((λ i. model.Carried entry.origin entry.number base (c.ms.ensures i) (c.in_ok-body.ensures i) ∷ left)
    ∙ sym (λ i. entry_records the_profile (e i) (b i)))
    ∙ c.loop-version.invariant
