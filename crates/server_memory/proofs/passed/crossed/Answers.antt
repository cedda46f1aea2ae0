use Rattle.std.proofs.Common.{◌≤◌, ◌-◌, map, sym, ◌∙◌, arith}
use Rattle.sync_exchange.specs.Profile.{the_profile}
use Rattle.sync_recip.specs.Lists.{entry_of}
use Rattle.server_memory.specs.Crossing.{past_seen}
use Rattle.server_memory.proofs.NextRecords.{told_same}
use Rattle.server_memory.proofs.Passing.{crosses_as, found_at}
use Rattle.server_memory.proofs.passed.crossed.Goals as goal

pub returns-in-Ok-true : goal.returns-in-Ok-true
returns-in-Ok-true c =
    let xs = map entry_of c.args.entries.now in
    let e = past_seen c.args.head c.args.body.now in
    let old = c.entry-entry.result.now in
    let above : c.args.floor ≤ e.version = omega (arith, c.if-head-floor.false) in
    let is = found_at c.args.entries.now (e.version - c.args.floor) c.get.result c.in-Some-get.shared old c.in-Some-get.is c.entry-entry.ensures c.get.ensures.lookup.0 c.get.ensures.lookup.1 in
    crosses_as c.args.second c.args.floor c.args.idents.now xs e c.in-Some.given.now (sym c.in-Some.ensures) old is above (sym c.crosses.ensures ∙ c.if-not-crosses.false) (sym c.in-Ok-true.ensures ∙ c.in-Ok-true.field-0-test) c.replaced.result c.replaced.ensures.listed c.replaced.ensures.same c.replaced.ensures.small

pub returns-in-Ok-false : goal.returns-in-Ok-false
returns-in-Ok-false c =
    let xs = map entry_of c.args.entries.now in
    let e = past_seen c.args.head c.args.body.now in
    let old = c.entry-entry.result.now in
    let above : c.args.floor ≤ e.version = omega (arith, c.if-head-floor.false) in
    let is = found_at c.args.entries.now (e.version - c.args.floor) c.get.result c.in-Some-get.shared old c.in-Some-get.is c.entry-entry.ensures c.get.ensures.lookup.0 c.get.ensures.lookup.1 in
    told_same the_profile c.args.second c.args.idents.now c.args.floor xs e c.in-Some.given.now (sym c.in-Some.ensures) (entry_of old) is above (sym c.crosses.ensures ∙ c.if-not-crosses.false) (sym c.in-Ok-false.ensures ∙ c.in-Ok-false.field-0-test)
