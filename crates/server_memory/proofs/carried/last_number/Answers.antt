use Rattle.std.proofs.Common.{◌-◌, length, refl, sym, ◌∙◌}
use Rattle.server_memory.proofs.Entering.{here_as, last_found, last_further}
use Rattle.server_memory.proofs.carried.last_number.Goals as goal

pub returns-then-entry-origin : goal.returns-then-entry-origin
returns-then-entry-origin c =
    let es = c.args.entries.now in
    let e = c.entry-entry.result.now in
    let behind = c.loop-behind.behind in
    let here = here_as es (length es - 1 - behind) (length es - 1 - behind) c.index-entries-count.result e c.entry-entry.ensures refl c.index-entries-count.is in
    sym (c.loop-behind.invariant ∙ last_found c.args.origin es behind e c.loop-behind-test.true here c.if-entry-origin.true)

pub loop-behind-preserved : goal.loop-behind-preserved
loop-behind-preserved c =
    let es = c.args.entries.now in
    let e = c.entry-entry.result.now in
    let behind = c.loop-behind.behind in
    let here = here_as es (length es - 1 - behind) (length es - 1 - behind) c.index-entries-count.result e c.entry-entry.ensures refl c.index-entries-count.is in
    c.loop-behind.invariant ∙ last_further c.args.origin es behind e c.loop-behind-test.true here c.if-entry-origin.false
