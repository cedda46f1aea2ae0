use Rattle.std.proofs.Common.{◌≡◌, ◌≤◌, true, List, length, map, sym, ◌∙◌, ap, arith}
use Rattle.byte_lists.specs.Parts.{part}
use Rattle.sync_journal.specs.Records.{reading}
use Rattle.sync_journal.specs.Records.Reading.{Good}
use Rattle.sync_journal.proofs.Reading.{small}
use Rattle.sync_journal.proofs.Crash.{stands_for}
use Rattle.sync_journal.proofs.opening.read_pieces.Goals as goal

pub returns-then-len-le-SMALL-clause-good : goal.returns-then-len-le-SMALL-clause-good
returns-then-len-le-SMALL-clause-good g c b told =
    let is_b = c.in_ok-bytes.ensures.bytes b told in
    let le : length b ≤ 9 = omega (arith, ap length is_b, c.if-len-le-SMALL.true, c.len.ensures) in
    small true b le ∙ ap Good (sym c.new.ensures)

pub returns-clause-good : goal.returns-clause-good
returns-clause-good g c b told =
    let read = c.deref.result.now in
    let parts = c.in_ok-parts.parts.items in
    let is_b : read ≡ b = c.deref.ensures.value ∙ c.in_ok-bytes.ensures.bytes b told in
    let same : c.of.result ≡ map (part read) parts = c.of.ensures ∙ ap (λ l. map (part l) parts) (sym c.deref.ensures.value) in
    ap (reading true) (sym is_b) ∙ stands_for true (map (part read) parts) c.in_ok-parts.field-0-1 read c.in_ok-parts.ensures.good ∙ ap Good (sym same)
