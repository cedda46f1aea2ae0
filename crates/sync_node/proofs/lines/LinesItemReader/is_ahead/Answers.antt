use Rattle.std.proofs.Common.{◌≡◌, ◌<◌, length, take, sym, ap, ◌∙◌, subst}
use Rattle.sync_io.specs.Reading.{feed_place}
use Rattle.sync_node.specs.Items.{is_blank}
use Rattle.sync_node.proofs.Items.{further_line, not_so}
use Rattle.sync_node.proofs.lines.LinesItemReader.is_ahead.Goals as goal

pub returns-in-Some : goal.returns-in-Some
returns-in-Some c = record {
  further = λ is left.
      let reader = c.args.self.now.reader in
      let line : c.in-Some.line.now ≡ take (feed_place reader.held) reader.held = c.in-Some.ensures.line in
      further_line c.args.self.now.count reader.taken reader.held left (subst (λ l. length l < length reader.held) line c.in-Some.ensures.whole)
      (ap is_blank (sym line) ∙ sym c.is_blank.ensures ∙ not_so c.is_blank.result is);
}
