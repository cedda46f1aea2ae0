use Rattle.std.proofs.Common.{◌≡◌, ◌+◌, ◌<◌, [], Err, ◌∙◌, ap, sym, subst, drop, length, arith}
use Rattle.std.specs.Option.{option_map, IfSome}
use Rattle.sync_io.specs.Reading.{Ends, Gives, AtEnd, AtLimit, reading_of}
use Rattle.sync_io.specs.Intakes.{Taken}
use Rattle.sync_io.specs.Readers.{readings, readings_of, LineState, AnswersLine, CountsLine}
use Rattle.sync_io.specs.Found.{FindsEnd, KeepsInput}
use Rattle.sync_io.specs.Input.{input_of}
use Rattle.sync_io.proofs.Lines.{readings_to_feed, readings_end, readings_last, readings_full, refused_reads, refused_counts, empty_of_length}
use Rattle.std.proofs.lemmas.List.{take_all, drop_all}
use Rattle.sync_io.proofs.line_reader.LineReader.read_line.Goals as goal

pub returns-then-count-eq0-clause-reads : goal.returns-then-count-eq0-clause-reads
returns-then-count-eq0-clause-reads g c =
    let now = c.find_end.new.intake in
    let found = rw c.in-Ok-End.field-0-is at c.in-Ok-End.ensures.found in
    let empty : now.held ≡ [] = empty_of_length now.held (sym (ap length c.held-count.ensures.held) ∙ c.if-count-eq0.true) in
    let same = ap (option_map reading_of) c.in-Ok-End.ensures.same ∙ ap (λ (r : LineState). readings_of r (g.S.Source.left c.args.source.now)) c.self.view_is in
    (subst (λ o. IfSome o (λ reading. reading ≡ Ends AtEnd)) same (readings_end now.taken now.held _ empty found.2 found.3), same)

pub returns-in_ok-line-in-Ok-Feed-clause-reads : goal.returns-in_ok-line-in-Ok-Feed-clause-reads
returns-in_ok-line-in-Ok-Feed-clause-reads g c =
    let now = c.find_end.new.intake in
    let left = g.S.Source.left c.find_end.new.source in
    let found = rw c.in-Ok-Feed.field-0-is at c.in-Ok-Feed.ensures.found in
    let same = ap (option_map reading_of) c.in-Ok-Feed.ensures.same ∙ ap (λ (r : LineState). readings_of r (g.S.Source.left c.args.source.now)) c.self.view_is in
    sym same ∙ readings_to_feed now.taken now.held left c.in-Ok-Feed.place found.0 found.1 found.2
    ∙ ap (λ l. option_map (Gives l) (readings now.taken (drop (c.in-Ok-Feed.place + 1) now.held) left)) (sym c.in_ok-line-in-Ok-Feed.ensures.line)
    ∙ ap (λ (t : Taken). option_map (Gives c.in_ok-line-in-Ok-Feed.line.items) (readings t.taken t.held left)) (sym c.in_ok-line-in-Ok-Feed.ensures.rest)

pub returns-in_ok-line-in-Ok-End-clause-reads : goal.returns-in_ok-line-in-Ok-End-clause-reads
returns-in_ok-line-in-Ok-End-clause-reads g c =
    let now = c.find_end.new.intake in
    let left = g.S.Source.left c.find_end.new.source in
    let found = rw c.in-Ok-End.field-0-is at c.in-Ok-End.ensures.found in
    let count : length c.held-count.result.now ≡ length now.held = ap length c.held-count.ensures.held in
    let some : 0 < length now.held = omega arith in
    let same = ap (option_map reading_of) c.in-Ok-End.ensures.same ∙ ap (λ (r : LineState). readings_of r (g.S.Source.left c.args.source.now)) c.self.view_is in
    let rest : drop (length c.held-count.result.now + 0) now.held ≡ [] = ap (λ n. drop n now.held) (let e : length c.held-count.result.now + 0 ≡ length now.held = omega arith in e) ∙ drop_all _ now.held (omega arith) in
    let line : now.held ≡ c.in_ok-line-in-Ok-End.line.items = sym (c.in_ok-line-in-Ok-End.ensures.line ∙ take_all _ now.held (omega arith)) in
    sym same ∙ readings_last now.taken now.held _ left found.0 some found.1 found.2 found.3 rest
    ∙ ap (λ l. option_map (Gives l) (readings now.taken (drop (length c.held-count.result.now + 0) now.held) left)) line
    ∙ ap (λ (t : Taken). option_map (Gives c.in_ok-line-in-Ok-End.line.items) (readings t.taken t.held left)) (sym c.in_ok-line-in-Ok-End.ensures.rest)

pub returns-in-Ok-Full-clause-reads : goal.returns-in-Ok-Full-clause-reads
returns-in-Ok-Full-clause-reads g c =
    let now = c.find_end.new.intake in
    let found = rw c.in-Ok-Full.field-0-is at c.in-Ok-Full.ensures.found in
    let same = ap (option_map reading_of) c.in-Ok-Full.ensures.same ∙ ap (λ (r : LineState). readings_of r (g.S.Source.left c.args.source.now)) c.self.view_is in
    subst (λ o. IfSome o (λ reading. reading ≡ Ends AtLimit)) same (readings_full now.taken now.held _ found.0 found.1 found.2)

pub returns-in-Err-clause-reads : goal.returns-in-Err-clause-reads
returns-in-Err-clause-reads g c =
    let now = c.find_end.new.intake in
    let left = g.S.Source.left c.find_end.new.source in
    let before = input_of c.self.inside.intake.taken c.self.inside.intake.held (g.S.Source.left c.args.source.now) in
    let found = subst (λ r. FindsEnd r now left) c.in-Err.is c.find_end.ensures.found in
    let same = subst (λ r. KeepsInput r before (input_of now.taken now.held left)) c.in-Err.is c.find_end.ensures.same in
    subst (λ (r : LineState). AnswersLine (Err c.in-Err.refusal) (readings_of r (g.S.Source.left c.args.source.now)) (readings now.taken now.held left)) c.self.view_is
    (refused_reads c.in-Err.refusal now left before (readings now.taken now.held left) found same)

pub returns-in-Err-clause-counts : goal.returns-in-Err-clause-counts
returns-in-Err-clause-counts g c =
    let now = c.find_end.new.intake in
    let left = g.S.Source.left c.find_end.new.source in
    let found = subst (λ r. FindsEnd r now left) c.in-Err.is c.find_end.ensures.found in
    subst (λ (r : LineState). CountsLine (Err c.in-Err.refusal) r.lines c.self.inside.lines) c.self.view_is
    (refused_counts c.in-Err.refusal now left c.self.inside.lines found (omega (arith, c.self.invariant, c.find_end.ensures.counted)) c.find_end.ensures.most)
