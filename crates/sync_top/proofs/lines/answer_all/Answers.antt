use Rattle.std.proofs.Common.{◌≡◌, ◌+◌, ◌++◌, [], Ok, subst, sym, ap, arith}
use Rattle.std.specs.Option.{option_map}
use Rattle.sync_io.specs.Reading.{Gives}
use Rattle.sync_io.specs.Readers.{readings_of, AnswersLine, CountsLine, LineState}
use Rattle.sync_io.proofs.Inputs.{took_more}
use Rattle.sync_top.specs.Runs.{HasRun, Went, Answered, EndsAt, answer_to}
use Rattle.sync_top.proofs.RunLemmas.{took_none}
use Rattle.sync_top.proofs.Places.{AnsweredAll, EndsReading, line_ends_run, plus_one, read_ends, refused_reading, report_ends, went_on, went_start}
use Rattle.sync_top.proofs.lines.answer_all.Goals as goal

pub lines-init : goal.lines-init
lines-init g c = record {
  stands = λ s holds. ([], s, took_none _, went_start g.C.Command.answers g.C.Command.report (readings_of c.in-Ok.reader (g.S.Source.left c.args.source.now)) s, holds);
  counted = sym (ap (λ (r : LineState). r.lines) c.in-Ok.ensures);
  fresh = ap (λ (r : LineState). r.refused) c.in-Ok.ensures;
  source_faults = omega arith;
  sink_faults = omega arith;
}

pub returns-in-Ok-None-clause-run : goal.returns-in-Ok-None-clause-run
returns-in-Ok-None-clause-run g c s holds =
    let so_far = c.lines.invariant.stands s holds in
    let left = g.S.Source.left c.args.source.now in
    let before = readings_of c.lines.reader (g.S.Source.left c.lines.source) in
    let after = readings_of c.next.new.self (g.S.Source.left c.next.new.source) in
    let stands : g.C.Command.State → Type 0 = λ t. g.C.Command.holds t c.lines.command in
    let old = g.K.Sink.taken c.args.sink.now in
    let mid = g.K.Sink.taken c.lines.sink in
    let new = g.K.Sink.taken c.write_report.new.sink in
    let all : AnsweredAll g.C.Command.answers stands (readings_of c.in-Ok.reader left) s old mid = record {
      lines = c.lines.number;
      text = so_far.0;
      next = so_far.1;
      rest = before;
      went = so_far.3;
      at_end = (subst (λ o. AnswersLine (Ok o) before after) c.in-Ok-None.field-0-is (c.in-Ok-None.ensures.reads c.lines.invariant.fresh)).0;
      took = so_far.2;
      left = so_far.4;
    }
    in
    subst (λ (r : LineState). HasRun g.C.Command.answers g.C.Command.report stands c.write_report.result (readings_of r left) s old new) c.in-Ok.ensures
    (report_ends g.C.Command.answers g.C.Command.report stands c.write_report.result _ s old mid new all (c.write_report.ensures.follows all.next all.left) c.write_report.ensures.only)

pub returns-in-Err-next-clause-run : goal.returns-in-Err-next-clause-run
returns-in-Err-next-clause-run g c s holds =
    let so_far = c.lines.invariant.stands s holds in
    let left = g.S.Source.left c.args.source.now in
    let before = readings_of c.lines.reader (g.S.Source.left c.lines.source) in
    let after = readings_of c.next.new.self (g.S.Source.left c.next.new.source) in
    let stands : g.C.Command.State → Type 0 = λ t. g.C.Command.holds t c.lines.command in
    let old = g.K.Sink.taken c.args.sink.now in
    let sink = g.K.Sink.taken c.lines.sink in
    let refused = refused_reading c.in-Err-next.refusal (c.lines.number + 1) before after (c.in-Err-next.ensures.reads c.lines.invariant.fresh) in
    let ends = subst (λ status. EndsReading status (c.lines.number + 1) before) (sym c.read_status.ensures) refused in
    subst (λ (r : LineState). HasRun g.C.Command.answers g.C.Command.report stands c.read_status.result (readings_of r left) s old sink) c.in-Ok.ensures
    (read_ends g.C.Command.answers g.C.Command.report stands c.read_status.result c.lines.number _ before s so_far.1 so_far.0 _ sink so_far.3 so_far.2 ends so_far.4)

pub returns-in-Err-answer_line-clause-run : goal.returns-in-Err-answer_line-clause-run
returns-in-Err-answer_line-clause-run g c s holds =
    let so_far = c.lines.invariant.stands s holds in
    let all = g.S.Source.left c.args.source.now in
    let line = c.in-Ok-Some.line.items in
    let before = readings_of c.lines.reader (g.S.Source.left c.lines.source) in
    let after = readings_of c.next.new.self (g.S.Source.left c.next.new.source) in
    let first = g.K.Sink.taken c.args.sink.now in
    let old = g.K.Sink.taken c.lines.sink in
    let new = g.K.Sink.taken c.answer_line.new.sink in
    let left : g.C.Command.State → Type 0 = λ t. g.C.Command.holds t c.answer_line.new.command in
    let read : before ≡ option_map (Gives line) after = subst (λ o. AnswersLine (Ok o) before after) c.in-Ok-Some.field-0-is (c.in-Ok-Some.ensures.reads c.lines.invariant.fresh) in
    let ends : EndsAt c.in-Err-answer_line.status (c.lines.number + 1) so_far.1 (answer_to g.C.Command.answers so_far.1 (c.lines.number + 1) line) left old new =
    subst (λ l. EndsAt c.in-Err-answer_line.status (c.lines.number + 1) so_far.1 (answer_to g.C.Command.answers so_far.1 (c.lines.number + 1) l) left old new) c.deref.ensures.value (c.in-Err-answer_line.ensures.err so_far.1 so_far.4) in
    subst (λ (r : LineState). HasRun g.C.Command.answers g.C.Command.report left c.in-Err-answer_line.status (readings_of r all) s first new) c.in-Ok.ensures
    (line_ends_run g.C.Command.answers g.C.Command.report left c.in-Err-answer_line.status c.lines.number _ before after line s so_far.1 so_far.0 _ old new so_far.3 read so_far.2 ends)

pub lines-preserved : goal.lines-preserved
lines-preserved g c =
    let line = c.in-Ok-Some.line.items in
    let before = readings_of c.lines.reader (g.S.Source.left c.lines.source) in
    let after = readings_of c.next.new.self (g.S.Source.left c.next.new.source) in
    let read : before ≡ option_map (Gives line) after = subst (λ o. AnswersLine (Ok o) before after) c.in-Ok-Some.field-0-is (c.in-Ok-Some.ensures.reads c.lines.invariant.fresh) in
    let old = g.K.Sink.taken c.lines.sink in
    let new = g.K.Sink.taken c.answer_line.new.sink in
    let left : g.C.Command.State → Type 0 = λ t. g.C.Command.holds t c.answer_line.new.command in
    let counts = subst (λ o. CountsLine (Ok o) c.lines.reader.lines c.next.new.self.lines) c.in-Ok-Some.field-0-is (c.in-Ok-Some.ensures.counts c.lines.invariant.fresh) in
    record {
      stands = λ s holds.
          let so_far = c.lines.invariant.stands s holds in
          let answer : Answered (answer_to g.C.Command.answers so_far.1 (c.lines.number + 1) line) left old new =
          subst (λ l. Answered (answer_to g.C.Command.answers so_far.1 (c.lines.number + 1) l) left old new) c.deref.ensures.value (c.in-Ok-answer_line.ensures.ok so_far.1 so_far.4) in (
            so_far.0 ++ answer.0,
            answer.1,
            took_more so_far.0 answer.0 _ old new so_far.2 answer.3,
            subst (λ n. Went g.C.Command.answers n (readings_of c.in-Ok.reader (g.S.Source.left c.args.source.now)) s (so_far.0 ++ answer.0) answer.1 after) (sym (plus_one c.lines.number))
                (went_on g.C.Command.answers g.C.Command.report c.lines.number _ before after line s so_far.1 answer.1 so_far.0 answer.0 so_far.3 read answer.2),
            answer.4,
          );
      counted = omega (arith, counts.0);
      fresh = c.in-Ok-Some.ensures.ok.1;
      source_faults = omega arith;
      sink_faults = omega arith;
    }
