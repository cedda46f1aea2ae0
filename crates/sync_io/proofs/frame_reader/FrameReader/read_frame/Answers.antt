use Rattle.std.proofs.Common.{◌≡◌, ◌+◌, Err, ◌∙◌, ap, sym, subst, drop, length, arith, length-drop}
use Rattle.std.specs.Option.{option_map, IfSome}
use Rattle.sync_io.specs.Intakes.{Taken}
use Rattle.sync_io.specs.Framing.{Ends, Gives, AtEnd, AtCut, AtLimit, framing_of}
use Rattle.sync_io.specs.FrameReaders.{framings, framings_of, FrameState, AnswersFrame, FindsFrame}
use Rattle.sync_io.specs.Found.{KeepsInput}
use Rattle.sync_io.specs.Input.{input_of}
use Rattle.sync_io.proofs.Frames.{whole_within, framings_whole, framings_end, framings_full, framings_end_of, framings_cut_of, refused_frames}
use Rattle.sync_io.proofs.frame_reader.FrameReader.read_frame.Goals as goal

pub take_frame-requires : goal.take_frame-requires
take_frame-requires g c =
    let found = rw c.in-Ok-Frame.field-0-is at c.in-Ok-Frame.ensures.found in
    whole_within c.find_frame.new.intake.held c.in-Ok-Frame.size found

pub invariant_of-self-in-Ok-Frame : goal.invariant_of-self-in-Ok-Frame
invariant_of-self-in-Ok-Frame g c =
    let now = c.find_frame.new.intake in
    let found = rw c.in-Ok-Frame.field-0-is at c.in-Ok-Frame.ensures.found in
    let within = whole_within now.held c.in-Ok-Frame.size found in
    let held : length c.take_frame.new.intake.held ≡ length (drop (4 + c.in-Ok-Frame.size) now.held) = ap (λ (t : Taken). length t.held) c.in_ok-frame-in-Ok-Frame.ensures.rest in
    let taken : c.take_frame.new.intake.taken ≡ now.taken = ap (λ (t : Taken). t.taken) c.in_ok-frame-in-Ok-Frame.ensures.rest in
    record {
      fewer = omega (arith, held, taken, length-drop (4 + c.in-Ok-Frame.size) now.held, c.find_frame.ensures.counted, c.self.invariant);
      most = c.take_frame.ensures.most;
    }

pub returns-in_ok-frame-in-Ok-Frame-clause-few : goal.returns-in_ok-frame-in-Ok-Frame-clause-few
returns-in_ok-frame-in-Ok-Frame-clause-few g c =
    let now = c.find_frame.new.intake in
    let found = rw c.in-Ok-Frame.field-0-is at c.in-Ok-Frame.ensures.found in
    omega (arith, whole_within now.held c.in-Ok-Frame.size found, c.find_frame.ensures.counted, c.find_frame.ensures.most, c.self.invariant)

pub returns-in_ok-frame-in-Ok-Frame-clause-reads : goal.returns-in_ok-frame-in-Ok-Frame-clause-reads
returns-in_ok-frame-in-Ok-Frame-clause-reads g c =
    let now = c.find_frame.new.intake in
    let left = g.S.Source.left c.find_frame.new.source in
    let size = c.in-Ok-Frame.size in
    let found = rw c.in-Ok-Frame.field-0-is at c.in-Ok-Frame.ensures.found in
    let same = ap (option_map framing_of) c.in-Ok-Frame.ensures.same ∙ ap (λ (r : FrameState). framings_of r (g.S.Source.left c.args.source.now)) c.self.view_is in
    sym same ∙ framings_whole now.taken now.held left size found
    ∙ ap (λ l. option_map (Gives l) (framings now.taken (drop (4 + size) now.held) left)) (sym c.in_ok-frame-in-Ok-Frame.ensures.frame)
    ∙ ap (λ (t : Taken). option_map (Gives c.in_ok-frame-in-Ok-Frame.frame.items) (framings t.taken t.held left)) (sym c.in_ok-frame-in-Ok-Frame.ensures.rest)

pub returns-in-Ok-Full-clause-reads : goal.returns-in-Ok-Full-clause-reads
returns-in-Ok-Full-clause-reads g c =
    let now = c.find_frame.new.intake in
    let found = rw c.in-Ok-Full.field-0-is at c.in-Ok-Full.ensures.found in
    let same = ap (option_map framing_of) c.in-Ok-Full.ensures.same ∙ ap (λ (r : FrameState). framings_of r (g.S.Source.left c.args.source.now)) c.self.view_is in
    subst (λ o. IfSome o (λ framing. framing ≡ Ends AtLimit)) same (framings_full now.taken now.held _ found.0 found.1)

pub returns-in-Err-clause-reads : goal.returns-in-Err-clause-reads
returns-in-Err-clause-reads g c =
    let now = c.find_frame.new.intake in
    let left = g.S.Source.left c.find_frame.new.source in
    let before = input_of c.self.inside.intake.taken c.self.inside.intake.held (g.S.Source.left c.args.source.now) in
    let found = subst (λ r. FindsFrame r now left) c.in-Err.is c.find_frame.ensures.found in
    let same = subst (λ r. KeepsInput r before (input_of now.taken now.held left)) c.in-Err.is c.find_frame.ensures.same in
    subst (λ (r : FrameState). AnswersFrame (Err c.in-Err.refusal) (framings_of r (g.S.Source.left c.args.source.now)) (framings now.taken now.held left)) c.self.view_is
    (refused_frames c.in-Err.refusal now left before (framings now.taken now.held left) found same)

pub returns-then-held-eq0-clause-reads : goal.returns-then-held-eq0-clause-reads
returns-then-held-eq0-clause-reads g c =
    let now = c.find_frame.new.intake in
    let found = rw c.in-Ok-End.field-0-is at c.in-Ok-End.ensures.found in
    let same = ap (option_map framing_of) c.in-Ok-End.ensures.same ∙ ap (λ (r : FrameState). framings_of r (g.S.Source.left c.args.source.now)) c.self.view_is in
    let none = framings_end_of now.held (sym (ap length c.held.ensures.held) ∙ c.if-held-eq0.true) in
    (subst (λ o. IfSome o (λ framing. framing ≡ Ends AtEnd)) same (subst (λ e. IfSome (framings now.taken now.held (g.S.Source.left c.find_frame.new.source)) (λ framing. framing ≡ Ends e)) none (framings_end now.taken now.held _ found.0 found.1 found.2)), same)

pub returns-else-held-eq0-clause-reads : goal.returns-else-held-eq0-clause-reads
returns-else-held-eq0-clause-reads g c =
    let now = c.find_frame.new.intake in
    let found = rw c.in-Ok-End.field-0-is at c.in-Ok-End.ensures.found in
    let same = ap (option_map framing_of) c.in-Ok-End.ensures.same ∙ ap (λ (r : FrameState). framings_of r (g.S.Source.left c.args.source.now)) c.self.view_is in
    let count : length c.held.result.now ≡ length now.held = ap length c.held.ensures.held in
    let some = framings_cut_of now.held (omega (arith, c.if-held-eq0.false)) in
    subst (λ o. IfSome o (λ framing. framing ≡ Ends AtCut)) same (subst (λ e. IfSome (framings now.taken now.held (g.S.Source.left c.find_frame.new.source)) (λ framing. framing ≡ Ends e)) some (framings_end now.taken now.held _ found.0 found.1 found.2))
