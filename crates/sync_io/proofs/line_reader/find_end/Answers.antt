use Rattle.std.proofs.Common.{◌≡◌, ◌+◌, ◌∙◌, ap, length, arith, length-append, subst}
use Rattle.sync_io.specs.Reading.{feed_place}
use Rattle.sync_io.specs.Intakes.{Filled}
use Rattle.sync_io.proofs.Feeds.{feed_later}
use Rattle.sync_io.proofs.line_reader.find_end.Goals as goal

pub pieces-preserved : goal.pieces-preserved
pieces-preserved g c =
    let more = subst (λ f. Filled f c.pieces.intake c.fill.new.self (g.S.Source.left c.fill.new.source)) c.in-More.is c.in_ok-fill.ensures.filled in
    let whole : feed_place c.pieces.intake.held ≡ length c.pieces.intake.held = omega (arith, c.feed_place-place.ensures.place, ap length c.held-held.ensures.held, ap feed_place c.held-held.ensures.held) in
    let longer : length c.fill.new.self.held ≡ length c.pieces.intake.held + length more.0 = ap length more.1 ∙ length-append c.pieces.intake.held more.0 in
    record {
      same = c.in_ok-fill.ensures.same ∙ c.pieces.invariant.same;
      no_feed = omega (arith, feed_later c.pieces.intake.held more.0 whole, ap feed_place more.1, ap length c.held-held.ensures.held);
      counted = omega (arith, more.2);
      grows = omega arith;
    }
