use Rattle.std.proofs.Common.{◌≡◌, ◌<◌, ◌∙◌, IfSome, length, sym, ap, subst, arith}
use Rattle.sync_recip.specs.Acrossing.{BothMove}
use Rattle.sync_recip.specs.Stretches.{shown_by, IsAt}
use Rattle.sync_recip.proofs.Shown.{length_shown, at_plain, both_moves}
use Rattle.sync_recip.proofs.items.Items.moves.Goals as goal

pub index-one-requires : goal.index-one-requires
index-one-requires c =
    let us = c.self.inside.kept.items in
    let o = c.self.inside.stretch in
    let view : shown_by o us ≡ c.args.self.now = c.self.view_is in
    let vs = c.write_around.new.kept.items in
    let p = c.write_around.new.stretch in
    let became : shown_by p vs ≡ c.args.self.now = c.write_around.ensures.shown ∙ view in
    let long = length_shown p vs in
    let then = ap length became in
    let fine = c.write_around.new.kept.ok.0 in
    let there = c.requires in
    omega (arith, there, long, then, fine)

pub returns-clause-moves : goal.returns-clause-moves
returns-clause-moves c = λ k at.
    let us = c.self.inside.kept.items in
    let o = c.self.inside.stretch in
    let view : shown_by o us ≡ c.args.self.now = c.self.view_is in
    let vs = c.write_around.new.kept.items in
    let p = c.write_around.new.stretch in
    let became : shown_by p vs ≡ c.args.self.now = c.write_around.ensures.shown ∙ view in
    let long = length_shown p vs in
    let then = ap length became in
    let fine = c.write_around.new.kept.ok.0 in
    let r = c.index-one.result.now in
    let within = c.requires in
    let there : c.args.place < length vs = omega (arith, within, long, then) in
    let same = at_plain p vs c.args.place k r c.write_around.ensures.outside there (subst (λ l. IsAt c.args.place l k) (sym became) at) c.index-one.ensures in
    subst (λ w. IfSome c.moves.result (BothMove c.args.own c.args.left.now w)) (sym same)
    (both_moves c.args.own c.args.left.now r c.moves.result c.moves.ensures.crosses c.moves.ensures.left c.moves.ensures.right)
