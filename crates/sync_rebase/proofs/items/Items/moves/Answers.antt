use Rattle.std.proofs.Common.{◌≡◌, ◌<◌, ◌∙◌, IfSome, length, sym, ap, subst, arith}
use Rattle.sync_rebase.specs.Stretches.{shown_by, IsAt}
use Rattle.sync_rebase.proofs.Shown.{length_shown, at_plain, both_moves}
use Rattle.sync_rebase.specs.Acrossing.{BothMove}
use Rattle.sync_rebase.proofs.items.Items.moves.Goals as goal

pub index-requires : goal.index-requires
index-requires c =
    let us = c.self.inside.items.items in
    let o = c.self.inside.stretch in
    let view : shown_by o us ≡ c.args.self.now = c.self.view_is in
    let size = length_shown o us in
    let now = ap length view in
    let ok = c.self.inside.items.ok.0 in
    let there = c.requires in
    omega (arith, there, size, now, ok)

pub index-unsent-requires : goal.index-unsent-requires
index-unsent-requires c =
    let us = c.self.inside.items.items in
    let o = c.self.inside.stretch in
    let view : shown_by o us ≡ c.args.self.now = c.self.view_is in
    let vs = c.write_around.new.items.items in
    let p = c.write_around.new.stretch in
    let became : shown_by p vs ≡ c.args.self.now = c.write_around.ensures.shown ∙ view in
    let long = length_shown p vs in
    let then = ap length became in
    let fine = c.write_around.new.items.ok.0 in
    let there = c.requires in
    omega (arith, there, long, then, fine)

pub returns-clause-moves : goal.returns-clause-moves
returns-clause-moves c = λ u at.
    let us = c.self.inside.items.items in
    let o = c.self.inside.stretch in
    let view : shown_by o us ≡ c.args.self.now = c.self.view_is in
    let vs = c.write_around.new.items.items in
    let p = c.write_around.new.stretch in
    let became : shown_by p vs ≡ c.args.self.now = c.write_around.ensures.shown ∙ view in
    let long = length_shown p vs in
    let then = ap length became in
    let fine = c.write_around.new.items.ok.0 in
    let r = c.index-unsent.result.now in
    let within = c.requires in
    let there : c.args.place < length vs = omega (arith, within, long, then) in
    let same = at_plain p vs c.args.place u r c.write_around.ensures.outside there (subst (λ l. IsAt c.args.place l u) (sym became) at) c.index-unsent.ensures in
    subst (λ w. IfSome c.moves.result (BothMove c.args.own w c.args.origin c.args.changes.now)) (sym same)
    (both_moves c.args.own c.args.origin r c.args.changes.now c.moves.result c.moves.ensures.crosses c.moves.ensures.left c.moves.ensures.right)
