use Rattle.std.proofs.Common.{◌≡◌, length, sym, ap, subst, arith}
use Rattle.sync_recip.specs.Stretches.{shown_by}
use Rattle.sync_rivals.specs.Lists.{StandsAt}
use Rattle.sync_recip.proofs.Shown.{currents, length_shown, shown_listed}
use Rattle.sync_recip.proofs.items.Items.listed.Goals as goal

pub index-one-requires : goal.index-one-requires
index-one-requires c =
    let us = c.self.inside.kept.items in
    let o = c.self.inside.stretch in
    let view : shown_by o us ≡ c.args.self.now = c.self.view_is in
    let size = length_shown o us in
    let now = ap length view in
    let ok = c.self.inside.kept.ok.0 in
    let there = c.requires in
    omega (arith, there, size, now, ok)

pub returns : goal.returns
returns c = λ l at s n listed.
    let us = c.self.inside.kept.items in
    let o = c.self.inside.stretch in
    let view : shown_by o us ≡ c.args.self.now = c.self.view_is in
    let size = length_shown o us in
    let now = ap length view in
    let ok = c.self.inside.kept.ok.0 in
    shown_listed o us c.args.place l c.index-one.result.now (subst (λ x. StandsAt c.args.place l (currents x)) (sym view) at) c.index-one.ensures s n (c.instrs.ensures s n listed)
