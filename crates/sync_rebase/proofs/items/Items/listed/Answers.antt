use Rattle.std.proofs.Common.{◌≡◌, length, sym, ap, subst, arith}
use Rattle.sync_rebase.specs.Stretches.{shown_by}
use Rattle.sync_rebase.proofs.Shown.{length_shown, shown_listed}
use Rattle.sync_rivals.specs.Lists.{StandsAt}
use Rattle.sync_rebase.specs.Settling.{currents}
use Rattle.sync_rebase.proofs.items.Items.listed.Goals as goal

pub index-requires : goal.index-requires
index-requires c =
    let us = c.self.inside.items.items in
    let o = c.self.inside.stretch in
    let view : shown_by o us ≡ c.args.self.now = c.self.view_is in
    let size = length_shown o us in
    let now = ap length view in
    let ok = c.self.inside.items.ok.0 in
    let there = c.requires in
    omega (arith, there, size, now, ok)

pub returns : goal.returns
returns c = λ l at s n listed.
    let us = c.self.inside.items.items in
    let o = c.self.inside.stretch in
    let view : shown_by o us ≡ c.args.self.now = c.self.view_is in
    shown_listed o us c.args.place l c.index.result.now (subst (λ x. StandsAt c.args.place l (currents x)) (sym view) at) c.index.ensures s n (c.listed.ensures s n listed)
