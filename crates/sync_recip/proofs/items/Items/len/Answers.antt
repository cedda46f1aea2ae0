use Rattle.std.proofs.Common.{◌≡◌, length, ap, arith}
use Rattle.sync_recip.specs.Stretches.{shown_by}
use Rattle.sync_recip.proofs.Shown.{length_shown}
use Rattle.sync_recip.proofs.items.Items.len.Goals as goal

pub returns : goal.returns
returns c =
    let us = c.self.inside.kept.items in
    let o = c.self.inside.stretch in
    let view : shown_by o us ≡ c.args.self.now = c.self.view_is in
    let size = length_shown o us in
    let now = ap length view in
    let ok = c.self.inside.kept.ok.0 in
    omega (arith, c.len.ensures, size, now, ok)
