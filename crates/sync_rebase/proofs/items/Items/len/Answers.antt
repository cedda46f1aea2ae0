use Rattle.std.proofs.Common.{◌≡◌, length, ap, arith}
use Rattle.sync_rebase.specs.Stretches.{shown_by}
use Rattle.sync_rebase.proofs.Shown.{length_shown}
use Rattle.sync_rebase.proofs.items.Items.len.Goals as goal

pub returns : goal.returns
returns c =
    let us = c.self.inside.items.items in
    let o = c.self.inside.stretch in
    let view : shown_by o us ≡ c.args.self.now = c.self.view_is in
    let size = length_shown o us in
    let now = ap length view in
    let ok = c.self.inside.items.ok.0 in
    omega (arith, c.len.ensures, size, now, ok)
