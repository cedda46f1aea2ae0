use Rattle.std.proofs.Common.{◌≡◌, ◌<◌, length, sym, ap, subst, arith}
use Rattle.sync_recip.specs.Stretches.{shown_by, IsAt}
use Rattle.sync_recip.specs.declared.kept.Kept.{Kept}
use Rattle.sync_recip.proofs.Shown.{length_shown, bare_at}
use Rattle.sync_recip.proofs.items.Items.version.Goals as goal

pub index-requires : goal.index-requires
index-requires c =
    let us = c.self.inside.kept.items in
    let o = c.self.inside.stretch in
    let view : shown_by o us ≡ c.args.self.now = c.self.view_is in
    let size = length_shown o us in
    let now = ap length view in
    let ok = c.self.inside.kept.ok.0 in
    let there = c.requires in
    omega (arith, there, size, now, ok)

pub returns : goal.returns
returns c = λ k at.
    let us = c.self.inside.kept.items in
    let o = c.self.inside.stretch in
    let view : shown_by o us ≡ c.args.self.now = c.self.view_is in
    let size = length_shown o us in
    let now = ap length view in
    let ok = c.self.inside.kept.ok.0 in
    let requires = c.requires in
    let within : c.args.place < length us = omega (arith, requires, size, now) in
    sym (ap (λ (w : Kept). w.version) (bare_at o us c.args.place k c.index.result.now within (subst (λ l. IsAt c.args.place l k) (sym view) at) c.index.ensures))
