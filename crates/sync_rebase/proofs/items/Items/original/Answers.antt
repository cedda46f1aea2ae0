use Rattle.std.proofs.Common.{◌≡◌, ◌<◌, ◌∙◌, true, false, refl, length, sym, ap, subst, arith}
use Rattle.sync_rebase.specs.Stretches.{shown_by, IsAt}
use Rattle.sync_rebase.proofs.Shown.{length_shown, original_at}
use Rattle.sync_rebase.proofs.items.Items.original.Goals as goal

pub returns-then-place-len-clause-there : goal.returns-then-place-len-clause-there
returns-then-place-len-clause-there c =
    let us = c.self.inside.items.items in
    let o = c.self.inside.stretch in
    let view : shown_by o us ≡ c.args.self.now = c.self.view_is in
    let size = length_shown o us in
    let now = ap length view in
    let ok = c.self.inside.items.ok.0 in
    (λ h. let bad : false ≡ true = h in cc, λ l. absurd (omega (arith, l, c.if-place-len.true, c.len.ensures, size, now, ok)))

pub returns-clause-there : goal.returns-clause-there
returns-clause-there c =
    let us = c.self.inside.items.items in
    let o = c.self.inside.stretch in
    let view : shown_by o us ≡ c.args.self.now = c.self.view_is in
    let size = length_shown o us in
    let now = ap length view in
    let ok = c.self.inside.items.ok.0 in
    (λ _. omega (arith, c.if-place-len.false, c.len.ensures, size, now, ok), λ _. refl)

pub returns-clause-value : goal.returns-clause-value
returns-clause-value c = λ u at.
    let us = c.self.inside.items.items in
    let o = c.self.inside.stretch in
    let view : shown_by o us ≡ c.args.self.now = c.self.view_is in
    let size = length_shown o us in
    let now = ap length view in
    let ok = c.self.inside.items.ok.0 in
    let there : c.args.place < length us = omega (arith, c.if-place-len.false, c.len.ensures, ok) in
    c.original.ensures ∙ sym (original_at o us c.args.place u c.index-unsent.result.now there (subst (λ l. IsAt c.args.place l u) (sym view) at) c.index-unsent.ensures)
