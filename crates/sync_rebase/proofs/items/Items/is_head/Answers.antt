use Rattle.std.proofs.Common.{◌≡◌, ◌<◌, ◌∙◌, true, false, length, ap, subst, arith}
use Rattle.sync_rebase.specs.Stretches.{shown_by, IsAt}
use Rattle.sync_rebase.proofs.Shown.{length_shown, plain_at, behind_out, head_told, no_head}
use Rattle.sync_rebase.proofs.items.Items.is_head.Goals as goal

pub returns-then-len-eq0-clause-told : goal.returns-then-len-eq0-clause-told
returns-then-len-eq0-clause-told c =
    let us = c.self.inside.items.items in
    let o = c.self.inside.stretch in
    let view : shown_by o us ≡ c.args.self.now = c.self.view_is in
    let size = length_shown o us in
    let now = ap length view in
    let ok = c.self.inside.items.ok.0 in
    let none : length c.args.self.now ≡ 0 = omega (arith, c.if-len-eq0.true, c.len.ensures, size, now, ok) in
    (λ h. let bad : false ≡ true = h in cc, λ h. absurd (no_head c.args.entry.now c.args.self.now none h))

pub index_mut-head-requires : goal.index_mut-head-requires
index_mut-head-requires c =
    let us = c.self.inside.items.items in
    let o = c.self.inside.stretch in
    let view : shown_by o us ≡ c.args.self.now = c.self.view_is in
    let size = length_shown o us in
    let now = ap length view in
    let ok = c.self.inside.items.ok.0 in
    let vs = c.write_head.new.items.items in
    let p = c.write_head.new.stretch in
    let became : shown_by p vs ≡ c.args.self.now = c.write_head.ensures.shown ∙ view in
    let long = length_shown p vs in
    let then = ap length became in
    let fine = c.write_head.new.items.ok.0 in
    omega (arith, c.if-len-eq0.false, c.len.ensures, size, now, ok, long, then, fine)

pub returns-clause-told : goal.returns-clause-told
returns-clause-told c =
    let us = c.self.inside.items.items in
    let o = c.self.inside.stretch in
    let view : shown_by o us ≡ c.args.self.now = c.self.view_is in
    let size = length_shown o us in
    let now = ap length view in
    let ok = c.self.inside.items.ok.0 in
    let vs = c.write_head.new.items.items in
    let p = c.write_head.new.stretch in
    let became : shown_by p vs ≡ c.args.self.now = c.write_head.ensures.shown ∙ view in
    let long = length_shown p vs in
    let then = ap length became in
    let fine = c.write_head.new.items.ok.0 in
    let r = c.index_mut-head.result.now in
    let there : 0 < length c.args.self.now = omega (arith, c.if-len-eq0.false, c.len.ensures, size, now, ok) in
    let here = subst (λ l. IsAt 0 l r) became (plain_at p vs 0 r (behind_out p c.write_head.ensures.behind) c.index_mut-head.ensures.value) in
    let told = head_told c.args.entry.now c.args.self.now r there here in
    (λ h. told.0 (c.is_of.ensures.told.0 h), λ h. c.is_of.ensures.told.1 (told.1 h))
