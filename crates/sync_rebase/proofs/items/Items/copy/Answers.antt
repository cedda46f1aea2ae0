use Rattle.std.proofs.Common.{◌≡◌, ◌<◌, ◌≤◌, ◌∙◌, ◌++◌, ◌∷◌, [], length, sym, ap, subst, arith}
use Rattle.sync_rebase.specs.Stretches.{shown_by, IsAt}
use Rattle.sync_rebase.proofs.Shown.{length_shown, original_at}
use Rattle.std.proofs.lemmas.List.{take_all, take_more}
use Rattle.sync_data.specs.Payload.{Changes}
use Rattle.sync_data.specs.declared.instr.Instr.{Instr}
use Rattle.sync_model.specs.Clients.{Original}
use Rattle.sync_rebase.proofs.Places.{element}
use Rattle.sync_rebase.proofs.items.Items.copy.Goals as goal

pub current-requires : goal.current-requires
current-requires c =
    let us = c.self.inside.items.items in
    let o = c.self.inside.stretch in
    let view : shown_by o us ≡ c.args.self.now = c.self.view_is in
    let size = length_shown o us in
    let now = ap length view in
    let ok = c.self.inside.items.ok.0 in
    omega (arith, c.loop-place-test.true, c.len-place-end.ensures, size, now, ok)

pub copy_as-requires : goal.copy_as-requires
copy_as-requires c =
    let us = c.self.inside.items.items in
    let o = c.self.inside.stretch in
    let view : shown_by o us ≡ c.args.self.now = c.self.view_is in
    let size = length_shown o us in
    let now = ap length view in
    let ok = c.self.inside.items.ok.0 in
    let there : c.loop-place.place < length us = omega (arith, c.loop-place-test.true, c.len-place-end.ensures, ok) in
    let within : c.loop-place.place < length c.args.self.now = omega (arith, there, size, now) in
    let u = element c.args.self.now c.loop-place.place within in
    ap (λ (x : Changes). x.ms) (c.in_ok-current.ensures u.0 u.1) ∙ ap (λ (x : Original Instr). x.ms) (original_at o us c.loop-place.place u.0 c.index.result.now there (subst (λ l. IsAt c.loop-place.place l u.0) (sym view) u.1) c.index.ensures)

pub loop-place-preserved : goal.loop-place-preserved
loop-place-preserved c =
    let us = c.self.inside.items.items in
    let o = c.self.inside.stretch in
    let view : shown_by o us ≡ c.args.self.now = c.self.view_is in
    let size = length_shown o us in
    let now = ap length view in
    let ok = c.self.inside.items.ok.0 in
    let place = c.loop-place.place in
    let there : place < length us = omega (arith, c.loop-place-test.true, c.len-place-end.ensures, ok) in
    let within : place < length c.args.self.now = omega (arith, there, size, now) in
    let u = element c.args.self.now place within in
    let made = original_at o us place u.0 c.index.result.now there (subst (λ l. IsAt place l u.0) (sym view) u.1) c.index.ensures in
    let current = ap (λ (x : Changes). x.instrs) (c.in_ok-current.ensures u.0 u.1) in
    let same : c.in_ok-unsent.unsent ≡ u.0 = c.in_ok-unsent.ensures ∙ (λ i. record { original = sym made i; current = current i }) in
    c.in_ok-push_back.ensures.ok
    ∙ (λ i. c.loop-place.invariant i ++ (same ∙ u.1) i ∷ [])
    ∙ sym (take_more c.args.self.now place u.0 within)

pub returns : goal.returns
returns c =
    let us = c.self.inside.items.items in
    let o = c.self.inside.stretch in
    let view : shown_by o us ≡ c.args.self.now = c.self.view_is in
    let size = length_shown o us in
    let now = ap length view in
    let ok = c.self.inside.items.ok.0 in
    let end : length c.args.self.now ≤ c.loop-place.place = omega (arith, c.loop-place-test.false, c.len-place-end.ensures, size, now, ok) in
    c.loop-place.invariant ∙ take_all c.loop-place.place c.args.self.now end
