use Rattle.std.proofs.Common.{◌≡◌, ◌<◌, ◌∙◌, length, sym, ap, subst, arith}
use Rattle.sync_rebase.specs.Stretches.{shown_by, IsAt}
use Rattle.sync_rebase.proofs.Shown.{length_shown, original_at}
use Rattle.sync_data.specs.declared.instr.Instr.{Instr}
use Rattle.sync_model.specs.Clients.{Original}
use Rattle.sync_rebase.proofs.items.Items.number.Goals as goal

pub index-unsent-requires : goal.index-unsent-requires
index-unsent-requires c =
    let us = c.self.inside.items.items in
    let o = c.self.inside.stretch in
    let view : shown_by o us ≡ c.args.self.now = c.self.view_is in
    let size = length_shown o us in
    let now = ap length view in
    let ok = c.self.inside.items.ok.0 in
    let there = c.requires in
    omega (arith, there, size, now, ok)

pub returns : goal.returns
returns c = λ u at.
    let us = c.self.inside.items.items in
    let o = c.self.inside.stretch in
    let view : shown_by o us ≡ c.args.self.now = c.self.view_is in
    let size = length_shown o us in
    let now = ap length view in
    let ok = c.self.inside.items.ok.0 in
    let requires = c.requires in
    let there : c.args.place < length us = omega (arith, requires, size, now) in
    c.number.ensures.value ∙ ap (λ (x : Original Instr). x.number) (c.original.ensures ∙ sym (original_at o us c.args.place u c.index-unsent.result.now there (subst (λ l. IsAt c.args.place l u) (sym view) at) c.index-unsent.ensures))
