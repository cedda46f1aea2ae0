use Rattle.std.proofs.Common.{◌≡◌, ◌<◌, ◌∙◌, length, sym, ap, subst, arith}
use Rattle.sync_rebase.specs.Stretches.{shown_by, IsAt}
use Rattle.sync_rebase.proofs.Shown.{length_shown, told_shown, told_kind, told_out, at_plain}
use Rattle.sync_rebase.proofs.Shown.{changes_of, ok_map}
use Rattle.sync_rebase.proofs.items.Items.current.Goals as goal

pub index-unsent-requires : goal.index-unsent-requires
index-unsent-requires c =
    let us = c.self.inside.items.items in
    let o = c.self.inside.stretch in
    let view : shown_by o us ≡ c.args.self.now = c.self.view_is in
    let size = length_shown o us in
    let now = ap length view in
    let ok = c.self.inside.items.ok.0 in
    let there = c.requires in
    omega (arith, there, size, now, ok)

pub current_told-requires-clause-kind : goal.current_told-requires-clause-kind
current_told-requires-clause-kind c =
    told_kind c.self.inside.stretch c.self.inside.items.items c.args.place c.index-unsent.result.now (c.in-Some.slot, c.in-Some.length) c.in-Some.ensures.told c.self.invariant c.index-unsent.ensures

pub returns-in-Some : goal.returns-in-Some
returns-in-Some c =
    let us = c.self.inside.items.items in
    let o = c.self.inside.stretch in
    let view : shown_by o us ≡ c.args.self.now = c.self.view_is in
    let size = length_shown o us in
    let now = ap length view in
    let ok = c.self.inside.items.ok.0 in
    let requires = c.requires in
    let there : c.args.place < length us = omega (arith, requires, size, now) in
    let r = c.index-unsent.result.now in
    ok_map c.current_told.result
    (λ x is u at. is ∙ sym (ap changes_of (told_shown o us c.args.place u r (c.in-Some.slot, c.in-Some.length) c.in-Some.ensures.told there (subst (λ l. IsAt c.args.place l u) (sym view) at) c.index-unsent.ensures)))
    c.current_told.ensures

pub returns-in-None : goal.returns-in-None
returns-in-None c =
    let us = c.self.inside.items.items in
    let o = c.self.inside.stretch in
    let view : shown_by o us ≡ c.args.self.now = c.self.view_is in
    let size = length_shown o us in
    let now = ap length view in
    let ok = c.self.inside.items.ok.0 in
    let requires = c.requires in
    let there : c.args.place < length us = omega (arith, requires, size, now) in
    let r = c.index-unsent.result.now in
    ok_map c.current.result
    (λ x is u at. is ∙ sym (ap changes_of (at_plain o us c.args.place u r (told_out o c.args.place c.in-None.ensures.told) there (subst (λ l. IsAt c.args.place l u) (sym view) at) c.index-unsent.ensures)))
    c.current.ensures
