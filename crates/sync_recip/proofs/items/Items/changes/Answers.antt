use Rattle.std.proofs.Common.{◌≡◌, ◌<◌, ◌∙◌, length, sym, ap, subst, arith}
use Rattle.sync_recip.specs.Stretches.{shown_by, IsAt}
use Rattle.sync_recip.specs.declared.kept.Kept.{Kept}
use Rattle.sync_recip.proofs.Shown.{length_shown, told_shown, told_kind, told_out, at_plain, ok_map}
use Rattle.sync_recip.proofs.items.Items.changes.Goals as goal

pub index-one-requires : goal.index-one-requires
index-one-requires c =
    let us = c.self.inside.kept.items in
    let o = c.self.inside.stretch in
    let view : shown_by o us ≡ c.args.self.now = c.self.view_is in
    let size = length_shown o us in
    let now = ap length view in
    let ok = c.self.inside.kept.ok.0 in
    let there = c.requires in
    omega (arith, there, size, now, ok)

pub changes_told-requires-clause-kind : goal.changes_told-requires-clause-kind
changes_told-requires-clause-kind c =
    told_kind c.self.inside.stretch c.self.inside.kept.items c.args.place c.index-one.result.now (c.in-Some.slot, c.in-Some.length) c.in-Some.ensures.told c.self.invariant c.index-one.ensures

pub returns-in-Some : goal.returns-in-Some
returns-in-Some c =
    let us = c.self.inside.kept.items in
    let o = c.self.inside.stretch in
    let view : shown_by o us ≡ c.args.self.now = c.self.view_is in
    let size = length_shown o us in
    let now = ap length view in
    let ok = c.self.inside.kept.ok.0 in
    let requires = c.requires in
    let there : c.args.place < length us = omega (arith, requires, size, now) in
    let r = c.index-one.result.now in
    ok_map c.changes_told.result
    (λ x is k at. is ∙ sym (ap (λ (w : Kept). w.item.changes) (told_shown o us c.args.place k r (c.in-Some.slot, c.in-Some.length) c.in-Some.ensures.told there (subst (λ l. IsAt c.args.place l k) (sym view) at) c.index-one.ensures)))
    c.changes_told.ensures

pub returns-in-None : goal.returns-in-None
returns-in-None c =
    let us = c.self.inside.kept.items in
    let o = c.self.inside.stretch in
    let view : shown_by o us ≡ c.args.self.now = c.self.view_is in
    let size = length_shown o us in
    let now = ap length view in
    let ok = c.self.inside.kept.ok.0 in
    let requires = c.requires in
    let there : c.args.place < length us = omega (arith, requires, size, now) in
    let r = c.index-one.result.now in
    ok_map c.changes.result
    (λ x is k at. is ∙ sym (ap (λ (w : Kept). w.item.changes) (at_plain o us c.args.place k r (told_out o c.args.place c.in-None.ensures.told) there (subst (λ l. IsAt c.args.place l k) (sym view) at) c.index-one.ensures)))
    c.changes.ensures
