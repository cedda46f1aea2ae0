use Rattle.std.proofs.Common.{◌≡◌, ◌∙◌, length, set, ap, subst, arith}
use Rattle.sync_rebase.specs.Stretches.{shown_by, IsAt}
use Rattle.sync_rebase.proofs.Shown.{length_shown, plain_at, shown_set, stands_set}
use Rattle.sync_rebase.proofs.Places.{fits_within, fits_suits, set_is_became}
use Rattle.sync_rebase.proofs.items.Items.put.Goals as goal

pub index_mut-unsent-requires : goal.index_mut-unsent-requires
index_mut-unsent-requires c =
    let us = c.self.inside.items.items in
    let o = c.self.inside.stretch in
    let view : shown_by o us ≡ c.args.self.now = c.self.view_is in
    let vs = c.write_around.new.items.items in
    let p = c.write_around.new.stretch in
    let became : shown_by p vs ≡ c.args.self.now = c.write_around.ensures.shown ∙ view in
    let long = length_shown p vs in
    let then = ap length became in
    let fine = c.write_around.new.items.ok.0 in
    let there = fits_within c.args.self.now c.args.place c.args.became c.requires in
    omega (arith, there, long, then, fine)

pub stand_as-requires : goal.stand_as-requires
stand_as-requires c =
    let us = c.self.inside.items.items in
    let o = c.self.inside.stretch in
    let view : shown_by o us ≡ c.args.self.now = c.self.view_is in
    let vs = c.write_around.new.items.items in
    let p = c.write_around.new.stretch in
    let became : shown_by p vs ≡ c.args.self.now = c.write_around.ensures.shown ∙ view in
    let long = length_shown p vs in
    let then = ap length became in
    let fine = c.write_around.new.items.ok.0 in
    let r = c.index_mut-unsent.result.now in
    fits_suits c.args.self.now c.args.place c.args.became r c.requires (subst (λ l. IsAt c.args.place l r) became (plain_at p vs c.args.place r c.write_around.ensures.outside c.index_mut-unsent.ensures.value))

pub invariant_of-self : goal.invariant_of-self
invariant_of-self c = stands_set c.write_around.new.stretch c.write_around.new.items.items c.args.place c.stand_as.new.self c.write_around.ensures.outside c.write_around.ensures.stands

pub returns : goal.returns
returns c =
    let us = c.self.inside.items.items in
    let o = c.self.inside.stretch in
    let view : shown_by o us ≡ c.args.self.now = c.self.view_is in
    let vs = c.write_around.new.items.items in
    let p = c.write_around.new.stretch in
    let became : shown_by p vs ≡ c.args.self.now = c.write_around.ensures.shown ∙ view in
    let long = length_shown p vs in
    let then = ap length became in
    let fine = c.write_around.new.items.ok.0 in
    let r = c.index_mut-unsent.result.now in
    let there = fits_within c.args.self.now c.args.place c.args.became c.requires in
    shown_set p vs c.args.place c.stand_as.new.self c.write_around.ensures.outside
    ∙ ap (λ l. set l c.args.place c.stand_as.new.self) became
    ∙ set_is_became c.args.self.now c.args.place c.args.became r c.stand_as.new.self there (subst (λ l. IsAt c.args.place l r) became (plain_at p vs c.args.place r c.write_around.ensures.outside c.index_mut-unsent.ensures.value)) c.stand_as.ensures
