use Rattle.std.proofs.Common.{◌≡◌, ◌∙◌, length, get_or, set, map, refl, ap, subst, arith}
use Rattle.sync_recip.specs.declared.kept.Kept.{Kept}
use Rattle.sync_recip.specs.Lists.{kept_entry, versions}
use Rattle.sync_recip.specs.Stretches.{shown_by}
use Rattle.sync_recip.proofs.Each.{map_set_same}
use Rattle.sync_recip.proofs.Puts.{left_within, left_here, entries_set}
use Rattle.sync_recip.proofs.Shown.{length_shown, plain_at, shown_set, stands_set}
use Rattle.sync_recip.proofs.items.Items.put.Goals as goal

pub index_mut-one-requires : goal.index_mut-one-requires
index_mut-one-requires c =
    let us = c.self.inside.kept.items in
    let o = c.self.inside.stretch in
    let view : shown_by o us ≡ c.args.self.now = c.self.view_is in
    let vs = c.write_around.new.kept.items in
    let p = c.write_around.new.stretch in
    let became : shown_by p vs ≡ c.args.self.now = c.write_around.ensures.shown ∙ view in
    let long = length_shown p vs in
    let then = ap length became in
    let fine = c.write_around.new.kept.ok.0 in
    let there = left_within c.args.self.now c.args.place c.args.became c.requires in
    omega (arith, there, long, then, fine)

pub stand_as-requires : goal.stand_as-requires
stand_as-requires c =
    let us = c.self.inside.kept.items in
    let o = c.self.inside.stretch in
    let view : shown_by o us ≡ c.args.self.now = c.self.view_is in
    let vs = c.write_around.new.kept.items in
    let p = c.write_around.new.stretch in
    let became : shown_by p vs ≡ c.args.self.now = c.write_around.ensures.shown ∙ view in
    let r : Kept = c.index_mut-one.result.now in
    let at : r ≡ get_or c.args.self.now c.args.place r = subst (λ l. r ≡ get_or l c.args.place r) became (plain_at p vs c.args.place r c.write_around.ensures.outside c.index_mut-one.ensures.value) in
    left_here c.args.self.now c.args.place c.args.became r c.requires at

pub invariant_of-self : goal.invariant_of-self
invariant_of-self c =
    let us = c.self.inside.kept.items in
    let o = c.self.inside.stretch in
    let view : shown_by o us ≡ c.args.self.now = c.self.view_is in
    let vs = c.write_around.new.kept.items in
    let p = c.write_around.new.stretch in
    let became : shown_by p vs ≡ c.args.self.now = c.write_around.ensures.shown ∙ view in
    let r : Kept = c.index_mut-one.result.now in
    let v : Kept = record { version = r.version; item = c.stand_as.new.self } in
    stands_set p vs c.args.place v c.write_around.ensures.outside c.write_around.ensures.stands

pub returns-clause-versions : goal.returns-clause-versions
returns-clause-versions c =
    let us = c.self.inside.kept.items in
    let o = c.self.inside.stretch in
    let view : shown_by o us ≡ c.args.self.now = c.self.view_is in
    let vs = c.write_around.new.kept.items in
    let p = c.write_around.new.stretch in
    let became : shown_by p vs ≡ c.args.self.now = c.write_around.ensures.shown ∙ view in
    let r : Kept = c.index_mut-one.result.now in
    let v : Kept = record { version = r.version; item = c.stand_as.new.self } in
    let at : r ≡ get_or c.args.self.now c.args.place r = subst (λ l. r ≡ get_or l c.args.place r) became (plain_at p vs c.args.place r c.write_around.ensures.outside c.index_mut-one.ensures.value) in
    ap versions (shown_set p vs c.args.place v c.write_around.ensures.outside ∙ ap (λ l. set l c.args.place v) became)
    ∙ map_set_same (λ (k : Kept). k.version) c.args.self.now c.args.place r v at refl

pub returns-clause-entries : goal.returns-clause-entries
returns-clause-entries c =
    let us = c.self.inside.kept.items in
    let o = c.self.inside.stretch in
    let view : shown_by o us ≡ c.args.self.now = c.self.view_is in
    let vs = c.write_around.new.kept.items in
    let p = c.write_around.new.stretch in
    let became : shown_by p vs ≡ c.args.self.now = c.write_around.ensures.shown ∙ view in
    let r : Kept = c.index_mut-one.result.now in
    let v : Kept = record { version = r.version; item = c.stand_as.new.self } in
    let at : r ≡ get_or c.args.self.now c.args.place r = subst (λ l. r ≡ get_or l c.args.place r) became (plain_at p vs c.args.place r c.write_around.ensures.outside c.index_mut-one.ensures.value) in
    ap (map kept_entry) (shown_set p vs c.args.place v c.write_around.ensures.outside ∙ ap (λ l. set l c.args.place v) became)
    ∙ entries_set c.args.self.now c.args.place c.args.became r v at c.stand_as.ensures
