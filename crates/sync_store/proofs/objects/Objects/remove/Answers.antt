use Rattle.std.proofs.Common.{sym, ◌∙◌, ap, refl}
use Rattle.std.specs.FinMap as map
use Rattle.std.specs.Option.{option_copied_mut}
use Rattle.sync_base.specs.Lemmas.Looks.{name_total, name_exact}
use Rattle.sync_maps.specs.Seen.{seen_at, written}
use Rattle.sync_store.specs.Flat.{flat, flat_remove, rows_found, remove_none, get-flat_at, get-flat_none}
use Rattle.sync_store.proofs.objects.Objects.remove.Goals as goal

pub returns-clause-object : goal.returns-clause-object
returns-clause-object c =
    c.remove.ensures.object
    ∙ sym (ap (λ s. map.get s (c.args.table.now, c.args.key.now)) (sym c.self.view_is) ∙ get-flat_at _ c.args.table.now c.args.key.now (seen_at name_total c.self.inside.tables c.args.table.now refl c.in-Some.ensures.value))

pub returns-clause-others : goal.returns-clause-others
returns-clause-others c =
    let m = map.from_entries c.self.inside.tables.entries in
    ap flat (written name_total name_exact c.self.inside.tables c.args.table.now c.in-Some.ensures.value (c.get_mut.follows.lender c.remove.new.self) _ (c.get_mut.follows.holds c.remove.new.self))
    ∙ ap (λ r. flat (map.insert m c.args.table.now r)) (c.remove.ensures.others ∙ ap (λ r. map.remove r c.args.key.now) (sym (rows_found m c.args.table.now (seen_at name_total c.self.inside.tables c.args.table.now refl c.in-Some.ensures.value))))
    ∙ flat_remove m c.args.table.now c.args.key.now ∙ ap (λ s. map.remove s (c.args.table.now, c.args.key.now)) c.self.view_is

pub returns-in_default-clause-object : goal.returns-in_default-clause-object
returns-in_default-clause-object c =
    sym (ap (λ s. map.get s (c.args.table.now, c.args.key.now)) (sym c.self.view_is) ∙ get-flat_none _ c.args.table.now c.args.key.now (seen_at name_total c.self.inside.tables c.args.table.now refl (ap option_copied_mut (sym c.in_default.is) ∙ c.get_mut.ensures.value)))

pub returns-in_default-clause-others : goal.returns-in_default-clause-others
returns-in_default-clause-others c =
    let m = map.from_entries c.self.inside.tables.entries in
    ap (λ m. flat (map.from_entries m.entries)) c.get_mut.follows.holds-at-none
    ∙ sym (remove_none m c.args.table.now c.args.key.now (seen_at name_total c.self.inside.tables c.args.table.now refl (ap option_copied_mut (sym c.in_default.is) ∙ c.get_mut.ensures.value)))
    ∙ ap (λ s. map.remove s (c.args.table.now, c.args.key.now)) c.self.view_is
