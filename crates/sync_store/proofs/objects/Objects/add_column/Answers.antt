use Rattle.std.proofs.Common.{sym, ◌∙◌, ap, refl}
use Rattle.std.specs.FinMap as map
use Rattle.std.specs.Option.{option_copied_mut}
use Rattle.sync_base.specs.Lemmas.Looks.{name_total, name_exact}
use Rattle.sync_base.specs.Maps.{map_with}
use Rattle.sync_maps.specs.Answers.{then_ok}
use Rattle.sync_maps.specs.Seen.{seen_at, written}
use Rattle.sync_store.specs.Flat.{flat, flat_each, each_none, each_row, in_table, rows_found, with_cell}
use Rattle.sync_store.proofs.objects.Objects.add_column.Goals as goal

pub returns-in_default : goal.returns-in_default
returns-in_default c =
    let m = map.from_entries c.self.inside.tables.entries in
    ap (λ m. flat (map.from_entries m.entries)) c.get_mut.follows.holds-at-none
    ∙ sym (each_none m c.args.table.now (with_cell c.args.column.now c.args.def.now) (seen_at name_total c.self.inside.tables c.args.table.now refl (ap option_copied_mut (sym c.in_default.is) ∙ c.get_mut.ensures.value)))
    ∙ ap (map_with (in_table c.args.table.now (with_cell c.args.column.now c.args.def.now))) c.self.view_is

pub returns : goal.returns
returns c = then_ok c.add_column.result (λ h.
    let m = map.from_entries c.self.inside.tables.entries in
    ap flat (written name_total name_exact c.self.inside.tables c.args.table.now c.in-Some.ensures.value (c.get_mut.follows.lender c.add_column.new.self) _ (c.get_mut.follows.holds c.add_column.new.self))
    ∙ ap (λ r. flat (map.insert m c.args.table.now r)) (h ∙ ap (each_row (with_cell c.args.column.now c.args.def.now)) (sym (rows_found m c.args.table.now (seen_at name_total c.self.inside.tables c.args.table.now refl c.in-Some.ensures.value))))
    ∙ flat_each m c.args.table.now (with_cell c.args.column.now c.args.def.now) ∙ ap (map_with (in_table c.args.table.now (with_cell c.args.column.now c.args.def.now))) c.self.view_is) c.add_column.ensures
