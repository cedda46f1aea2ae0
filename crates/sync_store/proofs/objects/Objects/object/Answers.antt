use Rattle.std.proofs.Common.{sym, ◌∙◌, ap, refl}
use Rattle.std.specs.FinMap as map
use Rattle.std.specs.Option.{option_copied}
use Rattle.sync_base.specs.Lemmas.Looks.{name_total}
use Rattle.sync_maps.specs.Seen.{seen_at}
use Rattle.sync_store.specs.Flat.{get-flat_at, get-flat_none}
use Rattle.sync_store.proofs.objects.Objects.object.Goals as goal

pub returns-in_err-get : goal.returns-in_err-get
returns-in_err-get c =
    ap option_copied c.from_residual.ensures
    ∙ sym (ap (λ s. map.get s (c.args.table.now, c.args.key.now)) (sym c.self.view_is) ∙ get-flat_none _ c.args.table.now c.args.key.now (seen_at name_total c.self.inside.tables c.args.table.now refl c.in_err-get.ensures.value))

pub returns : goal.returns
returns c =
    c.object.ensures
    ∙ sym (ap (λ s. map.get s (c.args.table.now, c.args.key.now)) (sym c.self.view_is) ∙ get-flat_at _ c.args.table.now c.args.key.now (seen_at name_total c.self.inside.tables c.args.table.now refl c.in_ok-get.ensures.value))
