use Rattle.std.proofs.Common.{Bool, is_some, sym, ◌∙◌, ap, subst, refl}
use Rattle.std.specs.Option.{option_copied}
use Rattle.std.specs.FinMap as map
use Rattle.sync_data.specs.Orders.{key_cmp}
use Rattle.sync_data.specs.declared.key.Key.{Key}
use Rattle.sync_base.specs.Lemmas.Looks.{name_total}
use Rattle.sync_maps.specs.Next.{IsNext}
use Rattle.sync_maps.specs.Nexts.{no_other}
use Rattle.sync_maps.specs.Seen.{seen_at}
use Rattle.sync_store.specs.Flat.{get-flat_at, get-flat_none}
use Rattle.sync_store.proofs.objects.Objects.next_key.Goals as goal

pub returns-in_err-get : goal.returns-in_err-get
returns-in_err-get c = rw c.from_residual.ensures (λ q h.
    no_other (ap (λ s. map.get s (c.args.table.now, q)) (sym c.self.view_is) ∙ get-flat_none _ c.args.table.now q (seen_at name_total c.self.inside.tables c.args.table.now refl c.in_err-get.ensures.value)) h _)

pub returns : goal.returns
returns c = subst (λ (p : Key → Bool). IsNext key_cmp p (option_copied c.args.after) (option_copied c.next_key.result))
    (λ i k. is_some (sym (ap (λ s. map.get s (c.args.table.now, k)) (sym c.self.view_is) ∙ get-flat_at _ c.args.table.now k (seen_at name_total c.self.inside.tables c.args.table.now refl c.in_ok-get.ensures.value)) i)) c.next_key.ensures
