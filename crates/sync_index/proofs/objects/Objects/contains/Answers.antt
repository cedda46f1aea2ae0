use Rattle.std.proofs.Common.{sym, ◌∙◌, ap, false}
use Rattle.std.specs.FinSet as set
use Rattle.std.specs.Option.{option_map_or}
use Rattle.sync_base.specs.Lemmas.Looks.{name_total}
use Rattle.sync_maps.specs.Seen.{seen_at}
use Rattle.sync_index.proofs.objects.Objects.contains.Goals as goal

pub returns-in-None : goal.returns-in-None
returns-in-None c = sym (ap (λ k. option_map_or (λ keys. set.contains keys c.args.key.now) k false) (seen_at name_total c.self.inside.tables c.args.table.now c.self.view_is c.in-None.ensures.value))

pub returns-in-Some : goal.returns-in-Some
returns-in-Some c =
    c.contains.ensures
    ∙ sym (ap (λ k. option_map_or (λ keys. set.contains keys c.args.key.now) k false) (seen_at name_total c.self.inside.tables c.args.table.now c.self.view_is c.in-Some.ensures.value))
