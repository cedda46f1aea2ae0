use Rattle.std.proofs.Common.{◌≤◌, ◌<◌, Some, length, map, sym, ap, ◌∙◌, arith}
use Rattle.std.specs.Prelude.{slice_get}
use Rattle.std.proofs.lemmas.List.{length-map}
use Rattle.std.proofs.lemmas.Option.{slice_get_past, slice_get_read}
use Rattle.sync_recip.specs.Lists.{entry_of, pair_of}
use Rattle.sync_recip.proofs.Each.{map_get}
use Rattle.sync_recip.proofs.Turns.{element}
use Rattle.sync_recip.proofs.recip.Recip.get.Goals as goal

pub returns-then-place-len : goal.returns-then-place-len
returns-then-place-len c =
    let size = length-map c.self.inside.items pair_of in
    let view = ap length c.self.view_is in
    let past : length c.args.self.now ≤ c.args.place = omega (arith, c.if-place-len.true, c.len.ensures, size, view) in
    sym (slice_get_past c.args.self.now c.args.place past)

pub returns-in-Ok : goal.returns-in-Ok
returns-in-Ok c =
    let ks = c.self.inside.items in
    let within : c.args.place < length ks = omega (arith, c.if-place-len.false, c.len.ensures) in
    let k = element ks c.args.place within in
    let size = length-map ks pair_of in
    (λ i. Some (c.version.ensures k.0 k.1 i, entry_of (c.in-Ok.ensures k.0 k.1 i)))
    ∙ sym (slice_get_read (map pair_of ks) (length ks) c.args.place (pair_of k.0) (sym size) within (map_get pair_of ks c.args.place k.0 k.1))
    ∙ ap (λ l. slice_get l c.args.place) c.self.view_is
