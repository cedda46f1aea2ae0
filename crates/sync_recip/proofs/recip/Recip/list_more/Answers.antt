use Rattle.std.proofs.Common.{◌≡◌, ◌<◌, length, map, sym, ap, ◌∙◌, subst, arith}
use Rattle.std.proofs.lemmas.List.{length-map}
use Rattle.sync_rivals.specs.Lists.{StandsAt}
use Rattle.sync_recip.specs.Lists.{kept_entry, lists_in, pair_of}
use Rattle.sync_recip.specs.Stretches.{instrs_in}
use Rattle.sync_recip.proofs.Turns.{element, stands_kept}
use Rattle.sync_recip.proofs.recip.Recip.list_more.Goals as goal

pub loop-preserved : goal.loop-preserved
loop-preserved c =
    let ks = c.loop.self-inside.items in
    let lists = lists_in (map kept_entry ks) in
    let size : length ks ≡ length c.self.inside.items = sym (length-map ks pair_of) ∙ ap length (c.loop.invariant.same ∙ sym c.self.view_is) ∙ length-map c.self.inside.items pair_of in
    let within : c.listed-place.result < length ks = omega (arith, c.if-place-count.false, c.len-count.ensures, size) in
    let k = element ks c.listed-place.result within in
    let at = stands_kept ks c.listed-place.result k.0 within k.1 in
    record {
      same = c.loop.invariant.same;
      rising = c.loop.invariant.rising;
      listed = c.list.ensures (instrs_in k.0) lists (c.listed-in-loop.ensures (instrs_in k.0) at) c.loop.invariant.listed (subst (λ n. StandsAt n (instrs_in k.0) lists) c.listed-place.ensures at);
    }
