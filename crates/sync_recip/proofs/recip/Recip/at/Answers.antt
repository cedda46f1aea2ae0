use Rattle.std.proofs.Common.{◌≢◌, ◌<◌, Some, length, sym, ap, ◌∙◌, arith}
use Rattle.sync_recip.specs.Lists.{entry_of, entry_at}
use Rattle.sync_recip.proofs.Turns.{element}
use Rattle.sync_recip.proofs.Versions.{at_end, at_found, at_other}
use Rattle.sync_recip.proofs.recip.Recip.at.Goals as goal

pub returns-then-place-len : goal.returns-then-place-len
returns-then-place-len c =
    let ks = c.self.inside.items in
    let split = c.count_below-place.ensures in
    sym (at_end c.args.version ks c.count_below-place.result c.self.invariant.0 split.below split.above (omega (arith, c.if-place-len.true, c.len.ensures)))
    ∙ ap (entry_at c.args.version) c.self.view_is

pub returns-then-version : goal.returns-then-version
returns-then-version c =
    let ks = c.self.inside.items in
    let split = c.count_below-place.ensures in
    let n = c.count_below-place.result in
    let within : n < length ks = omega (arith, c.if-place-len.false, c.len.ensures) in
    let k = element ks n within in
    let other : k.0.version ≢ c.args.version = λ is. c.if-version.true (c.version.ensures k.0 k.1 ∙ is) in
    sym (at_other c.args.version ks n c.self.invariant.0 split.below split.above k.0 within k.1 other)
    ∙ ap (entry_at c.args.version) c.self.view_is

pub returns-in-Ok : goal.returns-in-Ok
returns-in-Ok c =
    let ks = c.self.inside.items in
    let split = c.count_below-place.ensures in
    let n = c.count_below-place.result in
    let within : n < length ks = omega (arith, c.if-place-len.false, c.len.ensures) in
    let k = element ks n within in
    ap (λ e. Some (entry_of e)) (c.in-Ok.ensures k.0 k.1)
    ∙ sym (at_found c.args.version ks n c.self.invariant.0 split.below split.above k.0 within k.1 (sym (c.version.ensures k.0 k.1) ∙ c.if-version.false))
    ∙ ap (entry_at c.args.version) c.self.view_is
