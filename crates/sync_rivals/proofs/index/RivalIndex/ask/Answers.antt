use Rattle.std.proofs.Common.{◌≤◌, ◌<◌, sym, subst, ap, arith}
use Rattle.std.specs.Prelude.{None, Some}
use Rattle.sync_rivals.specs.Lists.{Indexed, Lists, Serves}
use Rattle.sync_rivals.proofs.Passing.{found_passes}
use Rattle.sync_rivals.proofs.index.RivalIndex.ask.Goals as goal

pub returns-in-None-clause-pass : goal.returns-in-None-clause-pass
returns-in-None-clause-pass c = λ instrs lists serves h.
    let x : Indexed = record { marks = c.self.inside.listing; first = c.self.inside.first; listed = c.self.inside.listed } in
    let within : c.args.listed ≤ c.self.inside.listed = omega (arith, c.requires.within, ap (λ (y : Indexed). y.listed) c.self.view_is) in
    let some : 0 < c.self.inside.listed = omega (arith, within, c.requires.order) in
    let known = subst (λ y. Serves y c.args.codes.now instrs) (sym c.self.view_is) serves some in
    found_passes x c.args.codes.now c.args.from c.args.listed lists instrs None (subst (λ y. Lists y lists) (sym c.self.view_is) h) known c.in-None.ensures.reaches within (λ place b r. r)

pub returns-in-Some-clause-pass : goal.returns-in-Some-clause-pass
returns-in-Some-clause-pass c = λ instrs lists serves h.
    let x : Indexed = record { marks = c.self.inside.listing; first = c.self.inside.first; listed = c.self.inside.listed } in
    let within : c.args.listed ≤ c.self.inside.listed = omega (arith, c.requires.within, ap (λ (y : Indexed). y.listed) c.self.view_is) in
    let less : c.min.result ≤ c.args.listed = omega (arith, c.min.ensures) in
    let some : 0 < c.self.inside.listed = omega (arith, within, c.requires.order) in
    let known = subst (λ y. Serves y c.args.codes.now instrs) (sym c.self.view_is) serves some in
    found_passes x c.args.codes.now c.args.from c.min.result lists instrs (Some c.in-Some.number) (subst (λ y. Lists y lists) (sym c.self.view_is) h) known c.in-Some.ensures.reaches (omega (arith, within, less))
    (λ place b r. omega (arith, b, r, c.min.ensures))
