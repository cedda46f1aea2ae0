use Rattle.std.proofs.Common.{◌≡◌, ◌<◌, List, Ok, refl, length, sym, ap, subst, arith}
use Rattle.sync_rebase.specs.Stretches.{shown_by, IsAt}
use Rattle.sync_rebase.proofs.Shown.{length_shown, shown_case}
use Rattle.sync_data.specs.declared.instr.Instr.{Instr}
use Rattle.sync_theory.specs.Lists.{cross}
use Rattle.sync_law.specs.Instrs.{meet}
use Rattle.sync_rebase.proofs.items.Items.stays_apart.Goals as goal

pub index-unsent-requires : goal.index-unsent-requires
index-unsent-requires c =
    let us = c.self.inside.items.items in
    let o = c.self.inside.stretch in
    let view : shown_by o us ≡ c.args.self.now = c.self.view_is in
    let size = length_shown o us in
    let now = ap length view in
    let ok = c.self.inside.items.ok.0 in
    let there = c.requires in
    omega (arith, there, size, now, ok)

pub returns : goal.returns
returns c = λ told u at others there later.
    let us = c.self.inside.items.items in
    let o = c.self.inside.stretch in
    let view : shown_by o us ≡ c.args.self.now = c.self.view_is in
    let size = length_shown o us in
    let now = ap length view in
    let ok = c.self.inside.items.ok.0 in
    let requires = c.requires in
    let within : c.args.place < length us = omega (arith, requires, size, now) in
    shown_case (λ (x : List Instr). cross (λ a b. meet a b later) x others ≡ Ok (x, others)) o us c.args.place u c.index-unsent.result.now c.self.invariant within (subst (λ l. IsAt c.args.place l u) (sym view) at) c.index-unsent.ensures
    refl (c.stays_apart.ensures.own told others there later) (λ a kind. c.stays_apart.ensures.told told a kind others there later)
