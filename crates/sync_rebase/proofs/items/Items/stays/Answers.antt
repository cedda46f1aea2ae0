use Rattle.std.proofs.Common.{◌≡◌, ◌<◌, List, Ok, refl, length, sym, ap, subst, arith}
use Rattle.sync_rebase.specs.Stretches.{shown_by, IsAt}
use Rattle.sync_rebase.proofs.Shown.{length_shown, shown_case}
use Rattle.sync_data.specs.declared.instr.Instr.{Instr}
use Rattle.sync_theory.specs.Lists.{cross}
use Rattle.sync_law.specs.Instrs.{meet}
use Rattle.sync_rebase.proofs.items.Items.stays.Goals as goal

pub index-unsent-requires : goal.index-unsent-requires
index-unsent-requires c =
    let us = c.self.inside.items.items in
    let o = c.self.inside.stretch in
    let view : shown_by o us ≡ c.args.self.now = c.self.view_is in
    let size = length_shown o us in
    let now = ap length view in
    let ok = c.self.inside.items.ok.0 in
    let there = c.requires in
    omega (arith, there, size, now, ok)

pub returns-then-stays_apart : goal.returns-then-stays_apart
returns-then-stays_apart c = λ told u at covers. c.stays_apart.ensures told u at c.args.changes.now.instrs covers

pub returns-else-stays_apart : goal.returns-else-stays_apart
returns-else-stays_apart c = λ told u at covers later.
    let us = c.self.inside.items.items in
    let o = c.self.inside.stretch in
    let view : shown_by o us ≡ c.args.self.now = c.self.view_is in
    let size = length_shown o us in
    let now = ap length view in
    let requires = c.requires in
    let within : c.args.place < length us = omega (arith, requires, size, now) in
    shown_case (λ (x : List Instr). cross (λ a b. meet a b later) x c.args.changes.now.instrs ≡ Ok (x, c.args.changes.now.instrs)) o us c.args.place u c.index-unsent.result.now c.self.invariant within (subst (λ l. IsAt c.args.place l u) (sym view) at) c.index-unsent.ensures
    refl (c.stays.ensures.own told later) (λ a kind. c.stays.ensures.told told a kind later)
