use Rattle.std.proofs.Common.{◌≡◌, ◌<◌, List, Ok, length, sym, ap, subst, arith}
use Rattle.sync_recip.specs.Stretches.{shown_by, IsAt}
use Rattle.sync_data.specs.declared.instr.Instr.{Instr}
use Rattle.sync_theory.specs.Lists.{cross}
use Rattle.sync_law.specs.Instrs.{meet}
use Rattle.sync_recip.proofs.Shown.{length_shown, shown_case}
use Rattle.sync_recip.proofs.Standing.{none_crossed}
use Rattle.sync_recip.proofs.items.Items.stays.Goals as goal

pub index-one-requires : goal.index-one-requires
index-one-requires c =
    let us = c.self.inside.kept.items in
    let o = c.self.inside.stretch in
    let view : shown_by o us ≡ c.args.self.now = c.self.view_is in
    let size = length_shown o us in
    let now = ap length view in
    let ok = c.self.inside.kept.ok.0 in
    let there = c.requires in
    omega (arith, there, size, now, ok)

pub returns-then-stays_apart : goal.returns-then-stays_apart
returns-then-stays_apart c = λ told k at covers. c.stays_apart.ensures told k at c.args.changes.now.instrs covers

pub returns-else-stays_apart : goal.returns-else-stays_apart
returns-else-stays_apart c = λ told k at covers later.
    let us = c.self.inside.kept.items in
    let o = c.self.inside.stretch in
    let view : shown_by o us ≡ c.args.self.now = c.self.view_is in
    let size = length_shown o us in
    let now = ap length view in
    let requires = c.requires in
    let within : c.args.place < length us = omega (arith, requires, size, now) in
    let others = c.args.changes.now.instrs in
    shown_case (λ (x : List Instr). cross (λ a b. meet a b later) others x ≡ Ok (others, x)) o us c.args.place k c.index-one.result.now c.self.invariant within (subst (λ l. IsAt c.args.place l k) (sym view) at) c.index-one.ensures
    (none_crossed (λ a b. meet a b later) others) (c.stays.ensures.own told later) (λ a kind. c.stays.ensures.told told a kind later)
