use Rattle.std.proofs.Common.{◌≡◌, ◌-◌, List, ℕ, refl, ap, sym, subst, ◌∙◌, arith}
use Rattle.sync_client.specs.Fronts.{Waits, WaitsNow}
use Rattle.sync_client.proofs.Fronts.{tables_on, tables_true, waits_on, waits_true}
use Rattle.sync_client.proofs.replica.Replica.admit_behind.Goals as goal

pub returns-then-branch : goal.returns-then-branch
returns-then-branch c = λ past w.
    tables_on past c.args.self.now c.args.owed w c.admit_tables.new.self c.args.bytes.now c.in-Ok-Subset.field-0 c.in-Ok-Subset.tables c.in-Ok-Subset.ensures.exact c.in-Ok-Subset.ensures.found c.in-Ok-Subset.field-0-is
    (tables_true c.in-Ok-Subset.tables c.args.self.now c.admit_tables.new.self c.in_ok-admit_tables-in-Ok-Subset.field-0 c.if-branch.true c.in_ok-admit_tables-in-Ok-Subset.ensures)

pub returns-then-branch-2 : goal.returns-then-branch-2
returns-then-branch-2 c = λ past w.
    waits_on past c.args.self.now c.args.owed w c.admit_unsent.new.self c.args.bytes.now c.in-Ok-Waits.field-0 c.in-Ok-Waits.number c.in-Ok-Waits.base c.in-Ok-Waits.ms c.in-Ok-Waits.body c.in-Ok-Waits.current c.in-Ok-Waits.ensures.exact c.in-Ok-Waits.ensures.found c.in-Ok-Waits.ensures.is c.in-Ok-Waits.field-0-is c.if-owed-ne0.true
    (subst (λ (b : List ℕ). WaitsNow c.in-Ok-Waits.number c.in-Ok-Waits.base c.in-Ok-Waits.ms b c.in-Ok-Waits.current c.args.self.now c.admit_unsent.new.self) c.bytes.ensures
    (subst (λ (b : List ℕ). WaitsNow c.in-Ok-Waits.number c.in-Ok-Waits.base c.in-Ok-Waits.ms c.bytes.result.now b c.args.self.now c.admit_unsent.new.self) c.bytes-then-owed-ne0.ensures
    (waits_true c.in-Ok-Waits.number c.in-Ok-Waits.base c.in-Ok-Waits.ms c.bytes.result.now c.bytes-then-owed-ne0.result.now c.args.self.now c.admit_unsent.new.self c.in_ok-admit_unsent-in-Ok-Waits.field-0 c.if-branch-2.true c.in_ok-admit_unsent-in-Ok-Waits.ensures)))
