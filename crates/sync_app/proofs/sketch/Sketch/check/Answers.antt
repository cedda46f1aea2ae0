use Rattle.std.proofs.Common.{sym, subst}
use Rattle.sync_base.specs.Effects.{NewTable, effect_of}
use Rattle.sync_app.specs.Checking.{break_in}
use Rattle.sync_app.specs.Finding.{Finds}
use Rattle.sync_app.proofs.sketch.Sketch.check.Goals as goal

pub returns-in-AddTable : goal.returns-in-AddTable
returns-in-AddTable c =
    subst (λ i. Finds c.judged.result (break_in c.args.self.now (effect_of i))) (sym c.in-AddTable.is)
    (c.judged.ensures (break_in c.args.self.now (NewTable c.in-AddTable.i.table c.in-AddTable.i.key)) (c.check_table.ensures c.in-AddTable.i.key))
