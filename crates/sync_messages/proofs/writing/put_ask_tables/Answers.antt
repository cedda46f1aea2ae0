use Rattle.std.proofs.Common.{Result, Ok, Err, OnOk, subst, arith}
use Rattle.subset_bytes.specs.Spelling.{AreTables}
use Rattle.sync_messages.specs.Whole.{IsWholeAsk, IsWholeAskTables}
use Rattle.sync_messages.proofs.writing.put_ask_tables.Goals as goal

on_ok : {T E : Type 0} (r : Result T E) (A C : Type 0) → OnOk r A → (A → C) → OnOk r C
on_ok (Ok u) A C a f = f a
on_ok (Err m) A C a f = tt

pub returns-clause-is : goal.returns-clause-is
returns-clause-is c =
    on_ok c.put_tables.result _ (IsWholeAskTables c.args.asked.now) c.put_tables.ensures.are (λ are. (
      record { first = omega (arith, c.form.ensures.value, c.form.ensures.first); second = omega (arith, c.form.ensures.value, c.form.ensures.second) },
      subst IsWholeAsk c.ask.ensures c.in_ok-put_ask.ensures.is,
      subst AreTables c.tables.ensures are,
    ))
