-- The numbers of breaks and mismatches.
use Rattle.std.specs.Prelude.{ℕ}
use Rattle.sync_base.specs.declared.answers.Break.{Break}
use Rattle.sync_base.specs.declared.answers.Break.TheVariants as breaks
use Rattle.sync_base.specs.declared.answers.Mismatch.{Mismatch}
use Rattle.sync_base.specs.declared.answers.Mismatch.TheVariants as mismatches

abbrev pub break_code : Break → ℕ
break_code breaks.TableExists = 10
break_code breaks.NoTable = 11
break_code breaks.ColumnExists = 12
break_code breaks.BadColumn = 13
break_code breaks.NoColumn = 14
break_code breaks.WrongShape = 20
break_code breaks.WrongKind = 21
break_code breaks.BadPrior = 23
break_code breaks.NoObject = 30
break_code breaks.WrongKeyKind = 31

abbrev pub mismatch_code : Mismatch → ℕ
mismatch_code mismatches.TablesDiffer = 1
mismatch_code mismatches.ColumnsDiffer = 2
mismatch_code mismatches.SizesDiffer = 3
mismatch_code mismatches.Range = 4
