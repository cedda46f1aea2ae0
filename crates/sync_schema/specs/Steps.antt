-- What is taken back, which name comes next, and what the refusals of a schema say.
use Rattle.std.specs.Prelude.{◌≡◌, ℕ, List, Option, None, Some, Result, Ok, Err}
use Rattle.std.specs.FinMap as map
use Rattle.sync_base.specs.declared.answers.Break.{Break}
use Rattle.sync_base.specs.declared.answers.Break.TheVariants as breaks
use Rattle.sync_base.specs.States.{Table, Tables, State}
use Rattle.sync_schema.specs.declared.refusal.SchemaRefusal.{SchemaRefusal}
use Rattle.sync_schema.specs.declared.refusal.SchemaRefusal.TheVariants as refusals

-- a table without one of its columns
abbrev pub without_column : List ℕ → Table → Table
without_column c table = record { key = table.key; columns = map.remove table.columns c }

abbrev pub tables_without_column : List ℕ → List ℕ → Tables → Tables
tables_without_column t c tables = elim (map.get tables t) [ None ↦ tables | Some table ↦ map.insert tables t (without_column c table) ]

-- the tables alone, as a state
abbrev pub bare : Tables → State
bare tables = record { tables = tables; objects = map.empty }

-- the break that a refusal names: none for out of memory
abbrev pub named_break : SchemaRefusal → Option Break
named_break refusals.TableExists = Some breaks.TableExists
named_break refusals.NoTable = Some breaks.NoTable
named_break refusals.ColumnExists = Some breaks.ColumnExists
named_break refusals.BadColumn = Some breaks.BadColumn
named_break refusals.NoMemory = None

-- the answer is the break, where there is one, and else only out of memory is refused
abbrev pub IsRefusedBy : Option Break → Result (Unit {0}) SchemaRefusal → Type 0
IsRefusedBy found (Ok u) = found ≡ None
IsRefusedBy found (Err e) = found ≡ named_break e
