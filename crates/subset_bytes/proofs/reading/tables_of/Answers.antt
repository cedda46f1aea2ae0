use Rattle.std.proofs.Common.{◌≡◌, ℕ, List, ◌++◌, Some, Ok, Err, Result, subst, arith, ap, ◌∙◌}
use Rattle.std.specs.Prelude.{IfOk}
use Rattle.sync_io.specs.VarintLaws.{IsBytes}
use Rattle.sync_subset.specs.Tables.{Tables}
use Rattle.subset_bytes.specs.declared.refusal.TablesRefusal.{TablesRefusal}
use Rattle.subset_bytes.specs.Laws.{tables_are, tables_fit, tables_whole}
use Rattle.subset_bytes.specs.Spelling.{AreTables, tables_spelling}
use Rattle.subset_bytes.specs.Reading.{Gives, tables_in}
use Rattle.subset_bytes.proofs.reading.tables_of.Goals as goal

module _ {X : Type 0} (view : X → Tables × List ℕ) (bytes : List ℕ) (fits : IsBytes bytes) where
  is_found : (r : Result X TablesRefusal) → Gives view r (tables_in bytes) → IfOk r (λ x. bytes ≡ tables_spelling (view x).0 ++ (view x).1)
  is_found (Ok x) given = (tables_are.takes bytes (view x) fits given).0.parts
  is_found (Err refusal) given = tt

  are_found : (r : Result X TablesRefusal) → Gives view r (tables_in bytes) → IfOk r (λ x. AreTables (view x).0)
  are_found (Ok x) given = tables_whole (view x).0 (tables_are.takes bytes (view x) fits given).1
  are_found (Err refusal) given = tt

is_read : (bytes : List ℕ) (tables : Tables) (rest : List ℕ) → AreTables tables → bytes ≡ tables_spelling tables ++ rest → tables_in bytes ≡ Some (tables, rest)
is_read bytes tables rest are e = ap tables_in e ∙ tables_are.again tables rest (tables_fit tables are)

pub returns-clause-found : goal.returns-clause-found
returns-clause-found c = is_found (λ x. (x.0, x.1.now)) c.args.bytes.now (λ i. omega (arith, c.type_inv.bytes i)) c.subset_of.result c.subset_of.ensures

pub returns-clause-only : goal.returns-clause-only
returns-clause-only c = λ tables rest are e. subst (λ read. Gives {Y = Tables × List ℕ} (λ x. (x.0, x.1.now)) c.subset_of.result read) (is_read c.args.bytes.now tables rest are e) c.subset_of.ensures

pub returns-clause-are : goal.returns-clause-are
returns-clause-are c = are_found (λ x. (x.0, x.1.now)) c.args.bytes.now (λ i. omega (arith, c.type_inv.bytes i)) c.subset_of.result c.subset_of.ensures
