use Rattle.std.proofs.Common.{All, List, ℕ, subst}
use Rattle.subset_bytes.specs.Spelling.{IsTableName}
use Rattle.sync_world.proofs.tables.tables_keep.Goals as goal

pub returns : goal.returns
returns c = (c.names.ensures.good, subst (λ (xs : List (List ℕ)). All IsTableName xs) c.names.ensures.listed c.names_keep.ensures)
