-- A new entry goes to the reciprocal lists of all idents but its own.
use Rattle.std.specs.Prelude.{ℕ, zero, suc, ◌==◌, List, [], ◌∷◌, if◌then◌else◌}
use Rattle.sync_data.specs.declared.instr.Instr.{Instr}
use Rattle.sync_theory.specs.Changesets.{Changeset}
use Rattle.sync_model.specs.Parts.{Given, extended}

-- the ident at a place, where another is the entry's own
abbrev pub extended_at : (own version : ℕ) → Changeset Instr → ℕ → Given Instr → Given Instr
extended_at own version x k g = if k == own then g else extended version x g

-- so many idents from place k on have it
abbrev pub first_extended : (n own version : ℕ) → Changeset Instr → ℕ → List (Given Instr) → List (Given Instr)
first_extended zero own version x k gs = gs
first_extended (suc n) own version x k [] = []
first_extended (suc n) own version x k (g ∷ gs) = extended_at own version x k g ∷ first_extended n own version x (suc k) gs
