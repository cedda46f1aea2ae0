-- The changesets into which a list of instructions is cut.
use Rattle.std.specs.Prelude.{◌≡◌, List, ◌++◌, map}
use Rattle.sync_data.specs.Payload.{Changes}
use Rattle.sync_data.specs.declared.instr.Instr.{Instr}
use Rattle.sync_model.specs.Cuts.{cut_after}
use Rattle.sync_exchange.specs.Profile.{fits_changeset}

-- instructions as a changeset, whose time is 0
abbrev pub untimed : List Instr → Changes
untimed is = record { ms = 0; instrs = is }

-- the changesets so far, and the instructions of the next one
pub record Cut : Type 0 where
  pub parts : List Changes
  pub part : List Instr

-- all changesets, where these instructions come next and no more after them
abbrev pub parts_with : Cut → List Instr → List Changes
parts_with c rest = c.parts ++ map untimed (cut_after fits_changeset c.part rest)

-- of all these instructions, those are left to come
abbrev pub Leaves : Cut → Cut → List Instr → List Instr → Type 0
Leaves old new all left = (rest : List Instr) → parts_with new (left ++ rest) ≡ parts_with old (all ++ rest)

-- these instructions have come
abbrev pub Takes : Cut → Cut → List Instr → Type 0
Takes old new is = (rest : List Instr) → parts_with new rest ≡ parts_with old (is ++ rest)
