-- Changesets of the code as the theory has them.
use Rattle.std.specs.Prelude.{ℕ}
use Rattle.sync_data.specs.declared.instr.Instr.{Instr}
use Rattle.sync_data.specs.Payload.{Changes}
use Rattle.sync_theory.specs.Changesets.{Changeset}

-- a changeset with the ident of who made it, and its number there
abbrev pub made_by : (ident number : ℕ) → Changes → Changeset Instr
made_by ident number c = record { origin = ident; number = number; ms = c.ms; instrs = c.instrs }
