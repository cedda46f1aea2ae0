-- What is read of what a server keeps.
use Rattle.std.specs.Prelude.{ℕ, ◌-◌, ◌&&◌, List, Option, Some, None, nat_lt, nat_le, if◌then◌else◌, slice_get, max}
use Rattle.sync_data.specs.declared.instr.Instr.{Instr}
use Rattle.sync_base.specs.States.{State}
use Rattle.sync_data.specs.Payload.{Changes}
use Rattle.sync_theory.specs.Changesets.{Changeset}
use Rattle.sync_model.specs.Parts.{Given, Parts, at_ident}
use Rattle.sync_model.specs.Trims.{is_live}
use Rattle.sync_recip.specs.Lists.{entry_at}
use Rattle.server_memory.specs.declared.counts.Counts.{Counts}

-- the item of a version, where the first one is of the floor; none below it
abbrev pub item_from : {A : Type 0} → ℕ → List A → ℕ → Option A
item_from floor xs version = if nat_lt version floor then None else slice_get xs (version - floor)

-- the entry of a version as the changes of an ident that has these cross it; none where they can't come any more
abbrev pub crossed_by : ℕ → ℕ → Option (Given Instr) → Option (Changeset Instr)
crossed_by floor version None = None
crossed_by floor version (Some g) = if is_live g && nat_le (max floor g.last) version then entry_at version g.reciprocal else None

-- the same of a server
abbrev pub past : Parts Instr State → ℕ → ℕ → Option (Changeset Instr)
past kept ident version = crossed_by kept.floor version (at_ident ident kept.idents)

-- the entries of others as the changes of an ident cross them, from which nothing is left out; none of an ident of which
-- no changes can come any more
abbrev pub live_list : Option (Given Instr) → Option (List (ℕ × Changeset Instr))
live_list None = None
live_list (Some g) = if is_live g then Some g.reciprocal else None

-- its list, with its time
abbrev pub changes_of : Changeset Instr → Changes
changes_of x = record { ms = x.ms; instrs = x.instrs }

-- the numbers of an ident
abbrev pub counts_of : Given Instr → Counts
counts_of g = record { number = g.count; base = g.last; settled = g.mark }
