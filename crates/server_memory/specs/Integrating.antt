-- What is asked of a change that an ident makes next.
use Rattle.std.specs.Prelude.{◌≡◌, ℕ, zero, suc, true, List, All, Option, None, Some}
use Rattle.sync_data.specs.declared.instr.Instr.{Instr}
use Rattle.sync_recip.specs.Carrying.{Carrying, Fits, entries_of}
use Rattle.sync_exchange.specs.Profile.{fits_changeset}
use Rattle.sync_model.specs.Parts.{Given, at_ident}
use Rattle.server_memory.specs.History.{IsOther}

-- the ident at a place that counts from 1, where 0 stands for none
abbrev pub found : ℕ → Option ℕ
found zero = None
found (suc n) = Some (suc n)

-- a change with this number, as carried over the ident's reciprocal list
pub record IsNext (ident number base : ℕ) (c : Carrying) (gs : List (Given Instr)) : Type 0 where
  pub given : Given Instr
  pub is_given : at_ident ident gs ≡ Some given
  pub next : number ≡ suc given.count
  pub base_is : c.base ≡ base
  pub fits : Fits c given.reciprocal
  pub small : fits_changeset c.changes.instrs ≡ true
  pub others : All (IsOther ident) (entries_of c given.reciprocal)
