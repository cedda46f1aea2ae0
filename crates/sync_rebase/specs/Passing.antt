-- One unsent changeset and the entry as carried to it.
use Rattle.std.specs.Prelude.{◌≡◌, ℕ, Err}
use Rattle.sync_data.specs.declared.instr.Instr.{Instr}
use Rattle.sync_data.specs.Payload.{Changes}
use Rattle.sync_base.specs.declared.answers.Mismatch as base
use Rattle.sync_theory.specs.Changesets.{cross_sets}
use Rattle.sync_law.specs.Instrs.{meet}
use Rattle.sync_model.specs.Clients.{Unsent, changeset_of}
use Rattle.sync_transform.specs.Sets.{made_by}
use Rattle.sync_rebase.specs.declared.refusal.RebaseRefusal.{RebaseRefusal}
use Rattle.sync_rebase.specs.declared.refusal.RebaseRefusal.TheVariants.{Mismatch, NoMemory}

-- they can't cross, at these places of their lists
pub record Mismatches (own : ℕ) (u : Unsent Instr) (origin : ℕ) (c : Changes) (kind : base.Mismatch) : Type 0 where
  pub left : ℕ
  pub right : ℕ
  pub stuck : (n : ℕ) → cross_sets meet (changeset_of own u) (made_by origin n c) ≡ Err (left, right, kind)

-- why the entry stops there
abbrev pub StopsAt : ℕ → Unsent Instr → ℕ → Changes → RebaseRefusal → Type 0
StopsAt own u origin c (Mismatch number kind) = (number ≡ u.original.number) × Mismatches own u origin c kind
StopsAt own u origin c NoMemory = Unit {0}
