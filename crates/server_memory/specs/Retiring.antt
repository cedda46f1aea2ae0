-- What a server answers where an ident is to be retired.
use Rattle.std.specs.Prelude.{◌≡◌, ℕ, Bool, true, false, [], ◌∷◌, Result, Ok, Err}
use Rattle.sync_data.specs.declared.instr.Instr.{Instr}
use Rattle.sync_base.specs.States.{State}
use Rattle.sync_model.specs.Messages.{Retired}
use Rattle.sync_model.specs.Parts.{Parts, Served, as_before, at_ident, retire_by, retired_for}
use Rattle.sync_model.specs.Servers.{ServerRecord, refuses, replies}
use Rattle.server_memory.specs.Refusals.{refusal_seen}
use Rattle.server_memory.specs.declared.refusal.Refusal.{Refusal}
use Rattle.server_memory.specs.declared.retiring.Retirement.{Retirement}

-- what a server does with a question of ident `by` that ident c is retired
abbrev pub retiring : Parts Instr State → ℕ → ℕ → Served Instr State
retiring kept c by = retire_by kept c by (at_ident c kept.idents) (at_ident by kept.idents)

-- the number of its last integrated change is answered, and a truth value tells whether the ident is retired now
abbrev pub RetiresAs : Bool → ℕ → Parts Instr State → ℕ → ℕ → Type 0
RetiresAs true n kept c by = retiring kept c by ≡ record { records = ServerRecord.Retired c by ∷ []; answer = Retired c by n; parts = retired_for kept c by }
RetiresAs false n kept c by = retiring kept c by ≡ as_before kept (replies (Retired c by n))

-- it is refused; or the ident is retired now, or was before
abbrev pub Retires : Result Retirement Refusal → Parts Instr State → ℕ → ℕ → Type 0
Retires (Err why) kept c by = retiring kept c by ≡ as_before kept (refuses by 0 (refusal_seen why))
Retires (Ok r) kept c by = RetiresAs r.is_new r.number kept c by
