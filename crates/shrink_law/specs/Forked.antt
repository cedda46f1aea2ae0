-- What an heir makes of a client whose file was copied or put back from a backup, by how many of its own transactions that client
-- itself saw in the history, or can be verified to stand there.
use Rattle.std.specs.Prelude.{ℕ, suc, ◌+◌, ◌&&◌, List, [], ◌∷◌, ◌==◌, if◌then◌else◌}
use Rattle.sync_model.specs.Messages.{Sent}
use Rattle.sync_model.specs.Clients.{Client, Unsent}
use Rattle.sync_model.specs.Resets.{RecoveryLine, Handled, Known, SavedAs, Refuses, ByClient}
use Rattle.shrink_law.specs.Short.{taken}
use Rattle.shrink_law.specs.Current.{own_stamps}

-- the change is saved, or was saved before, or the heir's commit refuses it; it is never said to be in the history, and none is left out
abbrev pub IsSavedOrRefused : RecoveryLine → Type 0
IsSavedOrRefused (Handled number Known) = Unit {0}
IsSavedOrRefused (Handled number (SavedAs made dropped)) = Unit {0}
IsSavedOrRefused (Refuses (ByClient why)) = Unit {0}
IsSavedOrRefused line = ⊥

-- how many of these, from the first on, have the numbers and times of what is unsent
abbrev pub matched : {I : Type 0} → List (ℕ × ℕ) → List (Unsent I) → ℕ
matched [] us = 0
matched (q ∷ qs) [] = 0
matched (q ∷ qs) (u ∷ us) = if (q.0 == u.original.number) && (q.1 == u.original.ms) then suc (matched qs us) else 0

-- how many of a client's transactions are in the history as itself, by the entries behind its cursor
abbrev pub verified : {I S : Type 0} → Client I S → List Sent → ℕ
verified c ahead = taken c + matched (own_stamps c.ident ahead) c.unsent
