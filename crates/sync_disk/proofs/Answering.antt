-- What follows from a call's answer.
use Rattle.std.proofs.Common.{◌≡◌, Bool, true, false, Result, Ok, Err, OnOk, refl, sym, subst}
use Rattle.sync_disk.specs.declared.refusal.DiskRefusal.{DiskRefusal}
use Rattle.sync_disk.specs.declared.refusal.DiskRefusal.TheVariants.{Failed}

whatever : {T : Type 0} (r : Result T DiskRefusal) (P : Type 0) → P → OnOk r P
whatever (Ok x) P holds = holds
whatever (Err e) P holds = tt

-- a call that failed isn't Ok
pub only_done : {T : Type 0} (failed : Bool) (r : Result T DiskRefusal) (P : Type 0) → (failed ≡ true → r ≡ Err Failed) → (failed ≡ false → P) → OnOk r P
only_done {T} true r P fails holds = subst (λ (x : Result T DiskRefusal). OnOk x P) (sym (fails refl)) tt
only_done false r P fails holds = whatever r P (holds refl)
