-- The first write on an empty disk.
use Rattle.std.proofs.Common.{◌≡◌, ℕ, zero, suc, ◌+◌, List, [], ◌++◌, length, take, drop, Option, Some, Result, Ok, Err, refl, ◌∙◌, ap, append-nil}
use Rattle.sync_disk.specs.declared.refusal.DiskRefusal.{DiskRefusal}
use Rattle.sync_disk.specs.Disk.{Becomes, put}

none_left : (n : ℕ) → drop {A = ℕ} n [] ≡ []
none_left zero = refl
none_left (suc n) = refl

none_before : (n : ℕ) → take {A = ℕ} n [] ≡ []
none_before zero = refl
none_before (suc n) = refl

put_first : (bytes : List ℕ) → put [] 0 bytes ≡ bytes
put_first bytes = ap (λ (l : List ℕ). (take 0 [] ++ bytes) ++ l) (none_left (0 + length bytes)) ∙ append-nil (take 0 [] ++ bytes) ∙ ap (λ (l : List ℕ). l ++ bytes) (none_before 0)

pub first_written : {T : Type 0} (bytes : List ℕ) (result : Result T DiskRefusal) (x : T) (content : Option (List ℕ)) → Becomes [] (put [] 0 bytes) result content → result ≡ Ok x → content ≡ Some bytes
first_written bytes (Ok y) x content becomes is = becomes.done ∙ ap (λ (l : List ℕ). Some l) (put_first bytes)
first_written bytes (Err e) x content becomes is = absurd cc
