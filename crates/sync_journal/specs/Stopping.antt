-- How many records stand after a crash of a disk that was armed.
use Rattle.std.specs.Prelude.{◌≡◌, ℕ, ◌+◌, ◌/◌, ◌%◌, ◌≤◌, nat_le, ◌&&◌, if◌then◌else◌, Bool, true, false, List, [], ◌∷◌, length}
use Rattle.sync_disk.specs.declared.leaves.Leaves.{Leaves}
use Rattle.sync_disk.specs.declared.leaves.Leaves.TheVariants.{Drop, Keep, Torn}
use Rattle.sync_journal.specs.Records.{is_note, longest}

abbrev pub is_keep : Leaves → Bool
is_keep Drop = false
is_keep Keep = true
is_keep Torn = false

-- The disk stops at the stroke of this number, counted from 0, of several appends. Each append has four strokes. Those
-- before it stand, and its own record does where its gate was written and is kept.
abbrev pub standing : Leaves → ℕ → ℕ
standing leaves at = at / 4 + (if nat_le 2 (at % 4) && is_keep leaves then 1 else 0)

-- each of these can be appended: it isn't too long, and no note
abbrev pub CanStand : List ℕ → Type 0
CanStand next = (length next ≤ longest) × (is_note next ≡ false)

abbrev pub CanAllStand : List (List ℕ) → Type 0
CanAllStand [] = Unit {0}
CanAllStand (next ∷ others) = CanStand next × CanAllStand others
