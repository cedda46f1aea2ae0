-- Which calls of a disk fail, where it tells its content.
use Rattle.std.specs.Prelude.{◌≡◌, ◌⊎◌, ℕ, suc, ◌+◌, ◌-◌, if◌then◌else◌, Bool, true, false, not, ◌&&◌, ◌||◌, ◌==◌, nat_le, nat_lt, List, [], ◌∷◌, map, length, Option, Some, None, Result, OnOk, IsErrOf}
use Rattle.std.specs.List.{list_any}
use Rattle.sync_disk.specs.declared.refusal.DiskRefusal.{DiskRefusal}
use Rattle.sync_disk.specs.declared.refusal.DiskRefusal.TheVariants.{Failed, NoMemory}
use Rattle.sync_disk.specs.declared.leaves.Leaves.{Leaves}
use Rattle.sync_disk.specs.declared.leaves.Leaves.TheVariants.{Keep}
use Rattle.sync_disk.specs.Strokes.{Act, Stroke}
use Rattle.sync_disk.specs.Strokes.Act.{Write, Sync}
use Rattle.sync_disk.specs.Origin.{Origin}

-- after n strokes it has stopped
abbrev pub has_stopped : Option ℕ → ℕ → Bool
has_stopped None n = false
has_stopped (Some stop) n = nat_lt stop n

-- the stroke of this number is the one at the stop
abbrev pub is_at : Option ℕ → ℕ → Bool
is_at None n = false
is_at (Some stop) n = stop == n

-- the stroke of this number is at the stop or behind it
abbrev pub is_past : Option ℕ → ℕ → Bool
is_past None n = false
is_past (Some stop) n = nat_le stop n

-- Calls are set to fail by their numbers from now, counted from 1. The next one is among them.
abbrev pub is_due : List ℕ → Bool
is_due failing = list_any (λ (n : ℕ). n == 1) failing

-- after a call
abbrev pub count_down : List ℕ → List ℕ
count_down failing = map (λ (n : ℕ). n - 1) failing

-- `len` and `read_at` fail where they are set to, and once the disk has stopped
abbrev pub look_fails : Origin → List ℕ → List Stroke → Bool
look_fails o failing strokes = is_due failing || has_stopped o.stop (length strokes)

-- `write_at` and `sync` fail where they are set to, and at the stop and behind it
abbrev pub stroke_fails : Origin → List ℕ → List Stroke → Bool
stroke_fails o failing strokes = is_due failing || is_past o.stop (length strokes)

abbrev pub is_write : Act → Bool
is_write (Write place bytes) = true
is_write Sync = false

-- a stroke that fails has no effect, but for the write at which the disk stops
abbrev pub is_lost : Option ℕ → ℕ → Act → Bool
is_lost stop n act = not (is_write act && is_at stop n)

-- these strokes, the first of which has this number, where no call was set to fail
abbrev pub planned : Option ℕ → ℕ → List Act → List Stroke
planned stop n [] = []
planned stop n (act ∷ acts) = record { act = act; failed = is_past stop n; lost = is_past stop n && is_lost stop n act } ∷ planned stop (suc n) acts

-- a call answers `Failed` exactly where it fails, but for out of memory, and is counted
pub record AsForetold {T : Type 0} (fails : Bool) (old new : List ℕ) (result : Result T DiskRefusal) : Type 0 where
  pub failed : IsErrOf result Failed → fails ≡ true
  pub done : OnOk result (fails ≡ false)
  pub counted : IsErrOf result NoMemory ⊎ (new ≡ count_down old)
  pub refused : IsErrOf result NoMemory → new ≡ old

-- the origin after a disk is armed or disarmed behind n strokes, which does nothing to the stop of one that has stopped
abbrev pub armed : ℕ → Leaves → Origin → ℕ → Origin
armed at leaves o n = record { start = o.start; stop = if has_stopped o.stop n then o.stop else Some (n + at - 1); leaves = leaves; listed = o.listed }

abbrev pub disarmed : Origin → ℕ → Origin
disarmed o n = record { start = o.start; stop = if has_stopped o.stop n then o.stop else None; leaves = o.leaves; listed = o.listed }

-- the origin after a disk begins anew with this content
abbrev pub begun : List ℕ → Origin → Origin
begun content o = record { start = content; stop = None; leaves = Keep; listed = o.listed }

-- no call fails
pub record IsSound (o : Origin) : Type 0 where
  pub never : o.stop ≡ None
  pub none : o.listed ≡ 0
