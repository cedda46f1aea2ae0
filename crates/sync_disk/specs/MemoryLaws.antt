-- The strokes of a disk in memory on which no call was set to fail.
use Rattle.std.specs.Prelude.{◌≡◌, ℕ, suc, Bool, ◌&&◌, List, [], ◌∷◌, length, Option}
use Rattle.std.proofs.Common.{refl, ◌∙◌, ap, arith}
use Rattle.sync_disk.specs.Strokes.{Act, Stroke, acts_of}
use Rattle.sync_disk.specs.Faults.{is_past, is_lost, planned}
use Rattle.sync_disk.specs.Memory.{act_of, stroke_of, strokes_of, failures_of, failures, losses_of, losses}
use Rattle.sync_disk.specs.declared.kept.KeptStroke.{KeptStroke}

-- where no call was set to fail, none is
pub none_of : (failing : List ℕ) → length failing ≡ 0 → failing ≡ []
none_of [] none = refl
none_of (n ∷ failing) none = absurd (omega arith)

abbrev marked : Act → Bool → Bool → Stroke
marked act failed lost = record { act = act; failed = failed; lost = lost }

marked_as : (act : Act) (failed past lost gone : Bool) → failed ≡ past → lost ≡ (failed && gone) → marked act failed lost ≡ marked act past (past && gone)
marked_as act failed past lost gone f l = ap (marked act failed) l ∙ ap (λ (b : Bool). marked act b (b && gone)) f

-- the strokes, from which of them failed and had no effect
as_marked : (stop : Option ℕ) (n : ℕ) (kept : List KeptStroke) → failures_of kept ≡ failures stop n kept → losses_of kept ≡ losses stop n kept → strokes_of kept ≡ planned stop n (acts_of (strokes_of kept))
as_marked stop n [] marked losing = refl
as_marked stop n (k ∷ kept) marked losing =
    let failed : k.failed ≡ is_past stop n = cc in
    let lost : k.lost ≡ (k.failed && is_lost stop n (act_of k.asked)) = cc in
    let rest = as_marked stop (suc n) kept (cc) (cc) in
    let same : stroke_of k ≡ record { act = act_of k.asked; failed = is_past stop n; lost = is_past stop n && is_lost stop n (act_of k.asked) } = marked_as (act_of k.asked) k.failed (is_past stop n) k.lost (is_lost stop n (act_of k.asked)) failed lost in
    cc (rest, same)

pub planned_by_marks : (stop : Option ℕ) (failing : List ℕ) (kept : List KeptStroke) → (failing ≡ [] → failures_of kept ≡ failures stop 0 kept) → losses_of kept ≡ losses stop 0 kept → length failing ≡ 0
    → strokes_of kept ≡ planned stop 0 (acts_of (strokes_of kept))
planned_by_marks stop failing kept marked losing none = as_marked stop 0 kept (marked (none_of failing none)) losing
