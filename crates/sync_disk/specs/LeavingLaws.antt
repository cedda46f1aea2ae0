-- What a disk in memory leaves at a crash is an image.
use Rattle.std.specs.Prelude.{◌≡◌, ℕ, zero, suc, ◌+◌, ◌-◌, ◌/◌, ◌≤◌, Bool, true, false, nat_le, nat_lt, ◌&&◌, ◌||◌, if◌then◌else◌, List, [], ◌∷◌, length, get_or}
use Rattle.std.proofs.Common.{inl, inr, refl, ◌∙◌, ap, arith}
use Rattle.std.proofs.lemmas.Bool.Decides.{nat_tests}
use Rattle.sync_disk.specs.Strokes.{Act, Stroke}
use Rattle.sync_disk.specs.Strokes.Act.{Write, Sync}
use Rattle.sync_disk.specs.Images.{State, IsImage, Outside, is_written, synced, act_on, after, state}
use Rattle.sync_disk.specs.ImageLaws.{is_image_after}
use Rattle.sync_disk.specs.Leaving.{count_written, tear, left_by}
use Rattle.sync_disk.specs.declared.leaves.Leaves.{Leaves}
use Rattle.sync_disk.specs.declared.leaves.Leaves.TheVariants.{Drop, Keep, Torn}

length-tear : (k left : ℕ) (ranges : List (ℕ × ℕ)) (bytes : List ℕ) → length (tear k left ranges bytes) ≡ length bytes
length-tear k left ranges [] = refl
length-tear k left ranges (b ∷ bytes) = elim (is_written k ranges) as (λ w. length (if w then (if nat_lt 0 left then b ∷ tear (k + 1) (left - 1) ranges bytes else 0x5a ∷ tear (k + 1) 0 ranges bytes) else b ∷ tear (k + 1) left ranges bytes) ≡ suc (length bytes)) [
  | true ↦ elim (nat_lt 0 left) as (λ v. length (if v then b ∷ tear (k + 1) (left - 1) ranges bytes else 0x5a ∷ tear (k + 1) 0 ranges bytes) ≡ suc (length bytes)) [
    | true ↦ ap (λ (n : ℕ). suc n) (length-tear (k + 1) (left - 1) ranges bytes)
    | false ↦ ap (λ (n : ℕ). suc n) (length-tear (k + 1) 0 ranges bytes)
  ]
  | false ↦ ap (λ (n : ℕ). suc n) (length-tear (k + 1) left ranges bytes)
]

outside_unwritten : (k : ℕ) (ranges : List (ℕ × ℕ)) → Outside k ranges → is_written k ranges ≡ false
outside_unwritten k [] out = refl
outside_unwritten k (range ∷ ranges) (inl below, out) =
    let rest = outside_unwritten k ranges out in
    let first : nat_le range.0 k ≡ false = grind (arith, nat_tests) in
    ap (λ (b : Bool). (b && nat_lt k (range.0 + range.1)) || is_written k ranges) first ∙ rest
outside_unwritten k (range ∷ ranges) (inr above, out) =
    let rest = outside_unwritten k ranges out in
    let second : nat_lt k (range.0 + range.1) ≡ false = grind (arith, nat_tests) in
    elim (nat_le range.0 k) as (λ a. ((a && nat_lt k (range.0 + range.1)) || is_written k ranges) ≡ false) [
      | true ↦ ap (λ (b : Bool). b || is_written k ranges) second ∙ rest
      | false ↦ rest
    ]

-- what wasn't written stays
tear-kept : (k left : ℕ) (ranges : List (ℕ × ℕ)) (bytes : List ℕ) (i : ℕ) → is_written (k + i) ranges ≡ false → get_or (tear k left ranges bytes) i 0 ≡ get_or bytes i 0
tear-kept k left ranges [] i out = refl
tear-kept k left ranges (b ∷ bytes) zero out =
    let here : is_written k ranges ≡ false = ap (λ (n : ℕ). is_written n ranges) (omega arith) ∙ out in
    ap (λ (w : Bool). get_or (if w then (if nat_lt 0 left then b ∷ tear (k + 1) (left - 1) ranges bytes else 0x5a ∷ tear (k + 1) 0 ranges bytes) else b ∷ tear (k + 1) left ranges bytes) 0 0) here
tear-kept k left ranges (b ∷ bytes) (suc i) out =
    let there : is_written (k + 1 + i) ranges ≡ false = ap (λ (n : ℕ). is_written n ranges) (omega arith) ∙ out in
    elim (is_written k ranges) as (λ w. get_or (if w then (if nat_lt 0 left then b ∷ tear (k + 1) (left - 1) ranges bytes else 0x5a ∷ tear (k + 1) 0 ranges bytes) else b ∷ tear (k + 1) left ranges bytes) (suc i) 0 ≡ get_or bytes i 0) [
      | true ↦ elim (nat_lt 0 left) as (λ v. get_or (if v then b ∷ tear (k + 1) (left - 1) ranges bytes else 0x5a ∷ tear (k + 1) 0 ranges bytes) (suc i) 0 ≡ get_or bytes i 0) [
        | true ↦ tear-kept (k + 1) (left - 1) ranges bytes i there
        | false ↦ tear-kept (k + 1) 0 ranges bytes i there
      ]
      | false ↦ tear-kept (k + 1) left ranges bytes i there
    ]

-- what was written was to be written
abbrev pub IsAmong : State → Type 0
IsAmong s = (k : ℕ) → is_written k s.ranges ≡ false → is_written k s.written ≡ false

among_more : (a b c : Bool) → (b ≡ false → c ≡ false) → (a || b) ≡ false → (a || c) ≡ false
among_more true b c more e = e
among_more false b c more e = more e

among_wider : (a b c : Bool) → (b ≡ false → c ≡ false) → (a || b) ≡ false → c ≡ false
among_wider true b c more e = absurd (cc e)
among_wider false b c more e = more e

pub among_act : (s : State) (act : Act) (lost : Bool) → IsAmong s → IsAmong (act_on s act lost)
among_act s (Write place bytes) true among = λ k e. among_wider (nat_le place k && nat_lt k (place + length bytes)) (is_written k s.ranges) (is_written k s.written) (among k) e
among_act s (Write place bytes) false among = λ k e. among_more (nat_le place k && nat_lt k (place + length bytes)) (is_written k s.ranges) (is_written k s.written) (among k) e
among_act s Sync true among = among
among_act s Sync false among = λ k e. refl

among_after : (s : State) (strokes : List Stroke) → IsAmong s → IsAmong (after s strokes)
among_after s [] among = among
among_after s (stroke ∷ strokes) among = among_after (act_on s stroke.act stroke.lost) strokes (among_act s stroke.act stroke.lost among)

pub among : (start : List ℕ) (strokes : List Stroke) → IsAmong (state start strokes)
among start strokes = among_after (synced start) strokes (λ k e. refl)

-- each of the three is an image
pub left_is_image : (leaves : Leaves) (s : State) → IsAmong s → IsImage s s.content → IsImage s (left_by leaves s)
left_is_image Drop s among image = record { no_shorter = omega arith; no_longer = omega (arith, image.no_shorter, image.no_longer); kept = λ k lt out. refl }
left_is_image Keep s among image = image
left_is_image Torn s among image =
    let half = count_written 0 (length s.content) s.written / 2 in
    let same = length-tear 0 half s.written s.content in
    record {
      no_shorter = omega (arith, same, image.no_shorter);
      no_longer = omega (arith, same, image.no_longer);
      kept = λ k lt out. tear-kept 0 half s.written s.content k (ap (λ (n : ℕ). is_written n s.written) (omega arith) ∙ among k (outside_unwritten k s.ranges out)) ∙ image.kept k lt out;
    }

-- a crash leaves an image
pub left_after : (leaves : Leaves) (start : List ℕ) (strokes : List Stroke) → IsImage (state start strokes) (left_by leaves (state start strokes))
left_after leaves start strokes = left_is_image leaves (state start strokes) (among start strokes) (is_image_after start strokes)

-- it is no longer than the content
pub length-left_by : (leaves : Leaves) (s : State) → IsImage s s.content → length (left_by leaves s) ≤ length s.content
length-left_by Drop s image = image.no_shorter
length-left_by Keep s image = omega arith
length-left_by Torn s image = omega (arith, length-tear 0 (count_written 0 (length s.content) s.written / 2) s.written s.content)
