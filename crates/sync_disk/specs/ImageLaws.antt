-- The content is an image, and after a sync the only one.
use Rattle.std.specs.Prelude.{◌≡◌, ◌⊎◌, ℕ, ◌+◌, ◌-◌, ◌<◌, ◌≤◌, max, Bool, true, false, List, [], ◌∷◌, ◌++◌, length, take, drop, get_or, Some}
use Rattle.std.proofs.Common.{inl, inr, refl, sym, ◌∙◌, ap, subst, arith, length-append, length-take, length-drop, take_all, ext_get_or, get_or-take, get_or-drop}
use Rattle.std.proofs.lemmas.List.{get_or_append_left, get_or-append_right}
use Rattle.sync_disk.specs.Disk.{put}
use Rattle.sync_disk.specs.Strokes.{Act, Stroke}
use Rattle.sync_disk.specs.Strokes.Act.{Write, Sync}
use Rattle.sync_disk.specs.Images.{State, IsImage, synced, act_on, after, state, SinceStroke}

pub image_synced : (bytes : List ℕ) → IsImage (synced bytes) bytes
image_synced bytes = record { no_shorter = omega arith; no_longer = omega arith; kept = λ k lt out. refl }

pub only_synced : (bytes c : List ℕ) → IsImage (synced bytes) c → c ≡ bytes
only_synced bytes c image = ext_get_or 0 c bytes (omega (arith, image.no_shorter, image.no_longer)) (λ k lt. image.kept k (omega (arith, lt, image.no_longer)) tt)

pub length-put : (old : List ℕ) (place : ℕ) (bytes : List ℕ) → (length old ≤ length (put old place bytes)) × (length (put old place bytes) ≤ max (length old) (place + length bytes))
length-put old place bytes = (
  omega (arith, length-append (take place old ++ bytes) (drop (place + length bytes) old), length-append (take place old) bytes, length-take place old, length-drop (place + length bytes) old),
  omega (arith, length-append (take place old ++ bytes) (drop (place + length bytes) old), length-append (take place old) bytes, length-take place old, length-drop (place + length bytes) old),
)

-- a put changes its range alone, below the old end
get-put : (old : List ℕ) (place : ℕ) (bytes : List ℕ) (k : ℕ) → k < length old → (k < place) ⊎ (place + length bytes ≤ k) → get_or (put old place bytes) k 0 ≡ get_or old k 0
get-put old place bytes k lt (inl below) =
    let in_front : k < length (take place old) = omega (arith, length-take place old) in
    get_or_append_left (take place old ++ bytes) (drop (place + length bytes) old) 0 k (omega (arith, length-append (take place old) bytes, in_front))
    ∙ get_or_append_left (take place old) bytes 0 k in_front ∙ get_or-take place old k 0 below
get-put old place bytes k lt (inr above) =
    let size : length (take place old ++ bytes) ≡ place + length bytes = omega (arith, length-append (take place old) bytes, length-take place old) in
    let there : place + length bytes + (k - (place + length bytes)) ≡ k = omega arith in
    get_or-append_right (take place old ++ bytes) (drop (place + length bytes) old) (place + length bytes) k 0 size above
    ∙ get_or-drop (place + length bytes) old (k - (place + length bytes)) 0 ∙ ap (λ (i : ℕ). get_or old i 0) there

-- the content is an image
pub image_act : (s : State) (act : Act) (lost : Bool) → IsImage s s.content → IsImage (act_on s act lost) (act_on s act lost).content
image_act s (Write place bytes) true image = record { no_shorter = image.no_shorter; no_longer = omega (arith, image.no_longer); kept = λ k lt out. image.kept k lt out.1 }
image_act s (Write place bytes) false image =
    let lengths = length-put s.content place bytes in
    record {
      no_shorter = omega (arith, image.no_shorter, lengths.0);
      no_longer = omega (arith, image.no_longer, lengths.1);
      kept = λ k lt out. get-put s.content place bytes k (omega (arith, image.no_shorter)) out.0 ∙ image.kept k lt out.1;
    }
image_act s Sync true image = image
image_act s Sync false image = image_synced s.content

image_after : (s : State) (strokes : List Stroke) → IsImage s s.content → IsImage (after s strokes) (after s strokes).content
image_after s [] image = image
image_after s (stroke ∷ strokes) image = image_after (act_on s stroke.act stroke.lost) strokes (image_act s stroke.act stroke.lost image)

pub is_image_after : (start : List ℕ) (strokes : List Stroke) → IsImage (state start strokes) (state start strokes).content
is_image_after start strokes = image_after (synced start) strokes (image_synced start)

pub counts : (start : List ℕ) (strokes : List Stroke) (t : ℕ) (c : List ℕ) → t ≤ length strokes → IsImage (state start strokes) c → SinceStroke start strokes t c
counts start strokes t c le image = (length strokes, le, omega arith, subst (λ (l : List Stroke). IsImage (state start l) c) (sym (take_all (length strokes) strokes (omega arith))) image)

pub only : (start : List ℕ) (strokes : List Stroke) (c : List ℕ) → SinceStroke start strokes (length strokes) c → IsImage (state start strokes) c
only start strokes c since = subst (λ (l : List Stroke). IsImage (state start l) c) (take_all since.0 strokes since.1) since.3

pub is_image_told : (start : List ℕ) (strokes : List Stroke) (bytes b : List ℕ) → bytes ≡ (state start strokes).content → Some bytes ≡ Some b → IsImage (state start strokes) b
is_image_told start strokes bytes b in_step told =
    let same : (state start strokes).content ≡ b = sym in_step ∙ some_same told in
    subst (IsImage (state start strokes)) same (is_image_after start strokes)
  where
    some_same : Some bytes ≡ Some b → bytes ≡ b
    some_same e = cc
