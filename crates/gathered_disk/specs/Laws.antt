-- The laws of disks, of a gathered one.
use Rattle.std.specs.Prelude.{◌≡◌, ℕ, ◌≤◌, suc, Bool, true, false, List, [], ◌∷◌, length, Option, None, Some}
use Rattle.std.proofs.Common.{refl, ap, subst}
use Rattle.sync_disk.specs.Strokes.{Stroke, done, acts_of}
use Rattle.sync_disk.specs.Faults.{planned}
use Rattle.sync_disk.specs.Images.{IsImage, state}
use Rattle.sync_disk.specs.ImageLaws.{counts, is_image_after, only}
use Rattle.gathered_disk.specs.Gathered.{base_of, images_of, images_since_of, shown}
use Rattle.gathered_disk.specs.Strokes.{act_of, strokes_of}
use Rattle.gathered_disk.specs.declared.asked.Asked.{Asked}

-- what is shown is an image
pub shown_image : (closed : Bool) (told : Option (List ℕ)) (strokes : List Stroke) (b : List ℕ) → shown closed told strokes ≡ Some b → images_of told strokes b
shown_image true told strokes b is = absurd (cc is)
shown_image false None strokes b is = tt
shown_image false (Some base) strokes b is = subst (IsImage (state base strokes)) (same is) (is_image_after base strokes)
  where
    same : {x y : List ℕ} → Some x ≡ Some y → x ≡ y
    same e = cc

pub counts_of : (told : Option (List ℕ)) (strokes : List Stroke) (t : ℕ) (c : List ℕ) → t ≤ length strokes → images_of told strokes c → images_since_of told strokes t c
counts_of None strokes t c le now = tt
counts_of (Some b) strokes t c le now = counts b strokes t c le now

pub only_of : (told : Option (List ℕ)) (strokes : List Stroke) (c : List ℕ) → images_since_of told strokes (length strokes) c → images_of told strokes c
only_of None strokes c left = tt
only_of (Some b) strokes c left = only b strokes c left

pub by_strokes_of : (told : Option (List ℕ)) (strokes : List Stroke) (c : List ℕ) → IsImage (state (base_of told) strokes) c → images_of told strokes c
by_strokes_of None strokes c image = tt
by_strokes_of (Some b) strokes c image = image

-- each stroke is done
pub as_asked : (n : ℕ) (asked : List Asked) → strokes_of asked ≡ planned None n (acts_of (strokes_of asked))
as_asked n [] = refl
as_asked n (a ∷ asked) = ap (λ (rest : List Stroke). done (act_of a) ∷ rest) (as_asked (suc n) asked)
