-- The parts of a block of bytes stay as they were when bytes come behind it.
use Rattle.std.proofs.Common.{◌≡◌, ℕ, ◌-◌, ◌≤◌, List, [], ◌∷◌, ◌++◌, length, take, drop, map, refl, ◌∙◌, ap, arith, length-drop, take_all}
use Rattle.std.specs.Prelude.{All}
use Rattle.std.specs.List.{AllByRecursion}
use Rattle.std.proofs.lemmas.List.{drop-append-le, take-append-le, map_push}
use Rattle.std.proofs.lemmas.List.Elements.{recursion_from_All}
use Rattle.std.proofs.Math.Seq.{drop-append_seam}
use Rattle.byte_lists.specs.Parts.{part, IsWithin}

same_part : (bytes more : List ℕ) (p : ℕ × ℕ) → IsWithin (length bytes) p → part (bytes ++ more) p ≡ part bytes p
same_part bytes more (start, end) h =
    ap (take (end - start)) (drop-append-le start bytes more (omega (arith, h.0, h.1)))
    ∙ take-append-le (end - start) (drop start bytes) more (omega (arith, length-drop start bytes, h.0, h.1))

same_parts : (bytes more : List ℕ) (ps : List (ℕ × ℕ)) → AllByRecursion (IsWithin (length bytes)) ps → map (part (bytes ++ more)) ps ≡ map (part bytes) ps
same_parts bytes more [] all = refl
same_parts bytes more (p ∷ ps) all = (λ i. same_part bytes more p all.0 i ∷ same_parts bytes more ps all.1 i)

pub stay : (bytes more : List ℕ) (ps : List (ℕ × ℕ)) → All (IsWithin (length bytes)) ps → map (part (bytes ++ more)) ps ≡ map (part bytes) ps
stay bytes more ps all = same_parts bytes more ps (recursion_from_All (IsWithin (length bytes)) ps all)

-- and what came behind is one more
pub one_more : (bytes more : List ℕ) (ps : List (ℕ × ℕ)) (start end : ℕ) → All (IsWithin (length bytes)) ps → start ≡ length bytes → length more ≤ end - start
    → map (part (bytes ++ more)) (ps ++ (start, end) ∷ []) ≡ map (part bytes) ps ++ more ∷ []
one_more bytes more ps start end all at long =
    map_push (part (bytes ++ more)) ps (start, end)
    ∙ (λ i. stay bytes more ps all i ++ (ap (λ n. take (end - start) (drop n (bytes ++ more))) at ∙ ap (take (end - start)) (drop-append_seam bytes more) ∙ take_all (end - start) more long) i ∷ [])
