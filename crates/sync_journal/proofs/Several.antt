-- Several appends, one after the other: what a call that makes them keeps from one to the next.
use Rattle.std.proofs.Common.{◌≡◌, ℕ, zero, suc, ◌+◌, ◌<◌, List, [], ◌∷◌, ◌++◌, length, take, get_or, sym, ◌∙◌, ap, subst, arith, append_assoc, append-nil}
use Rattle.std.proofs.lemmas.List.{take_more}
use Rattle.sync_disk.specs.Strokes.{Act, Stroke, AllDone, CutByFault}
use Rattle.sync_disk.proofs.Asking.{all_done, cut_later, cut_before}
use Rattle.sync_journal.specs.Records.{StandsForPrefix}
use Rattle.sync_journal.specs.Records.Reading.{Good}
use Rattle.sync_journal.specs.Journal.{strokes_of, strokes_of_all, size_of_all}

-- RECORDS
-- what stands for the records with the next one or without stands for a prefix of them all
pub one_of_several : (olds next : List (List ℕ)) (i : ℕ) (c : List ℕ) → i < length next → StandsForPrefix (olds ++ take i next) (get_or next i [] ∷ []) c → StandsForPrefix olds next c
one_of_several olds next i c lt (zero, le, is) = (i, omega arith, is ∙ ap Good (append-nil (olds ++ take i next)))
one_of_several olds next i c lt (suc zero, le, is) = (
  i + 1,
  omega arith,
  is ∙ ap Good (append_assoc olds (take i next) (get_or next i [] ∷ []) ∙ ap (λ (l : List (List ℕ)). olds ++ l) (sym (take_more next i [] lt))),
)
one_of_several olds next i c lt (suc (suc k), le, is) = absurd (omega arith)

pub one_more_taken : (olds next : List (List ℕ)) (i : ℕ) → i < length next → (olds ++ take i next) ++ get_or next i [] ∷ [] ≡ olds ++ take (i + 1) next
one_more_taken olds next i lt = append_assoc olds (take i next) (get_or next i [] ∷ []) ∙ ap (λ (l : List (List ℕ)). olds ++ l) (sym (take_more next i [] lt))

-- STROKES
pub size_append : (a b : List (List ℕ)) → size_of_all (a ++ b) ≡ size_of_all a + size_of_all b
size_append [] b = omega arith
size_append (r ∷ a) b = omega (arith, size_append a b)

pub strokes_append : (end : ℕ) (a b : List (List ℕ)) → strokes_of_all end (a ++ b) ≡ strokes_of_all end a ++ strokes_of_all (end + size_of_all a) b
strokes_append end [] b = ap (λ (n : ℕ). strokes_of_all n b) (omega arith)
strokes_append end (r ∷ a) b =
    let here : end + 5 + length r + size_of_all a ≡ end + (5 + length r + size_of_all a) = omega arith in
    ap (λ (l : List Act). strokes_of end r ++ l) (strokes_append (end + 5 + length r) a b ∙ ap (λ (n : ℕ). strokes_of_all (end + 5 + length r) a ++ strokes_of_all n b) here)
    ∙ sym (append_assoc (strokes_of end r) (strokes_of_all (end + 5 + length r) a) (strokes_of_all (end + (5 + length r + size_of_all a)) b))

-- an append more is done
pub done_more : (end here : ℕ) (before : List (List ℕ)) (r : List ℕ) (old mid new : List Stroke) → here ≡ end + size_of_all before → AllDone (strokes_of_all end before) old mid → AllDone (strokes_of here r) mid new
    → AllDone (strokes_of_all end (before ++ r ∷ [])) old new
done_more end here before r old mid new is first second =
    subst (λ (acts : List Act). AllDone acts old new) (sym (strokes_append end before (r ∷ []) ∙ ap (λ (n : ℕ). strokes_of_all end before ++ strokes_of_all n (r ∷ [])) (sym is)))
    (all_done (strokes_of_all end before) (strokes_of here r) old mid new first second)

-- the next one is cut
pub cut_more : (end here : ℕ) (before after : List (List ℕ)) (r : List ℕ) (old mid new : List Stroke) → here ≡ end + size_of_all before → AllDone (strokes_of_all end before) old mid → CutByFault (strokes_of here r) mid new
    → CutByFault (strokes_of_all end (before ++ r ∷ after)) old new
cut_more end here before after r old mid new is first cut =
    subst (λ (acts : List Act). CutByFault acts old new) (sym (strokes_append end before (r ∷ after) ∙ ap (λ (n : ℕ). strokes_of_all end before ++ strokes_of_all n (r ∷ after)) (sym is)))
    (cut_later (strokes_of_all end before) (strokes_of here r ++ strokes_of_all (here + 5 + length r) after) old mid new first (cut_before (strokes_of here r) (strokes_of_all (here + 5 + length r) after) mid new cut))
