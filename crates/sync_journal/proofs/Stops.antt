-- Several appends, by the strokes that they ask for, and what a stop in one of them leaves.
use Rattle.std.proofs.Common.{◌≡◌, ℕ, zero, suc, ◌+◌, ◌*◌, ◌/◌, ◌%◌, ◌<◌, ◌≤◌, Bool, true, false, nat_le, ◌&&◌, if◌then◌else◌, List, [], ◌∷◌, ◌++◌, length, take, map, refl, sym, ◌∙◌, ap, subst, arith, append-nil, length-append, length-take}
use Rattle.std.proofs.lemmas.List.{length-map}
use Rattle.sync_disk.specs.Strokes.{Act, Stroke, done, AllDone, CutByFault}
use Rattle.sync_disk.specs.declared.leaves.Leaves.{Leaves}
use Rattle.sync_disk.proofs.Asking.{none_done, all_done, cut_later}
use Rattle.sync_journal.specs.Journal.{strokes_of, strokes_of_all}
use Rattle.sync_journal.specs.Several.{AsksAll, AsksPart}
use Rattle.sync_journal.specs.Stopping.{CanStand, CanAllStand, is_keep, standing}
use Rattle.sync_journal.proofs.Several.{size_append, strokes_append}

-- ---- one run of appends behind another
can_both : (a b : List (List ℕ)) → CanAllStand a → CanAllStand b → CanAllStand (a ++ b)
can_both [] b s t = t
can_both (r ∷ a) b s t = (s.0, can_both a b s.1 t)

pub asks_none : (end : ℕ) (old : List Stroke) → AsksAll [] end end old old
asks_none end old = record { place = omega arith; done = none_done old; can = tt }

pub asks_one : (r : List ℕ) (end now : ℕ) (old new : List Stroke) → CanStand r → now ≡ end + 5 + length r → AllDone (strokes_of end r) old new → AsksAll (r ∷ []) end now old new
asks_one r end now old new can place all = record { place = omega (arith, place); done = subst (λ (acts : List Act). AllDone acts old new) (sym (append-nil (strokes_of end r))) all; can = (can, tt) }

pub asks_both : (a b : List (List ℕ)) (end mid now : ℕ) (old between new : List Stroke) → AsksAll a end mid old between → AsksAll b mid now between new → AsksAll (a ++ b) end now old new
asks_both a b end mid now old between new first second = record {
  place = omega (arith, first.place, second.place, size_append a b);
  done =
      subst (λ (acts : List Act). AllDone acts old new) (sym (strokes_append end a b ∙ ap (λ (n : ℕ). strokes_of_all end a ++ strokes_of_all n b) (sym first.place)))
      (all_done (strokes_of_all end a) (strokes_of_all mid b) old between new first.done second.done);
  can = can_both a b first.can second.can;
}

pub part_one : (r : List ℕ) (end : ℕ) (old new : List Stroke) → CanStand r → CutByFault (strokes_of end r) old new → AsksPart (r ∷ []) end old new
part_one r end old new can cut = record { count = 1; within = omega arith; cut = subst (λ (acts : List Act). CutByFault acts old new) (sym (append-nil (strokes_of end r))) cut; can = (can, tt) }

take_first : (a b : List (List ℕ)) (n : ℕ) → n ≤ length a → take n (a ++ b) ≡ take n a
take_first a b zero le = refl
take_first [] b (suc n) le = absurd (omega arith)
take_first (r ∷ a) b (suc n) le = ap (λ (l : List (List ℕ)). r ∷ l) (take_first a b n (omega arith))

take_later : (a b : List (List ℕ)) (n : ℕ) → take (length a + n) (a ++ b) ≡ a ++ take n b
take_later [] b n = ap (λ (k : ℕ). take k b) zero_more
  where
    zero_more : 0 + n ≡ n
    zero_more = omega arith
take_later (r ∷ a) b n =
    let one : suc (length a) + n ≡ suc (length a + n) = omega arith in
    ap (λ (k : ℕ). take k (r ∷ a ++ b)) one ∙ ap (λ (l : List (List ℕ)). r ∷ l) (take_later a b n)

pub part_before : (a b : List (List ℕ)) (end : ℕ) (old new : List Stroke) → AsksPart a end old new → AsksPart (a ++ b) end old new
part_before a b end old new part =
    let same = sym (take_first a b part.count part.within) in
    record {
      count = part.count;
      within = omega (arith, part.within, length-append a b);
      cut = subst (λ (rs : List (List ℕ)). CutByFault (strokes_of_all end rs) old new) same part.cut;
      can = subst CanAllStand same part.can;
    }

pub part_later : (a b : List (List ℕ)) (end mid : ℕ) (old between new : List Stroke) → AsksAll a end mid old between → AsksPart b mid between new → AsksPart (a ++ b) end old new
part_later a b end mid old between new first part =
    let same = sym (take_later a b part.count) in
    let joined = strokes_append end a (take part.count b) ∙ ap (λ (n : ℕ). strokes_of_all end a ++ strokes_of_all n (take part.count b)) (sym first.place) in
    record {
      count = length a + part.count;
      within = omega (arith, part.within, length-append a b);
      cut =
          subst (λ (rs : List (List ℕ)). CutByFault (strokes_of_all end rs) old new) same
          (subst (λ (acts : List Act). CutByFault acts old new) (sym joined) (cut_later (strokes_of_all end a) (strokes_of_all mid (take part.count b)) old between new first.done part.cut));
      can = subst CanAllStand same (can_both a (take part.count b) first.can part.can);
    }

-- ---- how many records stand
keeps_one : (b : Bool) → (if b then 1 else 0) ≤ 1
keeps_one true = omega arith
keeps_one false = omega arith

pub standing_within : (leaves : Leaves) (at n : ℕ) → at < 4 * n → standing leaves at ≤ n
standing_within leaves at n lt =
    let one = keeps_one (nat_le 2 (at % 4) && is_keep leaves) in
    let quotient : at / 4 < n = omega (arith, lt) in
    omega (arith, one, quotient)

pub take_taken : (next : List (List ℕ)) (n m : ℕ) → n ≤ m → take n (take m next) ≡ take n next
take_taken next zero m le = refl
take_taken next (suc n) zero le = absurd (omega arith)
take_taken [] (suc n) (suc m) le = refl
take_taken (r ∷ next) (suc n) (suc m) le = ap (λ (l : List (List ℕ)). r ∷ l) (take_taken next n m (omega arith))

pub taken_length : (next : List (List ℕ)) (n : ℕ) → n ≤ length next → length (take n next) ≡ n
taken_length next n le = omega (arith, le, length-take n next)

pub many_strokes : (acts : List Act) (old new : List Stroke) → AllDone acts old new → length new ≡ length old + length acts
many_strokes acts old new all = omega (arith, ap length all, length-append old (map done acts), length-map acts done)
