-- Which strokes of a disk in memory fail, and which have no effect.
use Rattle.std.proofs.Common.{◌≡◌, ℕ, suc, ◌+◌, ◌-◌, ◌≤◌, ◌<◌, Bool, false, not, ◌&&◌, Option, Some, None, List, [], ◌∷◌, ◌++◌, length, map, refl, sym, ◌∙◌, ap, arith}
use Rattle.std.proofs.lemmas.List.{map_push}
use Rattle.std.proofs.lemmas.Bool.Decides.{nat_tests}
use Rattle.sync_disk.specs.Faults.{is_past, is_at, is_lost, has_stopped, is_write}
use Rattle.sync_disk.specs.Strokes.{Act}
use Rattle.sync_disk.specs.Memory.{act_of, failures_of, failures, losses_of, losses}
use Rattle.sync_disk.specs.declared.kept.KeptStroke.{KeptStroke}

failures_push : (stop : Option ℕ) (n : ℕ) (old : List KeptStroke) (k : KeptStroke) → failures stop n (old ++ k ∷ []) ≡ failures stop n old ++ is_past stop (n + length old) ∷ []
failures_push stop n [] k = ap (λ (i : ℕ). is_past stop i ∷ []) (omega arith)
failures_push stop n (x ∷ old) k =
    ap (λ (l : List Bool). is_past stop n ∷ l) (failures_push stop (suc n) old k) ∙ ap (λ (i : ℕ). is_past stop n ∷ (failures stop (suc n) old ++ is_past stop i ∷ [])) (omega arith)

losses_push : (stop : Option ℕ) (n : ℕ) (old : List KeptStroke) (k : KeptStroke)
    → losses stop n (old ++ k ∷ []) ≡ losses stop n old ++ (k.failed && is_lost stop (n + length old) (act_of k.asked)) ∷ []
losses_push stop n [] k = ap (λ (i : ℕ). (k.failed && is_lost stop i (act_of k.asked)) ∷ []) (omega arith)
losses_push stop n (x ∷ old) k =
    ap (λ (l : List Bool). (x.failed && is_lost stop n (act_of x.asked)) ∷ l) (losses_push stop (suc n) old k)
    ∙ ap (λ (i : ℕ). (x.failed && is_lost stop n (act_of x.asked)) ∷ (losses stop (suc n) old ++ (k.failed && is_lost stop i (act_of k.asked)) ∷ [])) (omega arith)

-- a stroke more that fails as planned
pub failures_more : (stop : Option ℕ) (old new : List KeptStroke) (k : KeptStroke) → new ≡ old ++ k ∷ [] → k.failed ≡ is_past stop (length old) → failures_of old ≡ failures stop 0 old → failures_of new ≡ failures stop 0 new
failures_more stop old new k is failed so_far =
    ap failures_of is ∙ map_push (λ (s : KeptStroke). s.failed) old k ∙ ap (λ (l : List Bool). l ++ k.failed ∷ []) so_far ∙ ap (λ (b : Bool). failures stop 0 old ++ b ∷ []) (failed ∙ ap (is_past stop) (omega arith))
    ∙ sym (failures_push stop 0 old k) ∙ ap (failures stop 0) (sym is)

pub losses_more : (stop : Option ℕ) (old new : List KeptStroke) (k : KeptStroke) → new ≡ old ++ k ∷ [] → k.lost ≡ (k.failed && is_lost stop (length old) (act_of k.asked)) → losses_of old ≡ losses stop 0 old → losses_of new ≡ losses stop 0 new
losses_more stop old new k is lost so_far =
    ap losses_of is ∙ map_push (λ (s : KeptStroke). s.lost) old k ∙ ap (λ (l : List Bool). l ++ k.lost ∷ []) so_far
    ∙ ap (λ (b : Bool). losses stop 0 old ++ b ∷ []) (lost ∙ ap (λ (i : ℕ). k.failed && is_lost stop i (act_of k.asked)) (omega arith))
    ∙ sym (losses_push stop 0 old k) ∙ ap (losses stop 0) (sym is)

-- two stops behind these strokes make no difference
pub record IsBehind (stop : Option ℕ) (n : ℕ) : Type 0 where
  pub past : (i : ℕ) → i < n → is_past stop i ≡ false
  pub here : (i : ℕ) → i < n → is_at stop i ≡ false

pub never : (n : ℕ) → IsBehind None n
never n = record { past = λ i lt. refl; here = λ i lt. refl }

pub later : (stop n : ℕ) → n ≤ stop → IsBehind (Some stop) n
later stop n le = record { past = λ i lt. grind (arith, nat_tests); here = λ i lt. grind (arith, nat_tests) }

pub not_yet : (stop : Option ℕ) (n : ℕ) → has_stopped stop n ≡ false → IsBehind stop n
not_yet None n e = never n
not_yet (Some stop) n e = later stop n (grind (arith, nat_tests))

failures_same : (a b : Option ℕ) (n : ℕ) (kept : List KeptStroke) → IsBehind a (n + length kept) → IsBehind b (n + length kept) → failures a n kept ≡ failures b n kept
failures_same a b n [] pa pb = refl
failures_same a b n (k ∷ kept) pa pb =
    let first : is_past a n ≡ is_past b n = pa.past n (omega arith) ∙ sym (pb.past n (omega arith)) in
    let rest = failures_same a b (suc n) kept (shorter a pa) (shorter b pb) in
    cc (first, rest)
  where
    shorter : (s : Option ℕ) → IsBehind s (n + length (k ∷ kept)) → IsBehind s (suc n + length kept)
    shorter s p = record { past = λ i lt. p.past i (omega (arith, lt)); here = λ i lt. p.here i (omega (arith, lt)) }

losses_same : (a b : Option ℕ) (n : ℕ) (kept : List KeptStroke) → IsBehind a (n + length kept) → IsBehind b (n + length kept) → losses a n kept ≡ losses b n kept
losses_same a b n [] pa pb = refl
losses_same a b n (k ∷ kept) pa pb =
    let here : is_at a n ≡ is_at b n = pa.here n (omega arith) ∙ sym (pb.here n (omega arith)) in
    let first : (k.failed && is_lost a n (act_of k.asked)) ≡ (k.failed && is_lost b n (act_of k.asked)) = ap (λ (e : Bool). k.failed && lost_as e (act_of k.asked)) here in
    let rest = losses_same a b (suc n) kept (shorter a pa) (shorter b pb) in
    cc (first, rest)
  where
    lost_as : Bool → Act → Bool
    lost_as e act = not (is_write act && e)

    shorter : (s : Option ℕ) → IsBehind s (n + length (k ∷ kept)) → IsBehind s (suc n + length kept)
    shorter s p = record { past = λ i lt. p.past i (omega (arith, lt)); here = λ i lt. p.here i (omega (arith, lt)) }

pub failures_anew : (a b : Option ℕ) (kept : List KeptStroke) → IsBehind a (length kept) → IsBehind b (length kept) → failures_of kept ≡ failures a 0 kept → failures_of kept ≡ failures b 0 kept
failures_anew a b kept pa pb marked = marked ∙ failures_same a b 0 kept (from a pa) (from b pb)
  where
    from : (s : Option ℕ) → IsBehind s (length kept) → IsBehind s (0 + length kept)
    from s p = record { past = λ i lt. p.past i (omega (arith, lt)); here = λ i lt. p.here i (omega (arith, lt)) }

pub losses_anew : (a b : Option ℕ) (kept : List KeptStroke) → IsBehind a (length kept) → IsBehind b (length kept) → losses_of kept ≡ losses a 0 kept → losses_of kept ≡ losses b 0 kept
losses_anew a b kept pa pb losing = losing ∙ losses_same a b 0 kept (from a pa) (from b pb)
  where
    from : (s : Option ℕ) → IsBehind s (length kept) → IsBehind s (0 + length kept)
    from s p = record { past = λ i lt. p.past i (omega (arith, lt)); here = λ i lt. p.here i (omega (arith, lt)) }

-- a call leaves the list of failing calls as long as it is
pub counted_none : (failing : List ℕ) → map (λ (n : ℕ). n - 1) failing ≡ [] → failing ≡ []
counted_none [] none = refl
counted_none (n ∷ failing) none = cc
