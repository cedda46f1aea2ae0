-- Entries from a place on, where places are counted from there, or from the first.
use Rattle.std.proofs.Common.{◌≡◌, ℕ, zero, suc, ◌+◌, ◌≤◌, List, [], ◌∷◌, Some, ap, ◌∙◌, subst, length, drop, map, arith}
use Rattle.std.proofs.lemmas.List.{drop-drop, length-drop, length-map}
use Rattle.sync_data.specs.declared.instr.Instr.{Instr}
use Rattle.sync_theory.specs.Changesets.{Changeset}
use Rattle.sync_recip.specs.declared.across.Across.{Across}
use Rattle.sync_recip.specs.declared.carried.Became.{Became}
use Rattle.sync_recip.specs.declared.carried.Crossed.TheVariants.{Stretch}
use Rattle.sync_recip.specs.Acrossing.{put_across}
use Rattle.sync_recip.specs.Carrying.{with_crossed, FitsOne, LeftAt}
use Rattle.sync_recip.specs.declared.kept.Kept.{Kept}
use Rattle.sync_recip.specs.Lists.{kept_entry, lists_in}
use Rattle.sync_recip.specs.Passing.{passed, CanPass}
use Rattle.sync_recip.specs.Stretches.{from_place}
use Rattle.sync_recip.proofs.Indexed.{left_inside}

pub from_further : {A : Type 0} (i k : ℕ) (f : List A → List A) (xs : List A) → from_place (i + k) f xs ≡ from_place i (from_place k f) xs
from_further zero k f xs = let m : 0 + k ≡ k = omega arith in ap (λ j. from_place j f xs) m
from_further (suc i) k f [] = let m : suc i + k ≡ suc (i + k) = omega arith in ap (λ j. from_place j f []) m
from_further (suc i) k f (x ∷ xs) = let m : suc i + k ≡ suc (i + k) = omega arith in ap (λ j. from_place j f (x ∷ xs)) m ∙ ap (λ l. x ∷ l) (from_further i k f xs)

pub with_further : (i n : ℕ) (b : Became) (es : List (Changeset Instr)) → with_crossed (i + n) b es ≡ from_place i (with_crossed n b) es
with_further zero n b es = let m : 0 + n ≡ n = omega arith in ap (λ j. with_crossed j b es) m
with_further (suc i) n b [] = let m : suc i + n ≡ suc (i + n) = omega arith in ap (λ j. with_crossed j b []) m
with_further (suc i) n b (e ∷ es) = let m : suc i + n ≡ suc (i + n) = omega arith in ap (λ j. with_crossed j b (e ∷ es)) m ∙ ap (λ l. e ∷ l) (with_further i n b es)

pub left_further : (i n : ℕ) (b : Became) (es : List (Changeset Instr)) → LeftAt n b (lists_in (drop i es)) → LeftAt (i + n) b (lists_in es)
left_further zero n b es h = let m : n ≡ 0 + n = omega arith in subst (λ j. LeftAt j b (lists_in es)) m h
left_further (suc i) n b [] h = absurd (none n h)
  where
    none : (k : ℕ) → LeftAt k b [] → ⊥
    none k g = g
left_further (suc i) n b (e ∷ es) h = let m : suc (i + n) ≡ suc i + n = omega arith in subst (λ j. LeftAt j b (lists_in (e ∷ es))) m (left_further i n b es h)

abbrev further : ℕ → Across → Across
further i a = record a { start = i + a.start }

pub across_further : (i : ℕ) (a : Across) (es : List (Changeset Instr)) → put_across (further i a) es ≡ from_place i (put_across a) es
across_further i a es = from_further i a.start (passed a.stamp a.count (Some a.action)) es

pub can_further : (i : ℕ) (a : Across) (es : List (Changeset Instr)) → i ≤ length es → FitsOne (Stretch a) (drop i es) → FitsOne (Stretch (further i a)) es
can_further i a es l h =
    let size = long i es l in
    let within = h.0 in
    (omega (arith, size, within), subst (CanPass a.stamp a.count (Some a.action)) (drop-drop a.start i es) h.1)
  where
    long : {A : Type 0} (i : ℕ) (xs : List A) → i ≤ length xs → i + length (drop i xs) ≡ length xs
    long zero xs m = omega arith
    long (suc i) [] m = absurd (omega (arith, m))
    long (suc i) (x ∷ xs) m = let r = long i xs (omega (arith, m)) in omega (arith, r)

-- ---- the place of one, counted from the first
pub one_within : (i n : ℕ) (b : Became) (ks : List Kept) → i ≤ length ks → LeftAt n b (lists_in (drop i (map kept_entry ks))) → i + n ≤ length ks
one_within i n b ks l h =
    let there = left_inside (drop i (map kept_entry ks)) n b h in
    let rest = length-drop i (map kept_entry ks) in
    let size = length-map ks kept_entry in
    omega (arith, there, rest, size, l)

pub stretch_within : (i : ℕ) (a : Across) (ks : List Kept) → i ≤ length ks → FitsOne (Stretch a) (drop i (map kept_entry ks)) → i + a.start ≤ length ks
stretch_within i a ks l h =
    let there = h.0 in
    let rest = length-drop i (map kept_entry ks) in
    let size = length-map ks kept_entry in
    omega (arith, there, rest, size, l)
