-- Changesets are applied one after the other, and compared with those of a state.
use Rattle.std.proofs.Common.{◌≡◌, ℕ, zero, suc, ◌+◌, ◌-◌, ◌<◌, ◌≤◌, Bool, true, false, List, [], ◌∷◌, map, length, drop, Option, None, Some, Err, refl, ap, ◌∙◌, get_or, arith}
use Rattle.std.specs.Prelude.{Result, bytes_eq, slice_get, if◌then◌else◌}
use Rattle.std.specs.Option.{option_map, option_map_or}
use Rattle.std.proofs.Math.Seq.{drop-cons}
use Rattle.sync_data.specs.Payload.{Changes}
use Rattle.sync_data.specs.declared.instr.Instr.{Instr}
use Rattle.sync_base.specs.declared.answers.Break.{Break}
use Rattle.sync_base.specs.After.{after}
use Rattle.sync_base.specs.Checks.{act_all, break_of, break_at}
use Rattle.sync_base.specs.Codes.{break_code}
use Rattle.sync_base.specs.Effects.{effect_of, is_effect}
use Rattle.sync_base.specs.States.{State}
use Rattle.sync_codec.specs.Spelling.{spelling}
use Rattle.sync_law.specs.Coded.{apply, state_or_code}
use Rattle.sync_model.specs.Profile.{apply_all, apply_then, one_more}
use Rattle.sync_model.specs.Snapshots.{run_parts, grown_on, part_differs}
use Rattle.sync_exchange.specs.Lemmas.Coded.{all_act}
use Rattle.sync_exchange.specs.Profile.{the_profile}
use Rattle.sync_snapshot.specs.Grown.{lists_of}
use Rattle.sync_snapshot.specs.Parts.{untimed}

-- ---- a list that meets a break is refused by the model too
some_pair : (o : Option (ℕ × Break)) (q : ℕ × Break) → option_map {U = ℕ × Break} (λ p. (suc p.0, p.1)) o ≡ Some q → (r : ℕ × Break) × (o ≡ Some r)
some_pair None q e = cc
some_pair (Some r) q e = (r, refl)

fails_first : (i : Instr) (is : List Instr) (s : State) (q : ℕ × Break) → ((r : ℕ × Break) → break_at is (after s (effect_of i)) ≡ Some r → (b : ℕ × ℕ) × (apply_all the_profile is (after s (effect_of i)) ≡ Err b))
    → (placed : Bool) (o : Option Break) → is_effect (effect_of i) ≡ placed → break_of s (effect_of i) ≡ o
    → ◌≡◌ {A = Option (ℕ × Break)} (elim o [ Some b ↦ Some (0, b) | None ↦ option_map {U = ℕ × Break} (λ p. (suc p.0, p.1)) (break_at is (after s (effect_of i))) ]) (Some q)
    → (b : ℕ × ℕ) × (apply_then (apply i s) (apply_all the_profile is) ≡ Err b)
fails_first i is s q rest false o p f e = ((0, 23), ap (λ c. apply_then (if c then state_or_code (break_of s (effect_of i)) (after s (effect_of i)) else Err 23) (apply_all the_profile is)) p)
fails_first i is s q rest true (Some b) p f e = ((0, break_code b), (λ k. apply_then (if p k then state_or_code (f k) (after s (effect_of i)) else Err 23) (apply_all the_profile is)))
fails_first i is s q rest true None p f e =
    let later = some_pair (break_at is (after s (effect_of i))) q e in
    let more = rest later.0 later.1 in
    ((suc more.0.0, more.0.1), (λ k. apply_then (if p k then state_or_code (f k) (after s (effect_of i)) else Err 23) (apply_all the_profile is)) ∙ ap one_more more.1)

pub fails : (is : List Instr) (s : State) (q : ℕ × Break) → break_at is s ≡ Some q → (b : ℕ × ℕ) × (apply_all the_profile is s ≡ Err b)
fails [] s q e = cc
fails (i ∷ is) s q e = fails_first i is s q (λ r f. fails is (after s (effect_of i)) r f) (is_effect (effect_of i)) (break_of s (effect_of i)) refl refl e

-- ---- the parts from a place on
cut_at : (place : ℕ) (xs : List Changes) (x : Changes) → place < length xs → x ≡ get_or xs place x → drop place xs ≡ x ∷ drop (place + 1) xs
cut_at place xs x h e =
    let first : drop place xs ≡ get_or xs place x ∷ drop (suc place) xs = drop-cons xs place x h in
    let one_more : suc place ≡ place + 1 = omega arith in
    cc

abbrev pub run_from : ℕ → List Changes → State → Result State ℕ
run_from place parts s = run_parts the_profile place (lists_of (drop place parts)) s

opened : (place : ℕ) (parts : List Changes) (x : Changes) (s : State) → place < length parts → x ≡ get_or parts place x → run_from place parts s ≡ grown_on place (apply_all the_profile x.instrs s) (run_parts the_profile (suc place) (lists_of (drop (place + 1) parts)))
opened place parts x s h e = ap (λ xs. run_parts the_profile place (lists_of xs) s) (cut_at place parts x h e)

pub run_on : (place : ℕ) (parts : List Changes) (x : Changes) (s t : State) → place < length parts → x ≡ get_or parts place x → act_all x.instrs s ≡ Some t → run_from place parts s ≡ run_from (place + 1) parts t
run_on place parts x s t h e acts =
    let one_more : suc place ≡ place + 1 = omega arith in
    opened place parts x s h e
    ∙ ap (λ r. grown_on place r (run_parts the_profile (suc place) (lists_of (drop (place + 1) parts)))) (all_act x.instrs s t acts)
    ∙ ap (λ k. run_parts the_profile k (lists_of (drop (place + 1) parts)) t) one_more

pub run_breaks : (place : ℕ) (parts : List Changes) (x : Changes) (s : State) (q : ℕ × Break) → place < length parts → x ≡ get_or parts place x → break_at x.instrs s ≡ Some q → run_from place parts s ≡ Err place
run_breaks place parts x s q h e breaks =
    let b = fails x.instrs s q breaks in
    opened place parts x s h e ∙ ap (λ r. grown_on place r (run_parts the_profile (suc place) (lists_of (drop (place + 1) parts)))) b.1

-- ---- the first difference
abbrev pub differs_from : ℕ → List Changes → List Changes → Option ℕ
differs_from place parts built = part_differs the_profile place (lists_of (drop place parts)) (lists_of (drop place built))

abbrev pub is_same : Changes → Option Changes → Bool
is_same x y = option_map_or (λ other. bytes_eq (spelling x.instrs) (spelling other.instrs)) y false

from_place : (ys : List Changes) (k : ℕ) → drop k ys ≡ elim (slice_get ys k) as (λ _. List Changes) [ None ↦ [] | Some y ↦ y ∷ drop (suc k) ys ]
from_place [] zero = refl
from_place [] (suc k) = refl
from_place (y ∷ ys) zero = refl
from_place (y ∷ ys) (suc k) = from_place ys k

both_at : (place : ℕ) (parts built : List Changes) (x : Changes) → place < length parts → x ≡ get_or parts place x
    → differs_from place parts built ≡ part_differs the_profile place (x.instrs ∷ lists_of (drop (place + 1) parts)) (lists_of (elim (slice_get built place) as (λ _. List Changes) [ None ↦ [] | Some y ↦ y ∷ drop (suc place) built ]))
both_at place parts built x h e = λ i. part_differs the_profile place (lists_of (cut_at place parts x h e i)) (lists_of (from_place built place i))

pub differs_here : (place : ℕ) (parts built : List Changes) (x : Changes) → place < length parts → x ≡ get_or parts place x → is_same x (slice_get built place) ≡ false → differs_from place parts built ≡ Some place
differs_here place parts built x h e f =
    both_at place parts built x h e
    ∙ elim (slice_get built place) as (λ o. is_same x o ≡ false → part_differs the_profile place (x.instrs ∷ lists_of (drop (place + 1) parts)) (lists_of (elim o as (λ _. List Changes) [ None ↦ [] | Some y ↦ y ∷ drop (suc place) built ])) ≡ Some place) [
      | None ↦ λ _. refl
      | Some y ↦ λ g. ap (λ b. if b then part_differs the_profile (suc place) (lists_of (drop (place + 1) parts)) (lists_of (drop (suc place) built)) else Some place) g
    ] f

pub differs_on : (place : ℕ) (parts built : List Changes) (x : Changes) → place < length parts → x ≡ get_or parts place x → is_same x (slice_get built place) ≡ true → differs_from place parts built ≡ differs_from (place + 1) parts built
differs_on place parts built x h e f =
    let one_more : suc place ≡ place + 1 = omega arith in
    both_at place parts built x h e
    ∙ elim (slice_get built place) as (λ o. is_same x o ≡ true → part_differs the_profile place (x.instrs ∷ lists_of (drop (place + 1) parts)) (lists_of (elim o as (λ _. List Changes) [ None ↦ [] | Some y ↦ y ∷ drop (suc place) built ])) ≡ part_differs the_profile (suc place) (lists_of (drop (place + 1) parts)) (lists_of (drop (suc place) built))) [
      | None ↦ λ g. cc
      | Some y ↦ λ g. ap (λ b. if b then part_differs the_profile (suc place) (lists_of (drop (place + 1) parts)) (lists_of (drop (suc place) built)) else Some place) g
    ] f
    ∙ ap (λ k. part_differs the_profile k (lists_of (drop (place + 1) parts)) (lists_of (drop k built))) one_more

-- where no part is left
none_left : (xs : List Changes) → drop (length xs) xs ≡ []
none_left [] = refl
none_left (x ∷ xs) = none_left xs

more_left : (ys : List Changes) (k : ℕ) → k < length ys → (y : Changes) × (zs : List Changes) × (drop k ys ≡ y ∷ zs)
more_left [] k h = absurd (omega (arith, h))
more_left (y ∷ ys) zero h = (y, ys, refl)
more_left (y ∷ ys) (suc k) h = more_left ys k (omega (arith, h))

no_more : (ys : List Changes) (k : ℕ) → length ys ≤ k → drop k ys ≡ []
no_more [] zero h = refl
no_more [] (suc k) h = refl
no_more (y ∷ ys) zero h = absurd (omega (arith, h))
no_more (y ∷ ys) (suc k) h = no_more ys k (omega (arith, h))

pub goes_further : (parts built : List Changes) → length parts < length built → differs_from (length parts) parts built ≡ Some (length parts - 1)
goes_further parts built h =
    let m = more_left built (length parts) h in
    λ i. part_differs the_profile (length parts) (lists_of (none_left parts i)) (lists_of (m.2 i))

pub ends_too : (parts built : List Changes) → length built ≤ length parts → differs_from (length parts) parts built ≡ None
ends_too parts built h = λ i. part_differs the_profile (length parts) (lists_of (none_left parts i)) (lists_of (no_more built (length parts) h i))

-- ---- what is built, as lists
pub lists_untimed : (xs : List (List Instr)) → lists_of (map untimed xs) ≡ xs
lists_untimed [] = refl
lists_untimed (x ∷ xs) = ap (λ l. x ∷ l) (lists_untimed xs)
