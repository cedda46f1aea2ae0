-- What is told of lives from a number on, run by run.
use Rattle.std.proofs.Common.{◌≡◌, ℕ, zero, suc, ◌+◌, ◌-◌, ◌<◌, List, ◌∷◌, ◌++◌, length, get_or, drop, take, replicate, refl, sym, ap, subst, ◌∙◌, append_assoc, arith}
use Rattle.std.specs.Prelude.{min}
use Rattle.life_bytes.specs.declared.run.Run.{Run}
use Rattle.life_bytes.specs.Runs.{Lives, AreLives, lives_of}
use Rattle.life_bytes.proofs.RunLaws.{left_is, fewer_are}

-- what stays of a run and of more where so many are skipped
drop_some : (n skipped : ℕ) (x : List ℕ) (more : Lives) → drop skipped (replicate n x ++ more) ≡ replicate (n - skipped) x ++ drop (skipped - n) more
drop_some zero skipped x more =
    let all : skipped ≡ skipped - 0 = omega arith in
    let none : 0 ≡ 0 - skipped = omega arith in
    ap (λ (k : ℕ). drop k more) all ∙ ap (λ (k : ℕ). replicate k x ++ drop (skipped - 0) more) none
drop_some (suc n) zero x more =
    let all : suc n ≡ suc n - 0 = omega arith in
    let none : 0 ≡ 0 - suc n = omega arith in
    ap (λ (k : ℕ). replicate k x ++ more) all ∙ ap (λ (k : ℕ). replicate (suc n - 0) x ++ drop k more) none
drop_some (suc n) (suc k) x more =
    let here : n - k ≡ suc n - suc k = omega arith in
    let later : k - n ≡ suc k - suc n = omega arith in
    drop_some n k x more
    ∙ ap (λ (j : ℕ). replicate j x ++ drop (k - n) more) here
    ∙ ap (λ (j : ℕ). replicate (suc n - suc k) x ++ drop j more) later

-- so many of a run and of more
take_some : (n left : ℕ) (x : List ℕ) (more : Lives) → take left (replicate n x ++ more) ≡ replicate (min n left) x ++ take (left - n) more
take_some zero left x more =
    let all : left ≡ left - 0 = omega arith in
    let none : 0 ≡ min 0 left = omega arith in
    ap (λ (k : ℕ). take k more) all ∙ ap (λ (k : ℕ). replicate k x ++ take (left - 0) more) none
take_some (suc n) zero x more =
    let none : 0 ≡ min (suc n) 0 = omega arith in
    let later : 0 ≡ 0 - suc n = omega arith in
    ap (λ (k : ℕ). replicate k x ++ take 0 more) none ∙ ap (λ (k : ℕ). replicate (min (suc n) 0) x ++ take k more) later
take_some (suc n) (suc k) x more =
    let here : suc (min n k) ≡ min (suc n) (suc k) = omega arith in
    let later : k - n ≡ suc k - suc n = omega arith in
    ap (λ (xs : Lives). x ∷ xs) (take_some n k x more)
    ∙ ap (λ (j : ℕ). replicate j x ++ take (k - n) more) here
    ∙ ap (λ (j : ℕ). replicate (min (suc n) (suc k)) x ++ take j more) later

-- a run's part is told, and then what is left to tell of more
tells : (told more : Lives) (life : List ℕ) (n skipped left : ℕ)
    → (told ++ replicate (min (n - skipped) left) life) ++ take (left - min (n - skipped) left) (drop (skipped - n) more) ≡ told ++ take left (drop skipped (replicate n life ++ more))
tells told more life n skipped left =
    let same : left - min (n - skipped) left ≡ left - (n - skipped) = omega arith in
    ap (λ (k : ℕ). (told ++ replicate (min (n - skipped) left) life) ++ take k (drop (skipped - n) more)) same
    ∙ append_assoc told (replicate (min (n - skipped) left) life) (take (left - (n - skipped)) (drop (skipped - n) more))
    ∙ ap (λ (xs : Lives). told ++ xs) (sym (take_some (n - skipped) left life (drop (skipped - n) more)))
    ∙ ap (λ (xs : Lives). told ++ take left xs) (sym (drop_some n skipped life more))

-- the same of the next run, where its parts are named otherwise
pub tells_on : (told new all : Lives) (runs : List Run) (i : ℕ) (run : Run) (skipped left here skips lacks : ℕ) → i < length runs → run ≡ get_or runs i run
    → here ≡ min (run.count - skipped) left → skips ≡ skipped - run.count → lacks ≡ left - here → new ≡ told ++ replicate here run.life
    → told ++ take left (drop skipped (lives_of (drop i runs))) ≡ all
    → new ++ take lacks (drop skips (lives_of (drop (i + 1) runs))) ≡ all
tells_on told new all runs i run skipped left here skips lacks lt is here_is skips_is lacks_is new_is before =
    ap (λ (xs : Lives). xs ++ take lacks (drop skips (lives_of (drop (i + 1) runs)))) (new_is ∙ ap (λ (k : ℕ). told ++ replicate k run.life) here_is)
    ∙ ap (λ (k : ℕ). (told ++ replicate (min (run.count - skipped) left) run.life) ++ take k (drop skips (lives_of (drop (i + 1) runs)))) (lacks_is ∙ ap (λ (k : ℕ). left - k) here_is)
    ∙ ap (λ (k : ℕ). (told ++ replicate (min (run.count - skipped) left) run.life) ++ take (left - min (run.count - skipped) left) (drop k (lives_of (drop (i + 1) runs)))) skips_is
    ∙ tells told (lives_of (drop (i + 1) runs)) run.life run.count skipped left
    ∙ ap (λ (xs : Lives). told ++ take left (drop skipped xs)) (sym (left_is runs i run lt is))
    ∙ before

-- where all can be spelled, so can those with the next run's part
pub part_is : (told all : Lives) (runs : List Run) (i : ℕ) (run : Run) (skipped left here : ℕ) → i < length runs → run ≡ get_or runs i run → here ≡ min (run.count - skipped) left
    → told ++ take left (drop skipped (lives_of (drop i runs))) ≡ all → AreLives all → AreLives (told ++ replicate here run.life)
part_is told all runs i run skipped left here lt is here_is before are =
    fewer_are (told ++ replicate here run.life) (take (left - here) (drop (skipped - run.count) (lives_of (drop (i + 1) runs)))) (
    subst AreLives (sym (tells_on told (told ++ replicate here run.life) all runs i run skipped left here (skipped - run.count) (left - here) lt is here_is refl refl refl before)) are
    )
