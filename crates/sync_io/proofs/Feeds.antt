-- The first line feed of bytes, and what a reader gives up to it.
use Rattle.std.proofs.Common.{◌≡◌, ℕ, zero, suc, ◌+◌, ◌<◌, ◌≤◌, Bool, true, false, cond, not, ◌==◌, List, [], ◌∷◌, ◌++◌, length, take, drop, refl, ap, ◌∙◌, append_assoc, arith, length-append, unwrap_or}
use Rattle.std.specs.List.{position}
use Rattle.std.proofs.lemmas.Grind.{common_steps}
use Rattle.sync_io.specs.Reading.{max_line, line_feed, feed_place, Reading, Ends, AtLongLine, given, last_line, reading_from}

-- at a line feed, or at another byte
pub feed_cases : (b : ℕ) (bs : List ℕ) (P : Bool → ℕ → Type 0) → P true 0 → P false (1 + feed_place bs) → P (b == line_feed) (feed_place (b ∷ bs))
feed_cases b bs P here there = elim (b == line_feed) as (λ t. P t (cond (not t) (1 + feed_place bs) 0)) [ true ↦ here | false ↦ there ]

pub feed_within : (bs : List ℕ) → feed_place bs ≤ length bs
feed_within [] = omega arith
feed_within (b ∷ bs) = feed_cases b bs (λ t n. n ≤ length (b ∷ bs)) (omega arith) (let h : feed_place bs ≤ length bs = feed_within bs in omega arith)

-- the place is the first of what is behind a part without one
pub feed_behind : (n : ℕ) (bs : List ℕ) → n ≤ feed_place bs → n + feed_place (drop n bs) ≡ feed_place bs
feed_behind zero bs h = omega arith
feed_behind (suc n) [] h = absurd (omega arith)
feed_behind (suc n) (b ∷ bs) h =
    feed_cases b bs (λ t m. suc n ≤ m → suc n + feed_place (drop n bs) ≡ m) (λ k. absurd (omega arith)) (λ k. let h : n ≤ feed_place bs = omega arith in omega (arith, feed_behind n bs h)) h

-- bytes that follow bring no earlier one
pub feed_later : (bs more : List ℕ) → feed_place bs ≡ length bs → length bs ≤ feed_place (bs ++ more)
feed_later [] more e = omega arith
feed_later (b ∷ bs) more e =
    feed_cases b (bs ++ more) (λ t m. (b == line_feed) ≡ t → length (b ∷ bs) ≤ m)
    (λ is. absurd (let e2 : cond (not (b == line_feed)) (1 + feed_place bs) 0 ≡ suc (length bs) = e in let e3 : 0 ≡ suc (length bs) = rw is at e2 in omega arith))
    (λ is. let e2 : cond (not (b == line_feed)) (1 + feed_place bs) 0 ≡ suc (length bs) = e in let e3 : 1 + feed_place bs ≡ suc (length bs) = rw is at e2 in let e4 : feed_place bs ≡ length bs = omega arith in omega (arith, feed_later bs more e4))
    refl

long_given : (line : List ℕ) (rest : Reading) → max_line < length line → given line rest ≡ Ends AtLongLine
long_given line rest h = grind arith

long_last : (is_cut : Bool) (line : List ℕ) → max_line < length line → last_line is_cut line ≡ Ends AtLongLine
long_last true line h = grind arith
long_last false [] h = absurd (omega arith)
long_last false (b ∷ bs) h = long_given (b ∷ bs) _ h

-- a line that is too long stays so
pub too_long : (is_cut : Bool) (line bs : List ℕ) → max_line < length line → reading_from is_cut line bs ≡ Ends AtLongLine
too_long is_cut line [] h = long_last is_cut line h
too_long is_cut line (b ∷ bs) h =
    elim (b == line_feed) as (λ t. cond t (given line (reading_from is_cut [] bs)) (reading_from is_cut (line ++ b ∷ []) bs) ≡ Ends AtLongLine) [
      | true ↦ long_given line _ h
      | false ↦ too_long is_cut (line ++ b ∷ []) bs (omega (arith, length-append line (b ∷ [])))
    ]

-- so it is where the first line feed comes too late
pub long_before : (is_cut : Bool) (line bs more : List ℕ) → max_line < length line + feed_place bs → reading_from is_cut line (bs ++ more) ≡ Ends AtLongLine
long_before is_cut line [] more h = too_long is_cut line more (omega arith)
long_before is_cut line (b ∷ bs) more h =
    feed_cases b bs (λ t m. max_line < length line + m → cond t (given line (reading_from is_cut [] (bs ++ more))) (reading_from is_cut (line ++ b ∷ []) (bs ++ more)) ≡ Ends AtLongLine)
    (λ k. long_given line _ (omega arith))
    (λ k. long_before is_cut (line ++ b ∷ []) bs more (omega (arith, length-append line (b ∷ []))))
    h

-- up to the first line feed goes one line
pub line_to_feed : (is_cut : Bool) (line bs more : List ℕ) → feed_place bs < length bs
    → reading_from is_cut line (bs ++ more) ≡ given (line ++ take (feed_place bs) bs) (reading_from is_cut [] (drop (feed_place bs + 1) bs ++ more))
line_to_feed is_cut line [] more h = absurd (omega arith)
line_to_feed is_cut line (b ∷ bs) more h =
    feed_cases b bs (λ t m. m < length (b ∷ bs) → cond t (given line (reading_from is_cut [] (bs ++ more))) (reading_from is_cut (line ++ b ∷ []) (bs ++ more)) ≡ given (line ++ take m (b ∷ bs)) (reading_from is_cut [] (drop (m + 1) (b ∷ bs) ++ more)))
    (λ k. grind (arith, common_steps))
    (λ k. let h2 : feed_place bs < length bs = omega arith in line_to_feed is_cut (line ++ b ∷ []) bs more h2 ∙ grind (arith, common_steps))
    h

-- without a line feed the line goes on
pub line_goes_on : (is_cut : Bool) (line bs more : List ℕ) → feed_place bs ≡ length bs → reading_from is_cut line (bs ++ more) ≡ reading_from is_cut (line ++ bs) more
line_goes_on is_cut line [] more e = grind (arith, common_steps)
line_goes_on is_cut line (b ∷ bs) more e =
    feed_cases b bs (λ t m. m ≡ length (b ∷ bs) → cond t (given line (reading_from is_cut [] (bs ++ more))) (reading_from is_cut (line ++ b ∷ []) (bs ++ more)) ≡ reading_from is_cut (line ++ b ∷ bs) more)
    (λ k. absurd (omega arith))
    (λ k. let h2 : feed_place bs ≡ length bs = omega arith in line_goes_on is_cut (line ++ b ∷ []) bs more h2 ∙ ap (λ l. reading_from is_cut l more) (append_assoc line (b ∷ []) bs))
    e

-- the place as a search from the front answers it
pub feed_or_length : (bs : List ℕ) → unwrap_or (position (λ b. b == line_feed) bs) (length bs) ≡ feed_place bs
feed_or_length bs = let h : feed_place bs ≤ length bs = feed_within bs in grind arith
