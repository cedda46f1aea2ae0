-- A line that is read, blank or not.
use Rattle.std.proofs.Common.{◌≡◌, ℕ, ◌+◌, ◌-◌, ◌<◌, Bool, true, false, not, IsTrue, cond, nat_le, nat_lt, List, [], ◌∷◌, length, take, Option, None, Some, refl, sym, subst, ap, ◌∙◌, arith}
use Rattle.std.proofs.lemmas.List.{length-take-le}
use Rattle.std.specs.Option.{option_map}
use Rattle.sync_io.specs.Input.{max_input}
use Rattle.sync_io.specs.Reading.{Reading, Gives, Ends, AtLongLine, max_line, feed_place, reading_of}
use Rattle.sync_io.specs.Readers.{readings}
use Rattle.sync_io.proofs.Feeds.{feed_within, line_to_feed}
use Rattle.sync_node.specs.Items.{Next, IsFurther, is_blank, lines_from}

pub blank_line : (before : ℕ) (line : List ℕ) (old new : Option Reading) → old ≡ option_map (Gives line) new → is_blank line ≡ true → option_map (lines_from before) old ≡ option_map (lines_from (before + 1)) new
blank_line before line old None e b = ap (option_map (lines_from before)) e
blank_line before line old (Some rest) e b = ap (option_map (lines_from before)) e ∙ ap (λ t. Some (cond t (lines_from (before + 1) rest) (Next (before + 1) line (lines_from (before + 1) rest)))) b

pub filled_line : (before : ℕ) (line : List ℕ) (old new : Option Reading) → old ≡ option_map (Gives line) new → is_blank line ≡ false → option_map (lines_from before) old ≡ option_map (Next (before + 1) line) (option_map (lines_from (before + 1)) new)
filled_line before line old None e b = ap (option_map (lines_from before)) e
filled_line before line old (Some rest) e b = ap (option_map (lines_from before)) e ∙ ap (λ t. Some (cond t (lines_from (before + 1) rest) (Next (before + 1) line (lines_from (before + 1) rest)))) b

-- a line that isn't blank isn't empty
pub filled : (line : List ℕ) → is_blank line ≡ false → 0 < length line
filled [] e = cc
filled (b ∷ bs) e = omega arith

-- ---- a line that is ahead
pub not_so : (b : Bool) → IsTrue (not b) → b ≡ false
not_so true h = sym h
not_so false h = refl

given_further : (before : ℕ) (long : Bool) (line : List ℕ) (rest : Reading) → is_blank line ≡ false → IsFurther (Some (lines_from before (cond long (Ends AtLongLine) (Gives line rest))))
given_further before true line rest e = tt
given_further before false line rest e = subst (λ t. IsFurther (Some (cond t (lines_from (before + 1) rest) (Next (before + 1) line (lines_from (before + 1) rest))))) (sym e) tt

-- a line whose line feed was read comes whatever the source has left, or is refused
pub further_line : (before taken : ℕ) (held left : List ℕ) → length (take (feed_place held) held) < length held → is_blank (take (feed_place held) held) ≡ false → IsFurther (option_map (lines_from before) (readings taken held (Some left)))
unfolding reading_of
further_line before taken held left h e =
    let line = take (feed_place held) held in
    let inside : feed_place held < length held = omega (arith, h, length-take-le (feed_place held) held (feed_within held)) in
    subst (λ r. IsFurther (Some (lines_from before r))) (sym (line_to_feed (nat_le max_input (taken + length left)) [] held (take (max_input - taken) left) inside))
    (given_further before (nat_lt max_line (length line)) line _ e)
