-- What a reader gives over a source, by the bytes that it holds.
use Rattle.std.proofs.Common.{◌≡◌, ℕ, ◌+◌, ◌-◌, ◌<◌, ◌≤◌, true, false, nat_le, List, [], ◌∷◌, ◌++◌, length, take, drop, Option, None, Some, Err, refl, sym, ap, subst, ◌∙◌, arith}
use Rattle.std.specs.Option.{option_map, IfSome}
use Rattle.std.proofs.lemmas.List.{length-take-le}
use Rattle.std.proofs.Math.Seq.{take-nil}
use Rattle.sync_io.specs.Input.{max_input, input_ahead}
use Rattle.sync_io.specs.Reading.{max_line, feed_place, Reading, Ends, Gives, AtEnd, AtLongLine, AtLimit, given, last_line, reading_from, reading_of}
use Rattle.sync_io.specs.Input.{Input, input_of}
use Rattle.sync_io.specs.Readers.{readings, AnswersLine, CountsLine}
use Rattle.sync_io.specs.Intakes.{Taken}
use Rattle.sync_io.specs.Found.{FindsEnd, KeepsInput}
use Rattle.sync_io.specs.declared.found.Found.{Found}
use Rattle.sync_io.specs.declared.refusal.ReadRefusal.{ReadRefusal}
use Rattle.sync_io.specs.declared.refusal.ReadRefusal.TheVariants as refusals
use Rattle.sync_io.proofs.Feeds.{feed_within, long_before, line_to_feed, line_goes_on}

short_given : (line : List ℕ) (rest : Reading) → length line ≤ max_line → given line rest ≡ Gives line rest
short_given line rest h = grind arith

-- a line feed among the bytes that are held
pub readings_to_feed : (taken : ℕ) (held : List ℕ) (left : Option (List ℕ)) (place : ℕ) → place ≡ feed_place held → place < length held → place ≤ max_line
    → readings taken held left ≡ option_map (Gives (take place held)) (readings taken (drop (place + 1) held) left)
unfolding reading_of
readings_to_feed taken held None place e h small = refl
readings_to_feed taken held (Some bytes) place e h small =
    let more = take (max_input - taken) bytes in
    let cut = nat_le max_input (taken + length bytes) in
    let inside : feed_place held < length held = omega arith in
    ap Some (line_to_feed cut [] held more inside
    ∙ ap (λ n. given (take n held) (reading_from cut [] (drop (n + 1) held ++ more))) (sym e)
    ∙ short_given (take place held) _ (omega (arith, length-take-le place held (omega arith))))

-- no line feed for too long
pub readings_too_long : (taken : ℕ) (held : List ℕ) (left : Option (List ℕ)) → max_line < feed_place held → IfSome (readings taken held left) (λ reading. reading ≡ Ends AtLongLine)
unfolding reading_of
readings_too_long taken held None h = tt
readings_too_long taken held (Some bytes) h = long_before (nat_le max_input (taken + length bytes)) [] held (take (max_input - taken) bytes) (omega arith)

short_last : (line : List ℕ) → 0 < length line → length line ≤ max_line → last_line false line ≡ Gives line (Ends AtEnd)
short_last [] h small = absurd (omega arith)
short_last (b ∷ bs) h small = short_given (b ∷ bs) _ small

short_cut : (line : List ℕ) → length line ≤ max_line → last_line true line ≡ Ends AtLimit
short_cut line small = grind arith

under : (taken : ℕ) → taken < max_input → nat_le max_input (taken + 0) ≡ false
under taken h = grind arith

over : (taken n : ℕ) → taken ≡ max_input → nat_le max_input (taken + n) ≡ true
over taken n h = grind arith

-- all that is held and left is one line without a line feed
at_end : (taken : ℕ) (held : List ℕ) → feed_place held ≡ length held → taken < max_input → reading_of (input_ahead taken held []) ≡ last_line false held
unfolding reading_of
at_end taken held whole h =
    line_goes_on (nat_le max_input (taken + 0)) [] held (take (max_input - taken) []) whole
    ∙ ap (reading_from (nat_le max_input (taken + 0)) held) (take-nil (max_input - taken))
    ∙ ap (λ b. last_line b held) (under taken h)

-- the end of the input, with nothing held
pub readings_end : (taken : ℕ) (held : List ℕ) (left : Option (List ℕ)) → held ≡ [] → IfSome left (λ bytes. bytes ≡ []) → taken < max_input → IfSome (readings taken held left) (λ reading. reading ≡ Ends AtEnd)
readings_end taken held None e none h = tt
readings_end taken held (Some bytes) e none h =
    ap (λ b. reading_of (input_ahead taken held b)) none ∙ ap (λ b. reading_of (input_ahead taken b [])) e ∙ at_end taken [] refl h

-- the end of the input behind a last line
pub readings_last : (taken : ℕ) (held rest : List ℕ) (left : Option (List ℕ)) → feed_place held ≡ length held → 0 < length held → length held ≤ max_line → IfSome left (λ bytes. bytes ≡ []) → taken < max_input → rest ≡ []
    → readings taken held left ≡ option_map (Gives held) (readings taken rest left)
readings_last taken held rest None whole some small none h e = refl
readings_last taken held rest (Some bytes) whole some small none h e =
    ap Some (ap (λ b. reading_of (input_ahead taken held b)) none ∙ at_end taken held whole h ∙ short_last held some small
    ∙ ap (Gives held) (sym (ap (λ b. reading_of (input_ahead taken b bytes)) e ∙ ap (λ b. reading_of (input_ahead taken [] b)) none ∙ at_end taken [] refl h)))

-- so many bytes were read that no more are
pub readings_full : (taken : ℕ) (held : List ℕ) (left : Option (List ℕ)) → feed_place held ≡ length held → length held ≤ max_line → taken ≡ max_input → IfSome (readings taken held left) (λ reading. reading ≡ Ends AtLimit)
unfolding reading_of
readings_full taken held None whole small h = tt
readings_full taken held (Some bytes) whole small h =
    line_goes_on (nat_le max_input (taken + length bytes)) [] held (take (max_input - taken) bytes) whole
    ∙ ap (λ n. reading_from (nat_le max_input (taken + length bytes)) held (take n bytes)) (let e : max_input - taken ≡ 0 = omega arith in e)
    ∙ ap (λ b. last_line b held) (over taken (length bytes) h)
    ∙ short_cut held small

-- a refusal of the search for the line's end is the reader's
pub refused_reads : (refusal : ReadRefusal) (now : Taken) (left : Option (List ℕ)) (old : Option Input) (new : Option Reading) → FindsEnd (Err refusal) now left → KeepsInput {F = Found} (Err refusal) old (input_of now.taken now.held left) → AnswersLine (Err refusal) (option_map reading_of old) new
refused_reads refusals.TooLong now left old new found same = subst (λ o. IfSome (option_map reading_of o) (λ reading. reading ≡ Ends AtLongLine)) same (readings_too_long now.taken now.held left found)
refused_reads refusals.Failed now left old new found same = tt
refused_reads refusals.NoMemory now left old new found same = tt
refused_reads refusals.Cut now left old new found same = found
refused_reads refusals.InputTooLong now left old new found same = absurd found

pub refused_counts : (refusal : ReadRefusal) (now : Taken) (left : Option (List ℕ)) (lines : ℕ) → FindsEnd (Err refusal) now left → lines + length now.held ≤ now.taken → now.taken ≤ max_input → CountsLine (Err refusal) lines lines
refused_counts refusals.TooLong now left lines found few most = (refl, omega (arith, feed_within now.held))
refused_counts refusals.Failed now left lines found few most = refl
refused_counts refusals.NoMemory now left lines found few most = refl
refused_counts refusals.Cut now left lines found few most = found
refused_counts refusals.InputTooLong now left lines found few most = absurd found

pub empty_of_length : (l : List ℕ) → length l ≡ 0 → l ≡ []
empty_of_length [] e = refl
empty_of_length (x ∷ xs) e = absurd (omega arith)
