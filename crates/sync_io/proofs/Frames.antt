-- What a reader of frames gives over a source, by the bytes that it holds.
use Rattle.std.proofs.Common.{◌≡◌, ℕ, zero, suc, ◌+◌, ◌-◌, ◌<◌, ◌≤◌, Bool, true, false, cond, ltb, nat_le, List, [], ◌∷◌, ◌++◌, length, take, drop, Option, None, Some, Err, refl, ap, subst, ◌∙◌, arith, length-append, length-drop}
use Rattle.std.specs.Option.{option_map, IfSome}
use Rattle.std.proofs.lemmas.Bool.{ltb-false, le-ltb}
use Rattle.std.proofs.lemmas.List.{take-append-le, drop-append-le, append-nil}
use Rattle.std.proofs.Math.Seq.{take-nil}
use Rattle.byteorder.specs.Numbers.{big_from-append}
use Rattle.sync_io.specs.Input.{Input, input_of, input_ahead, max_input}
use Rattle.sync_io.specs.Intakes.{Taken}
use Rattle.sync_io.specs.Found.{KeepsInput}
use Rattle.sync_io.specs.Framing.{size_of, max_frame, front_of, Framing, Ends, Gives, AtEnd, AtLongFrame, AtCut, AtLimit, ending_at, framed, behind_front, frames_from, framing_of}
use Rattle.sync_io.specs.FrameReaders.{framings, AnswersFrame, FindsFrame}
use Rattle.sync_io.specs.declared.framing.Front.{Front}
use Rattle.sync_io.specs.declared.framing.Front.TheVariants.{Part, Long, Whole}
use Rattle.sync_io.specs.declared.framing.Ahead.{Ahead}
use Rattle.sync_io.specs.declared.refusal.ReadRefusal.{ReadRefusal}
use Rattle.sync_io.specs.declared.refusal.ReadRefusal.TheVariants as refusals

-- ---- the front of bytes stays so where more follow

abbrev pick : Bool → Bool → Bool → ℕ → Front
pick a b c size = cond a Part (cond b Long (cond c Part (Whole size)))

whole_is : (a b c : Bool) (n size : ℕ) → pick a b c n ≡ Whole size → (a ≡ false) × (b ≡ false) × (c ≡ false) × (n ≡ size)
whole_is true b c n size e = absurd cc
whole_is false true c n size e = absurd cc
whole_is false false true n size e = absurd cc
whole_is false false false n size e = (refl, refl, refl, cc)

long_is : (a b c : Bool) (n : ℕ) → pick a b c n ≡ Long → (a ≡ false) × (b ≡ true)
long_is true b c n e = absurd cc
long_is false true c n e = (refl, refl)
long_is false false true n e = absurd cc
long_is false false false n e = absurd cc

size_more : (bytes more : List ℕ) → 4 ≤ length bytes → size_of (bytes ++ more) ≡ size_of bytes
unfolding size_of
size_more bytes more h = big_from-append 4 bytes more h

pub whole_within : (bytes : List ℕ) (size : ℕ) → front_of bytes ≡ Whole size → 4 + size ≤ length bytes
unfolding front_of
whole_within bytes size e =
    let w = whole_is (ltb (length bytes) 4) (ltb max_frame (size_of bytes)) (ltb (length bytes) (4 + size_of bytes)) (size_of bytes) size e in
    let h : 4 + size_of bytes ≤ length bytes = ltb-false _ _ w.2 in
    omega (arith, w.3)

whole_more : (bytes more : List ℕ) (size : ℕ) → front_of bytes ≡ Whole size → front_of (bytes ++ more) ≡ Whole size
unfolding front_of
whole_more bytes more size e =
    let w = whole_is (ltb (length bytes) 4) (ltb max_frame (size_of bytes)) (ltb (length bytes) (4 + size_of bytes)) (size_of bytes) size e in
    let long : 4 ≤ length bytes = ltb-false _ _ w.0 in
    let within : 4 + size_of bytes ≤ length bytes = ltb-false _ _ w.2 in
    let same = size_more bytes more long in
    let a : ltb (length (bytes ++ more)) 4 ≡ false = le-ltb _ _ (omega (arith, length-append bytes more)) in
    let b : ltb max_frame (size_of (bytes ++ more)) ≡ false = ap (ltb max_frame) same ∙ w.1 in
    let c : ltb (length (bytes ++ more)) (4 + size_of (bytes ++ more)) ≡ false = le-ltb _ _ (omega (arith, length-append bytes more)) in
    rw (a, b, c) (ap Whole (same ∙ w.3))

long_more : (bytes more : List ℕ) → front_of bytes ≡ Long → front_of (bytes ++ more) ≡ Long
unfolding front_of
long_more bytes more e =
    let w = long_is (ltb (length bytes) 4) (ltb max_frame (size_of bytes)) (ltb (length bytes) (4 + size_of bytes)) (size_of bytes) e in
    let long : 4 ≤ length bytes = ltb-false _ _ w.0 in
    let a : ltb (length (bytes ++ more)) 4 ≡ false = le-ltb _ _ (omega (arith, length-append bytes more)) in
    let b : ltb max_frame (size_of (bytes ++ more)) ≡ true = ap (ltb max_frame) (size_more bytes more long) ∙ w.1 in
    rw (a, b) refl

-- ---- more turns than bytes change nothing

shorter : (front : Front) (bytes : List ℕ) (n : ℕ) → length bytes ≤ suc n → length (behind_front front bytes) ≤ n
shorter Part bytes n h = omega arith
shorter Long bytes n h = omega arith
shorter (Whole size) bytes n h = omega (arith, length-drop (4 + size) bytes)

same_turns : (t u : ℕ) (is_cut : Bool) (bytes : List ℕ) → length bytes ≤ t → length bytes ≤ u → frames_from t is_cut bytes ≡ frames_from u is_cut bytes
unfolding frames_from front_of
same_turns zero zero is_cut bytes ht hu = refl
same_turns zero (suc u) is_cut [] ht hu = refl
same_turns zero (suc u) is_cut (b ∷ bytes) ht hu = absurd (omega arith)
same_turns (suc t) zero is_cut [] ht hu = refl
same_turns (suc t) zero is_cut (b ∷ bytes) ht hu = absurd (omega arith)
same_turns (suc t) (suc u) is_cut bytes ht hu =
    ap (framed (front_of bytes) is_cut bytes) (same_turns t u is_cut (behind_front (front_of bytes) bytes) (shorter (front_of bytes) bytes t ht) (shorter (front_of bytes) bytes u hu))

by_front : (front : Front) (is_cut : Bool) (bytes : List ℕ) → front_of bytes ≡ front
    → framing_of (record { ahead = bytes; is_cut = is_cut }) ≡ framed front is_cut bytes (framing_of (record { ahead = behind_front front bytes; is_cut = is_cut }))
unfolding framing_of frames_from
by_front front is_cut bytes e =
    same_turns (length bytes) (suc (length bytes)) is_cut bytes (omega arith) (omega arith)
    ∙ ap (λ f. framed f is_cut bytes (frames_from (length bytes) is_cut (behind_front f bytes))) e
    ∙ ap (framed front is_cut bytes) (same_turns (length bytes) (length (behind_front front bytes)) is_cut (behind_front front bytes) (shorter front bytes (length bytes) (omega arith)) (omega arith))

-- ---- what a reader gives

-- a frame among the bytes that are held
pub framings_whole : (taken : ℕ) (held : List ℕ) (left : Option (List ℕ)) (size : ℕ) → front_of held ≡ Whole size
    → framings taken held left ≡ option_map (Gives (take size (drop 4 held))) (framings taken (drop (4 + size) held) left)
framings_whole taken held None size e = refl
framings_whole taken held (Some bytes) size e =
    let more = take (max_input - taken) bytes in
    let is_cut = nat_le max_input (taken + length bytes) in
    let within = whole_within held size e in
    let frame : take size (drop 4 (held ++ more)) ≡ take size (drop 4 held) = ap (take size) (drop-append-le 4 held more (omega arith)) ∙ take-append-le size (drop 4 held) more (omega (arith, length-drop 4 held)) in
    let rest : drop (4 + size) (held ++ more) ≡ drop (4 + size) held ++ more = drop-append-le (4 + size) held more within in
    ap Some (by_front (Whole size) is_cut (held ++ more) (whole_more held more size e)
    ∙ ap (λ l. Gives l (framing_of (record { ahead = drop (4 + size) (held ++ more); is_cut = is_cut }))) frame
    ∙ ap (λ l. Gives (take size (drop 4 held)) (framing_of (record { ahead = l; is_cut = is_cut }))) rest)

-- a length that no frame has
pub framings_long : (taken : ℕ) (held : List ℕ) (left : Option (List ℕ)) → front_of held ≡ Long → IfSome (framings taken held left) (λ framing. framing ≡ Ends AtLongFrame)
framings_long taken held None e = tt
framings_long taken held (Some bytes) e =
    by_front Long (nat_le max_input (taken + length bytes)) (held ++ take (max_input - taken) bytes) (long_more held (take (max_input - taken) bytes) e)

under : (taken : ℕ) → taken < max_input → nat_le max_input (taken + 0) ≡ false
under taken h = grind arith

over : (taken n : ℕ) → taken ≡ max_input → nat_le max_input (taken + n) ≡ true
over taken n h = grind arith

-- the end of the input behind less than a frame
pub framings_end : (taken : ℕ) (held : List ℕ) (left : Option (List ℕ)) → front_of held ≡ Part → IfSome left (λ bytes. bytes ≡ []) → taken < max_input → IfSome (framings taken held left) (λ framing. framing ≡ Ends (ending_at false held))
framings_end taken held None e none h = tt
framings_end taken held (Some bytes) e none h =
    ap (λ b. framing_of (input_ahead taken held b)) none
    ∙ ap (λ b. framing_of (record { ahead = held ++ take (max_input - taken) []; is_cut = b })) (under taken h)
    ∙ ap (λ l. framing_of (record { ahead = l; is_cut = false })) (ap (λ l. held ++ l) (take-nil (max_input - taken)) ∙ append-nil held)
    ∙ by_front Part false held e

-- so many bytes were read that no more are
pub framings_full : (taken : ℕ) (held : List ℕ) (left : Option (List ℕ)) → front_of held ≡ Part → taken ≡ max_input → IfSome (framings taken held left) (λ framing. framing ≡ Ends AtLimit)
framings_full taken held None e h = tt
framings_full taken held (Some bytes) e h =
    ap (λ n. framing_of (record { ahead = held ++ take n bytes; is_cut = nat_le max_input (taken + length bytes) })) (let z : max_input - taken ≡ 0 = omega arith in z)
    ∙ ap (λ b. framing_of (record { ahead = held ++ []; is_cut = b })) (over taken (length bytes) h)
    ∙ ap (λ l. framing_of (record { ahead = l; is_cut = true })) (append-nil held)
    ∙ by_front Part true held e

-- an empty rest is the end, and any other a cut frame
pub framings_end_of : (held : List ℕ) → length held ≡ 0 → ending_at false held ≡ AtEnd
framings_end_of [] h = refl
framings_end_of (b ∷ held) h = absurd (omega arith)

pub framings_cut_of : (held : List ℕ) → 0 < length held → ending_at false held ≡ AtCut
framings_cut_of [] h = absurd (omega arith)
framings_cut_of (b ∷ held) h = refl

-- a refusal of the search for a frame is the reader's
pub refused_frames : (refusal : ReadRefusal) (now : Taken) (left : Option (List ℕ)) (old : Option Input) (new : Option Framing) → FindsFrame (Err refusal) now left → KeepsInput {F = Ahead} (Err refusal) old (input_of now.taken now.held left) → AnswersFrame (Err refusal) (option_map framing_of old) new
refused_frames refusals.TooLong now left old new found same = subst (λ o. IfSome (option_map framing_of o) (λ framing. framing ≡ Ends AtLongFrame)) same (framings_long now.taken now.held left found)
refused_frames refusals.Failed now left old new found same = tt
refused_frames refusals.NoMemory now left old new found same = tt
refused_frames refusals.Cut now left old new found same = absurd found
refused_frames refusals.InputTooLong now left old new found same = absurd found
