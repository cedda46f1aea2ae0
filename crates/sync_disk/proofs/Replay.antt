-- How a content is made again from the strokes, and which of them come after the last sync.
use Rattle.std.proofs.Common.{◌≡◌, ℕ, ◌+◌, ◌≤◌, ◌<◌, Bool, true, false, ◌&&◌, ◌||◌, nat_le, nat_lt, List, [], ◌∷◌, ◌++◌, length, take, drop, get_or, refl, sym, ◌∙◌, ap, arith, take_all}
use Rattle.std.proofs.lemmas.List.{map_push, map-append, take-append-le, drop-append-le, drop_all, take_more, take-append-drop}
use Rattle.std.proofs.lemmas.List.Folds.{list_any-append}
use Rattle.std.proofs.Math.Bool.{or_comm}
use Rattle.sync_disk.specs.Strokes.{Stroke}
use Rattle.sync_disk.specs.Images.{State, act_on, acted, content_after, state, synced, is_written}
use Rattle.sync_disk.specs.Memory.{act_of, stroke_of, strokes_of, ends_writes, is_over, writes_over, IsLastSync}
use Rattle.sync_disk.specs.declared.kept.Asked.{Asked}
use Rattle.sync_disk.specs.declared.kept.Asked.TheVariants.{Write, Sync}
use Rattle.sync_disk.specs.declared.kept.KeptStroke.{KeptStroke}
use Rattle.sync_disk.proofs.Tearing.{state_push, after_content, content_grows}

pub content_append : (b : List ℕ) (xs ys : List Stroke) → content_after b (xs ++ ys) ≡ content_after (content_after b xs) ys
content_append b [] ys = refl
content_append b (x ∷ xs) ys = content_append (acted b x.act x.lost) xs ys

-- one stroke more is done again
pub replay_more : (b : List ℕ) (kept : List KeptStroke) (i : ℕ) (x : KeptStroke) → i < length kept → x ≡ get_or kept i x
    → content_after b (strokes_of (take (i + 1) kept)) ≡ acted (content_after b (strokes_of (take i kept))) (act_of x.asked) x.lost
replay_more b kept i x lt is =
    let split : strokes_of (take (i + 1) kept) ≡ strokes_of (take i kept) ++ stroke_of x ∷ [] =
    ap strokes_of (take_more kept i x lt ∙ ap (λ (k : KeptStroke). take i kept ++ k ∷ []) (sym is)) ∙ map_push stroke_of (take i kept) x in
    ap (content_after b) split ∙ content_append b (strokes_of (take i kept)) (stroke_of x ∷ [])

-- a part is no longer than the whole
pub replay_short : (b : List ℕ) (kept : List KeptStroke) (n : ℕ) → length (content_after b (strokes_of (take n kept))) ≤ length (content_after b (strokes_of kept))
replay_short b kept n =
    let all : strokes_of kept ≡ strokes_of (take n kept) ++ strokes_of (drop n kept) = ap strokes_of (sym (take-append-drop n kept)) ∙ map-append stroke_of (take n kept) (drop n kept) in
    let whole : content_after b (strokes_of kept) ≡ content_after (content_after b (strokes_of (take n kept))) (strokes_of (drop n kept)) =
    ap (content_after b) all ∙ content_append b (strokes_of (take n kept)) (strokes_of (drop n kept)) in
    omega (arith, ap length whole, content_grows (content_after b (strokes_of (take n kept))) (strokes_of (drop n kept)))

-- a sync that took effect leaves nothing written
ended_base : (s : State) (asked : Asked) (lost : Bool) → ends_writes (act_of asked) lost ≡ true → (act_on s (act_of asked) lost).content ≡ (act_on s (act_of asked) lost).base
ended_base s (Write place bytes) lost e = absurd (cc e)
ended_base s Sync true e = absurd (cc e)
ended_base s Sync false e = refl

ended_written : (s : State) (asked : Asked) (lost : Bool) (k : ℕ) → ends_writes (act_of asked) lost ≡ true → is_written k (act_on s (act_of asked) lost).written ≡ false
ended_written s (Write place bytes) lost k e = absurd (cc e)
ended_written s Sync true k e = absurd (cc e)
ended_written s Sync false k e = refl

or_false : (b : Bool) → b ≡ (b || false)
or_false true = refl
or_false false = refl

-- any other stroke leaves what was synced, and may write more
more_base : (s : State) (asked : Asked) (lost : Bool) → ends_writes (act_of asked) lost ≡ false → (act_on s (act_of asked) lost).base ≡ s.base
more_base s (Write place bytes) true e = refl
more_base s (Write place bytes) false e = refl
more_base s Sync true e = refl
more_base s Sync false e = absurd (cc e)

more_written : (s : State) (asked : Asked) (lost : Bool) (k : ℕ) → ends_writes (act_of asked) lost ≡ false → is_written k (act_on s (act_of asked) lost).written ≡ (is_written k s.written || is_over k (act_of asked) lost)
more_written s (Write place bytes) true k e = or_false (is_written k s.written)
more_written s (Write place bytes) false k e = or_comm (nat_le place k && nat_lt k (place + length bytes.items)) (is_written k s.written)
more_written s Sync true k e = or_false (is_written k s.written)
more_written s Sync false k e = absurd (cc e)

pub pushed : (old new : List KeptStroke) (x : KeptStroke) → new ≡ old ++ x ∷ [] → strokes_of new ≡ strokes_of old ++ stroke_of x ∷ []
pushed old new x is = ap strokes_of is ∙ map_push stroke_of old x

-- the same behind a call that left the strokes
pub pushed_behind : (old mid new : List KeptStroke) (x : KeptStroke) → new ≡ mid ++ x ∷ [] → mid ≡ old → strokes_of new ≡ strokes_of old ++ stroke_of x ∷ []
pushed_behind old mid new x is same = pushed old new x (is ∙ ap (λ (l : List KeptStroke). l ++ x ∷ []) same)

-- before the first stroke
pub last_none : IsLastSync 0 []
last_none = record { base = λ start. refl; written = λ start k. refl }

-- the last sync is the last stroke
pub last_here : (old new : List KeptStroke) (x : KeptStroke) (n : ℕ) → new ≡ old ++ x ∷ [] → n ≡ length new → ends_writes (act_of x.asked) x.lost ≡ true → IsLastSync n new
last_here old new x n is all ends = record {
  base = λ start.
      ap (λ (l : List KeptStroke). content_after start (strokes_of l)) (take_all n new (omega (arith, all)))
      ∙ sym (after_content (synced start) (strokes_of new))
      ∙ ap (λ (s : State). s.content) (state_push start (strokes_of old) (stroke_of x) (strokes_of new) (pushed old new x is))
      ∙ ended_base (state start (strokes_of old)) x.asked x.lost ends
      ∙ ap (λ (s : State). s.base) (sym (state_push start (strokes_of old) (stroke_of x) (strokes_of new) (pushed old new x is)));
  written = λ start k.
      ap (λ (s : State). is_written k s.written) (state_push start (strokes_of old) (stroke_of x) (strokes_of new) (pushed old new x is))
      ∙ ended_written (state start (strokes_of old)) x.asked x.lost k ends
      ∙ ap (writes_over k) (sym (drop_all n new (omega (arith, all))));
}

-- it is one before
pub last_before : (old new : List KeptStroke) (x : KeptStroke) (n : ℕ) → new ≡ old ++ x ∷ [] → n ≤ length old → ends_writes (act_of x.asked) x.lost ≡ false → IsLastSync n old → IsLastSync n new
last_before old new x n is within ends last = record {
  base = λ start.
      ap (λ (l : List KeptStroke). content_after start (strokes_of l)) (ap (take n) is ∙ take-append-le n old (x ∷ []) within)
      ∙ last.base start
      ∙ sym (more_base (state start (strokes_of old)) x.asked x.lost ends)
      ∙ ap (λ (s : State). s.base) (sym (state_push start (strokes_of old) (stroke_of x) (strokes_of new) (pushed old new x is)));
  written = λ start k.
      ap (λ (s : State). is_written k s.written) (state_push start (strokes_of old) (stroke_of x) (strokes_of new) (pushed old new x is))
      ∙ more_written (state start (strokes_of old)) x.asked x.lost k ends
      ∙ ap (λ (b : Bool). b || is_over k (act_of x.asked) x.lost) (last.written start k)
      ∙ ap (λ (b : Bool). writes_over k (drop n old) || b) (or_false (is_over k (act_of x.asked) x.lost))
      ∙ sym (list_any-append (λ (s : KeptStroke). is_over k (act_of s.asked) s.lost) (drop n old) (x ∷ []))
      ∙ ap (writes_over k) (sym (ap (drop n) is ∙ drop-append-le n old (x ∷ []) within));
}
