-- What a crash leaves of a disk that was armed and stopped in one of several appends.
use Rattle.std.proofs.Common.{◌≡◌, ℕ, zero, suc, ◌+◌, ◌*◌, ◌/◌, ◌%◌, ◌<◌, ◌≤◌, Bool, true, false, not, nat_le, ◌&&◌, if◌then◌else◌, Option, Some, List, [], ◌∷◌, ◌++◌, length, take, map, refl, sym, ◌∙◌, ap, subst, arith, append_assoc, append-nil, length-append}
use Rattle.sync_disk.specs.Disk.{put, Torn}
use Rattle.sync_disk.specs.Strokes.{Act, Stroke, done, broken, acts_of, AllDone, CutByFault}
use Rattle.sync_disk.specs.Strokes.Act.{Write, Sync}
use Rattle.sync_disk.specs.Origin.{Origin}
use Rattle.sync_disk.specs.Faults.{is_write, planned}
use Rattle.sync_disk.specs.Images.{State, IsImage, synced, act_on, after, state}
use Rattle.sync_disk.specs.ImageLaws.{image_act, is_image_after, only_synced, image_synced}
use Rattle.sync_disk.specs.Leaving.{left_by}
use Rattle.sync_disk.specs.LeavingLaws.{left_is_image, IsAmong, among_act, among}
use Rattle.sync_disk.specs.declared.leaves.Leaves.{Leaves}
use Rattle.sync_disk.specs.declared.leaves.Leaves.TheVariants.{Drop, Keep, Torn as torn}
use Rattle.sync_disk.proofs.Tearing.{torn_write, after_append}
use Rattle.sync_disk.proofs.Stops.{stop_behind, stop_here, lost_here}
use Rattle.sync_journal.specs.Records.{magic, kept, records_of, IsJournal, staged}
use Rattle.sync_journal.specs.Records.Reading.{Good}
use Rattle.sync_journal.specs.Journal.{strokes_of_all}
use Rattle.sync_journal.specs.Stopping.{CanStand, CanAllStand, is_keep, standing}
use Rattle.sync_journal.proofs.Crash.{stands_for, crash_behind, written, written_behind, written_gate, gate_open}
use Rattle.sync_journal.proofs.Left.{torn_at_gate}
use Rattle.sync_journal.proofs.Scan.{kept_record}

-- a crash leaves this file, and nothing else
pub record Settles (s : State) (file : List ℕ) : Type 0 where
  pub now : IsImage s s.content
  pub only : (c : List ℕ) → IsImage s c → c ≡ file
  pub among : IsAmong s

settles_synced : (file : List ℕ) → Settles (synced file) file
settles_synced file = record { now = image_synced file; only = λ c image. only_synced file c image; among = λ k e. refl }

-- one append
module _ (s : State) (records : List (List ℕ)) (end : ℕ) (file next : List ℕ) (settles : Settles s file) (j : IsJournal false records end file) (can : CanStand next) where
  abbrev behind : State
  behind = act_on s (Write (end + 1) (staged next)) false

  within : end + 1 ≤ length s.content
  within = omega (arith, ap length (settles.only s.content settles.now), ap length j.file_is, length-append magic (j.front ++ j.gate ∷ j.rest), length-append j.front (j.gate ∷ j.rest), j.place)

  -- the record lies behind the closed gate
  each_behind : (c : List ℕ) → IsImage behind c → records_of c ≡ Good records
  each_behind c image =
      let from = torn_write s (end + 1) (staged next) false settles.now within c image in
      crash_behind false records end file next j can.0 c (subst (λ f. Torn (end + 1) (length (staged next)) f c) (settles.only from.0 from.1) from.2)

  now_behind : IsImage behind behind.content
  now_behind = image_act s (Write (end + 1) (staged next)) false settles.now

  pub left_behind : (leaves : Leaves) → records_of (left_by leaves behind) ≡ Good records
  left_behind leaves = each_behind (left_by leaves behind) (left_is_image leaves behind (among_act s (Write (end + 1) (staged next)) false settles.among) now_behind)

  content_behind : behind.content ≡ written false records end file next j can.0
  content_behind = ap (λ (f : List ℕ). put f (end + 1) (staged next)) (settles.only s.content settles.now) ∙ written_behind false records end file next j can.0

  -- the gate is open, or half so
  abbrev opened : State
  opened = act_on (act_on behind Sync false) (Write end (1 ∷ [])) false

  content_opened : opened.content ≡ put (written false records end file next j can.0) end (1 ∷ [])
  content_opened = ap (λ (f : List ℕ). put f end (1 ∷ [])) content_behind

  pub journal_opened : IsJournal false (records ++ next ∷ []) (end + 5 + length next) opened.content
  journal_opened =
      subst (λ (added : List (List ℕ)). IsJournal false (records ++ added) (end + 5 + length next) opened.content) (kept_record false next can.1)
      (subst (IsJournal false (records ++ kept false next) (end + 5 + length next)) (sym content_opened) (written_gate false records end file next j can.0))

  pub left_opened : (leaves : Leaves) → records_of (left_by leaves opened) ≡ Good (records ++ take (if is_keep leaves then 1 else 0) (next ∷ []))
  left_opened Drop = each_behind behind.content now_behind ∙ ap Good (sym (append-nil records))
  left_opened Keep = stands_for false (records ++ next ∷ []) (end + 5 + length next) opened.content journal_opened
  left_opened torn =
      torn_at_gate false records j.front _ 1 opened j.are (ap (λ (place : ℕ). (place, 1) ∷ []) j.place) (content_opened ∙ gate_open false records end file next j can.0)
      ∙ ap Good (sym (append-nil records))

-- four strokes more are a record more
four_more : (leaves : Leaves) (n : ℕ) → standing leaves (suc (suc (suc (suc n)))) ≡ suc (standing leaves n)
four_more leaves n =
    let quotient : suc (suc (suc (suc n))) / 4 ≡ suc (n / 4) = omega arith in
    let rest : suc (suc (suc (suc n))) % 4 ≡ n % 4 = omega (arith, quotient) in
    ap (λ (q : ℕ). q + (if nat_le 2 (suc (suc (suc (suc n))) % 4) && is_keep leaves then 1 else 0)) quotient
    ∙ ap (λ (r : ℕ). suc (n / 4) + (if nat_le 2 r && is_keep leaves then 1 else 0)) rest
    ∙ omega arith

-- where the gate was written
at_gate : (leaves : Leaves) (n : ℕ) → n < 2 → standing leaves (n + 2) ≡ (if is_keep leaves then 1 else 0)
at_gate Drop zero lt = refl
at_gate Drop (suc zero) lt = refl
at_gate Drop (suc (suc n)) lt = absurd (omega arith)
at_gate Keep zero lt = refl
at_gate Keep (suc zero) lt = refl
at_gate Keep (suc (suc n)) lt = absurd (omega arith)
at_gate torn zero lt = refl
at_gate torn (suc zero) lt = refl
at_gate torn (suc (suc n)) lt = absurd (omega arith)

-- the first record of several, or none
take_one : (b : Bool) (next : List ℕ) (others : List (List ℕ)) → take (if b then 1 else 0) (next ∷ []) ≡ take (if b then 1 else 0) (next ∷ others)
take_one true next others = refl
take_one false next others = refl

module _ (leaves : Leaves) where
  left_from : (s : State) (records next : List (List ℕ)) (end : ℕ) (file : List ℕ) (first : List Act) (last : Act) (left : List Act) (lost : Bool)
      → Settles s file → IsJournal false records end file → CanAllStand next → strokes_of_all end next ≡ first ++ last ∷ left → lost ≡ not (is_write last)
      → records_of (left_by leaves (after s (map done first ++ broken last lost ∷ []))) ≡ Good (records ++ take (standing leaves (length first)) next)
  left_from s records [] end file [] last left lost settles j can split is_lost = absurd (cc split)
  left_from s records [] end file (a ∷ first) last left lost settles j can split is_lost = absurd (cc split)
  left_from s records (next ∷ others) end file [] last left lost settles j can split is_lost =
      let is : last ≡ Write (end + 1) (staged next) = cc in
      let kept : lost ≡ false = is_lost ∙ ap (λ (a : Act). not (is_write a)) is in
      ap (λ (a : Act). records_of (left_by leaves (act_on s a lost))) is ∙ ap (λ (b : Bool). records_of (left_by leaves (act_on s (Write (end + 1) (staged next)) b))) kept
      ∙ left_behind s records end file next settles j can.0 leaves ∙ ap Good (sym (append-nil records))
  left_from s records (next ∷ others) end file (a ∷ []) last left lost settles j can split is_lost =
      let is_a : a ≡ Write (end + 1) (staged next) = cc in
      let is : last ≡ Sync = cc in
      let gone : lost ≡ true = is_lost ∙ ap (λ (x : Act). not (is_write x)) is in
      ap (λ (x : Act). records_of (left_by leaves (act_on (act_on s x false) last lost))) is_a
      ∙ ap (λ (x : Act). records_of (left_by leaves (act_on (act_on s (Write (end + 1) (staged next)) false) x lost))) is
      ∙ ap (λ (b : Bool). records_of (left_by leaves (act_on (act_on s (Write (end + 1) (staged next)) false) Sync b))) gone
      ∙ left_behind s records end file next settles j can.0 leaves ∙ ap Good (sym (append-nil records))
  left_from s records (next ∷ others) end file (a ∷ b ∷ []) last left lost settles j can split is_lost =
      let is_a : a ≡ Write (end + 1) (staged next) = cc in
      let is_b : b ≡ Sync = cc in
      let is : last ≡ Write end (1 ∷ []) = cc in
      let kept : lost ≡ false = is_lost ∙ ap (λ (x : Act). not (is_write x)) is in
      ap (λ (x : Act). records_of (left_by leaves (act_on (act_on (act_on s x false) b false) last lost))) is_a
      ∙ ap (λ (x : Act). records_of (left_by leaves (act_on (act_on (act_on s (Write (end + 1) (staged next)) false) x false) last lost))) is_b
      ∙ ap (λ (x : Act). records_of (left_by leaves (act_on (act_on (act_on s (Write (end + 1) (staged next)) false) Sync false) x lost))) is
      ∙ ap (λ (y : Bool). records_of (left_by leaves (act_on (act_on (act_on s (Write (end + 1) (staged next)) false) Sync false) (Write end (1 ∷ [])) y))) kept
      ∙ left_opened s records end file next settles j can.0 leaves ∙ ap (λ (l : List (List ℕ)). Good (records ++ l)) (take_one (is_keep leaves) next others)
      ∙ ap (λ (n : ℕ). Good (records ++ take n (next ∷ others))) (sym (at_gate leaves 0 (omega arith)))
  left_from s records (next ∷ others) end file (a ∷ b ∷ c ∷ []) last left lost settles j can split is_lost =
      let is_a : a ≡ Write (end + 1) (staged next) = cc in
      let is_b : b ≡ Sync = cc in
      let is_c : c ≡ Write end (1 ∷ []) = cc in
      let is : last ≡ Sync = cc in
      let gone : lost ≡ true = is_lost ∙ ap (λ (x : Act). not (is_write x)) is in
      ap (λ (x : Act). records_of (left_by leaves (act_on (act_on (act_on (act_on s x false) b false) c false) last lost))) is_a
      ∙ ap (λ (x : Act). records_of (left_by leaves (act_on (act_on (act_on (act_on s (Write (end + 1) (staged next)) false) x false) c false) last lost))) is_b
      ∙ ap (λ (x : Act). records_of (left_by leaves (act_on (act_on (act_on (act_on s (Write (end + 1) (staged next)) false) Sync false) x false) last lost))) is_c
      ∙ ap (λ (x : Act). records_of (left_by leaves (act_on (act_on (act_on (act_on s (Write (end + 1) (staged next)) false) Sync false) (Write end (1 ∷ [])) false) x lost))) is
      ∙ ap (λ (y : Bool). records_of (left_by leaves (act_on (act_on (act_on (act_on s (Write (end + 1) (staged next)) false) Sync false) (Write end (1 ∷ [])) false) Sync y))) gone
      ∙ left_opened s records end file next settles j can.0 leaves ∙ ap (λ (l : List (List ℕ)). Good (records ++ l)) (take_one (is_keep leaves) next others)
      ∙ ap (λ (n : ℕ). Good (records ++ take n (next ∷ others))) (sym (at_gate leaves 1 (omega arith)))
  left_from s records (next ∷ others) end file (a ∷ b ∷ c ∷ d ∷ first) last left lost settles j can split is_lost =
      let is_a : a ≡ Write (end + 1) (staged next) = cc in
      let is_b : b ≡ Sync = cc in
      let is_c : c ≡ Write end (1 ∷ []) = cc in
      let is_d : d ≡ Sync = cc in
      let rest : strokes_of_all (end + 5 + length next) others ≡ first ++ last ∷ left = cc in
      let end_of : List Stroke = map done first ++ broken last lost ∷ [] in
      let file' : List ℕ = (opened s records end file next settles j can.0).content in
      let more = left_from (synced file') (records ++ next ∷ []) others (end + 5 + length next) file' first last left lost (settles_synced file') (journal_opened s records end file next settles j can.0) can.1 rest is_lost in
      ap (λ (x : Act). records_of (left_by leaves (after (act_on (act_on (act_on (act_on s x false) b false) c false) d false) end_of))) is_a
      ∙ ap (λ (x : Act). records_of (left_by leaves (after (act_on (act_on (act_on (act_on s (Write (end + 1) (staged next)) false) x false) c false) d false) end_of))) is_b
      ∙ ap (λ (x : Act). records_of (left_by leaves (after (act_on (act_on (act_on (act_on s (Write (end + 1) (staged next)) false) Sync false) x false) d false) end_of))) is_c
      ∙ ap (λ (x : Act). records_of (left_by leaves (after (act_on (act_on (act_on (act_on s (Write (end + 1) (staged next)) false) Sync false) (Write end (1 ∷ [])) false) x false) end_of))) is_d
      ∙ more ∙ ap Good (append_assoc records (next ∷ []) (take (standing leaves (length first)) others))
      ∙ ap (λ (n : ℕ). Good (records ++ take n (next ∷ others))) (sym (four_more leaves (length first)))

pub length-strokes : (end : ℕ) (next : List (List ℕ)) → length (strokes_of_all end next) ≡ 4 * length next
length-strokes end [] = refl
length-strokes end (next ∷ others) = omega (arith, length-strokes (end + 5 + length next) others)

-- The disk stopped in one of the appends: which records stand after a crash.
pub left_stands : (o : Origin) (old new : List Stroke) (records next : List (List ℕ)) (end at : ℕ) (file : List ℕ) → IsJournal false records end file
    → ((c : List ℕ) → IsImage (state o.start old) c → c ≡ file) → CanAllStand next → o.stop ≡ Some (length old + at) → new ≡ planned o.stop 0 (acts_of new)
    → CutByFault (strokes_of_all end next) old new
    → (at < 4 * length next) × (records_of (left_by o.leaves (state o.start new)) ≡ Good (records ++ take (standing o.leaves at) next))
left_stands o old new records next end at file j only can armed plan cut =
    let planned_here = plan ∙ ap (λ (stop : Option ℕ). planned stop 0 (acts_of new)) armed in
    let here : at ≡ length cut.first = omega (arith, stop_here old new (strokes_of_all end next) cut (length old + at) planned_here (omega arith)) in
    let lost = lost_here old new (strokes_of_all end next) cut (length old + at) planned_here (omega arith) in
    let settles : Settles (state o.start old) file = record { now = is_image_after o.start old; only = only; among = among o.start old } in
    let new_state = ap (state o.start) cut.asked ∙ after_append (synced o.start) old (map done cut.first ++ broken cut.last cut.lost ∷ []) in (
      omega (arith, here, ap length cut.split, length-strokes end next, length-append cut.first (cut.last ∷ cut.left)),
      ap (λ (s : State). records_of (left_by o.leaves s)) new_state
          ∙ left_from o.leaves (state o.start old) records next end file cut.first cut.last cut.left cut.lost settles j can cut.split lost
          ∙ ap (λ (n : ℕ). Good (records ++ take (standing o.leaves n) next)) (sym here),
    )

-- The appends were done: the stop lies behind them.
pub stop_passed : (o : Origin) (old new : List Stroke) (next : List (List ℕ)) (end at : ℕ) → o.stop ≡ Some (length old + at) → new ≡ planned o.stop 0 (acts_of new)
    → AllDone (strokes_of_all end next) old new → 4 * length next ≤ at
stop_passed o old new next end at armed plan all =
    let planned_here = plan ∙ ap (λ (stop : Option ℕ). planned stop 0 (acts_of new)) armed in
    omega (arith, stop_behind old new (strokes_of_all end next) (length old + at) all planned_here (omega arith), length-strokes end next)
