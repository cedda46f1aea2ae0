-- What a landing leaves of a journal.
use Rattle.std.proofs.Common.{◌≡◌, inl, inr, ℕ, ◌+◌, false, List, [], ◌∷◌, ◌++◌, length, take, drop, get_or, Option, Some, sym, ◌∙◌, ap, subst, arith, append_assoc, length-append, take_at}
use Rattle.std.proofs.lemmas.List.{take-append-drop, drop_more}
use Rattle.std.proofs.lemmas.Bool.{cases_eq}
use Rattle.sync_disk.specs.Disk.{Only, Torn}
use Rattle.sync_disk.specs.Images.{state}
use Rattle.sync_disk.specs.ImageLaws.{only_synced}
use Rattle.sync_disk.specs.Strokes.{Stroke}
use Rattle.sync_disk.specs.declared.disk.Disk.{Ghosts}
use Rattle.gathered_disk.specs.declared.gathered.GatheredDisk.{GatheredDisk}
use Rattle.gathered_disk.specs.Below.{below, gate_of, pending, told_by}
use Rattle.gathered_disk.specs.Below as disks
use Rattle.gathered_disk.specs.Gathered.{IsLetIn, NoneOrAll, base_of, images_of}
use Rattle.gathered_disk.proofs.Gathering.{shown_is, is_shown}
use Rattle.sync_journal.specs.Journal.{IsSettled}
use Rattle.sync_journal.specs.Landed.{HoldsBelow, StandsForEither}
use Rattle.sync_journal.specs.Records.{magic, records_of, IsJournal}
use Rattle.sync_journal.specs.Records.Reading.{Good}
use Rattle.sync_journal.proofs.Crash.{closed_file, torn_gate}

-- BYTES
module _ (olds all : List (List ℕ)) (gate : ℕ) (file shown : List ℕ) (j : IsJournal false olds gate file) (reads : records_of shown ≡ Good all) where
  p : List ℕ
  p = magic ++ j.front

  long : length p ≡ gate
  unfolding p
  long = omega (arith, length-append magic j.front, j.place)

  flat : (tail : List ℕ) → magic ++ (j.front ++ tail) ≡ p ++ tail
  unfolding p
  flat tail = sym (append_assoc magic j.front tail)

  is : file ≡ p ++ j.gate ∷ j.rest
  is = j.file_is ∙ flat (j.gate ∷ j.rest)

  held : (c : List ℕ) → take (gate + 1) c ≡ take (gate + 1) file → records_of c ≡ Good olds
  held c same =
      let front : take (gate + 1) file ≡ p ++ j.gate ∷ [] =
      ap (take (gate + 1)) (is ∙ sym (append_assoc p (j.gate ∷ []) j.rest)) ∙ take_at (p ++ j.gate ∷ []) j.rest (gate + 1) (omega (arith, long, length-append p (j.gate ∷ []))) in
      let rest = drop (gate + 1) c in
      let whole : c ≡ p ++ j.gate ∷ rest = sym (take-append-drop (gate + 1) c) ∙ ap (λ (l : List ℕ). l ++ rest) (same ∙ front) ∙ append_assoc p (j.gate ∷ []) rest in
      ap records_of (whole ∙ sym (flat (j.gate ∷ rest))) ∙ closed_file false olds j.front j.gate rest j.are j.shut

  let_in : (c : List ℕ) → IsLetIn file gate shown c → StandsForEither olds all c
  let_in c i =
      let rest = drop (gate + 1) shown in
      let front : take gate shown ≡ p = i.front ∙ ap (take gate) is ∙ take_at p (j.gate ∷ j.rest) gate long in
      let here : drop gate shown ≡ 1 ∷ rest = drop_more shown gate 0 i.inside ∙ ap (λ (g : ℕ). g ∷ rest) i.open_ in
      let whole : shown ≡ p ++ 1 ∷ rest = sym (take-append-drop gate shown) ∙ ap (λ (l : List ℕ). l ++ drop gate shown) front ∙ ap (λ (l : List ℕ). p ++ l) here in
      let torn : c ≡ p ++ get_or c gate 0 ∷ rest = torn_gate p gate long 1 rest c (subst (λ (f : List ℕ). Torn gate 1 f c) whole i.torn) in
      elim (cases_eq (get_or c gate 0) 1) [
        | inl open_ ↦ inr (ap records_of (torn ∙ ap (λ (g : ℕ). p ++ g ∷ rest) open_ ∙ sym whole) ∙ reads)
        | inr shut ↦ inl (ap records_of (torn ∙ sym (flat (get_or c gate 0 ∷ rest))) ∙ closed_file false olds j.front (get_or c gate 0) rest j.are shut)
      ]

  pub either : (c : List ℕ) → NoneOrAll file gate shown c → StandsForEither olds all c
  either c (inl same) = inl (held c same)
  either c (inr i) = let_in c i

-- NOTHING GATHERED: what is shown is what lies below
module _ {D : Type 0} {G : Ghosts D} where
  -- what a crash would leave of what it shows
  abbrev images_by : GatheredDisk D G → List ℕ → Type 0
  images_by g = images_of (G.content (below g)) (pending g)

  pub told_below : (g : GatheredDisk D G) (b : List ℕ) → pending g ≡ [] → told_by g ≡ Some b → G.content (below g) ≡ Some b
  told_below g b idle told =
      let is = shown_is g.closed (G.content (below g)) (pending g) b told in
      is.1 ∙ ap Some (ap (λ (l : List Stroke). (state (base_of (G.content (below g))) l).content) (sym idle) ∙ is.2)

  pub only_below : (g : GatheredDisk D G) (b : List ℕ) → pending g ≡ [] → told_by g ≡ Some b → Only b (images_by g)
  only_below g b idle told c left =
      let here = told_below g b idle told in
      only_synced b c (subst (λ (l : List Stroke). images_of (Some b) l c) idle (subst (λ (o : Option (List ℕ)). images_of o (pending g) c) here left))

  pub shown_below : (g : GatheredDisk D G) (b : List ℕ) → disks.is_closed g ≡ false → pending g ≡ [] → G.content (below g) ≡ Some b → told_by g ≡ Some b
  shown_below g b still idle told = is_shown g.closed (G.content (below g)) (pending g) b still told ∙ ap (λ (l : List Stroke). Some (state b l).content) idle

  -- what has landed is shown
  pub landed_shows : (records : List (List ℕ)) (end : ℕ) (g : GatheredDisk D G) → disks.is_closed g ≡ false → pending g ≡ [] → gate_of g ≡ end → HoldsBelow records g → IsSettled told_by images_by records end g
  landed_shows records end g still idle gate holds =
      let told = shown_below g holds.file still idle holds.told in
      record {
        file = holds.file;
        told = told;
        reads = holds.reads;
        journal = subst (λ (n : ℕ). IsJournal false records n holds.file) gate holds.journal;
        durable = only_below g holds.file idle told;
      }
