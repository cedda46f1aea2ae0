-- The entries at the front of a trimmed file and what crossed them, as the code reads them.
use Rattle.std.proofs.Common.{◌≡◌, ℕ, ◌+◌, ◌≤◌, Bool, List, [], Option, Result, Ok, Err, sym, ap, ◌∙◌, arith, length, map, take}
use Rattle.sync_data.specs.declared.entry.Entry.{Entry}
use Rattle.sync_data.specs.declared.instr.Instr.{Instr}
use Rattle.sync_base.specs.States.{State}
use Rattle.sync_recip.specs.Lists.{entry_of}
use Rattle.sync_exchange.specs.Profile.{the_profile}
use Rattle.sync_model.specs.Fronts.{Crossed, Front, Passed as ModelPassed, crossed_is, crossed_step, entry_is, front_crossed, leading, of_kind, taking_all, then_at, walk, with_pairs}
use Rattle.sync_model.specs.Parts.{Given}
use Rattle.sync_records.specs.declared.server.ServerRecord.{ServerRecord as CodeRecord}
use Rattle.server_memory.specs.Crossing.{passed_seen}
use Rattle.server_memory.specs.Fronting.{Fronts, Walks, grown_seen, seen_from}
use Rattle.server_memory.specs.declared.carried.Grown.{Grown}
use Rattle.sync_journal.specs.declared.opening.ReadRefusal.{ReadRefusal}
use Rattle.sync_journal.specs.declared.opening.ReadRefusal.TheVariants as refusals
use Rattle.server_memory.specs.declared.passed.Passed.{Passed}
use Rattle.server_memory.proofs.Continuing.{lead_short, take_short}
use Rattle.server_memory.proofs.Walking.{from_length}

pub entries_fit : (records : List (Option CodeRecord)) (k most n : ℕ) → n ≡ length (take most (leading (of_kind entry_is) (seen_from k records))) → k ≤ length records → k + n ≤ length records
entries_fit records k most n size within =
    let long = from_length records k within in
    let short = lead_short entry_is (seen_from k records) in
    let taken = take_short most (leading (of_kind entry_is) (seen_from k records)) in
    omega (arith, long, short, taken, size)

-- ---- what crossed them
module _ (records : List (Option CodeRecord)) (k : ℕ) (second : Bool) (below : State) (floor len : ℕ) (ds : List (ℕ × ℕ)) (gs : List (Given Instr)) (g : Grown) where
  abbrev cs : List Crossed
  cs = leading (of_kind crossed_is) (seen_from k records)

  abbrev pub crossed_whole : Result (Front Instr State) ℕ
  crossed_whole = taking_all (of_kind crossed_is) (seen_from k records) (front_crossed the_profile second below floor len ds gs (grown_seen g) k)

  abbrev pub crossed_walk : List (Given Instr) → List Entry → Result (List (ModelPassed Instr)) ℕ
  crossed_walk hs xs = walk (crossed_step the_profile second floor hs (map entry_of xs)) [] cs

  abbrev made : List (ModelPassed Instr) → Result (Front Instr State) ℕ
  made qs = Ok (record {
    parts = record { floor = floor; below = below; len = len; entries = (grown_seen g).entries; bases = (grown_seen g).bases; objects = (grown_seen g).objects; second = second; idents = with_pairs 1 floor (grown_seen g).entries qs gs; retired = ds };
    size = k + length cs;
  })

  pub crossed_fail : (why : ReadRefusal) (hs : List (Given Instr)) (xs : List Entry) → hs ≡ gs → xs ≡ g.entries.items → Walks {T = List Passed} (λ ps. map passed_seen ps) length k (crossed_walk hs xs) (length cs) (Err why) → Fronts (Err why) crossed_whole
  crossed_fail refusals.NoMemory hs xs p q bad = tt
  crossed_fail (refusals.BadRecord place) hs xs p q bad =
      let same : crossed_walk gs g.entries.items ≡ crossed_walk hs xs = (λ i. crossed_walk (sym p i) (sym q i)) in
      ap (λ w. then_at k w made) (same ∙ bad.is) ∙ ap (λ n. Err n) (sym bad.place_is)
