-- A server's file without the history before a floor: its records, and what such a file gives.
use Rattle.std.specs.Prelude.{bytes_eq, ◌≡◌, ℕ, suc, ◌-◌, true, List, [], ◌∷◌, ◌++◌, Option, Some, None, Ok, if◌then◌else◌, map, max}
use Rattle.sync_theory.specs.Changesets.{Changeset}
use Rattle.sync_model.specs.Profile.{Profile}
use Rattle.sync_model.specs.Messages.{Message}
use Rattle.sync_model.specs.Servers.{ServerRecord, Client, Form, Retired, Part, Floor, Count, Carried, Past}
use Rattle.sync_model.specs.Parts.{Given, Parts, no_parts, after_part, admits_part}
use Rattle.sync_model.specs.Trims.{pairs_from, is_live, trimmed, replies_by, kept_after}
use Rattle.sync_model.specs.Worlds.{at}
use Rattle.sync_model.specs.Fronts.{file_gives}

module _ {I S : Type 0} (p : Profile I S) where
  -- ---- the records of what a trimmed file gives

  -- the counts of idents, the first of which is c
  abbrev pub count_records : ℕ → List (Given I) → List ServerRecord
  count_records c [] = []
  count_records c (g ∷ gs) = Count c g.count g.last g.mark ∷ count_records (suc c) gs

  -- the entries with their bases
  abbrev pub entry_records : List (Changeset I) → List ℕ → List ServerRecord
  entry_records [] bs = []
  entry_records (x ∷ xs) [] = []
  entry_records (x ∷ xs) (b ∷ bs) = Carried x.origin x.number b x.ms (p.spell x.instrs) ∷ entry_records xs bs

  -- an entry that an ident's changes crossed, where that changed it
  abbrev pub crossed_record : ℕ → ℕ × Changeset I → Option (Changeset I) → List ServerRecord
  crossed_record c q None = []
  crossed_record c q (Some x) = if bytes_eq (p.spell q.1.instrs) (p.spell x.instrs) then [] else Past c q.0 q.1.ms (p.spell q.1.instrs) ∷ []

  -- those of one ident
  abbrev pub crossed_of : ℕ → ℕ → List (Changeset I) → List (ℕ × Changeset I) → List ServerRecord
  crossed_of c floor xs [] = []
  crossed_of c floor xs (q ∷ qs) = crossed_record c q (at xs (q.0 - floor)) ++ crossed_of c floor xs qs

  -- and of each live ident, the first of which is c
  abbrev pub crossed_records : ℕ → ℕ → List (Changeset I) → List (Given I) → List ServerRecord
  crossed_records c floor xs [] = []
  crossed_records c floor xs (g ∷ gs) = (if is_live g then crossed_of c floor xs (pairs_from (max floor g.last) g.reciprocal) else []) ++ crossed_records (suc c) floor xs gs

  -- all of them, in order
  abbrev pub front_records : Parts I S → List ServerRecord
  front_records kept =
      (if kept.second then Form ∷ [] else [])
      ++ (map (λ is. Part (p.spell is)) (p.build kept.below)
      ++ (Floor kept.floor
      ∷ (map (λ g. Client g.uuid) kept.idents
      ++ (map (λ q. Retired q.0 q.1) kept.retired
      ++ (count_records 1 kept.idents
      ++ (entry_records kept.entries kept.bases
      ++ crossed_records 1 kept.floor kept.entries kept.idents))))))

  -- the file that replaces a server's file
  abbrev pub trim_records : Parts I S → List ServerRecord
  trim_records kept = front_records (trimmed p kept)

-- what a server keeps by any records that it would have written, and any trims of its file
pub data KeptBy {I S : Type 0} (p : Profile I S) : Parts I S → Type 0 where
  keeps_nothing : KeptBy p (no_parts p)
  keeps_record : {kept : Parts I S} (r : ServerRecord) → KeptBy p kept → admits_part p kept r ≡ true → KeptBy p (after_part p kept r)
  keeps_trimmed : {kept : Parts I S} → KeptBy p kept → KeptBy p (trimmed p kept)

-- the trimmed file gives what is left, and a server over it gives the same replies, lengths and objects
pub record TrimsAlike {I S : Type 0} (p : Profile I S) (kept : Parts I S) (ms : List Message) : Type 0 where
  pub file : file_gives p (map (λ r. Some r) (trim_records p kept)) ≡ Ok (trimmed p kept)
  pub replies : replies_by p (trimmed p kept) ms ≡ replies_by p kept ms
  pub lengths : (kept_after p (trimmed p kept) ms).len ≡ (kept_after p kept ms).len
  pub objects : (kept_after p (trimmed p kept) ms).objects ≡ (kept_after p kept ms).objects
