-- What holds of all that a server keeps, so that its trimmed file gives it back.
use Rattle.std.specs.Prelude.{◌≡◌, ◌≢◌, ◌≤◌, ℕ, suc, ◌-◌, Bool, true, false, List, [], ◌∷◌, Some, Ok, map, length, drop, max, sum_by}
use Rattle.sync_theory.specs.Changesets.{Changeset}
use Rattle.sync_model.specs.Profile.{Profile, is_small}
use Rattle.sync_model.specs.Servers.{heir_of}
use Rattle.sync_model.specs.Parts.{Given, Parts}
use Rattle.sync_model.specs.Trims.{is_live, Spans}
use Rattle.sync_model.specs.Files.{readable}
use Rattle.sync_model.specs.Each.{Each}
use Rattle.sync_model.specs.Fronts.{Kept, walk, uuid_step, retired_step, entry_step, all_end}

-- within the limits of a changeset, and allowed in this form
pub record Writable {I S : Type 0} (p : Profile I S) (second : Bool) (is : List I) : Type 0 where
  pub small : is_small p is ≡ true
  pub allowed : readable p second (Ok is) ≡ Some is

-- the entries of others than ident c, from a version on, with the stamps that they have in the history
pub data Tracks {I S : Type 0} (p : Profile I S) (second : Bool) (c : ℕ) : ℕ → List (Changeset I) → List (ℕ × Changeset I) → Type 0 where
  no_pairs : {k : ℕ} → Tracks p second c k [] []
  own_entry : {k : ℕ} {x : Changeset I} {xs : List (Changeset I)} {qs : List (ℕ × Changeset I)} → x.origin ≡ c → Tracks p second c (suc k) xs qs → Tracks p second c k (x ∷ xs) qs
  other_entry : {k : ℕ} {x : Changeset I} {is : List I} {xs : List (Changeset I)} {qs : List (ℕ × Changeset I)} → x.origin ≢ c → Writable p second x.instrs → Writable p second is → Tracks p second c (suc k) xs qs → Tracks p second c k (x ∷ xs) ((k, record x { instrs = is }) ∷ qs)

-- an ident without what its changes crossed
abbrev pub bare : {I : Type 0} → Given I → Given I
bare g = record g { reciprocal = [] }

-- the entries as records bear them
abbrev pub kept_of : {I S : Type 0} → Profile I S → List (Changeset I) → List ℕ → List Kept
kept_of p [] bs = []
kept_of p (x ∷ xs) [] = []
kept_of p (x ∷ xs) (b ∷ bs) = record { origin = x.origin; number = x.number; base = b; ms = x.ms; body = p.spell x.instrs } ∷ kept_of p xs bs

-- what is kept of a live ident reaches from the greater of the floor and its last base to the end of the history
pub data AllTrack {I S : Type 0} (p : Profile I S) (second : Bool) (floor : ℕ) (xs : List (Changeset I)) : ℕ → List (Given I) → Type 0 where
  none_track : {c : ℕ} → AllTrack p second floor xs c []
  one_retired : {c : ℕ} {g : Given I} {gs : List (Given I)} → is_live g ≡ false → g.reciprocal ≡ [] → AllTrack p second floor xs (suc c) gs → AllTrack p second floor xs c (g ∷ gs)
  one_tracks : {c : ℕ} {g : Given I} {gs : List (Given I)} → is_live g ≡ true → Tracks p second c (max floor g.last) (drop (max floor g.last - floor) xs) g.reciprocal → AllTrack p second floor xs (suc c) gs → AllTrack p second floor xs c (g ∷ gs)

-- each ident, the first of which is c, has its heir
pub data AllHeirs {I : Type 0} (qs : List (ℕ × ℕ)) : ℕ → List (Given I) → Type 0 where
  no_heirs : {c : ℕ} → AllHeirs qs c []
  one_heir : {c : ℕ} {g : Given I} {gs : List (Given I)} → g.heir ≡ heir_of c qs → AllHeirs qs (suc c) gs → AllHeirs qs c (g ∷ gs)

-- all that opening asks
pub record Whole {I S : Type 0} (p : Profile I S) (kept : Parts I S) : Type 0 where
  pub spans : Spans kept
  pub uuids : walk uuid_step [] (map (λ g. g.uuid) kept.idents) ≡ Ok (map (λ g. g.uuid) kept.idents)
  pub retired : walk (retired_step (length kept.idents)) [] kept.retired ≡ Ok kept.retired
  pub heirs : AllHeirs kept.retired 1 kept.idents
  pub sum : sum_by (λ g. g.count) kept.idents ≡ kept.len
  pub full : kept.len ≤ p.full
  pub lasts : Each (λ g. g.last ≤ kept.len) kept.idents
  pub entries : walk (entry_step p kept.second (map bare kept.idents)) (record { objects = kept.below; entries = []; bases = [] }) (kept_of p kept.entries kept.bases) ≡ Ok (record { objects = kept.objects; entries = kept.entries; bases = kept.bases })
  pub ends : all_end 1 kept.entries (map bare kept.idents) ≡ true
  pub tracks : AllTrack p kept.second kept.floor kept.entries 1 kept.idents
