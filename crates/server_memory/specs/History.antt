-- What a server keeps beside its objects, and what holds of it.
use Rattle.std.specs.Prelude.{◌≡◌, ◌≢◌, ◌≤◌, ◌<◌, ◌+◌, ◌||◌, ℕ, suc, Bool, true, false, List, [], ◌∷◌, ◌++◌, length, All, None}
use Rattle.sync_data.specs.declared.instr.Instr.{Instr}
use Rattle.sync_theory.specs.Changesets.{Changeset}
use Rattle.sync_exchange.specs.Profile.{fits_changeset}
use Rattle.sync_model.specs.Bytes.{Uuid}
use Rattle.sync_model.specs.Parts.{Given, with_versions, idents_after}

-- the history from the floor on with the bases of its entries, whether the file is in form 2, what is kept of each ident,
-- and the retired idents with their heirs
pub record HistoryParts : Type 0 where
  pub floor : ℕ
  pub entries : List (Changeset Instr)
  pub bases : List ℕ
  pub second : Bool
  pub idents : List (Given Instr)
  pub retired : List (ℕ × ℕ)

-- how many entries there were, those before the floor among them
abbrev pub len_of : HistoryParts → ℕ
len_of h = h.floor + length h.entries

-- an entry of a history whose server gave so many idents
pub record IsEntry (given : ℕ) (e : Changeset Instr) : Type 0 where
  pub made : 1 ≤ e.origin
  pub within : e.origin ≤ given
  pub numbered : 1 ≤ e.number
  pub small : fits_changeset e.instrs ≡ true

-- an entry of another, within the limits
pub record IsOther (c : ℕ) (e : Changeset Instr) : Type 0 where
  pub other : e.origin ≢ c
  pub small : fits_changeset e.instrs ≡ true

-- an entry of the reciprocal list of ident c, where the history has this length
pub record IsReciprocal (len c : ℕ) (pair : ℕ × Changeset Instr) : Type 0 where
  pub before : pair.0 < len
  pub entry : IsOther c pair.1

-- the reciprocal lists of the idents from c on
abbrev pub AreGiven : (len c : ℕ) → List (Given Instr) → Type 0
AreGiven len c [] = Unit {0}
AreGiven len c (g ∷ gs) = All (IsReciprocal len c) g.reciprocal × AreGiven len (suc c) gs

pub record IsHistory (h : HistoryParts) : Type 0 where
  pub short : len_of h ≤ 4294967295
  pub based : length h.bases ≡ length h.entries
  pub few : length h.idents ≤ 4294967295
  pub entries : All (IsEntry (length h.idents)) h.entries
  pub idents : AreGiven (len_of h) 1 h.idents

-- nothing
abbrev pub no_history : HistoryParts
no_history = record { floor = 0; entries = []; bases = []; second = false; idents = []; retired = [] }

-- these
abbrev pub kept_as : ℕ → List (Changeset Instr) → List ℕ → Bool → List (Given Instr) → List (ℕ × ℕ) → HistoryParts
kept_as floor entries bases second idents retired = record { floor = floor; entries = entries; bases = bases; second = second; idents = idents; retired = retired }

-- a uuid that was just given an ident, where these are the entries from a floor on
abbrev pub newly_given : Uuid → ℕ → List (Changeset Instr) → Given Instr
newly_given u floor xs = record { uuid = u; count = 0; last = 0; heir = None; mark = 0; reciprocal = with_versions floor xs }

-- the history with one entry more: ident c made it at a base, and crossed these
abbrev pub with_entry : HistoryParts → (c base : ℕ) → Bool → Changeset Instr → List (Changeset Instr) → HistoryParts
with_entry h c base form x es = record h {
  entries = h.entries ++ x ∷ [];
  bases = h.bases ++ base ∷ [];
  second = h.second || form;
  idents = idents_after c base es (len_of h) x 1 h.idents;
}
