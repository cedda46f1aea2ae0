-- A server's file without the history before its next floor, and what such a server answers.
use Rattle.std.specs.Prelude.{◌≡◌, ◌≤◌, ◌<◌, ◌+◌, ℕ, suc, ◌-◌, Bool, true, false, not, List, [], ◌∷◌, nat_lt, ◌==◌, if◌then◌else◌, map, length, drop, take, min, max}
use Rattle.sync_theory.specs.Lists.{run}
use Rattle.sync_model.specs.Profile.{Profile, act_changeset}
use Rattle.sync_model.specs.Messages.{Change, Message, Refused}
use Rattle.sync_model.specs.Clients.{state_or}
use Rattle.sync_model.specs.Servers.{is_retired}
use Rattle.sync_model.specs.Each.{Each}
use Rattle.sync_model.specs.Parts.{Given, Parts, serve_by}

-- the pairs from a version on
abbrev pub pairs_from : {X : Type 0} → ℕ → List (ℕ × X) → List (ℕ × X)
pairs_from b [] = []
pairs_from b (q ∷ qs) = if nat_lt q.0 b then pairs_from b qs else q ∷ pairs_from b qs

-- it isn't retired, so its changes may still come
abbrev pub is_live : {I : Type 0} → Given I → Bool
is_live g = not (is_retired g.heir)

-- the least, over live idents, of the greater of its settled number and the floor; without live idents the length
abbrev pub least_settled : {I : Type 0} → ℕ → ℕ → List (Given I) → ℕ
least_settled floor len [] = len
least_settled floor len (g ∷ gs) = if is_live g then min (max g.mark floor) (least_settled floor len gs) else least_settled floor len gs

-- the next floor of a server
abbrev pub next_floor : {I S : Type 0} → Parts I S → ℕ
next_floor kept = least_settled kept.floor kept.len kept.idents

-- an ident without what its changes can't cross any more
abbrev pub trimmed_given : {I : Type 0} → ℕ → Given I → Given I
trimmed_given floor g = record g { reciprocal = pairs_from (max floor g.last) g.reciprocal }

module _ {I S : Type 0} (p : Profile I S) where
  -- the state at a version from the floor on
  abbrev pub state_from : Parts I S → ℕ → S
  state_from kept version = state_or kept.below (run (act_changeset p) (take (version - kept.floor) kept.entries) kept.below)

  -- what is left where the history before a version is given up
  abbrev pub trimmed_at : ℕ → Parts I S → Parts I S
  trimmed_at floor kept = record kept {
    floor = floor;
    below = state_from kept floor;
    entries = drop (floor - kept.floor) kept.entries;
    bases = drop (floor - kept.floor) kept.bases;
    idents = map (trimmed_given floor) kept.idents;
  }

  -- the parts of a trimmed file
  abbrev pub trimmed : Parts I S → Parts I S
  trimmed kept = trimmed_at (next_floor kept) kept

  -- ---- a list of messages

  -- the replies to messages, one after the other
  abbrev pub replies_by : Parts I S → List Message → List Message
  replies_by kept [] = []
  replies_by kept (m ∷ ms) = (serve_by p kept m).answer ∷ replies_by (serve_by p kept m).parts ms

  -- and what is kept after them
  abbrev pub kept_after : Parts I S → List Message → Parts I S
  kept_after kept [] = kept
  kept_after kept (m ∷ ms) = kept_after (serve_by p kept m).parts ms

-- it refuses by code 71
abbrev pub is_trimmed : Message → Bool
is_trimmed (Refused ident number code place) = code == 71
is_trimmed m = false

-- ---- two servers of which one kept less

-- of an ident: all but what lies before a floor or its last base
pub record SameGiven {I : Type 0} (floor : ℕ) (a b : Given I) : Type 0 where
  pub uuid : b.uuid ≡ a.uuid
  pub count : b.count ≡ a.count
  pub last : b.last ≡ a.last
  pub heir : b.heir ≡ a.heir
  pub mark : b.mark ≡ a.mark
  pub pairs : (v : ℕ) → floor ≤ v → a.last ≤ v → pairs_from v b.reciprocal ≡ pairs_from v a.reciprocal

-- of each
pub data SameIdents {I : Type 0} (floor : ℕ) : List (Given I) → List (Given I) → Type 0 where
  no_idents : SameIdents floor [] []
  an_ident : {a b : Given I} {as_ bs : List (Given I)} → SameGiven floor a b → SameIdents floor as_ bs → SameIdents floor (a ∷ as_) (b ∷ bs)

-- the second one has the same history from a later floor on, the same objects and the same idents
pub record KeptLess {I S : Type 0} (a b : Parts I S) : Type 0 where
  pub floor : a.floor ≤ b.floor
  pub within : b.floor - a.floor ≤ length a.entries
  pub len : b.len ≡ a.len
  pub entries : b.entries ≡ drop (b.floor - a.floor) a.entries
  pub bases : b.bases ≡ drop (b.floor - a.floor) a.bases
  pub based : b.floor - a.floor ≤ length a.bases
  pub objects : b.objects ≡ a.objects
  pub second : b.second ≡ a.second
  pub idents : SameIdents b.floor a.idents b.idents
  pub retired : b.retired ≡ a.retired

-- ---- what holds of all that a server keeps

-- its entries reach from its floor to its length, each with a base, and no settled number is beyond it
pub record Spans {I S : Type 0} (kept : Parts I S) : Type 0 where
  pub reach : kept.floor + length kept.entries ≡ kept.len
  pub bases : length kept.bases ≡ length kept.entries
  pub marks : Each (λ g. g.mark ≤ kept.len) kept.idents

-- a change that isn't a repeat, of an ident that has these, is refused by code 71 exactly so
pub record BelowFloor {I S : Type 0} (kept : Parts I S) (g : Given I) (h : Change) : Type 0 where
  pub live : is_live g ≡ true
  pub gap : h.number ≤ suc g.count
  pub back : g.last ≤ h.base
  pub ahead : h.base ≤ kept.len
  pub below : h.base < kept.floor
