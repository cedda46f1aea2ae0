-- A client's file without what its client needs no more.
use Rattle.std.specs.Prelude.{◌≡◌, ℕ, ◌-◌, Bool, ◌||◌, not, List, [], ◌∷◌, ◌++◌, Option, Some, None, ◌==◌, if◌then◌else◌, map, length}
use Rattle.sync_model.specs.Bytes.{Uuid, Tables}
use Rattle.sync_model.specs.Profile.{Profile}
use Rattle.sync_model.specs.Clients.{Client, ClientRecord, Born, Named, Form, Subset, Part, Floor, Resumed, Waits, Unsent, blanks, has_floor}

-- a record that a client's call appends: no part of a state
abbrev pub IsPlain : ClientRecord → Type 0
IsPlain (Part body) = ⊥
IsPlain (Floor version) = ⊥
IsPlain (Resumed number waiting) = ⊥
IsPlain (Waits number base ms body current) = ⊥
IsPlain r = Unit {0}

-- the client began with a state, or made or took a changeset
abbrev pub has_begun : {I S : Type 0} → Client I S → Bool
has_begun c = has_floor c.floor || (not (length c.made == 0) || not (c.cursor == 0))

-- how many of its transactions it took from the history
abbrev pub taken : {I S : Type 0} → Client I S → ℕ
taken c = length c.made - length c.unsent

-- the uuid, the form, the tables and the ident, where there are some
abbrev pub id_records : Option Uuid → List ClientRecord
id_records None = []
id_records (Some id) = Born id ∷ []

-- a form
abbrev pub form_records : Bool → List ClientRecord
form_records b = if b then Form ∷ [] else []

-- tables
abbrev pub tables_records : Option Tables → List ClientRecord
tables_records None = []
tables_records (Some t) = Subset t ∷ []

-- an ident
abbrev pub ident_records : ℕ → List ClientRecord
ident_records c = if c == 0 then [] else Named c ∷ []

module _ {I S : Type 0} (p : Profile I S) where
  -- ---- what is left of a client, and the records of its file

  -- what is left: all but the transactions that it took from the history, and how its objects came about
  abbrev pub shrunk : Client I S → Client I S
  shrunk c = if has_begun c then record c { parts = p.build c.objects; floor = Some c.cursor; front = None; made = blanks 1 (taken c) ++ map (λ u. u.original) c.unsent } else c

  -- the record of an unsent changeset
  abbrev pub waits : Unsent I → ClientRecord
  waits u = Waits u.original.number u.original.base u.original.ms (p.spell u.original.instrs) (p.spell u.current)

  -- how many transactions were taken, and how many are unsent
  abbrev pub count_records : Client I S → List ClientRecord
  count_records c = Resumed (taken c) (length c.unsent) ∷ []

  -- those that are unsent, the objects in parts, and the cursor
  abbrev pub state_records : Client I S → List ClientRecord
  state_records c = map waits c.unsent ++ (map (λ is. Part (p.spell is)) (p.build c.objects) ++ Floor c.cursor ∷ [])

  -- the file that replaces a client's file
  abbrev pub short_records : Client I S → List ClientRecord
  short_records c = id_records c.id ++ (form_records c.second ++ ((if has_begun c then count_records c else []) ++ (tables_records c.subset ++ ((if has_begun c then state_records c else []) ++ ident_records c.ident))))

-- ---- two clients that answer alike: all that a call reads is the same
pub record Alike {I S : Type 0} (c d : Client I S) : Type 0 where
  pub id : d.id ≡ c.id
  pub ident : d.ident ≡ c.ident
  pub second : d.second ≡ c.second
  pub subset : d.subset ≡ c.subset
  pub cursor : d.cursor ≡ c.cursor
  pub unsent : d.unsent ≡ c.unsent
  pub objects : d.objects ≡ c.objects
  -- how many transactions it made, of which none but the unsent ones is read
  pub last : length d.made ≡ length c.made
  pub begun : has_begun d ≡ has_begun c
