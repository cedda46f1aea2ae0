-- How the state with which a client's file begins is read: its parts, and its version behind them.
use Rattle.std.specs.Prelude.{◌≡◌, ◌⊎◌, ◌≤◌, ◌<◌, ◌+◌, ℕ, Bool, true, false, ◌&&◌, if◌then◌else◌, List, [], ◌∷◌, ◌++◌, drop, length, map, Vec, Option, Some, None, Result, Ok, Err}
use Rattle.std.specs.declared.alloc.Global.{Global}
use Rattle.sync_data.specs.Payload.{Changes}
use Rattle.sync_data.specs.declared.instr.Instr.{Instr}
use Rattle.sync_data.specs.declared.memory.NoMemory.{NoMemory}
use Rattle.sync_model.specs.Bytes.{Bytes}
use Rattle.sync_model.specs.Clients.{ClientRecord}
use Rattle.sync_model.specs.Files.{bodies_ahead, closes, is_fine, is_place, part_body, readable}
use Rattle.sync_model.specs.Profile.{Profile}
use Rattle.sync_model.specs.Snapshots.{grown}
use Rattle.sync_exchange.specs.Profile.{the_profile, unspell}
use Rattle.sync_exchange.specs.Seen.{client_bytes, read_client}
use Rattle.sync_snapshot.specs.Grown.{lists_of}
use Rattle.sync_client.specs.declared.beginning.Found.{Found}
use Rattle.sync_client.specs.declared.beginning.Found.TheVariants as founds
use Rattle.sync_journal.specs.declared.opening.ReadRefusal.{ReadRefusal}
use Rattle.sync_journal.specs.declared.opening.ReadRefusal.TheVariants as reads
use Rattle.sync_client.specs.declared.replica.Replica.{Replica}

-- each of these bodies is a list of instructions that the form allows
pub data AreRead {I S : Type 0} (p : Profile I S) (second : Bool) : List Bytes → List (List I) → Type 0 where
  none_read : AreRead p second [] []
  and_read : {b : Bytes} {x : List I} {bs : List Bytes} {xs : List (List I)} → readable p second (p.unspell b) ≡ Some x → AreRead p second bs xs → AreRead p second (b ∷ bs) (x ∷ xs)

-- ---- one record
abbrev pub part_bytes : Bytes → List ℕ
part_bytes body = client_bytes (ClientRecord.Part body)

-- a part that the form allows
pub record IsPart (second : Bool) (bytes : List ℕ) (instrs : List Instr) : Type 0 where
  pub body : Bytes
  pub spelled : bytes ≡ part_bytes body
  pub read : readable the_profile second (unspell body) ≡ Some instrs

-- a part that it doesn't
pub record IsBadPart (second : Bool) (bytes : List ℕ) : Type 0 where
  pub body : Bytes
  pub spelled : bytes ≡ part_bytes body
  pub unread : readable the_profile second (unspell body) ≡ None

abbrev pub Finds : Bool → List ℕ → Result Found NoMemory → Type 0
Finds second bytes (Ok (founds.Part changes)) = IsPart second bytes changes.instrs
Finds second bytes (Ok founds.BadPart) = IsBadPart second bytes
Finds second bytes (Ok founds.Other) = part_body (read_client bytes) ≡ None
Finds second bytes (Err e) = Unit {0}

-- the same of a part's body
abbrev pub FindsBody : Bool → Bytes → Result Found NoMemory → Type 0
FindsBody second body (Ok (founds.Part changes)) = readable the_profile second (unspell body) ≡ Some changes.instrs
FindsBody second body (Ok founds.BadPart) = readable the_profile second (unspell body) ≡ None
FindsBody second body (Ok founds.Other) = ⊥
FindsBody second body (Err e) = Unit {0}

-- a version that closes the parts
pub record IsFloor (bytes : List ℕ) (version : ℕ) : Type 0 where
  pub spelled : bytes ≡ client_bytes (ClientRecord.Floor version)
  pub read : read_client bytes ≡ Some (ClientRecord.Floor version)
  pub small : version ≤ 4294967295

abbrev pub IsNoFloor : Option ClientRecord → Type 0
IsNoFloor (Some (ClientRecord.Floor version)) = ⊥
IsNoFloor o = Unit {0}

abbrev pub FindsFloor : List ℕ → Result (Option ℕ) NoMemory → Type 0
FindsFloor bytes (Ok (Some version)) = IsFloor bytes version
FindsFloor bytes (Ok None) = IsNoFloor (read_client bytes)
FindsFloor bytes (Err e) = Unit {0}

-- a part, a version or no record
abbrev pub IsOfState : Option ClientRecord → Type 0
IsOfState None = Unit {0}
IsOfState (Some (ClientRecord.Part body)) = Unit {0}
IsOfState (Some (ClientRecord.Floor version)) = Unit {0}
IsOfState (Some r) = ⊥

-- neither a part nor a version
abbrev pub IsNoState : Option ClientRecord → Type 0
IsNoState (Some (ClientRecord.Part body)) = ⊥
IsNoState (Some (ClientRecord.Floor version)) = ⊥
IsNoState o = Unit {0}

-- so are the bytes at a place
abbrev pub OfState : List (List ℕ) → ℕ → Type 0
OfState records place = (b : List ℕ) (l : List (List ℕ)) → drop place records ≡ b ∷ l → IsOfState (read_client b)

-- ---- the parts from a place on
pub record RunOf (second : Bool) (file rest : List (List ℕ)) (run : List (List Instr)) : Type 0 where
  pub bodies : List Bytes
  pub split : file ≡ map part_bytes bodies ++ rest
  pub read : AreRead the_profile second bodies run

-- all of them
pub record WholeRun (second : Bool) (file rest : List (List ℕ)) (run : List (List Instr)) : Type 0 where
  pub run_of : RunOf second file rest run
  pub no_more : bodies_ahead the_profile (map read_client rest) ≡ []

-- those before one that the form doesn't allow
pub record CutRun (second : Bool) (file : List (List ℕ)) (count : ℕ) : Type 0 where
  pub run : List (List Instr)
  pub bytes : List ℕ
  pub rest : List (List ℕ)
  pub run_of : RunOf second file (bytes ∷ rest) run
  pub bad : IsBadPart second bytes
  pub count_is : count ≡ length run

-- what is found from a place on; what is behind so many records is told by the function
abbrev pub FindsRun : Bool → List (List ℕ) → (ℕ → List (List ℕ)) → ℕ → Result (Vec Changes Global) ReadRefusal → Type 0
FindsRun second file behind place (Ok run) = WholeRun second file (behind (length run.items)) (lists_of run.items)
FindsRun second file behind place (Err (reads.BadRecord bad)) = (count : ℕ) × (bad ≡ place + count) × CutRun second file count
FindsRun second file behind place (Err reads.NoMemory) = Unit {0}

-- ---- what is made of them
-- what is still to come where all unsent changesets of a short front were read, and where there is no front
abbrev pub front_of : Bool → Option ℕ
front_of within = if within then Some 0 else None

-- the parts lead to this state, and the record behind them is its version, behind which nothing is unsent
pub record Closed (within : Bool) (old new : Replica) (run : List (List Instr)) (bytes : List ℕ) : Type 0 where
  pub version : ℕ
  pub floor : IsFloor bytes version
  pub grows : grown the_profile run ≡ Ok new.objects
  pub behind : closes (front_of within) version old.unsent ≡ true
  pub is : new ≡ record old { floor = Some version; cursor = version; objects = new.objects }

-- the part at that place is wrong
pub record Named (run : List (List Instr)) (place : ℕ) : Type 0 where
  pub within : place < length run
  pub grows : grown the_profile run ≡ Err place

-- no part is wrong, and the record behind them isn't the version of a state
pub record Unclosed (within : Bool) (old : Replica) (run : List (List Instr)) (bytes : List ℕ) (place : ℕ) : Type 0 where
  pub place_is : place ≡ length run
  pub fine : (i : ℕ) → i < length run → is_place i (grown the_profile run) ≡ false
  pub behind : IsNoFloor (read_client bytes) ⊎ ((version : ℕ) × IsFloor bytes version × ((is_fine (grown the_profile run) && closes (front_of within) version old.unsent) ≡ false))

-- how many records are taken, before a record behind the parts; the place of the one that is refused
abbrev pub Closes : Bool → Replica → Replica → List (List Instr) → List ℕ → Result (Option ℕ) NoMemory → Type 0
Closes within old new run bytes (Ok None) = Closed within old new run bytes
Closes within old new run bytes (Ok (Some place)) = Named run place ⊎ Unclosed within old run bytes place
Closes within old new run bytes (Err e) = Unit {0}

-- no part before the last one is wrong, and nothing follows
pub record Ended (run : List (List Instr)) (place : ℕ) : Type 0 where
  pub place_is : place + 1 ≡ length run
  pub fine : (i : ℕ) → i < place → is_place i (grown the_profile run) ≡ false
