-- What client reset promises: a retired ident's count is final, and each change of the old client takes effect as
-- itself or as one transaction of the heir, never both.
use Rattle.std.specs.Prelude.{◌≡◌, ℕ, zero, suc, ◌+◌, ◌<◌, true, false, List, [], ◌∷◌, ◌++◌, Option, Some, None, Ok, Err, length, take, if◌then◌else◌, ◌==◌, option_to_list}
use Rattle.std.specs.Result.{result_err}
use Rattle.sync_theory.specs.Changesets.{Changeset}
use Rattle.sync_model.specs.Bytes.{Uuid, Tables}
use Rattle.sync_model.specs.Profile.{Profile, apply_all, is_small, needs, all_admitted}
use Rattle.sync_model.specs.Messages.{Change, Message, Upload, Retire, Retired}
use Rattle.sync_model.specs.Clients.{Client, ClientRecord, Made, ClientRefusal, NumbersFull, OldForm, NotSubscribed, Original, no_client, client_of, born, last, upgrade, subscribe, upload_from, take as take_message}
use Rattle.sync_model.specs.Servers.{Server, ServerRecord, IdentRetired, no_server, server_of, heir_of, count, entries_from, merge, serve}
use Rattle.sync_model.specs.Parts.{Given, Parts, at_ident}
use Rattle.sync_model.specs.Files.{client_opens, server_opens}
use Rattle.sync_model.specs.Each.{Each}
use Rattle.sync_model.specs.Worlds.{at}
use Rattle.sync_model.specs.Resets.{saved, heir, recover}

-- ---- a retired ident

-- so many numbers, from one on
abbrev pub numbers_from : ℕ → ℕ → List ℕ
numbers_from k zero = []
numbers_from k (suc n) = k ∷ numbers_from (suc k) n

-- the numbers of an ident's entries, in their order
abbrev pub numbers_of : {I : Type 0} → ℕ → List (Changeset I) → List ℕ
numbers_of c [] = []
numbers_of c (x ∷ xs) = if x.origin == c then x.number ∷ numbers_of c xs else numbers_of c xs

-- of an ident that was retired for another so many changes are integrated, by what a server keeps, whether it gave up
-- history or not
pub record KeepsFinal {I S : Type 0} (kept : Parts I S) (c by n : ℕ) : Type 0 where
  pub given : Given I
  pub there : at_ident c kept.idents ≡ Some given
  pub heir : given.heir ≡ Some by
  pub count : given.count ≡ n
  -- the heir is another ident that was given
  pub other : (c == by) ≡ false
  pub heir_given : (h : Given I) × (at_ident by kept.idents ≡ Some h)

-- ---- an heir's file while it recovers

-- what may happen to an heir's file before its recovery is over, and how many of the records of each stand afterwards
pub data HeirMove : Type 0 where
  Births : (id : Uuid) (stand : ℕ) → HeirMove
  Takes : (message : Message) (stand : ℕ) → HeirMove
  Upgrades : (stand : ℕ) → HeirMove
  Subscribes : (tables : Tables) (stand : ℕ) → HeirMove
  Recovers : (frames : List Message) (stand : ℕ) → HeirMove

module _ {I S : Type 0} (p : Profile I S) where
  -- a server's whole history
  abbrev pub whole_history : Server I → List (Changeset I)
  whole_history s = entries_from p s.log (length s.log) 0

  -- a server's records after messages
  abbrev pub served_all : List ServerRecord → List Message → List ServerRecord
  served_all rs [] = rs
  served_all rs (m ∷ ms) = served_all (rs ++ (serve p (server_of p rs) m).records) ms

  -- of an ident that was retired for another so many changes are integrated, and no other will be
  pub record IsFinal (s : Server I) (c by n : ℕ) : Type 0 where
    pub retired : heir_of c s.retired ≡ Some by
    -- its entries have the numbers 1, 2, 3 and so on up to this one
    pub numbers : numbers_of c (whole_history s) ≡ numbers_from 1 n
    -- a Retire that comes again is answered alike
    pub answered : (serve p s (Retire c by)).answer ≡ Retired c by n
    -- and a change is refused, whatever it is
    pub refused : (h : Change) → merge p s c h ≡ Err (IdentRetired n)

  -- the count of a retired ident is final: now, after any records that opening accepts behind these, and so after any messages
  pub record CountIsFinal (rs : List ServerRecord) (c by : ℕ) : Type 0 where
    pub later : (more : List ServerRecord) → server_opens p no_server (rs ++ more) ≡ true → IsFinal (server_of p (rs ++ more)) c by (count (server_of p rs) c)
    pub messages : (ms : List Message) → IsFinal (server_of p (served_all rs ms)) c by (count (server_of p rs) c)

  -- ---- what is saved of a list of instructions

  -- the codes that are listed for a place
  abbrev pub codes_at : ℕ → List (ℕ × ℕ) → List ℕ
  codes_at k [] = []
  codes_at k (d ∷ ds) = if d.0 == k then d.1 ∷ codes_at k ds else codes_at k ds

  -- each instruction that meets a break is listed once, with its break on the state so far, and no other is listed
  pub record ListsDrops (s : S) (is : List I) : Type 0 where
    -- what is kept acts
    pub acts : apply_all p (saved p s is).kept s ≡ Ok (saved p s is).state
    pub listed : (k : ℕ) (i : I) → at is k ≡ Some i → codes_at k (saved p s is).dropped ≡ option_to_list (result_err (p.apply (p.adapt (saved p s (take k is)).state i) (saved p s (take k is)).state))
    pub no_others : (k : ℕ) → at is k ≡ None → codes_at k (saved p s is).dropped ≡ []
    -- within the limits of a changeset it stays within them, and it needs form 2 only where the list does
    pub small : is_small p is ≡ true → is_small p (saved p s is).kept ≡ true
    pub form : needs p (saved p s is).kept ≡ true → needs p is ≡ true
    -- and what is of the tables of a client stays so
    pub tables : (o : Option Tables) → all_admitted p o is ≡ true → all_admitted p o (saved p s is).kept ≡ true

  -- ---- an heir's file while it recovers

  -- the records that a move leaves behind those that stand
  abbrev pub heir_moves : List ClientRecord → HeirMove → List ClientRecord
  heir_moves rs (Births id stand) = take stand (born (client_of p rs) id).records
  heir_moves rs (Takes m stand) = take stand (take_message p (client_of p rs) m).records
  heir_moves rs (Upgrades stand) = take stand (upgrade (client_of p rs)).records
  heir_moves rs (Subscribes tables stand) = take stand (subscribe (client_of p rs) tables).records
  heir_moves rs (Recovers frames stand) = take stand (recover p (client_of p rs) frames).records

  -- the file after moves
  abbrev pub heir_after : List ClientRecord → List HeirMove → List ClientRecord
  heir_after rs [] = rs
  heir_after rs (m ∷ ms) = heir_after (rs ++ heir_moves rs m) ms

  -- a Retired frame is an answer of the server that has these records by now
  pub record IsAnswer (server : List ServerRecord) (ident by n : ℕ) : Type 0 where
    pub before : List ServerRecord
    pub rest : List ServerRecord
    pub split : server ≡ (before ++ (serve p (server_of p before) (Retire ident by)).records) ++ rest
    pub answer : (serve p (server_of p before) (Retire ident by)).answer ≡ Retired ident by n

  -- an Upload frame is one that the client with these records by now could send at some time, from some number on
  pub record IsUploaded (old : List ClientRecord) (ident : ℕ) (hs : List Change) : Type 0 where
    pub before : List ClientRecord
    pub rest : List ClientRecord
    pub split : old ≡ before ++ rest
    pub after : ℕ
    pub answer : (upload_from p (client_of p before) after).answer ≡ Ok (Upload ident hs)

  -- the frames of recovery: Retired frames are that server's answers, and Upload frames of the old ident the old client's
  abbrev pub IsFrame : List ServerRecord → ℕ → List ClientRecord → Message → Type 0
  IsFrame server ident old (Retired c by n) = IsAnswer server c by n
  IsFrame server ident old (Upload c hs) = c ≡ ident → IsUploaded old c hs
  IsFrame server ident old m = Unit {0}

  -- and so in each run
  abbrev pub IsMove : List ServerRecord → ℕ → List ClientRecord → HeirMove → Type 0
  IsMove server ident old (Recovers frames stand) = Each (IsFrame server ident old) frames
  IsMove server ident old move = Unit {0}

  -- The premise. A server's file, the old client's and the heir's, the idents of both, and what happens to the heir's.
  pub record IsRecovery (server : List ServerRecord) (ident by : ℕ) (old first : List ClientRecord) (moves : List HeirMove) : Type 0 where
    pub server_file : server_opens p no_server server ≡ true
    pub old_file : client_opens p (no_client p) old ≡ true
    -- the heir made nothing before (where `first` is empty this is its whole file), and commits nothing else until recovery is over
    pub nothing_made : (client_of p first).made ≡ []
    -- this is the ident that it gets, or has; 0 while it has none
    pub named : (client_of p (heir_after first moves)).ident ≡ by
    -- one ident alone is retired by the heir
    pub alone : (c : ℕ) → heir_of c (server_of p server).retired ≡ Some by → c ≡ ident
    pub frames : Each (IsMove server ident old) moves

  -- the heir's transaction number j + 1 is what could be saved of the old client's number n + j + 1, on the heir's objects before it, with the old time
  pub record IsSaved (old rs : List ClientRecord) (n j : ℕ) : Type 0 where
    pub original : Original I
    pub there : at (client_of p old).made (n + j) ≡ Some original
    pub number : original.number ≡ suc (n + j)
    pub before : List ClientRecord
    pub rest : List ClientRecord
    pub stands : rs ≡ before ++ Made (suc j) original.ms (p.spell (saved p (client_of p before).objects original.instrs).kept) ∷ rest
    pub so_far : length (client_of p before).made ≡ j
    pub transaction : at (client_of p rs).made j ≡ Some (record { base = (client_of p before).cursor; number = suc j; ms = original.ms; instrs = (saved p (client_of p before).objects original.instrs).kept })

  -- What recovery leaves, wherever its runs were stopped and however often they were repeated.
  pub record SavesOnce (server : List ServerRecord) (ident by : ℕ) (old rs : List ClientRecord) : Type 0 where
    -- each transaction of the heir is one that was saved, in order
    pub each : (j : ℕ) → j < length (client_of p rs).made → IsSaved old rs (count (server_of p server) ident) j
    -- and none was saved before the old ident was retired for the heir, so that the count is final
    pub retired : (j : ℕ) → j < length (client_of p rs).made → heir_of ident (server_of p server).retired ≡ Some by
    -- a change that was saved is never an entry of the history as itself
    pub never_both : (j : ℕ) → j < length (client_of p rs).made → (more : List ServerRecord) → server_opens p no_server (server ++ more) ≡ true → (k : ℕ) → at (numbers_of ident (whole_history (server_of p (server ++ more)))) k ≡ Some (suc (count (server_of p server) ident + j)) → ⊥

  -- ---- the heir's call

  -- a change is saved: it is the next one of its client that the heir hasn't, its record is appended, and what was dropped is listed
  pub record SavesNow (c : Client I S) (by n : ℕ) (h : Change) (number : ℕ) (dropped : List (ℕ × ℕ)) : Type 0 where
    pub mine : by ≡ c.ident
    pub next : h.number ≡ suc (n + last c)
    pub instrs : List I
    pub read : p.unspell h.body ≡ Ok instrs
    pub number_is : number ≡ suc (last c)
    pub dropped_is : dropped ≡ (saved p c.objects instrs).dropped
    pub records : (heir p c by n h).records ≡ Made number h.ms (p.spell (saved p c.objects instrs).kept) ∷ []

  -- a commit of what was saved of these instructions is refused by these alone: of OldForm and NotSubscribed each comes
  -- only where the instructions themselves need form 2, or aren't all of the heir's tables
  abbrev pub MayStop : Client I S → List I → ClientRefusal → Type 0
  MayStop c is NumbersFull = Unit {0}
  MayStop c is (OldForm place) = (needs p is ≡ true) × (c.second ≡ false)
  MayStop c is (NotSubscribed place) = all_admitted p c.subset is ≡ false
  MayStop c is why = ⊥

  -- and so is the heir's step, its change once read
  pub record StopsAt (c : Client I S) (h : Change) (why : ClientRefusal) : Type 0 where
    pub instrs : List I
    pub read : p.unspell h.body ≡ Ok instrs
    pub may : MayStop c instrs why
