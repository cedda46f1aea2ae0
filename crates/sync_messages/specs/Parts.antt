-- What messages are made of, and their limits.
use Rattle.std.specs.Prelude.{ℕ, ◌+◌, ◌≤◌, List, length, sum_by}
use Rattle.sync_subset.specs.Tables.{Tables}

-- the most changes or entries of a message, and the most bytes that their bodies have together
abbrev pub most_listed : ℕ
most_listed = 4096

abbrev pub most_bytes : ℕ
most_bytes = 16777216

-- the greatest version of a history
abbrev pub last_version : ℕ
last_version = 4294967295

-- the ident that the server gives to a uuid
pub record GivenParts : Type 0 where
  pub uuid : List ℕ
  pub ident : ℕ

-- a changeset that a client uploads, as it was made
pub record ChangeParts : Type 0 where
  pub number : ℕ
  pub base : ℕ
  pub ms : ℕ
  pub body : List ℕ

pub record UploadParts : Type 0 where
  pub ident : ℕ
  pub changes : List ChangeParts

-- a client's question for what the history has from its cursor on
pub record AskParts : Type 0 where
  pub ident : ℕ
  pub cursor : ℕ
  pub settled : ℕ

-- an entry of the history
pub record SentParts : Type 0 where
  pub origin : ℕ
  pub number : ℕ
  pub ms : ℕ
  pub body : List ℕ

pub record DownloadParts : Type 0 where
  pub ident : ℕ
  pub from : ℕ
  pub entries : List SentParts

-- how far a client's changes are in the history
pub record StoredParts : Type 0 where
  pub ident : ℕ
  pub number : ℕ

-- an ident that is to be retired, and the client that asks
pub record RetireParts : Type 0 where
  pub ident : ℕ
  pub by : ℕ

-- a retired ident, the client for which it was retired, and how many of its changes are in the history
pub record RetiredParts : Type 0 where
  pub ident : ℕ
  pub by : ℕ
  pub number : ℕ

-- the question of a client of some tables, whose file is in this form
pub record AskTablesParts : Type 0 where
  pub ask : AskParts
  pub form : ℕ
  pub tables : Tables

-- the bytes of all bodies
abbrev pub bytes_of_changes : List ChangeParts → ℕ
bytes_of_changes changes = sum_by (λ change. length change.body) changes

abbrev pub bytes_of_entries : List SentParts → ℕ
bytes_of_entries entries = sum_by (λ entry. length entry.body) entries

pub record IsGiven (given : GivenParts) : Type 0 where
  pub named : 1 ≤ given.ident

pub record IsChange (change : ChangeParts) : Type 0 where
  pub numbered : 1 ≤ change.number
  pub small : length change.body ≤ most_bytes

pub record IsUpload (upload : UploadParts) : Type 0 where
  pub named : 1 ≤ upload.ident
  pub few : length upload.changes ≤ most_listed
  pub small : bytes_of_changes upload.changes ≤ most_bytes

pub record IsAsk (ask : AskParts) : Type 0 where
  pub named : 1 ≤ ask.ident
  pub settled : ask.settled ≤ ask.cursor

pub record IsSent (entry : SentParts) : Type 0 where
  pub made_by : 1 ≤ entry.origin
  pub numbered : 1 ≤ entry.number
  pub small : length entry.body ≤ most_bytes

pub record IsDownload (download : DownloadParts) : Type 0 where
  pub named : 1 ≤ download.ident
  pub few : length download.entries ≤ most_listed
  pub small : bytes_of_entries download.entries ≤ most_bytes
  pub within : download.from + length download.entries ≤ last_version

pub record IsStored (stored : StoredParts) : Type 0 where
  pub named : 1 ≤ stored.ident

pub record IsRetire (retire : RetireParts) : Type 0 where
  pub named : 1 ≤ retire.ident
  pub by_named : 1 ≤ retire.by

pub record IsRetired (retired : RetiredParts) : Type 0 where
  pub named : 1 ≤ retired.ident
  pub by_named : 1 ≤ retired.by

pub record IsAskTables (asked : AskTablesParts) : Type 0 where
  pub first : 1 ≤ asked.form
  pub second : asked.form ≤ 2
