-- Files that keep the lives of what they took: a server of each ident's numbers, a client of the history's. The same worlds as
-- `Roaming`, where each node tests by what stands in its own file and in the message alone.
use Rattle.std.specs.Prelude.{◌≡◌, ◌≢◌, ◌⊎◌, ◌≤◌, ◌+◌, ◌-◌, ℕ, suc, Bool, true, false, ◌&&◌, ◌||◌, nat_le, ◌==◌, if◌then◌else◌, List, [], ◌∷◌, ◌++◌, Option, Some, None, map, length, take, drop}
use Rattle.sync_model.specs.Bytes.{Uuid}
use Rattle.sync_model.specs.Profile.{Profile}
use Rattle.sync_model.specs.Messages.{Change, Sent, Download}
use Rattle.sync_model.specs.Clients.{ClientRecord, Took, client_of, tooks_of, take as take_message}
use Rattle.sync_model.specs.Servers.{ServerRecord, Entry, server_of, place_of, count, is_given, serve_changes}
use Rattle.sync_model.specs.Worlds.{at}
use Rattle.sync_model.specs.Limits.{IsMessage}
use Rattle.sync_model.specs.Files.{client_admits, server_admits}
use Rattle.lives_law.specs.Lives.{Written, Files, Open, Among, Mark, no_files, opened}
use Rattle.lives_law.specs.Instances.{plain, is_entry, is_made}
use Rattle.lives_law.specs.Uploads.{InOrder, changes_of}
use Rattle.lives_law.specs.Passing.{history_told, AreOf}
use Rattle.lives_law.specs.Pair.{ident_at}
use Rattle.lives_law.specs.Roaming.{Both, written_all, NoEntry, NoTook, NoneIs}

-- ---- notes in files

-- a record, or a note: what the file takes of `of` from here on is of this life. `of` is an ident in a server's file, 0 in a client's
pub data Noted (R : Type 0) : Type 0 where
  it : R → Noted R
  note : (of life : ℕ) → Noted R

-- whose record a record bears: a server's entry that of its origin, an entry that a client took the server's, 0
abbrev pub entry_by : ServerRecord → Option ℕ
entry_by (Entry origin number base ms body) = Some origin
entry_by r = None

abbrev pub took_by : ClientRecord → Option ℕ
took_by (Took origin number ms body) = Some 0
took_by r = None

abbrev pub is_by : ℕ → Option ℕ → Bool
is_by c None = false
is_by c (Some d) = c == d

abbrev pub is_life : Option ℕ → Option ℕ → Bool
is_life None o = false
is_life (Some l) None = false
is_life (Some l) (Some k) = l == k

-- the records without the notes
abbrev pub bare : {R : Type 0} → List (Noted R) → List R
bare [] = []
bare (it r ∷ xs) = r ∷ bare xs
bare (note c l ∷ xs) = bare xs

-- records without notes
abbrev pub unnoted : {R : Type 0} → List R → List (Noted R)
unnoted rs = map (λ r. it r) rs

-- the records of a file, with their lives
abbrev pub bare_on : {R : Type 0} → ℕ → Noted R → List (Written R) → List (Written R)
bare_on l (it r) f = record { life = l; what = r } ∷ f
bare_on l (note c k) f = f

abbrev pub bare_file : {R : Type 0} → List (Written (Noted R)) → List (Written R)
bare_file [] = []
bare_file (x ∷ f) = bare_on x.life x.what (bare_file f)

-- what is kept of one who is read: the life that was noted last, and that of the last record of theirs
pub record Kept : Type 0 where
  pub noted : Option ℕ
  pub last : Option ℕ

module _ {R : Type 0} (by : R → Option ℕ) (c : ℕ) where
  abbrev pub keeps : Kept → Noted R → Kept
  keeps k (note d l) = if c == d then record k { noted = Some l } else k
  keeps k (it r) = if is_by c (by r) then record k { last = k.noted } else k

  abbrev pub keeps_all : Kept → List (Noted R) → Kept
  keeps_all k [] = k
  keeps_all k (x ∷ xs) = keeps_all (keeps k x) xs

  -- what a file keeps
  abbrev pub kept_of : List (Noted R) → Kept
  kept_of f = keeps_all (record { noted = None; last = None }) f

  -- a record of this life, behind a note where another is noted
  abbrev pub noted_one : Option ℕ → ℕ → R → List (Noted R)
  noted_one k l r = if is_life k (Some l) then it r ∷ [] else note c l ∷ it r ∷ []

  -- records that are appended; those of `c` have these lives
  abbrev pub with_notes : Option ℕ → List ℕ → List R → List (Noted R)
  with_notes k ls [] = []
  with_notes k [] (r ∷ rs) = it r ∷ with_notes k [] rs
  with_notes k (l ∷ ls) (r ∷ rs) = if is_by c (by r) then noted_one k l r ++ with_notes (Some l) ls rs else it r ∷ with_notes k (l ∷ ls) rs

-- ---- messages

-- what a node tells of its file: from a number on what follows, and the lives of that number and of those that follow. Number 0
-- is before the first
pub record Passage (X : Type 0) : Type 0 where
  pub from : ℕ
  pub lives : List ℕ
  pub tells : List X

-- its lives are those of a file
pub record HasLives {R X : Type 0} (counts : R → Bool) (f : List (Written R)) (m : Passage X) : Type 0 where
  pub all : (k : ℕ) → k ≤ length m.tells → (l : ℕ) × (at m.lives k ≡ Some l)
  pub marks : (k l n : ℕ) → at m.lives k ≡ Some l → m.from + k ≡ suc n → Mark counts f n l

-- the test of a node that has so many, the last of this life: they end within the passage, and there they end with this life
abbrev pub passes : {X : Type 0} → Option ℕ → ℕ → Passage X → Bool
passes last n m = nat_le m.from n && (nat_le n (m.from + length m.tells) && ((n == 0) || is_life last (at m.lives (n - m.from))))

-- what it lets through: who has nothing, from the start; and who has so many of the file, where the last in it has the life that is kept
pub record LetsThrough {R X : Type 0} (counts : R → Bool) (f : List (Written R)) (m : Passage X) : Type 0 where
  pub none : (last : Option ℕ) → m.from ≡ 0 → passes last 0 m ≡ true
  pub some : (n life : ℕ) → m.from ≤ suc n → suc n ≤ m.from + length m.tells → Mark counts f n life → passes (Some life) (suc n) m ≡ true

-- ---- the two steps, and worlds of such files

-- the files of all servers, and those of all clients
pub record Stores : Type 0 where
  pub servers : Files (Noted ServerRecord)
  pub clients : Files (Noted ClientRecord)

abbrev pub no_stores : Stores
no_stores = record { servers = no_files; clients = no_files }

module _ {I S : Type 0} (p : Profile I S) where
  -- what a server appends for an Upload that passes: today's records, and the notes
  abbrev pub upload_records : List (Noted ServerRecord) → ℕ → Passage Change → List (Noted ServerRecord)
  upload_records f c m =
      if passes (kept_of entry_by c f).last (count (server_of p (bare f)) c) m
      then with_notes entry_by c (kept_of entry_by c f).noted (drop (suc (count (server_of p (bare f)) c - m.from)) m.lives) (serve_changes p (server_of p (bare f)) c m.tells).records
      else []

  -- and a client for a Download
  abbrev pub download_records : List (Noted ClientRecord) → ℕ → Passage Sent → List (Noted ClientRecord)
  download_records g ident m =
      if passes (kept_of took_by 0 g).last (length (tooks_of (bare g))) m
      then with_notes took_by 0 (kept_of took_by 0 g).noted (drop (suc (length (tooks_of (bare g)) - m.from)) m.lives) (take_message p (client_of p (bare g)) (Download ident m.from m.tells)).records
      else []

  -- an Upload of a client's file, and a Download of a server's
  pub record IsUploadOf (f : List (Written ClientRecord)) (m : Passage Change) : Type 0 where
    pub lives : HasLives is_made f m
    pub tells : m.tells ≡ take (length m.tells) (drop m.from (changes_of p f))
    pub ordered : InOrder (suc m.from) m.tells

  pub record IsDownloadOf (f : List (Written ServerRecord)) (g : List ClientRecord) (m : Passage Sent) : Type 0 where
    pub lives : HasLives is_entry f m
    pub tells : AreOf p g m.tells (take (length m.tells) (drop m.from (history_told p f)))

-- where some clients may be old: their files have no lives, and their Uploads aren't tested
module _ {I S : Type 0} (p : Profile I S) (is_old : Uuid → Bool) where
  -- what may happen, in any order and as often as it may: files are opened as they are or once were, here or elsewhere; nodes
  -- write by themselves, and do their step for any message of any file, as that is or once was, and servers today's for whatever
  -- comes of old clients, stopped anywhere
  pub data Occurs : Stores → Stores → Type 0 where
    server_opens : {b : Stores} (n l : ℕ) (f : List (Written (Noted ServerRecord))) → Among f b.servers.kept → (Among l b.servers.used → ⊥) → Occurs b (record b { servers = opened b.servers n l f })
    client_opens : {b : Stores} (n l : ℕ) (f : List (Written (Noted ClientRecord))) → Among f b.clients.kept → (Among l b.clients.used → ⊥) → Occurs b (record b { clients = opened b.clients n l f })
    server_writes : {b : Stores} (n : ℕ) (o : Open (Noted ServerRecord)) (r : ServerRecord) → b.servers.nodes n ≡ Some o → NoEntry r → server_admits p (server_of p (bare (plain o.file))) r ≡ true → Occurs b (record b { servers = written_all b.servers n o (it r ∷ []) })
    client_writes : {b : Stores} (n : ℕ) (o : Open (Noted ClientRecord)) (r : ClientRecord) → b.clients.nodes n ≡ Some o → NoTook (bare (plain o.file)) r → client_admits p (client_of p (bare (plain o.file))) [] r ≡ true → Occurs b (record b { clients = written_all b.clients n o (it r ∷ []) })
    server_takes : {b : Stores} (n c j : ℕ) (m : Passage Change) (f : List (Written (Noted ClientRecord))) (o : Open (Noted ServerRecord)) → b.servers.nodes n ≡ Some o → is_given (server_of p (bare (plain o.file))) c ≡ true → NoneIs p is_old (server_of p (bare (plain o.file))) c → Among f b.clients.kept → IsUploadOf p (bare_file f) m
        → Occurs b (record b { servers = written_all b.servers n o (take j (upload_records p (plain o.file) c m)) })
    server_takes_old : {b : Stores} (n c j : ℕ) (id : Uuid) (hs : List Change) (o : Open (Noted ServerRecord)) → b.servers.nodes n ≡ Some o → is_given (server_of p (bare (plain o.file))) c ≡ true → place_of id (server_of p (bare (plain o.file))).ids ≡ c → is_old id ≡ true
        → Occurs b (record b { servers = written_all b.servers n o (take j (unnoted (serve_changes p (server_of p (bare (plain o.file))) c hs).records)) })
    client_takes : {b : Stores} (n ident j : ℕ) (m : Passage Sent) (f : List (Written (Noted ServerRecord))) (o : Open (Noted ClientRecord)) → b.clients.nodes n ≡ Some o → IsMessage p (Download ident m.from m.tells) → Among f b.servers.kept → IsDownloadOf p (bare_file f) (bare (plain o.file)) m
        → Occurs b (record b { clients = written_all b.clients n o (take j (download_records p (plain o.file) ident m)) })
    -- a note alone, of any life: it says nothing until a record follows
    server_notes : {b : Stores} (n c l : ℕ) (o : Open (Noted ServerRecord)) → b.servers.nodes n ≡ Some o → Occurs b (record b { servers = written_all b.servers n o (note c l ∷ []) })
    client_notes : {b : Stores} (n c l : ℕ) (o : Open (Noted ClientRecord)) → b.clients.nodes n ≡ Some o → Occurs b (record b { clients = written_all b.clients n o (note c l ∷ []) })

  pub data Stands : Stores → Type 0 where
    at_first : Stands no_stores
    by_step : {a b : Stores} → Stands a → Occurs a b → Stands b

  -- ---- the laws

  -- two files of those that ever were, by what stands in them: the client isn't an old one, and the server doesn't know it by
  -- another ident; the client took nothing, or the life that it keeps of its last entry is that of the server's entry of this
  -- number; and the server has nothing of its ident, or the life that it keeps of its last number is that of the client's
  -- transaction of this number
  pub record Agree (b : Stores) (f : List (Written (Noted ServerRecord))) (g : List (Written (Noted ClientRecord))) : Type 0 where
    pub server_kept : Among f b.servers.kept
    pub client_kept : Among g b.clients.kept
    pub id : Uuid
    pub born : (client_of p (bare (plain g))).id ≡ Some id
    pub new : is_old id ≡ true → ⊥
    pub ident : ((client_of p (bare (plain g))).ident ≡ 0) ⊎ ((client_of p (bare (plain g))).ident ≡ ident_at p (bare (plain f)) id)
    pub reads : (tooks_of (bare (plain g)) ≡ []) ⊎ ((number life : ℕ) × (length (tooks_of (bare (plain g))) ≡ suc number) × ((kept_of took_by 0 (plain g)).last ≡ Some life) × Mark is_entry (bare_file f) number life)
    pub is_read : (count (server_of p (bare (plain f))) (ident_at p (bare (plain f)) id) ≡ 0) ⊎ ((number life : ℕ) × (ident_at p (bare (plain f)) id ≢ 0) × (count (server_of p (bare (plain f))) (ident_at p (bare (plain f)) id) ≡ suc number) × ((kept_of entry_by (ident_at p (bare (plain f)) id) (plain f)).last ≡ Some life) × Mark is_made (bare_file g) number life)

-- what a node has open, read so
abbrev pub open_by : {R Q : Type 0} → (List (Written R) → List (Written Q)) → Option (Open R) → Option (Open Q)
open_by read None = None
open_by read (Some o) = Some (record { file = read o.file; life = o.life })

-- the same files, read so
pub record SameBy {R Q : Type 0} (read : List (Written R) → List (Written Q)) (w : Files R) (v : Files Q) : Type 0 where
  pub kept : (f : List (Written R)) → Among f w.kept → Among (read f) v.kept
  pub nodes : (n : ℕ) → v.nodes n ≡ open_by read (w.nodes n)
  pub used : v.used ≡ w.used

-- the same, but for the notes
pub record SameStores (b : Stores) (a : Both) : Type 0 where
  pub servers : SameBy bare_file b.servers a.servers
  pub clients : SameBy bare_file b.clients a.clients
