-- Worlds of the program's own files: journals of records and notes, which nodes write and take as the marks say that they read from
-- them. Files are put back, copied and moved as in `Lives`.
use Rattle.std.specs.Prelude.{◌≡◌, ◌-◌, ℕ, suc, Bool, true, List, [], ◌∷◌, Option, Some, length, map, take, drop}
use Rattle.std.specs.Option.{option_map}
use Rattle.sync_model.specs.Bytes.{Uuid}
use Rattle.sync_model.specs.Profile.{Profile}
use Rattle.sync_model.specs.Limits.{IsMessage}
use Rattle.sync_model.specs.Messages.{Change, Sent, Download}
use Rattle.sync_model.specs.Clients.{client_of, tooks_of, take as take_message}
use Rattle.sync_model.specs.Servers.{server_of, count, is_given, place_of, serve_changes}
use Rattle.sync_model.specs.Files.{client_admits, server_admits}
use Rattle.sync_records.specs.declared.server.ServerRecord.{ServerRecord}
use Rattle.sync_records.specs.declared.client.ClientRecord.{ClientRecord}
use Rattle.sync_exchange.specs.Seen.{client_seen, server_seen}
use Rattle.life_bytes.specs.declared.note.Note.{Note}
use Rattle.life_marks.specs.declared.pieces.ServerPiece.{ServerPiece}
use Rattle.life_marks.specs.declared.pieces.ServerPiece.TheVariants as server
use Rattle.life_marks.specs.declared.pieces.ClientPiece.{ClientPiece}
use Rattle.life_marks.specs.declared.pieces.ClientPiece.TheVariants as client
use Rattle.life_marks.specs.declared.server_marks.Line.{Line}
use Rattle.life_marks.specs.ServerMarks as server_marks
use Rattle.life_marks.specs.ClientMarks as client_marks
use Rattle.lives_law.specs.Lives.{Written, Files, Open, Among, no_files, opened}
use Rattle.lives_law.specs.Instances.{plain}
use Rattle.lives_law.specs.Roaming.{written_all, NoEntry, NoTook, NoneIs}
use Rattle.lives_law.specs.Stored.{Passage, passes, bare_file, IsUploadOf, IsDownloadOf}
use Rattle.lives_files.specs.Files.{in_life, server_file, client_file}
use Rattle.lives_files.specs.Telling.{ServerTells, ClientTells}
use Rattle.lives_files.specs.Agreeing.{last_of, server_records, client_records}

-- the files of all servers, and those of all clients
pub record Journals : Type 0 where
  pub servers : Files ServerPiece
  pub clients : Files ClientPiece

abbrev pub no_journals : Journals
no_journals = record { servers = no_files; clients = no_files }

-- all from one on, of the numbers in a row, have this life
abbrev pub AllAre : ℕ → List ℕ → Type 0
AllAre l [] = Unit {0}
AllAre l (k ∷ ks) = (k ≡ l) × AllAre l ks

module _ (number : List ℕ → ℕ) where
  -- what the notes and records that a node appends say of lives fits behind its file
  abbrev pub ServerAdds : Open ServerPiece → List ServerPiece → Type 0
  ServerAdds o ps = ServerTells number (server_marks.marks_of (plain o.file)) (map (in_life o.life) ps)

  abbrev pub ClientAdds : Open ClientPiece → List ClientPiece → Type 0
  ClientAdds o ps = ClientTells number (client_marks.marks_of (plain o.file)) (map (in_life o.life) ps)

  -- what a server's file says of an ident
  abbrev pub line : Open ServerPiece → ℕ → Option Line
  line o c = server_marks.line_of c (server_marks.marks_of (plain o.file)).lines

  module _ {I S : Type 0} (p : Profile I S) (is_old : Uuid → Bool) where
    -- an Upload of a client's file, as it is or once was, passes the test by the marks of a server's file, and what is new in it is
    -- all of the life that this file notes of the ident. So each change is one that is taken alone
    pub record PassesServer (v : Files ClientPiece) (o : Open ServerPiece) (c : ℕ) (m : Passage Change) : Type 0 where
      pub file : List (Written ClientPiece)
      pub kept : Among file v.kept
      pub is : IsUploadOf p (bare_file (client_file number file)) m
      pub given : is_given (server_of p (server_records number o.file)) c ≡ true
      pub new : NoneIs p is_old (server_of p (server_records number o.file)) c
      pub tested : passes (option_map number (last_of (line o c))) (count (server_of p (server_records number o.file)) c) m ≡ true
      pub its : Line
      pub line_is : line o c ≡ Some its
      pub life : List ℕ
      pub noted : its.noted ≡ Some life
      pub lives : AllAre (number life) (drop (suc (count (server_of p (server_records number o.file)) c - m.from)) m.lives)

    -- the same of a Download of a server's file, and of a client's marks
    pub record PassesClient (w : Files ServerPiece) (o : Open ClientPiece) (ident : ℕ) (m : Passage Sent) : Type 0 where
      pub file : List (Written ServerPiece)
      pub kept : Among file w.kept
      pub is : IsDownloadOf p (bare_file (server_file number file)) (client_records number o.file) m
      pub fine : IsMessage p (Download ident m.from m.tells)
      pub tested : passes (option_map number (client_marks.marks_of (plain o.file)).last) (length (tooks_of (client_records number o.file))) m ≡ true
      pub life : List ℕ
      pub noted : (client_marks.marks_of (plain o.file)).noted ≡ Some life
      pub lives : AllAre (number life) (drop (suc (length (tooks_of (client_records number o.file)) - m.from)) m.lives)

    -- what may happen, in any order and as often as it may
    pub data Goes : Journals → Journals → Type 0 where
      -- a file is opened as it is or once was, here or elsewhere, in a life that no opening had
      server_opens : {b : Journals} (n : ℕ) (life : List ℕ) (f : List (Written ServerPiece)) → Among f b.servers.kept → (Among (number life) b.servers.used → ⊥) → Goes b (record b { servers = opened b.servers n (number life) f })
      client_opens : {b : Journals} (n : ℕ) (life : List ℕ) (f : List (Written ClientPiece)) → Among f b.clients.kept → (Among (number life) b.clients.used → ⊥) → Goes b (record b { clients = opened b.clients n (number life) f })
      -- a note is written
      server_notes : {b : Journals} (n : ℕ) (o : Open ServerPiece) (note : Note) → b.servers.nodes n ≡ Some o → ServerAdds o (server.Note note ∷ []) → Goes b (record b { servers = written_all b.servers n o (server.Note note ∷ []) })
      client_notes : {b : Journals} (n : ℕ) (o : Open ClientPiece) (note : Note) → b.clients.nodes n ≡ Some o → ClientAdds o (client.Note note ∷ []) → Goes b (record b { clients = written_all b.clients n o (client.Note note ∷ []) })
      -- a record is that nobody else made, and that opening accepts
      server_writes : {b : Journals} (n : ℕ) (o : Open ServerPiece) (r : ServerRecord) → b.servers.nodes n ≡ Some o → ServerAdds o (server.Record r ∷ []) → NoEntry (server_seen r) → server_admits p (server_of p (server_records number o.file)) (server_seen r) ≡ true
          → Goes b (record b { servers = written_all b.servers n o (server.Record r ∷ []) })
      client_writes : {b : Journals} (n : ℕ) (o : Open ClientPiece) (r : ClientRecord) → b.clients.nodes n ≡ Some o → ClientAdds o (client.Record r ∷ []) → NoTook (client_records number o.file) (client_seen r) → client_admits p (client_of p (client_records number o.file)) [] (client_seen r) ≡ true
          → Goes b (record b { clients = written_all b.clients n o (client.Record r ∷ []) })
      -- today's step is done with what passes, stopped anywhere
      server_takes : {b : Journals} (n c j : ℕ) (m : Passage Change) (o : Open ServerPiece) (rs : List ServerRecord) → b.servers.nodes n ≡ Some o → PassesServer b.clients o c m
          → map server_seen rs ≡ take j (serve_changes p (server_of p (server_records number o.file)) c m.tells).records → ServerAdds o (map server.Record rs) → Goes b (record b { servers = written_all b.servers n o (map server.Record rs) })
      client_takes : {b : Journals} (n ident j : ℕ) (m : Passage Sent) (o : Open ClientPiece) (rs : List ClientRecord) → b.clients.nodes n ≡ Some o → PassesClient b.servers o ident m
          → map client_seen rs ≡ take j (take_message p (client_of p (client_records number o.file)) (Download ident m.from m.tells)).records → ClientAdds o (map client.Record rs) → Goes b (record b { clients = written_all b.clients n o (map client.Record rs) })
      -- and whatever comes of old clients
      server_takes_old : {b : Journals} (n c j : ℕ) (id : Uuid) (hs : List Change) (o : Open ServerPiece) (rs : List ServerRecord) → b.servers.nodes n ≡ Some o → is_given (server_of p (server_records number o.file)) c ≡ true → place_of id (server_of p (server_records number o.file)).ids ≡ c → is_old id ≡ true
          → map server_seen rs ≡ take j (serve_changes p (server_of p (server_records number o.file)) c hs).records → ServerAdds o (map server.Record rs) → Goes b (record b { servers = written_all b.servers n o (map server.Record rs) })

    pub data Runs : Journals → Type 0 where
      at_first : Runs no_journals
      by_step : {a b : Journals} → Runs a → Goes a b → Runs b
