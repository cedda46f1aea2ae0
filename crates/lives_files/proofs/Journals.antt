-- Worlds of the program's own files are worlds of files that keep lives.
use Rattle.std.proofs.Common.{◌≡◌, ⊎_elim, ℕ, suc, ◌-◌, Bool, List, [], ◌∷◌, Option, Some, None, refl, sym, ap, ◌∙◌, subst, length, map, take, drop, if◌then◌else◌}
use Rattle.std.specs.Option.{option_map}
use Rattle.sync_model.specs.Bytes.{Uuid}
use Rattle.sync_model.specs.Profile.{Profile}
use Rattle.sync_model.specs.Messages.{Change, Sent, Download}
use Rattle.sync_model.specs.Clients.{client_of, tooks_of, take as take_message}
use Rattle.sync_model.specs.Clients as model_client
use Rattle.sync_model.specs.Servers.{server_of, count, is_given, place_of, serve_changes}
use Rattle.sync_model.specs.Servers as model_server
use Rattle.sync_records.specs.declared.server.ServerRecord.{ServerRecord}
use Rattle.sync_records.specs.declared.client.ClientRecord.{ClientRecord}
use Rattle.sync_exchange.specs.Seen.{client_seen, server_seen}
use Rattle.life_bytes.specs.declared.note.Note.{Note}
use Rattle.life_bytes.specs.declared.note.Note.TheVariants as notes
use Rattle.life_marks.specs.declared.pieces.ServerPiece.{ServerPiece}
use Rattle.life_marks.specs.declared.pieces.ServerPiece.TheVariants as server
use Rattle.life_marks.specs.declared.pieces.ClientPiece.{ClientPiece}
use Rattle.life_marks.specs.declared.pieces.ClientPiece.TheVariants as client
use Rattle.life_marks.specs.declared.server_marks.Line.{Line}
use Rattle.life_marks.specs.ServerMarks as server_marks
use Rattle.life_marks.specs.ClientMarks as client_marks
use Rattle.lives_law.specs.Lives.{Written, Open, Among, here, no_files, opened}
use Rattle.lives_law.specs.Instances.{plain}
use Rattle.lives_law.specs.Roaming.{written_all}
use Rattle.lives_law.specs.Stored as stored
use Rattle.lives_law.specs.Stored.{Noted, it, note, Kept, Passage, passes, entry_by, took_by, kept_of, with_notes, unnoted, open_by, SameBy, Stores, no_stores, Stands, upload_records, download_records}
use Rattle.lives_law.proofs.Notes.{same_opened}
use Rattle.lives_law.proofs.Roaming.{OpenKept, all_open, opened_open, only_empty, given_not_zero}
use Rattle.lives_files.specs.Files.{in_life, server_piece, client_piece, server_file, client_file}
use Rattle.lives_files.specs.Telling.{ServerTells, ClientTells}
use Rattle.lives_files.specs.Agreeing.{last_of, kept_in, server_records, client_records}
use Rattle.lives_files.specs.Journals.{Journals, no_journals, ServerAdds, ClientAdds, line, PassesServer, PassesClient, Goes, server_opens, client_opens, server_notes, client_notes, server_writes, client_writes, server_takes, client_takes, server_takes_old, Runs, at_first, by_step}
use Rattle.lives_files.proofs.Entries.{server_is}
use Rattle.lives_files.proofs.Mades.{client_is}
use Rattle.lives_files.proofs.Piecewise.{take_map, all_written, flat, same_read, read_open}
use Rattle.lives_files.proofs.Appending.{no_notes, server_both, client_both, server_cut, client_cut, server_few, client_few, server_flat, client_flat}

module _ {I S : Type 0} (number : List ℕ → ℕ) (p : Profile I S) (is_old : Uuid → Bool) where
  -- the same files, as those that keep lives
  pub record Mirrors (b : Journals) : Type 0 where
    pub stores : Stores
    pub stands : Stands p is_old stores
    pub servers : SameBy (server_file number) b.servers stores.servers
    pub clients : SameBy (client_file number) b.clients stores.clients
    pub servers_tell : (f : List (Written ServerPiece)) → Among f b.servers.kept → ServerTells number server_marks.no_marks f
    pub clients_tell : (g : List (Written ClientPiece)) → Among g b.clients.kept → ClientTells number client_marks.no_marks g
    pub servers_open : OpenKept b.servers
    pub clients_open : OpenKept b.clients

  nobody : {A : Type 0} {x : A} → None ≡ Some x → ⊥
  nobody e = cc

  first_mirrors : Mirrors no_journals
  first_mirrors = record {
    stores = no_stores;
    stands = stored.Stands.at_first;
    servers = record { kept = λ f a. subst (λ l. Among (server_file number l) (no_files {R = Noted model_server.ServerRecord}).kept) (sym (only_empty p a)) here; nodes = λ n. refl; used = refl };
    clients = record { kept = λ g a. subst (λ l. Among (client_file number l) (no_files {R = Noted model_client.ClientRecord}).kept) (sym (only_empty p a)) here; nodes = λ n. refl; used = refl };
    servers_tell = λ f a. subst (λ l. ServerTells number server_marks.no_marks l) (sym (only_empty p a)) tt;
    clients_tell = λ g a. subst (λ l. ClientTells number client_marks.no_marks l) (sym (only_empty p a)) tt;
    servers_open = λ n o e. absurd (nobody e);
    clients_open = λ n o e. absurd (nobody e);
  }

  module _ (b : Journals) (k : Mirrors b) where
    abbrev server_store : Open ServerPiece → Open (Noted model_server.ServerRecord)
    server_store o = read_open (server_piece number) o

    abbrev client_store : Open ClientPiece → Open (Noted model_client.ClientRecord)
    client_store o = read_open (client_piece number) o

    server_there : (n : ℕ) (o : Open ServerPiece) → b.servers.nodes n ≡ Some o → k.stores.servers.nodes n ≡ Some (server_store o)
    server_there n o e = k.servers.nodes n ∙ ap (open_by (server_file number)) e

    client_there : (n : ℕ) (o : Open ClientPiece) → b.clients.nodes n ≡ Some o → k.stores.clients.nodes n ≡ Some (client_store o)
    client_there n o e = k.clients.nodes n ∙ ap (open_by (client_file number)) e

    -- ---- files that went on tell their lives

    servers_told : (n : ℕ) (o : Open ServerPiece) (ps : List ServerPiece) → b.servers.nodes n ≡ Some o → ServerAdds number o ps → (f : List (Written ServerPiece)) → Among f (written_all b.servers n o ps).kept → ServerTells number server_marks.no_marks f
    servers_told n o ps e adds f a = ⊎_elim (λ old. k.servers_tell f old)
        (λ late. subst (λ l. ServerTells number server_marks.no_marks l) (sym late.1)
        (server_both number o.file (map (in_life o.life) (take late.0 ps)) server_marks.no_marks (k.servers_tell o.file (k.servers_open n o e))
        (subst (λ l. ServerTells number (server_marks.marks_of (plain o.file)) l) (take_map (in_life o.life) late.0 ps) (server_cut number late.0 (map (in_life o.life) ps) (server_marks.marks_of (plain o.file)) adds))))
        (all_written ps b.servers n o f a)

    clients_told : (n : ℕ) (o : Open ClientPiece) (ps : List ClientPiece) → b.clients.nodes n ≡ Some o → ClientAdds number o ps → (g : List (Written ClientPiece)) → Among g (written_all b.clients n o ps).kept → ClientTells number client_marks.no_marks g
    clients_told n o ps e adds g a = ⊎_elim (λ old. k.clients_tell g old)
        (λ late. subst (λ l. ClientTells number client_marks.no_marks l) (sym late.1)
        (client_both number o.file (map (in_life o.life) (take late.0 ps)) client_marks.no_marks (k.clients_tell o.file (k.clients_open n o e))
        (subst (λ l. ClientTells number (client_marks.marks_of (plain o.file)) l) (take_map (in_life o.life) late.0 ps) (client_cut number late.0 (map (in_life o.life) ps) (client_marks.marks_of (plain o.file)) adds))))
        (all_written ps b.clients n o g a)

    -- ---- what is written there is what is written here

    server_goes : (n : ℕ) (o : Open ServerPiece) (ps : List ServerPiece) → b.servers.nodes n ≡ Some o → ServerAdds number o ps
        → Stands p is_old (record k.stores { servers = written_all k.stores.servers n (server_store o) (flat (server_piece number) ps) }) → Mirrors (record b { servers = written_all b.servers n o ps })
    server_goes n o ps e adds stands = record {
      stores = record k.stores { servers = written_all k.stores.servers n (server_store o) (flat (server_piece number) ps) };
      stands = stands;
      servers = same_read (server_piece number) (server_few number) ps n b.servers k.stores.servers o (server_store o) k.servers refl e (k.servers_open n o e);
      clients = k.clients;
      servers_tell = servers_told n o ps e adds;
      clients_tell = k.clients_tell;
      servers_open = all_open ps b.servers n o k.servers_open;
      clients_open = k.clients_open;
    }

    client_goes : (n : ℕ) (o : Open ClientPiece) (ps : List ClientPiece) → b.clients.nodes n ≡ Some o → ClientAdds number o ps
        → Stands p is_old (record k.stores { clients = written_all k.stores.clients n (client_store o) (flat (client_piece number) ps) }) → Mirrors (record b { clients = written_all b.clients n o ps })
    client_goes n o ps e adds stands = record {
      stores = record k.stores { clients = written_all k.stores.clients n (client_store o) (flat (client_piece number) ps) };
      stands = stands;
      servers = k.servers;
      clients = same_read (client_piece number) (client_few number) ps n b.clients k.stores.clients o (client_store o) k.clients refl e (k.clients_open n o e);
      servers_tell = k.servers_tell;
      clients_tell = clients_told n o ps e adds;
      servers_open = k.servers_open;
      clients_open = all_open ps b.clients n o k.clients_open;
    }

    abbrev ServerStands : ℕ → Open ServerPiece → List (Noted model_server.ServerRecord) → Type 0
    ServerStands n o xs = Stands p is_old (record k.stores { servers = written_all k.stores.servers n (server_store o) xs })

    abbrev ClientStands : ℕ → Open ClientPiece → List (Noted model_client.ClientRecord) → Type 0
    ClientStands n o xs = Stands p is_old (record k.stores { clients = written_all k.stores.clients n (client_store o) xs })

    -- ---- notes

    server_noted : (n : ℕ) (o : Open ServerPiece) (w : Note) → b.servers.nodes n ≡ Some o → ServerStands n o (flat (server_piece number) (server.Note w ∷ []))
    server_noted n o (notes.Numbers of) e = stored.Stands.by_step k.stands (stored.Occurs.server_notes n of.ident (number of.life) (server_store o) (server_there n o e))
    server_noted n o (notes.Life life) e = k.stands
    server_noted n o (notes.Birth life) e = k.stands
    server_noted n o (notes.Of life) e = k.stands
    server_noted n o (notes.Saves saves) e = k.stands
    server_noted n o (notes.Member ident) e = k.stands
    server_noted n o (notes.Saved token) e = k.stands
    server_noted n o (notes.Reached token) e = k.stands
    server_noted n o (notes.Lives lives) e = k.stands

    client_noted : (n : ℕ) (o : Open ClientPiece) (w : Note) → b.clients.nodes n ≡ Some o → ClientStands n o (flat (client_piece number) (client.Note w ∷ []))
    client_noted n o (notes.Of life) e = stored.Stands.by_step k.stands (stored.Occurs.client_notes n 0 (number life) (client_store o) (client_there n o e))
    client_noted n o (notes.Numbers of) e = k.stands
    client_noted n o (notes.Life life) e = k.stands
    client_noted n o (notes.Birth life) e = k.stands
    client_noted n o (notes.Saves saves) e = k.stands
    client_noted n o (notes.Member ident) e = k.stands
    client_noted n o (notes.Saved token) e = k.stands
    client_noted n o (notes.Reached token) e = k.stands
    client_noted n o (notes.Lives lives) e = k.stands

    -- ---- an Upload and a Download

    module _ (n c j : ℕ) (m : Passage Change) (o : Open ServerPiece) (rs : List ServerRecord) (e : b.servers.nodes n ≡ Some o) (t : PassesServer number p is_old b.clients o c m)
        (is : map server_seen rs ≡ take j (serve_changes p (server_of p (server_records number o.file)) c m.tells).records) where
      abbrev its_records : List model_server.ServerRecord
      its_records = (serve_changes p (server_of p (server_records number o.file)) c m.tells).records

      abbrev lives_behind : List ℕ
      lives_behind = drop (suc (count (server_of p (server_records number o.file)) c - m.from)) m.lives

      kept_is : kept_of entry_by c (plain (server_file number o.file)) ≡ record { noted = Some (number t.life); last = option_map number (last_of (line number o c)) }
      kept_is = (server_is number o.file (k.servers_tell o.file (k.servers_open n o e))).lines c (given_not_zero p (server_of p (server_records number o.file)) c t.given)
          ∙ ap (kept_in number) t.line_is
          ∙ ap (λ (z : Option (List ℕ)). record { noted = option_map number z; last = option_map number t.its.last }) t.noted
          ∙ ap (λ (z : Option Line). record { noted = Some (number t.life); last = option_map number (last_of z) }) (sym t.line_is)

      uploaded : upload_records p (plain (server_file number o.file)) c m ≡ unnoted (serve_changes p (server_of p (server_records number o.file)) c m.tells).records
      uploaded = ap (λ (z : Kept). if passes z.last (count (server_of p (server_records number o.file)) c) m then with_notes entry_by c z.noted lives_behind its_records else []) kept_is
          ∙ ap (λ z. if z then with_notes entry_by c (Some (number t.life)) lives_behind its_records else []) t.tested
          ∙ no_notes entry_by c (number t.life) lives_behind its_records t.lives

      server_took : ServerStands n o (flat (server_piece number) (map server.Record rs))
      server_took = subst (λ xs. ServerStands n o xs)
          (ap (take j) uploaded ∙ take_map (λ r. it r) j its_records ∙ ap unnoted (sym is) ∙ sym (server_flat number rs))
          (stored.Stands.by_step k.stands (stored.Occurs.server_takes n c j m (client_file number t.file) (server_store o) (server_there n o e) t.given t.new (k.clients.kept t.file t.kept) t.is))

    module _ (n ident j : ℕ) (m : Passage Sent) (o : Open ClientPiece) (rs : List ClientRecord) (e : b.clients.nodes n ≡ Some o) (t : PassesClient number p is_old b.servers o ident m)
        (is : map client_seen rs ≡ take j (take_message p (client_of p (client_records number o.file)) (Download ident m.from m.tells)).records) where
      abbrev its_tooks : List model_client.ClientRecord
      its_tooks = (take_message p (client_of p (client_records number o.file)) (Download ident m.from m.tells)).records

      abbrev told_behind : List ℕ
      told_behind = drop (suc (length (tooks_of (client_records number o.file)) - m.from)) m.lives

      kept_so : kept_of took_by 0 (plain (client_file number o.file)) ≡ record { noted = Some (number t.life); last = option_map number (client_marks.marks_of (plain o.file)).last }
      kept_so = (client_is number o.file (k.clients_tell o.file (k.clients_open n o e))).kept
          ∙ ap (λ (z : Option (List ℕ)). record { noted = option_map number z; last = option_map number (client_marks.marks_of (plain o.file)).last }) t.noted

      downloaded : download_records p (plain (client_file number o.file)) ident m ≡ unnoted (take_message p (client_of p (client_records number o.file)) (Download ident m.from m.tells)).records
      downloaded = ap (λ (z : Kept). if passes z.last (length (tooks_of (client_records number o.file))) m then with_notes took_by 0 z.noted told_behind its_tooks else []) kept_so
          ∙ ap (λ z. if z then with_notes took_by 0 (Some (number t.life)) told_behind its_tooks else []) t.tested
          ∙ no_notes took_by 0 (number t.life) told_behind its_tooks t.lives

      client_took : ClientStands n o (flat (client_piece number) (map client.Record rs))
      client_took = subst (λ xs. ClientStands n o xs)
          (ap (take j) downloaded ∙ take_map (λ r. it r) j its_tooks ∙ ap unnoted (sym is) ∙ sym (client_flat number rs))
          (stored.Stands.by_step k.stands (stored.Occurs.client_takes n ident j m (server_file number t.file) (client_store o) (client_there n o e) t.fine (k.servers.kept t.file t.kept) t.is))

    -- ---- each step

    step_mirrors : (d : Journals) → Goes number p is_old b d → Mirrors d
    step_mirrors d (server_opens n life f q fresh) = record {
      stores = record k.stores { servers = opened k.stores.servers n (number life) (server_file number f) };
      stands = stored.Stands.by_step k.stands (stored.Occurs.server_opens n (number life) (server_file number f) (k.servers.kept f q) (λ u. fresh (subst (λ x. Among (number life) x) k.servers.used u)));
      servers = same_opened (server_file number) b.servers k.stores.servers n (number life) f k.servers q;
      clients = k.clients;
      servers_tell = k.servers_tell;
      clients_tell = k.clients_tell;
      servers_open = opened_open b.servers n (number life) f q k.servers_open;
      clients_open = k.clients_open;
    }
    step_mirrors d (client_opens n life f q fresh) = record {
      stores = record k.stores { clients = opened k.stores.clients n (number life) (client_file number f) };
      stands = stored.Stands.by_step k.stands (stored.Occurs.client_opens n (number life) (client_file number f) (k.clients.kept f q) (λ u. fresh (subst (λ x. Among (number life) x) k.clients.used u)));
      servers = k.servers;
      clients = same_opened (client_file number) b.clients k.stores.clients n (number life) f k.clients q;
      servers_tell = k.servers_tell;
      clients_tell = k.clients_tell;
      servers_open = k.servers_open;
      clients_open = opened_open b.clients n (number life) f q k.clients_open;
    }
    step_mirrors d (server_notes n o w e adds) = server_goes n o (server.Note w ∷ []) e adds (server_noted n o w e)
    step_mirrors d (client_notes n o w e adds) = client_goes n o (client.Note w ∷ []) e adds (client_noted n o w e)
    step_mirrors d (server_writes n o r e adds may ok) = server_goes n o (server.Record r ∷ []) e adds (stored.Stands.by_step k.stands (stored.Occurs.server_writes n (server_store o) (server_seen r) (server_there n o e) may ok))
    step_mirrors d (client_writes n o r e adds may ok) = client_goes n o (client.Record r ∷ []) e adds (stored.Stands.by_step k.stands (stored.Occurs.client_writes n (client_store o) (client_seen r) (client_there n o e) may ok))
    step_mirrors d (server_takes n c j m o rs e t is adds) = server_goes n o (map server.Record rs) e adds (server_took n c j m o rs e t is)
    step_mirrors d (client_takes n ident j m o rs e t is adds) = client_goes n o (map client.Record rs) e adds (client_took n ident j m o rs e t is)
    step_mirrors d (server_takes_old n c j id hs o rs e given place aged is adds) = server_goes n o (map server.Record rs) e adds
        (subst (λ xs. ServerStands n o xs) (take_map (λ r. it r) j (serve_changes p (server_of p (server_records number o.file)) c hs).records ∙ ap unnoted (sym is) ∙ sym (server_flat number rs))
        (stored.Stands.by_step k.stands (stored.Occurs.server_takes_old n c j id hs (server_store o) (server_there n o e) given place aged)))

  pub mirrors : (b : Journals) → Runs number p is_old b → Mirrors b
  mirrors b at_first = first_mirrors
  mirrors b (by_step {a = a} r g) = step_mirrors a (mirrors a r) b g
