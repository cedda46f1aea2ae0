-- What stands in files with notes stands in the same files without, in worlds of roaming files.
use Rattle.std.proofs.Common.{◌≡◌, ◌≢◌, ◌⊎◌, inl, inr, ⊎_elim, ℕ, zero, suc, ◌-◌, Bool, true, false, List, [], ◌∷◌, ◌++◌, Some, None, refl, sym, ap, ◌∙◌, subst, arith, append-nil, length, take, drop, length-append, if◌then◌else◌}
use Rattle.std.specs.Prelude.{bytes_eq}
use Rattle.sync_theory.specs.Logs.{of_origin}
use Rattle.sync_theory.proofs.World.{same_or_not}
use Rattle.sync_model.specs.Bytes.{Uuid}
use Rattle.sync_model.specs.Profile.{Profile, Lawful}
use Rattle.sync_model.specs.Clients.{ClientRecord, ClientStep, client_of, tooks_of, take as take_message}
use Rattle.sync_model.specs.Servers.{place_of, one_on, ServerRecord, ServerStep, server_of, after_all, count, is_given, serve_changes}
use Rattle.sync_model.specs.Messages.{Change, Sent, Download}
use Rattle.sync_model.specs.Limits.{IsMessage}
use Rattle.sync_model.specs.Each.{Each}
use Rattle.sync_model.specs.Files.{client_admits, server_admits}
use Rattle.sync_model.proofs.Bytes.{bytes_same}
use Rattle.sync_model.proofs.Own.{tooks_append}
use Rattle.lives_law.specs.Lives.{Written, Files, Open, Among, here, no_files, opened, Mark}
use Rattle.lives_law.specs.Instances.{plain, is_entry, is_made}
use Rattle.lives_law.specs.Uploads.{HasLine}
use Rattle.lives_law.specs.Passing.{HasHistory}
use Rattle.lives_law.specs.Pair.{IsWhole, Fit, ident_at}
use Rattle.lives_law.specs.Roaming.{Both, nobody, written_all, NoEntry, NoTook, NoneIs, Happens, Roams, TakesUpload, TakesDownload, AllFollow, Meets}
use Rattle.lives_law.specs.Stored.{unnoted, Noted, it, note, Kept, entry_by, took_by, bare, bare_file, open_by, kept_of, with_notes, Passage, passes, Stores, no_stores, upload_records, download_records, IsUploadOf, IsDownloadOf, Occurs, server_opens, client_opens, server_writes, client_writes, server_takes, server_takes_old, client_takes, server_notes, client_notes, Stands, Agree, SameStores}
use Rattle.lives_law.proofs.Lists.{take_nil}
use Rattle.lives_law.proofs.Notes.{bare_both, plain_bare, same_opened, same_written, count_by, cut_bare, quiet, keeps_both, tooks_are}
use Rattle.lives_law.proofs.Roaming.{none_before, given_not_zero, beside_cut, OpenKept, some_is, all_open, opened_open, all_new, cut_cut, log_cut, own_cut, has_same, only_empty, all_follow, meeting_fits}
use Rattle.lives_law.proofs.Stored.{server_on, LineKept, HistoryKept, line_grows, line_opens, history_grows, history_opens, line_beside, taken, lines_now, got, history_now}

module _ {I S : Type 0} (p : Profile I S) (is_old : Uuid → Bool) where
  -- the roaming files beneath, and what each file keeps
  pub record Knows (b : Stores) : Type 0 where
    pub beneath : Both
    pub roams : Roams p is_old beneath
    pub same : SameStores b beneath
    pub lines : (f : List (Written (Noted ServerRecord))) → Among f b.servers.kept → (c : ℕ) → c ≢ 0 → NoneIs p is_old (server_of p (bare (plain f))) c → LineKept p beneath.clients (plain f) c
    pub histories : (g : List (Written (Noted ClientRecord))) → Among g b.clients.kept → HistoryKept p beneath.servers (plain g)
    pub servers_open : OpenKept b.servers
    pub clients_open : OpenKept b.clients

  -- ---- idents

  -- two uuids of one ident are one
  one_uuid : (u v : Uuid) (ids : List Uuid) → place_of u ids ≡ place_of v ids → place_of v ids ≢ 0 → u ≡ v
  one_uuid u v [] e ne = absurd (ne refl)
  one_uuid u v (x ∷ xs) e ne = on (bytes_eq u x) refl (bytes_eq v x) refl e ne (λ h k. one_uuid u v xs h k)
    where
      on : (a : Bool) → bytes_eq u x ≡ a → (b : Bool) → bytes_eq v x ≡ b → (if a then 1 else one_on (place_of u xs)) ≡ (if b then 1 else one_on (place_of v xs)) → (if b then 1 else one_on (place_of v xs)) ≢ 0 → (place_of u xs ≡ place_of v xs → place_of v xs ≢ 0 → u ≡ v) → u ≡ v
      on true is true is2 e ne rest = bytes_same u x is ∙ sym (bytes_same v x is2)
      on true is false is2 e ne rest = absurd (no_one (place_of v xs) (sym e))
        where
          no_one : (n : ℕ) → one_on n ≡ 1 → ⊥
          no_one zero h = absurd (omega arith)
          no_one (suc n) h = absurd (omega arith)
      on false is true is2 e ne rest = absurd (no_one (place_of u xs) e)
        where
          no_one : (n : ℕ) → one_on n ≡ 1 → ⊥
          no_one zero h = absurd (omega arith)
          no_one (suc n) h = absurd (omega arith)
      on false is false is2 e ne rest = rest (one_same (place_of u xs) (place_of v xs) e) (λ z. ne (ap one_on z))
        where
          one_same : (n m : ℕ) → one_on n ≡ one_on m → n ≡ m
          one_same zero zero e = refl
          one_same zero (suc m) e = absurd (omega arith)
          one_same (suc n) zero e = absurd (omega arith)
          one_same (suc n) (suc m) e = omega arith

  -- records without notes
  unnoted_bare : {R : Type 0} (rs : List R) (i : ℕ) → bare (take i (unnoted rs)) ≡ take i rs
  unnoted_bare rs zero = refl
  unnoted_bare [] (suc i) = refl
  unnoted_bare (r ∷ rs) (suc i) = ap (λ l. r ∷ l) (unnoted_bare rs i)

  -- ---- a node's own records

  pub one_bare : {R : Type 0} (r : R) (i : ℕ) → bare (take i (it r ∷ [])) ≡ take i (r ∷ [])
  one_bare r zero = refl
  one_bare r (suc i) = ap (λ l. r ∷ l) (ap bare (take_nil i) ∙ sym (take_nil i))

  line_written : (v : Files ClientRecord) (xs : List (Noted ServerRecord)) (r : ServerRecord) → NoEntry r → (i d : ℕ) → LineKept p v xs d → LineKept p v (xs ++ take i (it r ∷ [])) d
  line_written v xs r may i d h = line_beside p v xs (take i (it r ∷ [])) d (ap (λ l. of_origin d (after_all p (server_of p (bare xs)) l).log) (one_bare r i) ∙ ap (of_origin d) (log_cut p (server_of p (bare xs)) r may i)) h

  history_written : (w : Files ServerRecord) (xs : List (Noted ClientRecord)) (r : ClientRecord) → NoTook (bare xs) r → (i : ℕ) → HistoryKept p w xs → HistoryKept p w (xs ++ take i (it r ∷ []))
  history_written w xs r may i h = on h own.subset
    where
      own : Rattle.lives_law.proofs.Roaming.OwnCut p (bare xs) (bare xs ++ take i (r ∷ []))
      own = own_cut p (bare xs) r may i

      is : bare xs ++ take i (r ∷ []) ≡ bare (xs ++ take i (it r ∷ []))
      is = ap (λ l. bare xs ++ l) (sym (one_bare r i)) ∙ sym (bare_both xs (take i (it r ∷ [])))

      tooks : tooks_of (bare (xs ++ take i (it r ∷ []))) ≡ tooks_of (bare xs)
      tooks = ap tooks_of (sym is) ∙ own.tooks

      none : count_by took_by 0 (bare (take i (it r ∷ []))) ≡ 0
      none =
          let a = ap length tooks in
          let b = ap length (ap tooks_of (bare_both xs (take i (it r ∷ []))) ∙ tooks_append (bare xs) (bare (take i (it r ∷ [])))) in
          let c = length-append (tooks_of (bare xs)) (tooks_of (bare (take i (it r ∷ [])))) in
          let d = tooks_are (bare (take i (it r ∷ []))) in
          omega arith

      last : (kept_of took_by 0 (xs ++ take i (it r ∷ []))).last ≡ (kept_of took_by 0 xs).last
      last = ap (λ (k : Kept). k.last) (keeps_both took_by 0 xs (take i (it r ∷ [])) (record { noted = None; last = None })) ∙ quiet took_by 0 (take i (it r ∷ [])) (kept_of took_by 0 xs) none

      on : HistoryKept p w xs → (tooks_of (bare xs) ≡ []) ⊎ ((client_of p (bare xs ++ take i (r ∷ []))).subset ≡ (client_of p (bare xs)).subset) → HistoryKept p w (xs ++ take i (it r ∷ []))
      on (inl z) s = inl (tooks ∙ z)
      on (inr q) (inl z) = inl (tooks ∙ z)
      on (inr q) (inr s) = inr (q.0, q.1, last ∙ q.2, has_same p w (bare xs) (bare (xs ++ take i (it r ∷ []))) q.0 q.1 tooks (ap (λ l. (client_of p l).subset) (sym is) ∙ s) q.3)

  -- ---- a note

  pub none_bare : {R : Type 0} (c l i : ℕ) → bare {R = R} (take i (note c l ∷ [])) ≡ []
  none_bare c l zero = refl
  none_bare c l (suc i) = ap bare (take_nil i)

  line_noted : (v : Files ClientRecord) (xs : List (Noted ServerRecord)) (c l i d : ℕ) → LineKept p v xs d → LineKept p v (xs ++ take i (note c l ∷ [])) d
  line_noted v xs c l i d h = line_beside p v xs (take i (note c l ∷ [])) d (ap (λ z. of_origin d (after_all p (server_of p (bare xs)) z).log) (none_bare c l i)) h

  history_noted : (w : Files ServerRecord) (xs : List (Noted ClientRecord)) (c l i : ℕ) → HistoryKept p w xs → HistoryKept p w (xs ++ take i (note c l ∷ []))
  history_noted w xs c l i h = ⊎_elim (λ z. inl (ap tooks_of is ∙ z)) (λ q. inr (q.0, q.1, last ∙ q.2, subst (λ z. HasHistory p w z q.0 q.1) (sym is) q.3)) h
    where
      is : bare (xs ++ take i (note c l ∷ [])) ≡ bare xs
      is = bare_both xs (take i (note c l ∷ [])) ∙ ap (λ z. bare xs ++ z) (none_bare c l i) ∙ append-nil (bare xs)

      last : (kept_of took_by 0 (xs ++ take i (note c l ∷ []))).last ≡ (kept_of took_by 0 xs).last
      last = ap (λ (k : Kept). k.last) (keeps_both took_by 0 xs (take i (note c l ∷ [])) (record { noted = None; last = None })) ∙ quiet took_by 0 (take i (note c l ∷ [])) (kept_of took_by 0 xs) (ap (count_by took_by 0) (none_bare c l i))

  -- ---- each step

  abbrev bare_open : {R : Type 0} → Open (Noted R) → Open R
  bare_open o = record { file = bare_file o.file; life = o.life }

  first_knows : Knows no_stores
  first_knows = record {
    beneath = nobody;
    roams = Rattle.lives_law.specs.Roaming.Roams.at_first;
    same = record { servers = record { kept = λ f a. first a; nodes = λ n. refl; used = refl }; clients = record { kept = λ f a. first a; nodes = λ n. refl; used = refl } };
    lines = λ f a c ne none. inl (ap (λ l. count (server_of p (bare (plain l))) c) (only_empty p a));
    histories = λ g a. inl (ap (λ l. tooks_of (bare (plain l))) (only_empty p a));
    servers_open = λ n o e. absurd (nobody_there e);
    clients_open = λ n o e. absurd (nobody_there e);
  }
    where
      nobody_there : {A : Type 0} {x : A} → None ≡ Some x → ⊥
      nobody_there e = cc

      first : {R : Type 0} {f : List (Written (Noted R))} → Among f (no_files {R = Noted R}).kept → Among (bare_file f) (no_files {R = R}).kept
      first {R} a = subst (λ l. Among (bare_file l) (no_files {R = R}).kept) (sym (only_empty p a)) here

  module _ (b : Stores) (k : Knows b) where
    abbrev a : Both
    a = k.beneath

    follows : AllFollow p is_old k.beneath
    follows = all_follow p is_old k.beneath k.roams

    -- an ident that isn't an old client's in a file that goes on
    before : (o : Open (Noted ServerRecord)) (g : List (Written (Noted ServerRecord))) (ys : List (Noted ServerRecord)) (c : ℕ) → c ≢ 0 → plain g ≡ plain o.file ++ ys → NoneIs p is_old (server_of p (bare (plain g))) c → NoneIs p is_old (server_of p (bare (plain o.file))) c
    before o g ys c ne is none = none_before p is_old (server_of p (bare (plain o.file))) (bare ys) c ne (subst (λ s. NoneIs p is_old s c) (ap (λ l. server_of p (bare l)) is ∙ server_on p (plain o.file) ys) none)

    server_there : (n : ℕ) (o : Open (Noted ServerRecord)) → b.servers.nodes n ≡ Some o → k.beneath.servers.nodes n ≡ Some (bare_open o)
    server_there n o e = k.same.servers.nodes n ∙ ap (open_by bare_file) e

    client_there : (n : ℕ) (o : Open (Noted ClientRecord)) → b.clients.nodes n ≡ Some o → k.beneath.clients.nodes n ≡ Some (bare_open o)
    client_there n o e = k.same.clients.nodes n ∙ ap (open_by bare_file) e

    -- a server took an Upload
    module _ (n c j : ℕ) (m : Passage Change) (f : List (Written (Noted ClientRecord))) (o : Open (Noted ServerRecord)) (e : b.servers.nodes n ≡ Some o) (given : is_given (server_of p (bare (plain o.file))) c ≡ true) (none : NoneIs p is_old (server_of p (bare (plain o.file))) c) (kept : Among f b.clients.kept) (u : IsUploadOf p (bare_file f) m) where
      abbrev xs : List (Noted ServerRecord)
      xs = plain o.file

      line_here : LineKept p k.beneath.clients (plain o.file) c
      line_here = k.lines o.file (k.servers_open n o e) c (given_not_zero p (server_of p (bare (plain o.file))) c given) none

      abbrev new : List (Noted ServerRecord)
      new = with_notes entry_by c (kept_of entry_by c (plain o.file)).noted (drop (suc (count (server_of p (bare (plain o.file))) c - m.from)) m.lives) (serve_changes p (server_of p (bare (plain o.file))) c m.tells).records

      abbrev told : List ℕ
      told = drop (suc (count (server_of p (bare (plain o.file))) c - m.from)) m.lives

      abbrev Goes : List (Noted ServerRecord) → Type 0
      Goes ns = Roams p is_old (record k.beneath { servers = written_all k.beneath.servers n (bare_open o) (bare (take j ns)) })

      goes_on : passes (kept_of entry_by c (plain o.file)).last (count (server_of p (bare (plain o.file))) c) m ≡ true → Goes new
      goes_on pass =
          let t = taken p k.beneath.clients follows.clients (plain o.file) c line_here m (bare_file f) (k.same.clients.kept f kept) u pass in
          let cut = cut_bare entry_by c (serve_changes p (server_of p (bare (plain o.file))) c m.tells).records told (kept_of entry_by c (plain o.file)).noted j in
          let is = plain_bare o.file in
          subst (λ l. Roams p is_old (record k.beneath { servers = written_all k.beneath.servers n (bare_open o) l }))
          (ap (λ x. take cut.0 (serve_changes p (server_of p x) c t.hs).records) is ∙ ap (λ (st : ServerStep). take cut.0 st.records) (sym t.same) ∙ sym cut.1)
          (Rattle.lives_law.specs.Roaming.Roams.by_step k.roams (Rattle.lives_law.specs.Roaming.Happens.server_takes n c cut.0 t.hs (bare_open o) (server_there n o e) (subst (λ x. is_given (server_of p x) c ≡ true) (sym is) given) (subst (λ x. TakesUpload p k.beneath.clients x c t.hs) (sym is) t.takes)))

      goes : Goes (upload_records p (plain o.file) c m)
      goes = on (passes (kept_of entry_by c (plain o.file)).last (count (server_of p (bare (plain o.file))) c) m) refl
        where
          on : (q : Bool) → passes (kept_of entry_by c (plain o.file)).last (count (server_of p (bare (plain o.file))) c) m ≡ q → Goes (if q then new else [])
          on true is = goes_on is
          on false is = subst (λ l. Roams p is_old (record k.beneath { servers = written_all k.beneath.servers n (bare_open o) (bare l) })) (sym (take_nil j)) k.roams

      server_took : Knows (record b { servers = written_all b.servers n o (take j (upload_records p (plain o.file) c m)) })
      server_took = record {
        beneath = record k.beneath { servers = written_all k.beneath.servers n (bare_open o) (bare (take j (upload_records p (plain o.file) c m))) };
        roams = goes;
        same = record { servers = same_written (take j (upload_records p (plain o.file) c m)) b.servers k.beneath.servers n o (bare_open o) k.same.servers refl e (k.servers_open n o e); clients = k.same.clients };
        lines = λ g q d nz unmarked. ⊎_elim (λ old. k.lines g old d nz unmarked)
            (λ late.
            let i = cut_cut late.0 j (upload_records p (plain o.file) c m) in
            subst (λ l. LineKept p k.beneath.clients l d) (sym (late.1 ∙ ap (λ l. plain o.file ++ l) i.1))
            (lines_now p k.beneath.clients follows.clients (plain o.file) c line_here m (bare_file f) (k.same.clients.kept f kept) u i.0 d (λ ne. k.lines o.file (k.servers_open n o e) d nz (before o g (take late.0 (take j (upload_records p (plain o.file) c m))) d nz late.1 unmarked))))
            (all_new (take j (upload_records p (plain o.file) c m)) b.servers n o g q);
        histories = λ g q. history_grows p k.beneath.servers (bare (take j (upload_records p (plain o.file) c m))) n (bare_open o) (plain g) (k.histories g q);
        servers_open = all_open (take j (upload_records p (plain o.file) c m)) b.servers n o k.servers_open;
        clients_open = k.clients_open;
      }

    -- a server took an Upload of an old client
    module _ (n c j : ℕ) (id : Uuid) (hs : List Change) (o : Open (Noted ServerRecord)) (e : b.servers.nodes n ≡ Some o) (given : is_given (server_of p (bare (plain o.file))) c ≡ true) (is_id : place_of id (server_of p (bare (plain o.file))).ids ≡ c) (aged : is_old id ≡ true) where
      abbrev rs : List ServerRecord
      rs = (serve_changes p (server_of p (bare (plain o.file))) c hs).records

      goes_old : Roams p is_old (record k.beneath { servers = written_all k.beneath.servers n (bare_open o) (bare (take j (unnoted rs))) })
      goes_old =
          let is = plain_bare o.file in
          subst (λ l. Roams p is_old (record k.beneath { servers = written_all k.beneath.servers n (bare_open o) l }))
          (ap (λ x. take j (serve_changes p (server_of p x) c hs).records) is ∙ sym (unnoted_bare rs j))
          (Rattle.lives_law.specs.Roaming.Roams.by_step k.roams (Rattle.lives_law.specs.Roaming.Happens.server_takes_old n c j id hs (bare_open o) (server_there n o e) (subst (λ x. is_given (server_of p x) c ≡ true) (sym is) given) (subst (λ x. place_of id (server_of p x).ids ≡ c) (sym is) is_id) aged))

      old_line : (i d : ℕ) → d ≢ 0 → (d ≢ c → LineKept p k.beneath.clients (plain o.file) d) → NoneIs p is_old (server_of p (bare (plain o.file ++ take i (unnoted rs)))) d → LineKept p k.beneath.clients (plain o.file ++ take i (unnoted rs)) d
      old_line i d nz beside unmarked = ⊎_elim
          (λ same.
          let none : NoneIs p is_old (server_of p (bare (plain o.file))) d = none_before p is_old (server_of p (bare (plain o.file))) (bare (take i (unnoted rs))) d nz (subst (λ s. NoneIs p is_old s d) (server_on p (plain o.file) (take i (unnoted rs))) unmarked) in
          absurd (none id (is_id ∙ sym same) aged))
          (λ ne. line_beside p k.beneath.clients (plain o.file) (take i (unnoted rs)) d (ap (λ l. of_origin d (after_all p (server_of p (bare (plain o.file))) l).log) (unnoted_bare rs i) ∙ beside_cut p hs (server_of p (bare (plain o.file))) c d i ne) (beside ne))
          (same_or_not d c)

      server_took_old : Knows (record b { servers = written_all b.servers n o (take j (unnoted rs)) })
      server_took_old = record {
        beneath = record k.beneath { servers = written_all k.beneath.servers n (bare_open o) (bare (take j (unnoted rs))) };
        roams = goes_old;
        same = record { servers = same_written (take j (unnoted rs)) b.servers k.beneath.servers n o (bare_open o) k.same.servers refl e (k.servers_open n o e); clients = k.same.clients };
        lines = λ g q d nz unmarked. ⊎_elim (λ old. k.lines g old d nz unmarked)
            (λ late.
            let i = cut_cut late.0 j (unnoted rs) in
            let is = late.1 ∙ ap (λ l. plain o.file ++ l) i.1 in
            subst (λ l. LineKept p k.beneath.clients l d) (sym is)
            (old_line i.0 d nz (λ ne. k.lines o.file (k.servers_open n o e) d nz (before o g (take late.0 (take j (unnoted rs))) d nz late.1 unmarked)) (subst (λ l. NoneIs p is_old (server_of p (bare l)) d) is unmarked)))
            (all_new (take j (unnoted rs)) b.servers n o g q);
        histories = λ g q. history_grows p k.beneath.servers (bare (take j (unnoted rs))) n (bare_open o) (plain g) (k.histories g q);
        servers_open = all_open (take j (unnoted rs)) b.servers n o k.servers_open;
        clients_open = k.clients_open;
      }

    -- a client took a Download
    module _ (n ident j : ℕ) (m : Passage Sent) (f : List (Written (Noted ServerRecord))) (o : Open (Noted ClientRecord)) (e : b.clients.nodes n ≡ Some o) (ok : IsMessage p (Download ident m.from m.tells)) (kept : Among f b.servers.kept) (u : IsDownloadOf p (bare_file f) (bare (plain o.file)) m) where
      abbrev more : List (Noted ClientRecord)
      more = with_notes took_by 0 (kept_of took_by 0 (plain o.file)).noted (drop (suc (length (tooks_of (bare (plain o.file))) - m.from)) m.lives) (take_message p (client_of p (bare (plain o.file))) (Download ident m.from m.tells)).records

      abbrev said : List ℕ
      said = drop (suc (length (tooks_of (bare (plain o.file))) - m.from)) m.lives

      whole : Each IsWhole (bare (plain o.file))
      whole = subst (λ l. Each IsWhole l) (plain_bare o.file) (follows.wholes (bare_file o.file) (k.same.clients.kept o.file (k.clients_open n o e)))

      abbrev Comes : List (Noted ClientRecord) → Type 0
      Comes ns = Roams p is_old (record k.beneath { clients = written_all k.beneath.clients n (bare_open o) (bare (take j ns)) })

      comes_on : passes (kept_of took_by 0 (plain o.file)).last (length (tooks_of (bare (plain o.file)))) m ≡ true → Comes more
      comes_on pass =
          let t = got p k.beneath.servers follows.servers (plain o.file) whole (k.histories o.file (k.clients_open n o e)) ident m (bare_file f) (k.same.servers.kept f kept) u ok pass in
          let cut = cut_bare took_by 0 (take_message p (client_of p (bare (plain o.file))) (Download ident m.from m.tells)).records said (kept_of took_by 0 (plain o.file)).noted j in
          let is = plain_bare o.file in
          subst (λ l. Roams p is_old (record k.beneath { clients = written_all k.beneath.clients n (bare_open o) l }))
          (ap (λ x. take cut.0 (take_message p (client_of p x) (Download ident t.from t.es)).records) is ∙ ap (λ (st : ClientStep ℕ). take cut.0 st.records) (sym t.same) ∙ sym cut.1)
          (Rattle.lives_law.specs.Roaming.Roams.by_step k.roams (Rattle.lives_law.specs.Roaming.Happens.client_takes n ident t.from cut.0 t.es (bare_open o) (client_there n o e) t.fine (subst (λ x. TakesDownload p k.beneath.servers x t.from t.es) (sym is) t.takes)))

      comes : Comes (download_records p (plain o.file) ident m)
      comes = on (passes (kept_of took_by 0 (plain o.file)).last (length (tooks_of (bare (plain o.file)))) m) refl
        where
          on : (q : Bool) → passes (kept_of took_by 0 (plain o.file)).last (length (tooks_of (bare (plain o.file)))) m ≡ q → Comes (if q then more else [])
          on true is = comes_on is
          on false is = subst (λ l. Roams p is_old (record k.beneath { clients = written_all k.beneath.clients n (bare_open o) (bare l) })) (sym (take_nil j)) k.roams

      client_took : Knows (record b { clients = written_all b.clients n o (take j (download_records p (plain o.file) ident m)) })
      client_took = record {
        beneath = record k.beneath { clients = written_all k.beneath.clients n (bare_open o) (bare (take j (download_records p (plain o.file) ident m))) };
        roams = comes;
        same = record { servers = k.same.servers; clients = same_written (take j (download_records p (plain o.file) ident m)) b.clients k.beneath.clients n o (bare_open o) k.same.clients refl e (k.clients_open n o e) };
        lines = λ g q d nz unmarked. line_grows p k.beneath.clients (bare (take j (download_records p (plain o.file) ident m))) n (bare_open o) (plain g) d (k.lines g q d nz unmarked);
        histories = λ g q. ⊎_elim (λ old. k.histories g old)
            (λ late.
            let i = cut_cut late.0 j (download_records p (plain o.file) ident m) in
            subst (λ l. HistoryKept p k.beneath.servers l) (sym (late.1 ∙ ap (λ l. plain o.file ++ l) i.1)) (history_now p k.beneath.servers follows.servers (plain o.file) whole (k.histories o.file (k.clients_open n o e)) ident m (bare_file f) (k.same.servers.kept f kept) u ok i.0))
            (all_new (take j (download_records p (plain o.file) ident m)) b.clients n o g q);
        servers_open = k.servers_open;
        clients_open = all_open (take j (download_records p (plain o.file) ident m)) b.clients n o k.clients_open;
      }

    pub step_knows : (d : Stores) → Occurs p is_old b d → Knows d
    step_knows d (server_opens n l f q fresh) = record {
      beneath = record k.beneath { servers = opened k.beneath.servers n l (bare_file f) };
      roams = Rattle.lives_law.specs.Roaming.Roams.by_step k.roams (Rattle.lives_law.specs.Roaming.Happens.server_opens n l (bare_file f) (k.same.servers.kept f q) (λ u. fresh (subst (λ x. Among l x) k.same.servers.used u)));
      same = record { servers = same_opened bare_file b.servers k.beneath.servers n l f k.same.servers q; clients = k.same.clients };
      lines = λ g a c nz unmarked. k.lines g a c nz unmarked;
      histories = λ g a. history_opens p k.beneath.servers n l (bare_file f) (plain g) (k.histories g a);
      servers_open = opened_open b.servers n l f q k.servers_open;
      clients_open = k.clients_open;
    }
    step_knows d (client_opens n l f q fresh) = record {
      beneath = record k.beneath { clients = opened k.beneath.clients n l (bare_file f) };
      roams = Rattle.lives_law.specs.Roaming.Roams.by_step k.roams (Rattle.lives_law.specs.Roaming.Happens.client_opens n l (bare_file f) (k.same.clients.kept f q) (λ u. fresh (subst (λ x. Among l x) k.same.clients.used u)));
      same = record { servers = k.same.servers; clients = same_opened bare_file b.clients k.beneath.clients n l f k.same.clients q };
      lines = λ g a c nz unmarked. line_opens p k.beneath.clients n l (bare_file f) (plain g) c (k.lines g a c nz unmarked);
      histories = λ g a. k.histories g a;
      servers_open = k.servers_open;
      clients_open = opened_open b.clients n l f q k.clients_open;
    }
    step_knows d (server_writes n o r e may ad) = record {
      beneath = record k.beneath { servers = written_all k.beneath.servers n (bare_open o) (r ∷ []) };
      roams = Rattle.lives_law.specs.Roaming.Roams.by_step k.roams (Rattle.lives_law.specs.Roaming.Happens.server_writes n (bare_open o) r (server_there n o e) may (subst (λ x. server_admits p (server_of p x) r ≡ true) (sym (plain_bare o.file)) ad));
      same = record { servers = same_written (it r ∷ []) b.servers k.beneath.servers n o (bare_open o) k.same.servers refl e (k.servers_open n o e); clients = k.same.clients };
      lines = λ g q c nz unmarked. ⊎_elim (λ old. k.lines g old c nz unmarked)
          (λ late. subst (λ l. LineKept p k.beneath.clients l c) (sym late.1) (line_written k.beneath.clients (plain o.file) r may late.0 c (k.lines o.file (k.servers_open n o e) c nz (before o g (take late.0 (it r ∷ [])) c nz late.1 unmarked))))
          (all_new (it r ∷ []) b.servers n o g q);
      histories = λ g q. history_grows p k.beneath.servers (r ∷ []) n (bare_open o) (plain g) (k.histories g q);
      servers_open = all_open (it r ∷ []) b.servers n o k.servers_open;
      clients_open = k.clients_open;
    }
    step_knows d (client_writes n o r e may ad) = record {
      beneath = record k.beneath { clients = written_all k.beneath.clients n (bare_open o) (r ∷ []) };
      roams = Rattle.lives_law.specs.Roaming.Roams.by_step k.roams (Rattle.lives_law.specs.Roaming.Happens.client_writes n (bare_open o) r (client_there n o e) (subst (λ x. NoTook x r) (sym (plain_bare o.file)) may) (subst (λ x. client_admits p (client_of p x) [] r ≡ true) (sym (plain_bare o.file)) ad));
      same = record { servers = k.same.servers; clients = same_written (it r ∷ []) b.clients k.beneath.clients n o (bare_open o) k.same.clients refl e (k.clients_open n o e) };
      lines = λ g q c nz unmarked. line_grows p k.beneath.clients (r ∷ []) n (bare_open o) (plain g) c (k.lines g q c nz unmarked);
      histories = λ g q. ⊎_elim (λ old. k.histories g old)
          (λ late. subst (λ l. HistoryKept p k.beneath.servers l) (sym late.1) (history_written k.beneath.servers (plain o.file) r may late.0 (k.histories o.file (k.clients_open n o e))))
          (all_new (it r ∷ []) b.clients n o g q);
      servers_open = k.servers_open;
      clients_open = all_open (it r ∷ []) b.clients n o k.clients_open;
    }
    step_knows d (server_takes n c j m f o e given none kept u) = server_took n c j m f o e given none kept u
    step_knows d (server_takes_old n c j id hs o e given is aged) = server_took_old n c j id hs o e given is aged
    step_knows d (client_takes n ident j m f o e ok kept u) = client_took n ident j m f o e ok kept u
    step_knows d (server_notes n c l o e) = record {
      beneath = k.beneath;
      roams = k.roams;
      same = record { servers = same_written (note c l ∷ []) b.servers k.beneath.servers n o (bare_open o) k.same.servers refl e (k.servers_open n o e); clients = k.same.clients };
      lines = λ g q d nz unmarked. ⊎_elim (λ old. k.lines g old d nz unmarked)
          (λ late. subst (λ z. LineKept p k.beneath.clients z d) (sym late.1) (line_noted k.beneath.clients (plain o.file) c l late.0 d (k.lines o.file (k.servers_open n o e) d nz (before o g (take late.0 (note c l ∷ [])) d nz late.1 unmarked))))
          (all_new (note c l ∷ []) b.servers n o g q);
      histories = λ g q. k.histories g q;
      servers_open = all_open (note c l ∷ []) b.servers n o k.servers_open;
      clients_open = k.clients_open;
    }
    step_knows d (client_notes n c l o e) = record {
      beneath = k.beneath;
      roams = k.roams;
      same = record { servers = k.same.servers; clients = same_written (note c l ∷ []) b.clients k.beneath.clients n o (bare_open o) k.same.clients refl e (k.clients_open n o e) };
      lines = λ g q d nz unmarked. k.lines g q d nz unmarked;
      histories = λ g q. ⊎_elim (λ old. k.histories g old)
          (λ late. subst (λ z. HistoryKept p k.beneath.servers z) (sym late.1) (history_noted k.beneath.servers (plain o.file) c l late.0 (k.histories o.file (k.clients_open n o e))))
          (all_new (note c l ∷ []) b.clients n o g q);
      servers_open = k.servers_open;
      clients_open = all_open (note c l ∷ []) b.clients n o k.clients_open;
    }

  pub all_know : (b : Stores) → Stands p is_old b → Knows b
  all_know b Rattle.lives_law.specs.Stored.Stands.at_first = first_knows
  all_know b (Rattle.lives_law.specs.Stored.Stands.by_step {a = a} s o) = step_knows a (all_know a s) b o

  -- ---- two files that agree

  module _ (b : Stores) (f : List (Written (Noted ServerRecord))) (g : List (Written (Noted ClientRecord))) (stands : Stands p is_old b) (t : Agree p is_old b f g) where
    knows : Knows b
    knows = all_know b stands

    server_is : plain (bare_file f) ≡ bare (plain f)
    server_is = plain_bare f

    client_is : plain (bare_file g) ≡ bare (plain g)
    client_is = plain_bare g

    abbrev Reads : List ClientRecord → Type 0
    Reads l = (tooks_of l ≡ []) ⊎ ((number life : ℕ) × HasHistory p knows.beneath.servers l number life × Mark is_entry (bare_file f) number life)

    abbrev IsRead : List ServerRecord → Type 0
    IsRead l = (count (server_of p l) (ident_at p l t.id) ≡ 0) ⊎ ((life : ℕ) × (h : HasLine p knows.beneath.clients (server_of p l) (ident_at p l t.id) life) × Mark is_made (bare_file g) h.number life)

    reads : (tooks_of (bare (plain g)) ≡ []) ⊎ ((number life : ℕ) × HasHistory p knows.beneath.servers (bare (plain g)) number life × Mark is_entry (bare_file f) number life)
    reads = ⊎_elim (λ z. inl z) (λ h. on h.0 h.1 h.2 h.3 h.4 (knows.histories g t.client_kept)) t.reads
      where
        on : (number life : ℕ) → length (tooks_of (bare (plain g))) ≡ suc number → (kept_of took_by 0 (plain g)).last ≡ Some life → Mark is_entry (bare_file f) number life → HistoryKept p knows.beneath.servers (plain g)
            → (tooks_of (bare (plain g)) ≡ []) ⊎ ((number life : ℕ) × HasHistory p knows.beneath.servers (bare (plain g)) number life × Mark is_entry (bare_file f) number life)
        on number life counted last m (inl z) = inl z
        on number life counted last m (inr q) =
            let same : life ≡ q.1 = some_is (sym last ∙ q.2) in
            let n = q.3.counted in
            let place : number ≡ q.0 = omega arith in
            inr (q.0, q.1, q.3, subst (λ l. Mark is_entry (bare_file f) q.0 l) same (subst (λ x. Mark is_entry (bare_file f) x life) place m))

    is_read : (count (server_of p (bare (plain f))) (ident_at p (bare (plain f)) t.id) ≡ 0) ⊎ ((life : ℕ) × (h : HasLine p knows.beneath.clients (server_of p (bare (plain f))) (ident_at p (bare (plain f)) t.id) life) × Mark is_made (bare_file g) h.number life)
    is_read = ⊎_elim (λ z. inl z) (λ h. on h.0 h.1 h.3 h.4 h.5 (knows.lines f t.server_kept (ident_at p (bare (plain f)) t.id) h.2 (λ id is aged. t.new (subst (λ u. is_old u ≡ true) (one_uuid id t.id (server_of p (bare (plain f))).ids is h.2) aged)))) t.is_read
      where
        on : (number life : ℕ) → count (server_of p (bare (plain f))) (ident_at p (bare (plain f)) t.id) ≡ suc number → (kept_of entry_by (ident_at p (bare (plain f)) t.id) (plain f)).last ≡ Some life → Mark is_made (bare_file g) number life → LineKept p knows.beneath.clients (plain f) (ident_at p (bare (plain f)) t.id)
            → (count (server_of p (bare (plain f))) (ident_at p (bare (plain f)) t.id) ≡ 0) ⊎ ((life : ℕ) × (h : HasLine p knows.beneath.clients (server_of p (bare (plain f))) (ident_at p (bare (plain f)) t.id) life) × Mark is_made (bare_file g) h.number life)
        on number life counted last m (inl z) = inl z
        on number life counted last m (inr q) =
            let same : life ≡ q.0 = some_is (sym last ∙ q.1) in
            let n = q.2.counted in
            let place : number ≡ q.2.number = omega arith in
            inr (q.0, q.2, subst (λ l. Mark is_made (bare_file g) q.2.number l) same (subst (λ x. Mark is_made (bare_file g) x life) place m))

    meets : Meets p is_old knows.beneath (bare_file f) (bare_file g)
    meets = record {
      server_kept = knows.same.servers.kept f t.server_kept;
      client_kept = knows.same.clients.kept g t.client_kept;
      id = t.id;
      born = subst (λ l. (client_of p l).id ≡ Some t.id) (sym client_is) t.born;
      ident = subst (λ l. ((client_of p (plain (bare_file g))).ident ≡ 0) ⊎ ((client_of p (plain (bare_file g))).ident ≡ ident_at p l t.id)) (sym server_is) (subst (λ l. ((client_of p l).ident ≡ 0) ⊎ ((client_of p l).ident ≡ ident_at p (bare (plain f)) t.id)) (sym client_is) t.ident);
      reads = subst Reads (sym client_is) reads;
      is_read = subst IsRead (sym server_is) is_read;
    }

    pub agreeing_fit : {Fits : S → Type 0} → Lawful p Fits → Fit p (bare (plain f)) (bare (plain g))
    agreeing_fit law = subst (λ l. Fit p l (bare (plain g))) server_is (subst (λ l. Fit p (plain (bare_file f)) l) client_is (meeting_fits p is_old law knows.beneath (bare_file f) (bare_file g) knows.roams meets))
