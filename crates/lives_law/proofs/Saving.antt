-- Worlds of heirs over files that keep lives are worlds of heirs.
use Rattle.std.proofs.Common.{◌≡◌, ◌⊎◌, inl, inr, ⊎_elim, ℕ, zero, suc, ◌+◌, ◌-◌, ◌≤◌, Bool, true, false, ◌&&◌, not, List, [], ◌∷◌, ◌++◌, Option, Some, None, refl, sym, ap, ap₂, ◌∙◌, subst, arith, append-nil, length, take, drop, length-append, if◌then◌else◌, ◌==◌, eqb-true}
use Rattle.sync_theory.specs.World.{put_at}
use Rattle.sync_model.specs.Bytes.{Uuid}
use Rattle.sync_model.specs.Profile.{Profile}
use Rattle.sync_model.specs.Each.{Each, no_more}
use Rattle.sync_model.specs.Messages.{Change, Sent, Download}
use Rattle.sync_model.specs.Clients.{ClientRecord, client_of, tooks_of, take as take_message}
use Rattle.sync_model.specs.Servers.{Server, ServerRecord, Client, Entry, Form, Retired, Settled, Part, Floor, Count, Carried, Past, no_server, server_of, after_server, after_all, count, is_given, merge, serve_changes}
use Rattle.sync_model.specs.Files.{is_fine, is_second, server_admits, server_opens as server_opens_by}
use Rattle.sync_model.proofs.Alone.{both_true}
use Rattle.sync_model.proofs.Lists.{take_all}
use Rattle.sync_model.proofs.Opening.{changes_open, ids_after}
use Rattle.lives_law.specs.Lives.{Written, Files, Open, Among, here, there, Mark, tally}
use Rattle.lives_law.specs.Instances.{plain, is_made}
use Rattle.lives_law.specs.Roaming.{NoEntry, NoneIs, AllFollow, written_all}
use Rattle.lives_law.specs.Heirs.{Act, is_act, World, Comes, by, Happens, reopens, from_nothing, at_first, Entry as Told}
use Rattle.lives_law.specs.Stored.{Noted, it, note, Kept, entry_by, took_by, is_by, bare, bare_file, keeps, keeps_all, kept_of, with_notes, Passage, passes, Stores, no_stores, upload_records, download_records, IsUploadOf, IsDownloadOf, Occurs, server_opens, client_opens, server_writes, client_writes, server_takes, server_takes_old, client_takes, server_notes, client_notes, Stands, SameBy}
use Rattle.lives_law.specs.Saving.{IsLabel, act_of, acts_from, acts, told_from, noted_by, nothing_noted, history, AllNew, IsDone, Saving, HeirsBeneath, token_of, one_told}
use Rattle.lives_law.proofs.Lists.{take_nil, at_long}
use Rattle.lives_law.proofs.Taking.{at_dropped}
use Rattle.lives_law.proofs.Uploads.{long_drop}
use Rattle.lives_law.proofs.Heirs.{among_right}
use Rattle.lives_law.proofs.Notes.{plain_bare, same_opened, count_by, count_is, cut_bare}
use Rattle.lives_law.proofs.Passages.{Passed, passed}
use Rattle.lives_law.proofs.Roaming.{given_not_zero, all_new, only_empty, all_follow}
use Rattle.lives_law.proofs.Stored.{LineKept, server_on, taken}
use Rattle.lives_law.proofs.Standing.{Knows, all_know, one_bare, none_bare}
use Rattle.lives_law.proofs.Acting.{act_mark, act_one, acts_written, honest_more, takes_none, each_take}
use Rattle.lives_law.proofs.Telling.{entries_in, told_both, told_none, noted_same, log_long, all_own, Ran, none_ran, run}

module _ {I S : Type 0} (p : Profile I S) (is_old : Uuid → Bool) (label : ℕ → ℕ → Act) (is : IsLabel label) where
  -- ---- the last entry of an ident in a history

  record LastTold (c : ℕ) (s : Server I) (k : Kept) (noted : ℕ → Option ℕ) (xs : List (Noted ServerRecord)) (life : ℕ) : Type 0 where
    entry : Told
    among : Among entry (told_from label noted xs)
    number : suc entry.number ≡ count (after_all p s (bare xs)) c
    is_life : entry.life ≡ life

  abbrev LastOf : ℕ → Server I → Kept → (ℕ → Option ℕ) → List (Noted ServerRecord) → ℕ → Type 0
  LastOf c s k noted xs life = ((count (after_all p s (bare xs)) c ≡ count s c) × (k.last ≡ Some life)) ⊎ LastTold c s k noted xs life

  last_told : (c : ℕ) (xs : List (Noted ServerRecord)) (s : Server I) (k : Kept) (noted : ℕ → Option ℕ) → k.noted ≡ noted c → server_opens_by p s (bare xs) ≡ true → (life : ℕ) → (keeps_all entry_by c k xs).last ≡ Some life → LastOf c s k noted xs life
  last_told c [] s k noted e opens life last = inl (refl, last)
  last_told c (note d l ∷ xs) s k noted e opens life last =
      ⊎_elim (λ h. inl (h.0, sym (kept_last (c == d)) ∙ h.1)) (λ h. inr (record { entry = h.entry; among = h.among; number = h.number; is_life = h.is_life }))
      (last_told c xs s (keeps entry_by c k (note d l)) (put_at d (Some l) noted) (on (c == d)) opens life last)
    where
      on : (b : Bool) → (if b then record k { noted = Some l } else k).noted ≡ (if b then Some l else noted c)
      on true = refl
      on false = e

      kept_last : (b : Bool) → (if b then record k { noted = Some l } else k).last ≡ k.last
      kept_last true = refl
      kept_last false = refl
  last_told c (it r ∷ xs) s k noted e opens life last =
      let b = both_true (server_admits p s r) (server_opens_by p (after_server p s r) (bare xs)) opens in
      on r b.0 last (λ q f l. last_told c xs (after_server p s r) q noted f b.1 life l)
    where
      Rest : ServerRecord → Type 0
      Rest r = (q : Kept) → q.noted ≡ noted c → (keeps_all entry_by c q xs).last ≡ Some life → LastOf c (after_server p s r) q noted xs life

      same : (r : ServerRecord) → count (after_server p s r) c ≡ count s c → told_from label noted (it r ∷ xs) ≡ told_from label noted xs → LastOf c (after_server p s r) k noted xs life → LastOf c s k noted (it r ∷ xs) life
      same r n t (inl h) = inl (h.0 ∙ n, h.1)
      same r n t (inr h) = inr (record { entry = h.entry; among = subst (λ l. Among h.entry l) (sym t) h.among; number = h.number; is_life = h.is_life })

      entered : (origin number base ms : ℕ) (body : List ℕ) (b : Bool) → (c == origin) ≡ b → server_admits p s (Entry origin number base ms body) ≡ true → (keeps_all entry_by c (if b then record k { last = k.noted } else k) xs).last ≡ Some life → Rest (Entry origin number base ms body) → LastOf c s k noted (it (Entry origin number base ms body) ∷ xs) life
      entered origin number base ms body false ne ad l rest =
          let counted : count (after_server p s (Entry origin number base ms body)) c ≡ count s c =
          (let a = count_is p (Entry origin number base ms body ∷ []) s c in let d : count_by entry_by c (Entry origin number base ms body ∷ []) ≡ 0 = ap (λ q. if q then 1 else 0) ne in omega arith) in
          ⊎_elim (λ h. inl (h.0 ∙ counted, h.1)) (λ h. inr (record { entry = h.entry; among = among_right (one_told label (noted origin) number) (told_from label noted xs) h.entry h.among; number = h.number; is_life = h.is_life })) (rest k e l)
      entered origin number base ms body true mine ad l rest =
          let o : c ≡ origin = eqb-true c origin mine in
          let a = both_true (is_given s origin) ((number == suc (count s origin)) && (not (is_second p (p.unspell body) && not s.second) && is_fine (merge p s origin (record { number = number; base = base; ms = ms; body = body })))) ad in
          let d = both_true (number == suc (count s origin)) (not (is_second p (p.unspell body) && not s.second) && is_fine (merge p s origin (record { number = number; base = base; ms = ms; body = body }))) a.1 in
          let number_is : number ≡ suc (count s c) = eqb-true number (suc (count s origin)) d.0 ∙ ap (λ v. suc (count s v)) (sym o) in
          let counted : count (after_server p s (Entry origin number base ms body)) c ≡ suc (count s c) =
          (let a = count_is p (Entry origin number base ms body ∷ []) s c in let d : count_by entry_by c (Entry origin number base ms body ∷ []) ≡ 1 = ap (λ q. if q then 1 else 0) mine in omega arith) in
          ⊎_elim
          (λ h.
          let n : noted origin ≡ Some life = ap noted (sym o) ∙ sym e ∙ h.1 in
          let told : one_told label (noted origin) number ≡ record { number = count s c; life = life; token = token_of label life (count s c) (label life (count s c)) } ∷ [] = ap₂ (one_told label) n number_is in
          inr (record {
            entry = record { number = count s c; life = life; token = token_of label life (count s c) (label life (count s c)) };
            among = subst (λ z. Among (record { number = count s c; life = life; token = token_of label life (count s c) (label life (count s c)) }) (z ++ told_from label noted xs)) (sym told) here;
            number = sym counted ∙ sym h.0;
            is_life = refl;
          }))
          (λ h. inr (record { entry = h.entry; among = among_right (one_told label (noted origin) number) (told_from label noted xs) h.entry h.among; number = h.number; is_life = h.is_life }))
          (rest (record k { last = k.noted }) e l)

      on : (r : ServerRecord) → server_admits p s r ≡ true → (keeps_all entry_by c (keeps entry_by c k (it r)) xs).last ≡ Some life → Rest r → LastOf c s k noted (it r ∷ xs) life
      on (Client id) ad l rest = same (Client id) refl refl (rest k e l)
      on (Entry origin number base ms body) ad l rest = entered origin number base ms body (c == origin) refl ad l rest
      on Form ad l rest = same Form refl refl (rest k e l)
      on (Retired d by_) ad l rest = same (Retired d by_) refl refl (rest k e l)
      on (Settled d n) ad l rest = same (Settled d n) refl refl (rest k e l)
      on (Part body) ad l rest = same (Part body) refl refl (rest k e l)
      on (Floor version) ad l rest = same (Floor version) refl refl (rest k e l)
      on (Count d n base m) ad l rest = same (Count d n base m) refl refl (rest k e l)
      on (Carried o n base m body) ad l rest = same (Carried o n base m body) refl refl (rest k e l)
      on (Past d v m body) ad l rest = same (Past d v m body) refl refl (rest k e l)

  -- ---- an Upload

  module _ (v : Files ClientRecord) (reached : Rattle.lives_law.specs.Lives.Reached v) (xs : List (Noted ServerRecord)) (opens : server_opens_by p no_server (bare xs) ≡ true) (c : ℕ) (kept_line : LineKept p v xs c) (given : is_given (server_of p (bare xs)) c ≡ true) (m : Passage Change) (f : List (Written ClientRecord)) (kept : Among f v.kept) (u : IsUploadOf p f m) (w : World) (comes : Comes w) (known : Among (history label xs) w.hists) (begun : Among (acts_from label 0 f) w.files.kept) where
    abbrev s : Server I
    s = server_of p (bare xs)

    abbrev rs : List ServerRecord
    rs = (serve_changes p (server_of p (bare xs)) c m.tells).records

    abbrev ls : List ℕ
    ls = drop (suc (count (server_of p (bare xs)) c - m.from)) m.lives

    abbrev new : List (Noted ServerRecord)
    new = with_notes entry_by c (kept_of entry_by c xs).noted (drop (suc (count (server_of p (bare xs)) c - m.from)) m.lives) (serve_changes p (server_of p (bare xs)) c m.tells).records

    abbrev noted : ℕ → Option ℕ
    noted = noted_by nothing_noted xs

    module _ (pass : passes (kept_of entry_by c xs).last (count (server_of p (bare xs)) c) m ≡ true) where
      t : Passed (kept_of entry_by c xs).last (count (server_of p (bare xs)) c) m
      t = passed (kept_of entry_by c xs).last (count (server_of p (bare xs)) c) m pass

      -- each of the new entries has a life in the message
      enough : count_by entry_by c rs ≤ length ls
      enough = on (count_by entry_by c rs) refl
        where
          q : Rattle.lives_law.proofs.Passages.Taken p v reached (bare xs) c (kept_of entry_by c xs).last m f kept u (passed (kept_of entry_by c xs).last (count (server_of p (bare xs)) c) m pass)
          q = taken p v reached xs c kept_line m f kept u pass

          all : after_all p (server_of p (bare xs)) (take (length rs) (serve_changes p (server_of p (bare xs)) c q.hs).records) ≡ after_all p (server_of p (bare xs)) rs
          all = ap (λ l. after_all p (server_of p (bare xs)) (take (length rs) l.records)) (sym q.same) ∙ ap (after_all p (server_of p (bare xs))) (take_all rs)

          counted : count (after_all p (server_of p (bare xs)) (take (length rs) (serve_changes p (server_of p (bare xs)) c q.hs).records)) c ≡ count (server_of p (bare xs)) c + count_by entry_by c rs
          counted = ap (λ (s : Server I). count s c) all ∙ count_is p rs (server_of p (bare xs)) c

          on : (n : ℕ) → count_by entry_by c rs ≡ n → count_by entry_by c rs ≤ length ls
          on zero z = omega arith
          on (suc n) z =
              let le = t.behind in
              let k = counted in
              ⊎_elim (λ e. absurd (omega arith))
              (λ h.
              let number = h.1.counted in
              let inside = at_long m.lives (suc h.1.number - m.from) h.0 h.2 in
              let long = long_drop p (suc (count (server_of p (bare xs)) c - m.from)) m.lives (omega arith) in
              omega arith)
              (q.after (length rs))

      line : (count (server_of p (bare xs)) c ≡ 0) ⊎ ((e : Told) × Among e (history label xs) × (suc e.number ≡ count (server_of p (bare xs)) c) × Mark is_act (acts_from label 0 f) e.number e.life)
      line = ⊎_elim (λ z. inl z) (λ h. inr (on h.0 h.1 (h.2.counted))) kept_line
        where
          on : (life : ℕ) → (kept_of entry_by c xs).last ≡ Some life → {number : ℕ} → count (server_of p (bare xs)) c ≡ suc number → (e : Told) × Among e (history label xs) × (suc e.number ≡ count (server_of p (bare xs)) c) × Mark is_act (acts_from label 0 f) e.number e.life
          on life last {number = number} counted = ⊎_elim
              (λ z. absurd (none z.1))
              (λ e.
              let le = t.behind in
              let n = e.number in
              let mark : Mark is_made f e.entry.number life = ⊎_elim (λ z. absurd (omega arith)) (λ q. u.lives.marks (count (server_of p (bare xs)) c - m.from) life e.entry.number (q ∙ last) (omega arith)) t.same in
              let act : Mark is_act (acts_from label 0 f) e.entry.number life = (act_mark label is f e.entry.number life mark).mark in
              (e.entry, e.among, e.number, subst (λ l. Mark is_act (acts_from label 0 f) e.entry.number l) (sym e.is_life) act))
              (last_told c xs no_server (record { noted = None; last = None }) nothing_noted refl opens life last)
            where
              none : None ≡ Some life → ⊥
              none h = cc

      ran_new : (j : ℕ) → AllNew label (history label xs) (told_from label noted (take j new)) → Ran p label is c f w (history label xs) noted (take j new)
      ran_new j nn = run p label is c f rs ls j (kept_of entry_by c xs).noted noted (server_of p (bare xs)) (history label xs) w
          (record {
            comes = comes;
            known = known;
            kept = begun;
            marks = λ i l e.
                let le = t.behind in
                u.lives.marks (suc (count (server_of p (bare xs)) c - m.from) + i) l (count (server_of p (bare xs)) c + i) (at_dropped (suc (count (server_of p (bare xs)) c - m.from)) m.lives i l e) (omega arith);
            enough = enough;
            line = line;
          })
          (sym (noted_same label c xs (record { noted = None; last = None }) nothing_noted refl))
          (changes_open p m.tells (server_of p (bare xs)) c given (λ x n h e. ids_after p x n c h e))
          (all_own p m.tells (server_of p (bare xs)) c)
          nn

    pub ran : (j : ℕ) → AllNew label (history label xs) (told_from label noted (take j (upload_records p xs c m))) → Ran p label is c f w (history label xs) noted (take j (upload_records p xs c m))
    ran j = on (passes (kept_of entry_by c xs).last (count (server_of p (bare xs)) c) m) refl
      where
        on : (b : Bool) → passes (kept_of entry_by c xs).last (count (server_of p (bare xs)) c) m ≡ b → AllNew label (history label xs) (told_from label noted (take j (if b then new else []))) → Ran p label is c f w (history label xs) noted (take j (if b then new else []))
        on true pass nn = ran_new pass j nn
        on false pass nn = subst (λ l. Ran p label is c f w (history label xs) noted l) (sym (take_nil j)) (none_ran p label is c f w (history label xs) noted comes known)

  -- ---- each step

  abbrev All : List (Noted ServerRecord) → Type 0
  All xs = length (history label xs) ≡ length (server_of p (bare xs)).log

  pub record Saves (b : Stores) : Type 0 where
    stands : Stands p is_old b
    world : World
    comes : Comes world
    same : SameBy (acts label) b.clients world.files
    histories : (f : List (Written (Noted ServerRecord))) → Among f b.servers.kept → Among (history label (plain f)) world.hists
    all : (f : List (Written (Noted ServerRecord))) → Among f b.servers.kept → length (history label (plain f)) ≡ length (server_of p (bare (plain f))).log

  first_saves : Saves no_stores
  first_saves = record {
    stands = Rattle.lives_law.specs.Stored.Stands.at_first;
    world = at_first;
    comes = from_nothing;
    same = record { kept = λ f a. first a; nodes = λ n. refl; used = refl };
    histories = λ f a. subst (λ l. Among (history label (plain l)) at_first.hists) (sym (only_empty p a)) here;
    all = λ f a. subst (λ l. All (plain l)) (sym (only_empty p a)) refl;
  }
    where
      first : {f : List (Written (Noted ClientRecord))} → Among f (Rattle.lives_law.specs.Lives.no_files {R = Noted ClientRecord}).kept → Among (acts label f) (Rattle.lives_law.specs.Lives.no_files {R = Act}).kept
      first a = subst (λ l. Among (acts label l) (Rattle.lives_law.specs.Lives.no_files {R = Act}).kept) (sym (only_empty p a)) here

  history_both : (xs ys : List (Noted ServerRecord)) → history label (xs ++ ys) ≡ history label xs ++ told_from label (noted_by nothing_noted xs) ys
  history_both xs ys = told_both label xs ys nothing_noted

  all_both : (xs ys : List (Noted ServerRecord)) → All xs → length (told_from label (noted_by nothing_noted xs) ys) ≡ entries_in (bare ys) → All (xs ++ ys)
  all_both xs ys e told =
      let a = ap length (history_both xs ys) in
      let b = length-append (history label xs) (told_from label (noted_by nothing_noted xs) ys) in
      let c = ap (λ (s : Server I). length s.log) (server_on p xs ys) in
      let d = log_long p (bare ys) (server_of p (bare xs)) in
      omega arith

  -- a record that is no entry
  none_in : (r : ServerRecord) → NoEntry r → (i : ℕ) → entries_in (take i (r ∷ [])) ≡ 0
  none_in r h zero = refl
  none_in r h (suc i) = ap (λ l. entries_in (r ∷ l)) (take_nil i) ∙ one r h
    where
      one : (r : ServerRecord) → NoEntry r → entries_in (r ∷ []) ≡ 0
      one (Client id) h = refl
      one (Entry origin number base ms body) h = absurd h
      one Form h = refl
      one (Retired c by_) h = refl
      one (Settled c n) h = refl
      one (Part body) h = refl
      one (Floor version) h = refl
      one (Count c n b m) h = refl
      one (Carried o n b m body) h = refl
      one (Past c v m body) h = refl

  -- a note alone
  note_told : (noted : ℕ → Option ℕ) (c l i : ℕ) → told_from label noted (take i (note c l ∷ [])) ≡ []
  note_told noted c l zero = refl
  note_told noted c l (suc i) = ap (told_from label (put_at c (Some l) noted)) (take_nil i)

  module _ (a : Stores) (k : Saves a) where
    knows : Knows p is_old a
    knows = all_know p is_old a k.stands

    follows : AllFollow p is_old knows.beneath
    follows = all_follow p is_old knows.beneath knows.roams

    server_kept : (n : ℕ) (o : Open (Noted ServerRecord)) → a.servers.nodes n ≡ Some o → Among o.file a.servers.kept
    server_kept n o e = knows.servers_open n o e

    opened_file : (n : ℕ) (o : Open (Noted ServerRecord)) → a.servers.nodes n ≡ Some o → server_opens_by p no_server (bare (plain o.file)) ≡ true
    opened_file n o e = subst (λ l. server_opens_by p no_server l ≡ true) (plain_bare o.file) (follows.servers_fine (bare_file o.file) (knows.same.servers.kept o.file (server_kept n o e)))

    -- a server's file goes on by records that tell so many entries
    gone_on : (ns : List (Noted ServerRecord)) (n : ℕ) (o : Open (Noted ServerRecord)) (u : World) → a.servers.nodes n ≡ Some o → ((g : List Told) → Among g k.world.hists → Among g u.hists) → ((i : ℕ) → Among (history label (plain o.file) ++ told_from label (noted_by nothing_noted (plain o.file)) (take i ns)) u.hists)
        → (g : List (Written (Noted ServerRecord))) → Among g (written_all a.servers n o ns).kept → Among (history label (plain g)) u.hists
    gone_on ns n o u e old new g q = ⊎_elim (λ was. old (history label (plain g)) (k.histories g was))
        (λ late. subst (λ l. Among (history label l) u.hists) (sym late.1) (subst (λ z. Among z u.hists) (sym (history_both (plain o.file) (take late.0 ns))) (new late.0)))
        (all_new ns a.servers n o g q)

    all_gone_on : (ns : List (Noted ServerRecord)) (n : ℕ) (o : Open (Noted ServerRecord)) → a.servers.nodes n ≡ Some o → ((i : ℕ) → length (told_from label (noted_by nothing_noted (plain o.file)) (take i ns)) ≡ entries_in (bare (take i ns)))
        → (g : List (Written (Noted ServerRecord))) → Among g (written_all a.servers n o ns).kept → All (plain g)
    all_gone_on ns n o e whole g q = ⊎_elim (λ was. k.all g was)
        (λ late. subst All (sym late.1) (all_both (plain o.file) (take late.0 ns) (k.all o.file (server_kept n o e)) (whole late.0)))
        (all_new ns a.servers n o g q)

    module _ (n c j : ℕ) (m : Passage Change) (f : List (Written (Noted ClientRecord))) (o : Open (Noted ServerRecord)) (e : a.servers.nodes n ≡ Some o) (given : is_given (server_of p (bare (plain o.file))) c ≡ true) (unmarked : NoneIs p is_old (server_of p (bare (plain o.file))) c) (kept : Among f a.clients.kept) (u : IsUploadOf p (bare_file f) m) (done : AllNew label (history label (plain o.file)) (told_from label (noted_by nothing_noted (plain o.file)) (take j (upload_records p (plain o.file) c m)))) where
      went : Ran p label is c (bare_file f) k.world (history label (plain o.file)) (noted_by nothing_noted (plain o.file)) (take j (upload_records p (plain o.file) c m))
      went = ran knows.beneath.clients follows.clients (plain o.file) (opened_file n o e) c (knows.lines o.file (server_kept n o e) c (given_not_zero p (server_of p (bare (plain o.file))) c given) unmarked) given m (bare_file f) (knows.same.clients.kept f kept) u k.world k.comes (k.histories o.file (server_kept n o e)) (k.same.kept f kept) j done

      server_saves : Saves (record a { servers = written_all a.servers n o (take j (upload_records p (plain o.file) c m)) })
      server_saves = record {
        stands = Rattle.lives_law.specs.Stored.Stands.by_step k.stands (server_takes n c j m f o e given unmarked kept u);
        world = went.world;
        comes = went.comes;
        same = subst (λ v. SameBy (acts label) a.clients v) (sym went.files) k.same;
        histories = gone_on (take j (upload_records p (plain o.file) c m)) n o went.world e went.old went.new;
        all = all_gone_on (take j (upload_records p (plain o.file) c m)) n o e went.whole;
      }

    -- what a client takes is no transaction
    none_made : (o : Open (Noted ClientRecord)) (ident j : ℕ) (m : Passage Sent) → Each (λ r. is_made r ≡ false) (bare (take j (download_records p (plain o.file) ident m)))
    none_made o ident j m = on (passes (kept_of took_by 0 (plain o.file)).last (length (tooks_of (bare (plain o.file)))) m)
      where
        on : (b : Bool) → Each (λ r. is_made r ≡ false) (bare (take j (if b then with_notes took_by 0 (kept_of took_by 0 (plain o.file)).noted (drop (suc (length (tooks_of (bare (plain o.file))) - m.from)) m.lives) (take_message p (client_of p (bare (plain o.file))) (Download ident m.from m.tells)).records else [])))
        on true =
            let cut = cut_bare took_by 0 (take_message p (client_of p (bare (plain o.file))) (Download ident m.from m.tells)).records (drop (suc (length (tooks_of (bare (plain o.file))) - m.from)) m.lives) (kept_of took_by 0 (plain o.file)).noted j in
            subst (λ l. Each (λ r. is_made r ≡ false) l) (sym cut.1) (each_take cut.0 (take_message p (client_of p (bare (plain o.file))) (Download ident m.from m.tells)).records (takes_none p (client_of p (bare (plain o.file))) ident m.from m.tells))
        on false = subst (λ l. Each (λ r. is_made r ≡ false) (bare l)) (sym (take_nil j)) no_more

    step_saves : (d : Stores) (o : Occurs p is_old a d) → IsDone label p is_old o → Saves d
    step_saves d (server_opens n l f q fresh) done = record {
      stands = Rattle.lives_law.specs.Stored.Stands.by_step k.stands (server_opens n l f q fresh);
      world = k.world;
      comes = k.comes;
      same = k.same;
      histories = k.histories;
      all = k.all;
    }
    step_saves d (client_opens n l f q fresh) done = record {
      stands = Rattle.lives_law.specs.Stored.Stands.by_step k.stands (client_opens n l f q fresh);
      world = record k.world { files = Rattle.lives_law.specs.Lives.opened k.world.files n l (acts label f) };
      comes = by k.comes (Rattle.lives_law.specs.Heirs.Happens.client (reopens n l (acts label f) (k.same.kept f q) (λ u. fresh (subst (λ x. Among l x) k.same.used u))));
      same = same_opened (acts label) a.clients k.world.files n l f k.same q;
      histories = k.histories;
      all = k.all;
    }
    step_saves d (server_writes n o r e may ok) done =
        let told : (i : ℕ) → told_from label (noted_by nothing_noted (plain o.file)) (take i (it r ∷ [])) ≡ [] = told_none label r may (noted_by nothing_noted (plain o.file)) in
        record {
          stands = Rattle.lives_law.specs.Stored.Stands.by_step k.stands (server_writes n o r e may ok);
          world = k.world;
          comes = k.comes;
          same = k.same;
          histories = gone_on (it r ∷ []) n o k.world e (λ g q. q) (λ i. subst (λ z. Among z k.world.hists) (sym (ap (λ x. history label (plain o.file) ++ x) (told i) ∙ append-nil (history label (plain o.file)))) (k.histories o.file (server_kept n o e)));
          all = all_gone_on (it r ∷ []) n o e (λ i. ap length (told i) ∙ sym (none_in r may i) ∙ ap entries_in (sym (one_bare p is_old r i)));
        }
    step_saves d (client_writes n o r e may ok) done =
        let one = act_one label is a.clients k.world n o r k.comes k.same e (honest_more label is a.clients k.world.files k.same (act_of label o.life (tally is_made (bare_file o.file)) r) done) in
        record {
          stands = Rattle.lives_law.specs.Stored.Stands.by_step k.stands (client_writes n o r e may ok);
          world = one.0;
          comes = one.1.comes;
          same = one.1.same;
          histories = λ g q. subst (λ h. Among (history label (plain g)) h) (sym one.1.hists) (k.histories g q);
          all = k.all;
        }
    step_saves d (server_takes n c j m f o e given unmarked kept u) done = server_saves n c j m f o e given unmarked kept u done
    step_saves d (server_takes_old n c j id hs o e given is_id aged) done = absurd done
    step_saves d (client_takes n ident j m f o e ok kept u) done =
        let some = acts_written label is (take j (download_records p (plain o.file) ident m)) a.clients k.world n o k.comes k.same e (knows.clients_open n o e) (none_made o ident j m) in
        record {
          stands = Rattle.lives_law.specs.Stored.Stands.by_step k.stands (client_takes n ident j m f o e ok kept u);
          world = some.0;
          comes = some.1.comes;
          same = some.1.same;
          histories = λ g q. subst (λ h. Among (history label (plain g)) h) (sym some.1.hists) (k.histories g q);
          all = k.all;
        }
    step_saves d (server_notes n c l o e) done =
        let told : (i : ℕ) → told_from label (noted_by nothing_noted (plain o.file)) (take i (note c l ∷ [])) ≡ [] = note_told (noted_by nothing_noted (plain o.file)) c l in
        record {
          stands = Rattle.lives_law.specs.Stored.Stands.by_step k.stands (server_notes n c l o e);
          world = k.world;
          comes = k.comes;
          same = k.same;
          histories = gone_on (note c l ∷ []) n o k.world e (λ g q. q) (λ i. subst (λ z. Among z k.world.hists) (sym (ap (λ x. history label (plain o.file) ++ x) (told i) ∙ append-nil (history label (plain o.file)))) (k.histories o.file (server_kept n o e)));
          all = all_gone_on (note c l ∷ []) n o e (λ i. ap length (told i) ∙ ap entries_in (sym (none_bare p is_old c l i)));
        }
    step_saves d (client_notes n c l o e) done =
        let some = acts_written label is (note c l ∷ []) a.clients k.world n o k.comes k.same e (knows.clients_open n o e) no_more in
        record {
          stands = Rattle.lives_law.specs.Stored.Stands.by_step k.stands (client_notes n c l o e);
          world = some.0;
          comes = some.1.comes;
          same = some.1.same;
          histories = λ g q. subst (λ h. Among (history label (plain g)) h) (sym some.1.hists) (k.histories g q);
          all = k.all;
        }

  all_save : (b : Stores) → Saving label p is_old b → Saves b
  all_save b Rattle.lives_law.specs.Saving.Saving.at_first = first_saves
  all_save b (Rattle.lives_law.specs.Saving.Saving.by_step {a = a} s o done) = step_saves a (all_save a s) b o done

  pub heirs_beneath : (b : Stores) → Saving label p is_old b → HeirsBeneath label p is_old b
  heirs_beneath b s = let k = all_save b s in record { world = k.world; comes = k.comes; files = k.same.kept; histories = k.histories; all = k.all }

  -- and these are worlds as in `Stored`
  pub all_stand : (b : Stores) → Saving label p is_old b → Stands p is_old b
  all_stand b s = (all_save b s).stands
