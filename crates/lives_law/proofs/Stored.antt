-- Worlds in which each node tests by what stands in its own file are worlds of roaming files.
use Rattle.std.proofs.Common.{◌≡◌, ◌≢◌, ◌⊎◌, inl, inr, ⊎_elim, ℕ, zero, suc, ◌+◌, ◌-◌, ◌≤◌, Bool, true, false, List, [], ◌++◌, Some, None, refl, sym, ap, ◌∙◌, subst, arith, append-nil, length, take, drop, length-append, if◌then◌else◌}
use Rattle.sync_theory.specs.Logs.{of_origin}
use Rattle.sync_theory.proofs.World.{same_or_not}
use Rattle.sync_model.specs.Profile.{Profile}
use Rattle.sync_model.specs.Each.{Each}
use Rattle.sync_model.specs.Limits.{IsMessage}
use Rattle.sync_model.specs.Messages.{Change, Sent, Download}
use Rattle.sync_model.specs.Clients.{ClientRecord, client_of, tooks_of, take as take_message}
use Rattle.sync_model.specs.Servers.{Server, ServerRecord, no_server, server_of, after_all, count, serve_changes}
use Rattle.sync_model.specs.Worlds.{at}
use Rattle.sync_model.proofs.Own.{tooks_append}
use Rattle.lives_law.specs.Lives.{Written, Files, Open, Among, Reached, opened}
use Rattle.lives_law.specs.Instances.{is_entry, is_made}
use Rattle.lives_law.specs.Uploads.{HasLine, changes_of}
use Rattle.lives_law.specs.Passing.{HasHistory, history_told}
use Rattle.lives_law.specs.Pair.{IsWhole}
use Rattle.lives_law.specs.Roaming.{written_all}
use Rattle.lives_law.specs.Stored.{Noted, Kept, entry_by, took_by, bare, keeps_all, kept_of, with_notes, Passage, passes, upload_records, download_records, IsUploadOf, IsDownloadOf}
use Rattle.lives_law.proofs.Instances.{all_on}
use Rattle.lives_law.proofs.Lists.{take_nil}
use Rattle.lives_law.proofs.Taking.{at_to_drop}
use Rattle.lives_law.proofs.Notes.{bare_both, count_by, cut_bare, quiet, ends, keeps_both, count_is, tooks_are}
use Rattle.lives_law.proofs.Passages.{passed, Taken, upload_taken, Got, download_taken}
use Rattle.lives_law.proofs.Roaming.{all_stay, beside_cut}

module _ {I S : Type 0} (p : Profile I S) where
  -- what a server's file has of an ident, none or a line up to the life that it keeps
  abbrev pub LineKept : Files ClientRecord → List (Noted ServerRecord) → ℕ → Type 0
  LineKept v xs c = (count (server_of p (bare xs)) c ≡ 0) ⊎ ((life : ℕ) × ((kept_of entry_by c xs).last ≡ Some life) × HasLine p v (server_of p (bare xs)) c life)

  abbrev pub HistoryKept : Files ServerRecord → List (Noted ClientRecord) → Type 0
  HistoryKept w xs = (tooks_of (bare xs) ≡ []) ⊎ ((number life : ℕ) × ((kept_of took_by 0 xs).last ≡ Some life) × HasHistory p w (bare xs) number life)

  -- ---- other files may change

  pub line_grows : (v : Files ClientRecord) (rs : List ClientRecord) (n : ℕ) (o : Open ClientRecord) (xs : List (Noted ServerRecord)) (c : ℕ) → LineKept v xs c → LineKept (written_all v n o rs) xs c
  line_grows v rs n o xs c (inl z) = inl z
  line_grows v rs n o xs c (inr h) = let l = h.2 in inr (h.0, h.1, record { has = l.has; number = l.number; log = l.log; counted = l.counted; line = all_stay is_made (changes_of p) rs v n o (record { number = l.number; life = h.0; has = l.has }) l.line })

  pub line_opens : (v : Files ClientRecord) (n k : ℕ) (f : List (Written ClientRecord)) (xs : List (Noted ServerRecord)) (c : ℕ) → LineKept v xs c → LineKept (opened v n k f) xs c
  line_opens v n k f xs c (inl z) = inl z
  line_opens v n k f xs c (inr h) = let l = h.2 in let q = l.line in inr (h.0, h.1, record { has = l.has; number = l.number; log = l.log; counted = l.counted; line = record { file = q.file; kept = q.kept; mark = q.mark; has = q.has } })

  pub history_grows : (w : Files ServerRecord) (rs : List ServerRecord) (n : ℕ) (o : Open ServerRecord) (xs : List (Noted ClientRecord)) → HistoryKept w xs → HistoryKept (written_all w n o rs) xs
  history_grows w rs n o xs (inl z) = inl z
  history_grows w rs n o xs (inr h) = let q = h.3 in inr (h.0, h.1, h.2, record { has = q.has; line = all_stay is_entry (history_told p) rs w n o (record { number = h.0; life = h.1; has = q.has }) q.line; counted = q.counted; took = q.took })

  pub history_opens : (w : Files ServerRecord) (n k : ℕ) (f : List (Written ServerRecord)) (xs : List (Noted ClientRecord)) → HistoryKept w xs → HistoryKept (opened w n k f) xs
  history_opens w n k f xs (inl z) = inl z
  history_opens w n k f xs (inr h) = let q = h.3 in let l = q.line in inr (h.0, h.1, h.2, record { has = q.has; line = record { file = l.file; kept = l.kept; mark = l.mark; has = l.has }; counted = q.counted; took = q.took })

  -- ---- a server's file goes on

  pub server_on : (xs ys : List (Noted ServerRecord)) → server_of p (bare (xs ++ ys)) ≡ after_all p (server_of p (bare xs)) (bare ys)
  server_on xs ys = ap (server_of p) (bare_both xs ys) ∙ all_on p no_server (bare xs) (bare ys)

  -- by records of others
  pub line_beside : (v : Files ClientRecord) (xs ys : List (Noted ServerRecord)) (d : ℕ) → of_origin d (after_all p (server_of p (bare xs)) (bare ys)).log ≡ of_origin d (server_of p (bare xs)).log → LineKept v xs d → LineKept v (xs ++ ys) d
  line_beside v xs ys d same h =
      let on = server_on xs ys in
      let log : of_origin d (server_of p (bare (xs ++ ys))).log ≡ of_origin d (server_of p (bare xs)).log = ap (λ (s : Server I). of_origin d s.log) (server_on xs ys) ∙ same in
      let counted = count_is p (bare ys) (server_of p (bare xs)) d in
      let long = ap length same in
      let none : count_by entry_by d (bare ys) ≡ 0 = omega arith in
      let last : (kept_of entry_by d (xs ++ ys)).last ≡ (kept_of entry_by d xs).last = ap (λ (k : Kept). k.last) (keeps_both entry_by d xs ys (record { noted = None; last = None })) ∙ quiet entry_by d ys (kept_of entry_by d xs) none in
      ⊎_elim (λ z. inl (ap length log ∙ z)) (λ l. let q = l.2 in inr (l.0, last ∙ l.1, record { has = q.has; number = q.number; log = log ∙ q.log; counted = ap length log ∙ q.counted; line = q.line })) h

  module _ (v : Files ClientRecord) (reached : Reached v) (xs : List (Noted ServerRecord)) (c : ℕ) (line : LineKept v xs c) (m : Passage Change) (f : List (Written ClientRecord)) (kept : Among f v.kept) (u : IsUploadOf p f m) where
    abbrev s : Server I
    s = server_of p (bare xs)

    abbrev now : Kept
    now = kept_of entry_by c xs

    abbrev rs : List ServerRecord
    rs = (serve_changes p (server_of p (bare xs)) c m.tells).records

    abbrev told : List ℕ
    told = drop (suc (count (server_of p (bare xs)) c - m.from)) m.lives

    abbrev new : List (Noted ServerRecord)
    new = with_notes entry_by c (kept_of entry_by c xs).noted (drop (suc (count (server_of p (bare xs)) c - m.from)) m.lives) (serve_changes p (server_of p (bare xs)) c m.tells).records

    module _ (pass : passes (kept_of entry_by c xs).last (count (server_of p (bare xs)) c) m ≡ true) where
      pub taken : Taken p v reached (bare xs) c (kept_of entry_by c xs).last m f kept u (passed (kept_of entry_by c xs).last (count (server_of p (bare xs)) c) m pass)
      taken = upload_taken p v reached (bare xs) c (kept_of entry_by c xs).last m f kept u (passed (kept_of entry_by c xs).last (count (server_of p (bare xs)) c) m pass) line

      line_now : (j : ℕ) → LineKept v (xs ++ take j new) c
      line_now j =
          let t = passed (kept_of entry_by c xs).last (count (server_of p (bare xs)) c) m pass in
          let cut = cut_bare entry_by c rs told now.noted j in
          let there : after_all p (server_of p (bare xs)) (take cut.0 (serve_changes p (server_of p (bare xs)) c taken.hs).records) ≡ server_of p (bare (xs ++ take j new)) =
          ap (λ l. after_all p (server_of p (bare xs)) (take cut.0 l.records)) (sym taken.same) ∙ ap (after_all p (server_of p (bare xs))) (sym cut.1) ∙ sym (server_on xs (take j new)) in
          let counted : count (server_of p (bare (xs ++ take j new))) c ≡ count (server_of p (bare xs)) c + count_by entry_by c (bare (take j new)) = ap (λ (s : Server I). count s c) (server_on xs (take j new)) ∙ count_is p (bare (take j new)) (server_of p (bare xs)) c in
          let kept_is : (kept_of entry_by c (xs ++ take j new)).last ≡ (keeps_all entry_by c (kept_of entry_by c xs) (take j new)).last = ap (λ (k : Kept). k.last) (keeps_both entry_by c xs (take j new) (record { noted = None; last = None })) in
          subst (λ s. (count s c ≡ 0) ⊎ ((l : ℕ) × (at_now : HasLine p v s c l) × (at m.lives (suc at_now.number - m.from) ≡ Some l)) → LineKept v (xs ++ take j new) c) (sym there)
          (λ h. ⊎_elim (λ z. inl z) (λ l. inr (l.0, kept_is ∙ last t.behind t.same (count_by entry_by c (bare (take j new))) refl l.0 l.1.number (l.1.counted) counted l.2, l.1)) h)
          (taken.after cut.0)
        where
          last : m.from ≤ count (server_of p (bare xs)) c → ((count (server_of p (bare xs)) c ≡ 0) ⊎ (at m.lives (count (server_of p (bare xs)) c - m.from) ≡ (kept_of entry_by c xs).last)) → (t : ℕ) → count_by entry_by c (bare (take j new)) ≡ t → (l number : ℕ) → count (server_of p (bare (xs ++ take j new))) c ≡ suc number → count (server_of p (bare (xs ++ take j new))) c ≡ count (server_of p (bare xs)) c + count_by entry_by c (bare (take j new))
              → at m.lives (suc number - m.from) ≡ Some l → (keeps_all entry_by c (kept_of entry_by c xs) (take j new)).last ≡ Some l
          last le tested zero is l number c1 c2 e = quiet entry_by c (take j new) (kept_of entry_by c xs) is ∙ ⊎_elim (λ z. absurd (omega arith)) (λ q. sym q ∙ (let i : count (server_of p (bare xs)) c - m.from ≡ suc number - m.from = omega arith in ap (at m.lives) i ∙ e)) tested
          last le tested (suc i) is l number c1 c2 e = ends entry_by c rs told j (kept_of entry_by c xs) i l is (at_to_drop (suc (count (server_of p (bare xs)) c - m.from)) m.lives i l (let k : suc (count (server_of p (bare xs)) c - m.from) + i ≡ suc number - m.from = omega arith in ap (at m.lives) k ∙ e))

    -- of each ident, whatever is appended
    pub lines_now : (j d : ℕ) → (d ≢ c → LineKept v xs d) → LineKept v (xs ++ take j (upload_records p xs c m)) d
    lines_now j d beside = on (passes (kept_of entry_by c xs).last (count (server_of p (bare xs)) c) m) refl
      where
        on : (b : Bool) → passes (kept_of entry_by c xs).last (count (server_of p (bare xs)) c) m ≡ b → LineKept v (xs ++ take j (if b then new else [])) d
        on false is = subst (λ l. LineKept v l d) (sym (ap (λ l. xs ++ l) (take_nil j) ∙ append-nil xs)) (⊎_elim (λ same. subst (λ x. LineKept v xs x) (sym same) line) beside (same_or_not d c))
        on true is = ⊎_elim
            (λ same. subst (λ x. LineKept v (xs ++ take j new) x) (sym same) (line_now is j))
            (λ ne.
            let cut = cut_bare entry_by c rs told now.noted j in
            line_beside v xs (take j new) d (ap (λ l. of_origin d (after_all p (server_of p (bare xs)) l).log) cut.1 ∙ beside_cut p m.tells (server_of p (bare xs)) c d cut.0 ne) (beside ne))
            (same_or_not d c)

  -- ---- a client's

  module _ (w : Files ServerRecord) (reached : Reached w) (xs : List (Noted ClientRecord)) (whole : Each IsWhole (bare xs)) (history : HistoryKept w xs) (ident : ℕ) (m : Passage Sent) (f : List (Written ServerRecord)) (kept : Among f w.kept) (u : IsDownloadOf p f (bare xs) m) (ok : IsMessage p (Download ident m.from m.tells)) where
    abbrev have : Kept
    have = kept_of took_by 0 xs

    abbrev qs : List ClientRecord
    qs = (take_message p (client_of p (bare xs)) (Download ident m.from m.tells)).records

    abbrev said : List ℕ
    said = drop (suc (length (tooks_of (bare xs)) - m.from)) m.lives

    abbrev more : List (Noted ClientRecord)
    more = with_notes took_by 0 (kept_of took_by 0 xs).noted (drop (suc (length (tooks_of (bare xs)) - m.from)) m.lives) (take_message p (client_of p (bare xs)) (Download ident m.from m.tells)).records

    module _ (pass : passes (kept_of took_by 0 xs).last (length (tooks_of (bare xs))) m ≡ true) where
      pub got : Got p w reached (bare xs) whole ident (kept_of took_by 0 xs).last m f kept u (passed (kept_of took_by 0 xs).last (length (tooks_of (bare xs))) m pass) ok
      got = download_taken p w reached (bare xs) whole ident (kept_of took_by 0 xs).last m f kept u (passed (kept_of took_by 0 xs).last (length (tooks_of (bare xs))) m pass) ok history

      history_then : (j : ℕ) → HistoryKept w (xs ++ take j more)
      history_then j =
          let t = passed (kept_of took_by 0 xs).last (length (tooks_of (bare xs))) m pass in
          let cut = cut_bare took_by 0 qs said have.noted j in
          let there : bare xs ++ take cut.0 (take_message p (client_of p (bare xs)) (Download ident got.from got.es)).records ≡ bare (xs ++ take j more) =
          ap (λ l. bare xs ++ take cut.0 l.records) (sym got.same) ∙ ap (λ l. bare xs ++ l) (sym cut.1) ∙ sym (bare_both xs (take j more)) in
          let counted : length (tooks_of (bare (xs ++ take j more))) ≡ length (tooks_of (bare xs)) + count_by took_by 0 (bare (take j more)) =
          ap (λ l. length (tooks_of l)) (bare_both xs (take j more)) ∙ ap length (tooks_append (bare xs) (bare (take j more))) ∙ length-append (tooks_of (bare xs)) (tooks_of (bare (take j more))) ∙ ap (λ n. length (tooks_of (bare xs)) + n) (tooks_are (bare (take j more))) in
          let kept_is : (kept_of took_by 0 (xs ++ take j more)).last ≡ (keeps_all took_by 0 (kept_of took_by 0 xs) (take j more)).last = ap (λ (k : Kept). k.last) (keeps_both took_by 0 xs (take j more) (record { noted = None; last = None })) in
          subst (λ g. (tooks_of g ≡ []) ⊎ ((number l : ℕ) × HasHistory p w g number l × (at m.lives (suc number - m.from) ≡ Some l)) → HistoryKept w (xs ++ take j more)) (sym there)
          (λ h. ⊎_elim (λ z. inl z) (λ l. inr (l.0, l.1, kept_is ∙ last t.behind t.same (count_by took_by 0 (bare (take j more))) refl l.1 l.0 (l.2.counted) counted l.3, l.2)) h)
          (got.after cut.0)
        where
          last : m.from ≤ length (tooks_of (bare xs)) → ((length (tooks_of (bare xs)) ≡ 0) ⊎ (at m.lives (length (tooks_of (bare xs)) - m.from) ≡ (kept_of took_by 0 xs).last)) → (t : ℕ) → count_by took_by 0 (bare (take j more)) ≡ t → (l number : ℕ) → length (tooks_of (bare (xs ++ take j more))) ≡ suc number → length (tooks_of (bare (xs ++ take j more))) ≡ length (tooks_of (bare xs)) + count_by took_by 0 (bare (take j more))
              → at m.lives (suc number - m.from) ≡ Some l → (keeps_all took_by 0 (kept_of took_by 0 xs) (take j more)).last ≡ Some l
          last le tested zero is l number c1 c2 e = quiet took_by 0 (take j more) (kept_of took_by 0 xs) is ∙ ⊎_elim (λ z. absurd (omega arith)) (λ q. sym q ∙ (let i : length (tooks_of (bare xs)) - m.from ≡ suc number - m.from = omega arith in ap (at m.lives) i ∙ e)) tested
          last le tested (suc i) is l number c1 c2 e = ends took_by 0 qs said j (kept_of took_by 0 xs) i l is (at_to_drop (suc (length (tooks_of (bare xs)) - m.from)) m.lives i l (let k : suc (length (tooks_of (bare xs)) - m.from) + i ≡ suc number - m.from = omega arith in ap (at m.lives) k ∙ e))

    pub history_now : (j : ℕ) → HistoryKept w (xs ++ take j (download_records p xs ident m))
    history_now j = on (passes (kept_of took_by 0 xs).last (length (tooks_of (bare xs))) m) refl
      where
        on : (b : Bool) → passes (kept_of took_by 0 xs).last (length (tooks_of (bare xs))) m ≡ b → HistoryKept w (xs ++ take j (if b then more else []))
        on false is = subst (λ l. HistoryKept w l) (sym (ap (λ l. xs ++ l) (take_nil j) ∙ append-nil xs)) history
        on true is = history_then is j
