-- What a client sends above a number, and the records that an heir and a run of recovery append.
use Rattle.std.proofs.Common.{◌≡◌, ◌≢◌, ℕ, zero, suc, ◌≤◌, Bool, true, false, List, [], ◌∷◌, ◌++◌, Option, Some, None, Result, Ok, Err, refl, ap, ◌∙◌, arith, if◌then◌else◌, ◌==◌, length, map, nat_lt}
use Rattle.std.proofs.lemmas.Bool.{lt-ltb}
use Rattle.sync_model.specs.Profile.{Profile, Lawful}
use Rattle.sync_model.specs.Messages.{Change, Message, Bind, Ident, Upload, Ask, Download, Refused, Stored, Ask2, Retire, Retired, AskTables}
use Rattle.sync_model.specs.Clients.{Client, ClientRecord, Unsent, answers, if_named, after_records, change_of, unsent_above, upload, upload_from, to_upload_from}
use Rattle.sync_model.specs.Files.{is_growing}
use Rattle.sync_model.specs.Limits.{ClientNumbers}
use Rattle.sync_model.specs.Each.{Each, no_more, and_each}
use Rattle.sync_model.specs.Resets.{HeirAnswer, ResetRefusal, NotMine, heir, IsHeir, Refuses, says_only, count_known, handled, recover_changes, recover_upload, recover_frame, recover_frames, recover}
use Rattle.sync_model.proofs.Heirs.{heir_opens, heir_fits}
use Rattle.sync_model.proofs.Limits.{each_append, each_map, given_less, named_sends, Sends, Unsents, Fit, fit_count, fit_bytes, fit_each, numbers_records}
use Rattle.sync_model.proofs.Opening.{Opens, client_opens_on, settles_down}
use Rattle.sync_model.proofs.Own.{if_true}

module _ {I S : Type 0} (p : Profile I S) where
  -- ---- what it sends

  above_each : {P : Unsent I → Type 0} (after : ℕ) (us : List (Unsent I)) → Each P us → Each P (unsent_above after us)
  above_each after [] f = no_more
  above_each {P} after (u ∷ us) (and_each h f) = go (nat_lt after u.original.number) (above_each after us f)
    where
      go : (b : Bool) → Each P (unsent_above after us) → Each P (if b then u ∷ unsent_above after us else unsent_above after us)
      go true g = and_each h g
      go false g = g

  pub upload_from_sends : (c : Client I S) (after : ℕ) → ClientNumbers p c → Sends p (upload_from p c after).answer
  upload_from_sends c after n = named_sends p c (Upload c.ident (to_upload_from p c after)) (λ ne. (
    given_less p c.ident ne n.ident,
    record {
      count = fit_count (λ h. length h.body) p.most p.room (map (λ u. change_of p u.original) (unsent_above after c.unsent));
      bytes = fit_bytes (λ h. length h.body) p.most p.room (map (λ u. change_of p u.original) (unsent_above after c.unsent));
      changes = fit_each (λ h. length h.body) p.most p.room (map (λ u. change_of p u.original) (unsent_above after c.unsent)) (each_map (λ u. change_of p u.original) (λ u h. let a = h.base in let b = n.cursor in record { number = h.number; base = omega arith }) (above_each after c.unsent n.unsent));
    },
  ))

  all_above : (k : ℕ) (us : List (Unsent I)) → Unsents p k us → unsent_above 0 us ≡ us
  all_above k [] f = refl
  all_above k (u ∷ us) (and_each h f) = if_true (nat_lt 0 u.original.number) (u ∷ unsent_above 0 us) (unsent_above 0 us) (lt-ltb 0 u.original.number (positive u.original.number h.number.positive)) ∙ ap (λ l. u ∷ l) (all_above k us f)
    where
      positive : (m : ℕ) → m ≢ 0 → suc 0 ≤ m
      positive zero ne = absurd (ne refl)
      positive (suc m) ne = omega arith

  -- above 0 it is all that is unsent
  pub upload_from_first : (c : Client I S) → ClientNumbers p c → upload_from p c 0 ≡ upload p c
  upload_from_first c n = ap (λ us. if_named c (answers (Upload c.ident (Rattle.sync_model.specs.Profile.fitting (λ h. length h.body) p.most p.room (map (λ u. change_of p u.original) us))))) (all_above c.cursor c.unsent n.unsent)

  -- ---- what recovery appends

  module _ {Fits : S → Type 0} (law : Lawful p Fits) where
    -- these records open behind a client's, and have spellings where the client's numbers are within their limits
    record Good (c : Client I S) (rs : List ClientRecord) : Type 0 where
      opens : Opens p c rs
      fits : ClientNumbers p c → Fit p rs

    good_none : (c : Client I S) → Good c []
    good_none c = record { opens = (refl, no_more); fits = λ n. no_more }

    good_then : (c : Client I S) (rs ts : List ClientRecord) → is_growing c ≡ false → Good c rs → Good (after_records p c rs) ts → Good c (rs ++ ts)
    good_then c rs ts calm_ a b = record { opens = (client_opens_on p c rs ts a.opens.0 b.opens.0, each_append a.opens.1 b.opens.1); fits = λ n. each_append (a.fits n) (b.fits (numbers_records p rs c calm_ a.opens.0 (a.fits n) n)) }

    -- a client with its whole file stays so
    calm_after : (c : Client I S) (rs : List ClientRecord) → is_growing c ≡ false → Good c rs → is_growing (after_records p c rs) ≡ false
    calm_after c rs calm_ a = settles_down p rs c (λ g. absurd (never g calm_)) a.opens.0
      where
        never : {b : Bool} → b ≡ true → b ≡ false → ⊥
        never g k = cc

    heir_good : (c : Client I S) → is_growing c ≡ false → (by n : ℕ) (h : Change) → Good c (heir p c by n h).records
    heir_good c calm_ by n h = record { opens = heir_opens p law c calm_ by n h; fits = heir_fits p c by n h }

    changes_good : (hs : List Change) (c : Client I S) → is_growing c ≡ false → (n : ℕ) → Good c (recover_changes p c n hs).records
    changes_good [] c calm_ n = good_none c
    changes_good (h ∷ hs) c calm_ n = on (heir p c c.ident n h).answer (changes_good hs (after_records p c (heir p c c.ident n h).records) (calm_after c (heir p c c.ident n h).records calm_ (heir_good c calm_ c.ident n h)) n)
      where
        on : (a : Result HeirAnswer ResetRefusal) → Good (after_records p c (heir p c c.ident n h).records) (recover_changes p (after_records p c (heir p c c.ident n h).records) n hs).records → Good c (handled h.number (heir p c c.ident n h).records a (λ new. recover_changes p (after_records p c new) n hs)).records
        on (Ok a) rest = good_then c (heir p c c.ident n h).records (recover_changes p (after_records p c (heir p c c.ident n h).records) n hs).records calm_ (heir_good c calm_ c.ident n h) rest
        on (Err why) rest = heir_good c calm_ c.ident n h

    frame_good : (m : Message) (c : Client I S) → is_growing c ≡ false → (known : List (ℕ × ℕ)) → Good c (recover_frame p c known m).records
    frame_good (Retired d b n) c calm_ known = go (b == c.ident)
      where
        go : (t : Bool) → Good c (if t then says_only ((d, n) ∷ known) (IsHeir d n) else says_only known (Refuses NotMine)).records
        go true = good_none c
        go false = good_none c
    frame_good (Upload d hs) c calm_ known = go (count_known d known)
      where
        go : (o : Option ℕ) → Good c (recover_upload p c known o hs).records
        go None = good_none c
        go (Some n) = changes_good hs c calm_ n
    frame_good (Bind u) c calm_ known = good_none c
    frame_good (Ident u d) c calm_ known = good_none c
    frame_good (Ask d cursor settled) c calm_ known = good_none c
    frame_good (Ask2 d cursor settled) c calm_ known = good_none c
    frame_good (AskTables d cursor settled second tables) c calm_ known = good_none c
    frame_good (Download d from es) c calm_ known = good_none c
    frame_good (Refused d number code place) c calm_ known = good_none c
    frame_good (Stored d number) c calm_ known = good_none c
    frame_good (Retire d b) c calm_ known = good_none c

    frames_good : (ms : List Message) (c : Client I S) → is_growing c ≡ false → (known : List (ℕ × ℕ)) → Good c (recover_frames p c known ms).records
    frames_good [] c calm_ known = good_none c
    frames_good (m ∷ ms) c calm_ known =
        let one = frame_good m c calm_ known in
        good_then c (recover_frame p c known m).records (recover_frames p (after_records p c (recover_frame p c known m).records) (recover_frame p c known m).known ms).records calm_ one
        (frames_good ms (after_records p c (recover_frame p c known m).records) (calm_after c (recover_frame p c known m).records calm_ one) (recover_frame p c known m).known)

    -- a run is accepted by opening
    pub recover_opens : (c : Client I S) → is_growing c ≡ false → (ms : List Message) → Opens p c (recover p c ms).records
    recover_opens c calm_ ms = (frames_good ms c calm_ []).opens

    -- and each of its records has a spelling
    pub recover_fits : (c : Client I S) → is_growing c ≡ false → (ms : List Message) → ClientNumbers p c → Fit p (recover p c ms).records
    recover_fits c calm_ ms = (frames_good ms c calm_ []).fits
