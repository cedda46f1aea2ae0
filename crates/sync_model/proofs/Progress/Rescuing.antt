-- A recovery ends, each change of the old client lives on, and what an heir does is done in a world by transactions.
use Rattle.std.proofs.Common.{append-nil, ◌≡◌, ◌≢◌, ◌⊎◌, inl, inr, ⊎_elim, ℕ, zero, suc, ◌+◌, ◌-◌, ◌<◌, ◌≤◌, Bool, true, false, not, List, [], ◌∷◌, ◌++◌, Option, Some, None, Result, Ok, Err, refl, sym, ap, ◌∙◌, subst, arith, if◌then◌else◌, ◌==◌, length, length-append, map, take, nat_lt, nat_le}
use Rattle.std.proofs.lemmas.Bool.Decides.{nat_tests}
use Rattle.std.proofs.lemmas.Bool.{lt-ltb}
use Rattle.sync_theory.specs.Logs.{of_origin}
use Rattle.sync_theory.proofs.Logs.{length_snoc}
use Rattle.sync_theory.proofs.Server.{test_true}
use Rattle.sync_theory.proofs.World.{le_or_lt}
use Rattle.sync_model.specs.Profile.{Profile, Lawful, fitting}
use Rattle.sync_model.specs.Snapshots.{Buildable}
use Rattle.sync_model.specs.Messages.{Change, Upload, Retired}
use Rattle.sync_model.specs.Clients.{Client, ClientRecord, ClientRefusal, Made, Original, Unsent, ok_list, no_client, client_of, after_record, after_records, change_of, last, unsent_above, to_upload_from, commit}
use Rattle.sync_model.specs.Servers.{ServerRecord, no_server, server_of, count}
use Rattle.sync_model.specs.Files.{client_opens}
use Rattle.sync_model.specs.Resets.{HeirAnswer, Integrated, Known, SavedAs, ResetRefusal, NotMine, Skips, ByClient, Recovered, IsHeir, Refuses, saved, heir, heir_read, heir_refuses, heir_says, heir_answer, heir_commits, handled, says_only, recover_changes, recover_upload, recover_frames, recover}
use Rattle.sync_model.specs.Recovery.{IsRecovery, HeirMove, heir_after, numbers_from, StopsAt}
use Rattle.sync_model.specs.Rescues.{rescue_frames, after_run, after_runs, IsHeldUp, LivesOn}
use Rattle.sync_model.specs.Progress.{IsRoomy}
use Rattle.sync_model.specs.Worlds.{Node, World, at}
use Rattle.sync_model.proofs.Lists.{at_map, length_map}
use Rattle.sync_model.proofs.Sim.{as_log}
use Rattle.sync_model.proofs.Own.{after_append}
use Rattle.sync_model.proofs.Alone.{opened_first, opened_more}
use Rattle.sync_model.proofs.Final.{history_numbers}
use Rattle.sync_model.proofs.Recovering.{saves_once}
use Rattle.sync_model.proofs.Heirs.{HeirDid, quiet, made, heir_did, heir_stops_named, id_records, id_first}
use Rattle.sync_model.proofs.Opening.{calm, client_opens_on}
use Rattle.sync_model.proofs.Running.{recover_opens}
use Rattle.sync_model.proofs.Small.{client_lists}
use Rattle.sync_model.proofs.Serving.{numbered_at}
use Rattle.sync_model.proofs.Calling.{named_as}
use Rattle.sync_model.proofs.Progress.Serves.{fits_some}
use Rattle.sync_model.proofs.Progress.Valid.{Valid}

yes : {A : Type 0} (b : Bool) (x y : A) → b ≡ true → (if b then x else y) ≡ x
yes true x y e = refl
yes false x y e = cc

no : {A : Type 0} (b : Bool) (x y : A) → b ≡ false → (if b then x else y) ≡ y
no true x y e = cc
no false x y e = refl

lt_false : (a b : ℕ) → b ≤ a → nat_lt a b ≡ false
lt_false a b le = on (nat_lt a b) refl
  where
    on : (t : Bool) → nat_lt a b ≡ t → t ≡ false
    on true e = absurd (grind (arith, nat_tests))
    on false e = refl

le_false : (a b : ℕ) → b < a → nat_le a b ≡ false
le_false a b lt = on (nat_le a b) refl
  where
    on : (t : Bool) → nat_le a b ≡ t → t ≡ false
    on true e = absurd (grind (arith, nat_tests))
    on false e = refl

at_numbers : (n k i : ℕ) → i < n → at (numbers_from k n) i ≡ Some (k + i)
at_numbers zero k i lt = absurd (omega arith)
at_numbers (suc n) k zero lt = let e : k ≡ k + 0 = omega arith in ap (λ z. Some z) e
at_numbers (suc n) k (suc i) lt = let e : suc k + i ≡ k + suc i = omega arith in at_numbers n (suc k) i (omega arith) ∙ ap (λ z. Some z) e

-- these have the numbers from one on
abbrev Counted : {I : Type 0} → ℕ → List (Unsent I) → Type 0
Counted k [] = Unit {0}
Counted k (u ∷ us) = (u.original.number ≡ suc k) × Counted (suc k) us

-- the first of the unsent changes above a number
record First {I : Type 0} (after : ℕ) (us : List (Unsent I)) (j : ℕ) : Type 0 where
  unsent : Unsent I
  rest : List (Unsent I)
  is : unsent_above after us ≡ unsent ∷ rest
  number : unsent.original.number ≡ suc after
  here : at (map (λ (u : Unsent I). u.original) us) j ≡ Some unsent.original
  there : at us j ≡ Some unsent

first_above : {I : Type 0} (us : List (Unsent I)) (k after j : ℕ) → Counted k us → k + j ≡ after → j < length us → First after us j
first_above [] k after j c e lt = absurd (omega arith)
first_above (u ∷ us) k after zero c e lt =
    let n = c.0 in
    record { unsent = u; rest = unsent_above after us; is = yes (nat_lt after u.original.number) (u ∷ unsent_above after us) (unsent_above after us) (lt-ltb after u.original.number (omega arith)); number = omega arith; here = refl; there = refl }
first_above (u ∷ us) k after (suc j) c e lt =
    let n = c.0 in
    let f = first_above us (suc k) after j c.1 (omega arith) (omega arith) in
    record { unsent = f.unsent; rest = f.rest; is = no (nat_lt after u.original.number) (u ∷ unsent_above after us) (unsent_above after us) (lt_false after u.original.number (omega arith)) ∙ f.is; number = f.number; here = f.here; there = f.there }

each_of : {A : Type 0} {P : A → Type 0} (xs : List A) (j : ℕ) (x : A) → Rattle.sync_model.specs.Each.Each P xs → at xs j ≡ Some x → P x
each_of [] j x e h = cc
each_of {P = P} (y ∷ ys) zero x (Rattle.sync_model.specs.Each.and_each p e) h = let same : y ≡ x = cc in subst P same p
each_of (y ∷ ys) (suc j) x (Rattle.sync_model.specs.Each.and_each p e) h = each_of ys j x e h

module _ {I S : Type 0} (p : Profile I S) where
  -- ---- a recovery keeps the heir's ident and makes more

  record Makes (c d : Client I S) : Type 0 where
    ident : d.ident ≡ c.ident
    more : last c ≤ last d

  makes_none : (c : Client I S) → Makes c c
  makes_none c = record { ident = refl; more = omega arith }

  makes_then : {b c d : Client I S} → Makes b c → Makes c d → Makes b d
  makes_then x y = let a = x.more in let z = y.more in record { ident = y.ident ∙ x.ident; more = omega arith }

  made_more : (c : Client I S) (number ms : ℕ) (body : List ℕ) → last (after_record p c (Made number ms body)) ≡ suc (last c)
  made_more c number ms body = length_snoc c.made (record { base = c.cursor; number = number; ms = ms; instrs = ok_list (p.unspell body) })

  heir_makes : (c : Client I S) (n : ℕ) (h : Change) → Makes c (after_records p c (heir p c c.ident n h).records)
  heir_makes c n h = on (heir_did p c c.ident n h)
    where
      on : HeirDid p c c.ident n h (heir p c c.ident n h) → Makes c (after_records p c (heir p c c.ident n h).records)
      on (quiet none not_saved) = subst (λ rs. Makes c (after_records p c rs)) (sym none) (makes_none c)
      on (made m) =
          let one = made_more c (suc (last c)) h.ms (p.spell (saved p c.objects m.instrs).kept) in
          subst (λ rs. Makes c (after_records p c rs)) (sym m.records) (record { ident = refl; more = omega arith })

  changes_make : (hs : List Change) (c : Client I S) (n : ℕ) → Makes c (after_records p c (recover_changes p c n hs).records)
  changes_make [] c n = makes_none c
  changes_make (h ∷ hs) c n = go (heir p c c.ident n h).answer (heir_makes c n h) (changes_make hs)
    where
      go : (a : Result HeirAnswer ResetRefusal) → Makes c (after_records p c (heir p c c.ident n h).records) → ((d : Client I S) (m : ℕ) → Makes d (after_records p d (recover_changes p d m hs).records))
          → Makes c (after_records p c (handled h.number (heir p c c.ident n h).records a (λ new. recover_changes p (after_records p c new) n hs)).records)
      go (Ok a) one rec = subst (Makes c) (sym (after_append p c (heir p c c.ident n h).records (recover_changes p (after_records p c (heir p c c.ident n h).records) n hs).records)) (makes_then one (rec (after_records p c (heir p c c.ident n h).records) n))
      go (Err why) one rec = one

  -- ---- what a run appends

  run_records : (c : Client I S) (ident n : ℕ) (hs : List Change) → (recover p c (Retired ident c.ident n ∷ Upload ident hs ∷ [])).records ≡ (recover_changes p c n hs).records
  run_records c ident n hs =
      ap (λ b. framed (if b then says_only ((ident, n) ∷ []) (IsHeir ident n) else says_only [] (Refuses NotMine))) (test_true c.ident c.ident refl)
      ∙ ap (λ b. (recover_upload p c ((ident, n) ∷ []) (if b then Some n else None) hs).records ++ []) (test_true ident ident refl)
      ∙ append-nil (recover_changes p c n hs).records
    where
      framed : Recovered → List ClientRecord
      framed r = r.records ++ (recover_frames p (after_records p c r.records) r.known (Upload ident hs ∷ [])).records

  run_after : (rs : List ClientRecord) (old : Client I S) (n : ℕ) → client_of p (after_run p old n rs) ≡ after_records p (client_of p rs) (recover_changes p (client_of p rs) n (to_upload_from p old (n + last (client_of p rs)))).records
  run_after rs old n = after_append p (no_client p) rs _ ∙ ap (after_records p (client_of p rs)) (run_records (client_of p rs) old.ident n (to_upload_from p old (n + last (client_of p rs))))

  run_makes : (rs : List ClientRecord) (old : Client I S) (n : ℕ) → Makes (client_of p rs) (client_of p (after_run p old n rs))
  run_makes rs old n = subst (Makes (client_of p rs)) (sym (run_after rs old n)) (changes_make (to_upload_from p old (n + last (client_of p rs))) (client_of p rs) n)

  runs_make : (k : ℕ) (rs : List ClientRecord) (old : Client I S) (n : ℕ) → Makes (client_of p rs) (client_of p (after_runs p old n k rs))
  runs_make zero rs old n = makes_none (client_of p rs)
  runs_make (suc k) rs old n = makes_then (run_makes rs old n) (runs_make k (after_run p old n rs) old n)

  -- ---- the next change

  heir_next : (c : Client I S) (n : ℕ) (h : Change) (is : List I) → h.number ≡ suc (n + last c) → p.unspell h.body ≡ Ok is → heir p c c.ident n h ≡ heir_commits (saved p c.objects is).dropped (commit p c h.ms (saved p c.objects is).kept)
  heir_next c n h is number read =
      ap (λ b. if not b then heir_refuses NotMine else (if nat_lt (suc (n + last c)) h.number then heir_refuses (Skips (suc (n + last c)) h.number) else (if nat_le h.number n then heir_says Integrated else (if nat_le h.number (n + last c) then heir_says Known else heir_read p c h (p.unspell h.body))))) (test_true c.ident c.ident refl)
      ∙ no (nat_lt (suc (n + last c)) h.number) (heir_refuses (Skips (suc (n + last c)) h.number)) _ (lt_false (suc (n + last c)) h.number (omega arith))
      ∙ no (nat_le h.number n) (heir_says Integrated) _ (le_false h.number n (omega arith))
      ∙ no (nat_le h.number (n + last c)) (heir_says Known) (heir_read p c h (p.unspell h.body)) (le_false h.number (n + last c) (omega arith))
      ∙ ap (heir_read p c h) read

  module _ {Fits Bounded Old : S → Type 0} (law : Lawful p Fits) (built : Buildable p Fits Bounded Old) where
    -- it is saved, or the commit refuses it
    next_saved : (rs : List ClientRecord) → client_opens p (no_client p) rs ≡ true → (client_of p rs).ident ≢ 0 → (n : ℕ) (h : Change) (is : List I) → h.number ≡ suc (n + last (client_of p rs)) → p.unspell h.body ≡ Ok is → (hs : List Change)
        → (last (client_of p rs) < last (after_records p (client_of p rs) (recover_changes p (client_of p rs) n (h ∷ hs)).records))
        ⊎ (((recover_changes p (client_of p rs) n (h ∷ hs)).records ≡ []) × ((why : ClientRefusal) × ((heir p (client_of p rs) (client_of p rs).ident n h).answer ≡ Err (ByClient why)) × StopsAt p (client_of p rs) h why))
    next_saved rs opens ne n h is number read hs = on (heir_did p (client_of p rs) (client_of p rs).ident n h)
      where
        stepped : (a : Result HeirAnswer ResetRefusal) → (heir p (client_of p rs) (client_of p rs).ident n h).answer ≡ a → (recover_changes p (client_of p rs) n (h ∷ hs)).records ≡ (handled h.number (heir p (client_of p rs) (client_of p rs).ident n h).records a (λ new. recover_changes p (after_records p (client_of p rs) new) n hs)).records
        stepped a a_is = ap (λ x. (handled h.number (heir p (client_of p rs) (client_of p rs).ident n h).records x (λ new. recover_changes p (after_records p (client_of p rs) new) n hs)).records) a_is

        on : HeirDid p (client_of p rs) (client_of p rs).ident n h (heir p (client_of p rs) (client_of p rs).ident n h)
            → (last (client_of p rs) < last (after_records p (client_of p rs) (recover_changes p (client_of p rs) n (h ∷ hs)).records))
            ⊎ (((recover_changes p (client_of p rs) n (h ∷ hs)).records ≡ []) × ((why : ClientRefusal) × ((heir p (client_of p rs) (client_of p rs).ident n h).answer ≡ Err (ByClient why)) × StopsAt p (client_of p rs) h why))
        on (made m) =
            let one = made_more (client_of p rs) (suc (last (client_of p rs))) h.ms (p.spell (saved p (client_of p rs).objects m.instrs).kept) in
            let new : ClientRecord = Made (suc (last (client_of p rs))) h.ms (p.spell (saved p (client_of p rs).objects m.instrs).kept) in
            let records = stepped (Ok (SavedAs (suc (last (client_of p rs))) (saved p (client_of p rs).objects m.instrs).dropped)) m.answer ∙ ap (λ l. l ++ (recover_changes p (after_records p (client_of p rs) l) n hs).records) m.records in
            let rest = changes_make hs (after_record p (client_of p rs) (Made (suc (last (client_of p rs))) h.ms (p.spell (saved p (client_of p rs).objects m.instrs).kept))) n in
            let more = rest.more in
            inl (subst (λ l. last (client_of p rs) < last (after_records p (client_of p rs) l)) (sym records) (omega arith))
        on (quiet none not_saved) = refused (commit p (client_of p rs) h.ms (saved p (client_of p rs).objects is).kept).answer refl
          where
            answer_is : (heir p (client_of p rs) (client_of p rs).ident n h).answer ≡ heir_answer (saved p (client_of p rs).objects is).dropped (commit p (client_of p rs) h.ms (saved p (client_of p rs).objects is).kept).answer
            answer_is = ap (λ d. d.answer) (heir_next (client_of p rs) n h is number read)

            refused : (a : Result ℕ ClientRefusal) → (commit p (client_of p rs) h.ms (saved p (client_of p rs).objects is).kept).answer ≡ a
                → (last (client_of p rs) < last (after_records p (client_of p rs) (recover_changes p (client_of p rs) n (h ∷ hs)).records))
                ⊎ (((recover_changes p (client_of p rs) n (h ∷ hs)).records ≡ []) × ((why : ClientRefusal) × ((heir p (client_of p rs) (client_of p rs).ident n h).answer ≡ Err (ByClient why)) × StopsAt p (client_of p rs) h why))
            refused (Ok k) a_is = absurd (not_saved k (saved p (client_of p rs).objects is).dropped (answer_is ∙ ap (heir_answer (saved p (client_of p rs).objects is).dropped) a_is))
            refused (Err why) a_is =
                let said = answer_is ∙ ap (heir_answer (saved p (client_of p rs).objects is).dropped) a_is in
                inr (stepped (Err (ByClient why)) said ∙ none, (why, said, heir_stops_named p law (client_of p rs) (client_of p rs).ident n h (id_records p rs (no_client p) opens (id_first p)) ne why said))

    -- ---- what an old client of a world sends

    module _ (roomy : IsRoomy p) (w : World) (valid : Valid p w) (i : ℕ) (nd : Node) (here : at w.clients i ≡ Some nd) (named : (client_of p nd.records).ident ≢ 0) where
      abbrev st : Client I S
      st = client_of p nd.records

      record Sends (after : ℕ) : Type 0 where
        original : Original I
        there : at (client_of p nd.records).made after ≡ Some original
        number : original.number ≡ suc after
        read : p.unspell (p.spell original.instrs) ≡ Ok original.instrs
        rest : List Change
        is : to_upload_from p (client_of p nd.records) after ≡ change_of p original ∷ rest

      sends : (after : ℕ) → count (server_of p w.server) (client_of p nd.records).ident ≤ after → after < length (client_of p nd.records).made → Sends after
      sends after le lt =
          let v = named_as p law (server_of p w.server) w.injected w.clients h.n h.sim i nd here named in
          let g = v.given in
          let numbers : (j : ℕ) (o : Original I) → at (client_of p nd.records).made j ≡ Some o → o.number ≡ suc j = λ j o e. let f = (numbered_at j (as_log (client_of p nd.records).ident o) (h.sim.numbered (client_of p nd.records).ident) (ap (λ l. at l j) g.mades ∙ at_map (as_log (client_of p nd.records).ident) (client_of p nd.records).made j o e)).0 in omega arith in
          let few = shorter g.sent_count in
          let split = ap length g.split ∙ length-append g.sent (map (λ (u : Unsent I). u.original) (client_of p nd.records).unsent) in
          let unsents = length_map (λ (u : Unsent I). u.original) (client_of p nd.records).unsent in
          let f = first_above (client_of p nd.records).unsent (length g.sent) after (after - length g.sent) (counted (client_of p nd.records).unsent g.sent (λ j o e. numbers j o (ap (λ l. at l j) g.split ∙ e))) (omega arith) (omega arith) in
          let small = (each_of (client_of p nd.records).unsent (after - length g.sent) f.unsent (client_lists p law nd.records).unsent f.there).0 in
          let some = fits_some (λ (x : Change). length x.body) p.most p.room (change_of p f.unsent.original) (map (λ u. change_of p u.original) f.rest) roomy.some (roomy.fits f.unsent.original.instrs small) in
          record {
            original = f.unsent.original;
            there = ap (λ l. at l after) g.split ∙ at_behind g.sent (map (λ (u : Unsent I). u.original) (client_of p nd.records).unsent) after (omega arith) ∙ f.here;
            number = f.number;
            read = law.spelled f.unsent.original.instrs small;
            rest = some.0;
            is = ap (λ l. fitting (λ (x : Change). length x.body) p.most p.room (map (λ u. change_of p u.original) l)) f.is ∙ some.1;
          }
        where
          h : Rattle.sync_model.proofs.Holding.Holds p w
          h = valid.holds

          at_behind : (xs ys : List (Original I)) (k : ℕ) → length xs ≤ k → at (xs ++ ys) k ≡ at ys (k - length xs)
          at_behind [] ys k le = let e : k ≡ k - 0 = omega arith in ap (at ys) e
          at_behind (x ∷ xs) ys zero le = absurd (omega arith)
          at_behind (x ∷ xs) ys (suc k) le = let e : k - length xs ≡ suc k - suc (length xs) = omega arith in at_behind xs ys k (omega arith) ∙ ap (at ys) e

          at_next : (xs ys : List (Original I)) (y : Original I) → at (xs ++ y ∷ ys) (length xs) ≡ Some y
          at_next [] ys y = refl
          at_next (x ∷ xs) ys y = at_next xs ys y

          counted : (us : List (Unsent I)) (sent : List (Original I)) → ((j : ℕ) (o : Original I) → at (sent ++ map (λ (u : Unsent I). u.original) us) j ≡ Some o → o.number ≡ suc j) → Counted (length sent) us
          counted [] sent all = tt
          counted (u ∷ us) sent all =
              let more : length (sent ++ u.original ∷ []) ≡ suc (length sent) = length_snoc sent u.original in (
                all (length sent) u.original (at_next sent (map (λ (u : Unsent I). u.original) us) u.original),
                subst (λ k. Counted k us) more (counted us (sent ++ u.original ∷ []) (λ j o e. all j o (ap (λ l. at l j) (sym (Rattle.std.proofs.Common.append_assoc sent (u.original ∷ []) (map (λ (u : Unsent I). u.original) us))) ∙ e))),
              )

          shorter : {n : ℕ} → n ≡ length (of_origin (client_of p nd.records).ident (take (client_of p nd.records).cursor h.n.log)) → n ≤ count (server_of p w.server) (client_of p nd.records).ident
          shorter {n} e =
              let parts = ap length (ap (of_origin (client_of p nd.records).ident) (sym (Rattle.std.proofs.lemmas.List.take-append-drop (client_of p nd.records).cursor h.n.log)) ∙ Rattle.sync_theory.proofs.Logs.origin_append (client_of p nd.records).ident (take (client_of p nd.records).cursor h.n.log) (Rattle.std.proofs.Common.drop (client_of p nd.records).cursor h.n.log)) in
              let more = length-append (of_origin (client_of p nd.records).ident (take (client_of p nd.records).cursor h.n.log)) (of_origin (client_of p nd.records).ident (Rattle.std.proofs.Common.drop (client_of p nd.records).cursor h.n.log)) in
              let log = ap (λ l. length (of_origin (client_of p nd.records).ident l)) h.sim.log_is in
              omega arith

      -- ---- run by run

      run_goes_on : (rs : List ClientRecord) → client_opens p (no_client p) rs ≡ true → (client_of p rs).ident ≢ 0 → (n : ℕ) → count (server_of p w.server) (client_of p nd.records).ident ≤ n → n + last (client_of p rs) < length (client_of p nd.records).made
          → (last (client_of p rs) < last (client_of p (after_run p (client_of p nd.records) n rs))) ⊎ ((after_run p (client_of p nd.records) n rs ≡ rs) × IsHeldUp p (client_of p nd.records) n (client_of p rs))
      run_goes_on rs opens ne n le lt =
          let s = sends (n + last (client_of p rs)) (omega arith) lt in
          ⊎_elim
          (λ more. inl (subst (λ d. last (client_of p rs) < last d) (sym (run_after rs (client_of p nd.records) n ∙ ap (λ hs. after_records p (client_of p rs) (recover_changes p (client_of p rs) n hs).records) s.is)) more))
          (λ held. inr (
            ap (λ l. rs ++ l) (run_records (client_of p rs) (client_of p nd.records).ident n (to_upload_from p (client_of p nd.records) (n + last (client_of p rs))) ∙ ap (λ hs. (recover_changes p (client_of p rs) n hs).records) s.is ∙ held.0) ∙ append-nil rs,
            record { original = s.original; there = s.there; why = held.1.0; refused = held.1.1; stops = held.1.2 },
          ))
          (next_saved rs opens ne n (change_of p s.original) s.original.instrs s.number s.read s.rest)

      run_opens : (rs : List ClientRecord) → client_opens p (no_client p) rs ≡ true → (n : ℕ) → client_opens p (no_client p) (after_run p (client_of p nd.records) n rs) ≡ true
      run_opens rs opens n =
          let o = recover_opens p law (client_of p rs) (calm p rs opens) (rescue_frames p (client_of p nd.records) (client_of p rs).ident n (n + last (client_of p rs))) in
          client_opens_on p (no_client p) rs (recover p (client_of p rs) (rescue_frames p (client_of p nd.records) (client_of p rs).ident n (n + last (client_of p rs)))).records opens o.0

      stays_held : (k : ℕ) (rs : List ClientRecord) (n : ℕ) → after_run p (client_of p nd.records) n rs ≡ rs → after_runs p (client_of p nd.records) n k rs ≡ rs
      stays_held zero rs n e = refl
      stays_held (suc k) rs n e = ap (after_runs p (client_of p nd.records) n k) e ∙ stays_held k rs n e

      pub runs_end : (k : ℕ) (rs : List ClientRecord) → client_opens p (no_client p) rs ≡ true → (client_of p rs).ident ≢ 0 → (n : ℕ) → count (server_of p w.server) (client_of p nd.records).ident ≤ n → length (client_of p nd.records).made ≤ n + last (client_of p rs) + k
          → IsHeldUp p (client_of p nd.records) n (client_of p (after_runs p (client_of p nd.records) n k rs)) ⊎ (length (client_of p nd.records).made ≤ n + last (client_of p (after_runs p (client_of p nd.records) n k rs)))
      runs_end zero rs opens ne n le enough = inr (omega arith)
      runs_end (suc k) rs opens ne n le enough = ⊎_elim
          (λ done. let m = (runs_make (suc k) rs (client_of p nd.records) n).more in inr (omega arith))
          (λ left. ⊎_elim
          (λ more. runs_end k (after_run p (client_of p nd.records) n rs) (run_opens rs opens n) (λ z. ne (sym (run_makes rs (client_of p nd.records) n).ident ∙ z)) n le (omega arith))
          (λ held. inl (subst (λ l. IsHeldUp p (client_of p nd.records) n (client_of p l)) (sym (stays_held (suc k) rs n held.0)) held.1))
          (run_goes_on rs opens ne n le left))
          (le_or_lt (length (client_of p nd.records).made) (n + last (client_of p rs)))

    -- ---- each change lives on

    pub lives_on : (server : List ServerRecord) (ident by : ℕ) (old first : List ClientRecord) (moves : List HeirMove) → IsRecovery p server ident by old first moves
        → length (client_of p old).made ≤ count (server_of p server) ident + last (client_of p (heir_after p first moves)) → (k : ℕ) → k < length (client_of p old).made → LivesOn p server ident old (heir_after p first moves) k
    lives_on server ident by old first moves r all k lt = ⊎_elim
        (λ later. inr (k - count (server_of p server) ident, omega arith, (saves_once p law server ident by old first moves r).each (k - count (server_of p server) ident) (omega arith)))
        (λ sooner.
        let one : 1 + k ≡ suc k = omega arith in
        inl (ap (λ l. at l k) (history_numbers p law (server_of p server) (opened_more p law server no_server r.server_file (opened_first p)) ident) ∙ at_numbers (count (server_of p server) ident) 1 k sooner ∙ ap (λ z. Some z) one))
        (le_or_lt (count (server_of p server) ident) k)
