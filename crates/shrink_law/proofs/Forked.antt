-- By its own count each unsent transaction of an old client is the next one for its heir.
use Rattle.std.proofs.Common.{◌≡◌, ℕ, zero, suc, ◌+◌, ◌-◌, ◌≤◌, Bool, true, false, not, List, [], ◌∷◌, Result, Ok, Err, refl, sym, ap, ◌∙◌, subst, arith, if◌then◌else◌, ◌==◌, length, map, nat_le, nat_lt}
use Rattle.std.proofs.lemmas.Bool.{leb-true, ltb-true}
use Rattle.sync_theory.proofs.Logs.{length_snoc}
use Rattle.sync_theory.proofs.Server.{test_true}
use Rattle.sync_model.specs.Profile.{Profile, Lawful, fitting}
use Rattle.sync_model.specs.Messages.{Change}
use Rattle.sync_model.specs.Each.{Each, no_more, and_each}
use Rattle.sync_model.specs.Clients.{Client, ClientRecord, ClientRefusal, Unsent, change_of, to_upload, last, commit, no_client, client_of, after_records}
use Rattle.sync_model.specs.Files.{client_opens}
use Rattle.sync_model.specs.Resets.{HeirStep, ResetRefusal, Skips, Integrated, Known, heir_refuses, heir_says, heir_answer, heir_read, heir, saved, handled, recover_changes}
use Rattle.sync_model.proofs.Acknowledged.{committed}
use Rattle.sync_model.proofs.Small.{client_lists}
use Rattle.shrink_law.specs.Short.{taken}
use Rattle.shrink_law.specs.Current.{Follow, none_follows, one_follows}
use Rattle.shrink_law.specs.Forked.{IsSavedOrRefused}
use Rattle.shrink_law.proofs.Current.{made_and_next}
use Rattle.shrink_law.proofs.Files.{Small}

-- changes of which each is read, and the numbers come next after n
data Rise {I S : Type 0} (p : Profile I S) : ℕ → List Change → Type 0 where
  no_changes : {n : ℕ} → Rise p n []
  a_change : {n : ℕ} {h : Change} {hs : List Change} {is : List I} → h.number ≡ suc n → p.unspell h.body ≡ Ok is → Rise p (suc n) hs → Rise p n (h ∷ hs)

module _ {I S : Type 0} (p : Profile I S) where
  fit_rise : (size : Change → ℕ) (k room n : ℕ) (hs : List Change) → Rise p n hs → Rise p n (fitting size k room hs)
  fit_rise size k room n [] no_changes = no_changes
  fit_rise size zero room n (h ∷ hs) r = no_changes
  fit_rise size (suc k) room n (h ∷ hs) (a_change e read f) = on (nat_le (size h) room) (fit_rise size k (room - size h) (suc n) hs f)
    where
      on : (b : Bool) → Rise p (suc n) (fitting size k (room - size h) hs) → Rise p n (if b then h ∷ fitting size k (room - size h) hs else [])
      on true g = a_change e read g
      on false g = no_changes

  module _ {Fits : S → Type 0} (law : Lawful p Fits) where
    unsent_rise : (n : ℕ) (us : List (Unsent I)) → Small p us → Follow n us → Rise p n (map (λ u. change_of p u.original) us)
    unsent_rise n [] no_more none_follows = no_changes
    unsent_rise n (u ∷ us) (and_each small f) (one_follows e g) = a_change e (law.spelled u.original.instrs small.0) (unsent_rise (suc n) us f g)

    -- a commit that is answered by a number makes one transaction more
    longer : (c : Client I S) (ms number : ℕ) (edits : List I) → (commit p c ms edits).answer ≡ Ok number → last (after_records p c (commit p c ms edits).records) ≡ suc (last c)
    longer c ms number edits e =
        let r = committed p c ms edits number e in
        ap (λ rs. last (after_records p c rs)) r.records ∙ length_snoc c.made _

    -- what is said of a change by its heir's step, and of those behind it
    abbrev Lines : Client I S → ℕ → Change → List Change → HeirStep → Type 0
    Lines c n h hs s = Each IsSavedOrRefused (handled h.number s.records s.answer (λ new. recover_changes p (after_records p c new) n hs)).answer

    -- the next change is saved, or the commit refuses it
    read_lines : (c : Client I S) (n m : ℕ) (h : Change) (hs : List Change) (is : List I) → m ≤ n + last c → ((d : Client I S) → suc m ≤ n + last d → Each IsSavedOrRefused (recover_changes p d n hs).answer)
        → Lines c n h hs (heir_read p c h (Ok is))
    read_lines c n m h hs is high rec = on (commit p c h.ms (saved p c.objects is).kept).answer refl
      where
        on : (r : Result ℕ ClientRefusal) → (commit p c h.ms (saved p c.objects is).kept).answer ≡ r
            → Each IsSavedOrRefused (handled h.number (commit p c h.ms (saved p c.objects is).kept).records (heir_answer (saved p c.objects is).dropped r) (λ new. recover_changes p (after_records p c new) n hs)).answer
        on (Ok number) e =
            let l = longer c h.ms number (saved p c.objects is).kept e in
            and_each tt (rec (after_records p c (commit p c h.ms (saved p c.objects is).kept).records) (omega (arith, l, high)))
        on (Err why) e = and_each tt no_more

    change_lines : (c : Client I S) (n m : ℕ) (h : Change) (hs : List Change) (is : List I) → h.number ≡ suc m → p.unspell h.body ≡ Ok is → n ≤ m → m ≤ n + last c → ((d : Client I S) → suc m ≤ n + last d → Each IsSavedOrRefused (recover_changes p d n hs).answer)
        → Each IsSavedOrRefused (recover_changes p c n (h ∷ hs)).answer
    change_lines c n m h hs is e read low high rec = on (nat_le h.number (n + last c)) refl
      where
        self : (c.ident == c.ident) ≡ true
        self = test_true c.ident c.ident refl

        no_skip : nat_lt (suc (n + last c)) h.number ≡ false
        no_skip = go (nat_lt (suc (n + last c)) h.number) refl
          where
            go : (b : Bool) → nat_lt (suc (n + last c)) h.number ≡ b → b ≡ false
            go false z = refl
            go true z = let t = ltb-true (suc (n + last c)) h.number z in absurd (omega (arith, t, e, high))

        not_before : nat_le h.number n ≡ false
        not_before = go (nat_le h.number n) refl
          where
            go : (b : Bool) → nat_le h.number n ≡ b → b ≡ false
            go false z = refl
            go true z = let t = leb-true h.number n z in absurd (omega (arith, t, e, low))

        step_is : (b : Bool) → nat_le h.number (n + last c) ≡ b → heir p c c.ident n h ≡ (if b then heir_says Known else heir_read p c h (Ok is))
        step_is b z = λ i. if not (self i) then heir_refuses ResetRefusal.NotMine
            else if no_skip i then heir_refuses (Skips (suc (n + last c)) h.number)
            else if not_before i then heir_says Integrated
            else if z i then heir_says Known
            else heir_read p c h (read i)

        on : (b : Bool) → nat_le h.number (n + last c) ≡ b → Lines c n h hs (heir p c c.ident n h)
        on true z = let t = leb-true h.number (n + last c) z in subst (Lines c n h hs) (sym (step_is true z)) (and_each tt (rec c (omega (arith, t, e))))
        on false z = subst (Lines c n h hs) (sym (step_is false z)) (read_lines c n m h hs is high rec)

    all_saved : (hs : List Change) (c : Client I S) (n m : ℕ) → n ≤ m → m ≤ n + last c → Rise p m hs → Each IsSavedOrRefused (recover_changes p c n hs).answer
    all_saved [] c n m low high no_changes = no_more
    all_saved (h ∷ hs) c n m low high (a_change {is = is} e read f) = change_lines c n m h hs is e read low high (λ d k. all_saved hs d n (suc m) (omega arith) k f)

    -- so of all that the old client sends, whatever its heir saved before
    pub forked_saved : (old : List ClientRecord) → client_opens p (no_client p) old ≡ true → (c : Client I S)
        → Each IsSavedOrRefused (recover_changes p c (taken (client_of p old)) (to_upload p (client_of p old))).answer
    forked_saved old open_ c =
        let d = client_of p old in
        all_saved (to_upload p d) c (taken d) (taken d) (omega arith) (omega arith)
        (fit_rise (λ h. length h.body) p.most p.room (taken d) (map (λ u. change_of p u.original) d.unsent) (unsent_rise (taken d) d.unsent (client_lists p law old).unsent (made_and_next p old open_)))
