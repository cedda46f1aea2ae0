-- A client whose file is open waits for no part of a state, and for nothing of the front of a short file.
use Rattle.std.proofs.Common.{◌≡◌, ℕ, zero, suc, ◌-◌, Bool, true, false, ◌&&◌, ◌||◌, not, List, [], ◌∷◌, Option, Some, None, Result, Ok, Err, refl, sym, ap, ◌∙◌, if◌then◌else◌, ◌==◌, length, map}
use Rattle.sync_theory.specs.Changesets.{Changeset}
use Rattle.sync_theory.specs.Grid.{rebase, tail}
use Rattle.sync_model.specs.Profile.{Profile, Stuck, cross_changesets, needs}
use Rattle.sync_model.specs.Clients.{Client, ClientRecord, Born, Named, Made, Took, Form, Subset, Part, Floor, Original, Resumed, Waits, blanks, one_less, is_late, no_client, client_of, changeset_of, crossed, takes_entry, ok_list, after_record, after_records}
use Rattle.sync_model.specs.Worlds.{is_there}
use Rattle.sync_model.specs.Files.{is_empty, is_growing, is_blank, all_came, some_come, may_grow, tables_fit, client_admits, client_opens}

pub length_blanks : (I : Type 0) (k n : ℕ) → length (blanks {I = I} k n) ≡ n
length_blanks I k zero = refl
length_blanks I k (suc n) = ap suc (length_blanks I (suc k) n)

first : (x y : Bool) → (x && y) ≡ true → x ≡ true
first true y f = refl
first false y f = f

second : (x y : Bool) → (x && y) ≡ true → y ≡ true
second true y f = f
second false y f = cc

not_both : {b : Bool} → b ≡ true → not b ≡ true → ⊥
not_both f g = cc

some_ahead : (ts : List ClientRecord) → not (is_empty (map (λ q. Some q) ts)) ≡ true → is_empty ts ≡ false
some_ahead [] f = cc
some_ahead (t ∷ ts) f = refl

-- a client that has its uuid and no ident
abbrev pub is_waiting : {I S : Type 0} → Client I S → Bool
is_waiting c = is_there c.id && (c.ident == 0)

pub blank_waiting : {I S : Type 0} (c : Client I S) → is_blank c ≡ true → is_waiting c ≡ true
blank_waiting c e = go (is_there c.id) (is_there c.subset) (is_there c.floor) (c.ident == 0) (is_empty c.made) e
  where
    go : (a b f i m : Bool) → (a && (not b && (not f && (i && m)))) ≡ true → (a && i) ≡ true
    go false b f i m h = h
    go true true f i m h = cc
    go true false true i m h = cc
    go true false false true m h = refl
    go true false false false m h = h

-- within a front it is growing
pub front_grows : {I S : Type 0} (c : Client I S) (n : ℕ) → c.front ≡ Some n → is_growing c ≡ true
front_grows c n e = ap (λ (o : Option ℕ). is_there o || (not (is_empty c.parts) && not (is_there c.floor))) e

-- one that doesn't grow has none
pub no_front : {I S : Type 0} (c : Client I S) → is_growing c ≡ false → c.front ≡ None
no_front c e = go c.front e
  where
    go : (o : Option ℕ) → (is_there o || (not (is_empty c.parts) && not (is_there c.floor))) ≡ false → o ≡ None
    go None f = refl
    go (Some n) f = cc

module _ {I S : Type 0} (p : Profile I S) where
  took_growing : (c : Client I S) (x : Changeset I) → is_growing (takes_entry p c x) ≡ is_growing c
  took_growing c x = go (x.origin == c.ident) (rebase (cross_changesets p) (map (changeset_of c.ident) c.unsent) x)
    where
      go : (t : Bool) (q : Result (List (Changeset I) × Changeset I) (ℕ × Stuck)) → is_growing (if t then record c { cursor = suc c.cursor; unsent = tail c.unsent } else crossed p c q) ≡ is_growing c
      go true q = refl
      go false (Ok q) = refl
      go false (Err f) = refl

  -- a client whose file is open doesn't wait for parts
  pub settles_down : (rs : List ClientRecord) (c : Client I S) → (is_growing c ≡ true → (is_waiting c ≡ true) × (is_empty rs ≡ false)) → client_opens p c rs ≡ true → is_growing (after_records p c rs) ≡ false
  settles_down [] c h e = on (is_growing c) refl
    where
      on : (b : Bool) → is_growing c ≡ b → b ≡ false
      on false is = refl
      on true is = let f = (h is).1 in cc
  settles_down (r ∷ rs) c h e = settles_down rs (after_record p c r) (next r (first (client_admits p c (map (λ q. Some q) rs) r) _ e) (λ g. (h g).0)) (second (client_admits p c (map (λ q. Some q) rs) r) _ e)
    where
      within : (o : Option ℕ) → c.front ≡ o → (is_growing c ≡ true → is_waiting c ≡ true) → all_came o (is_blank c) ≡ true → is_waiting c ≡ true
      within None is was a = blank_waiting c a
      within (Some n) is was a = was (front_grows c n is)

      owed : (o : Option ℕ) → c.front ≡ o → some_come o ≡ true → is_growing c ≡ true
      owed None is a = cc
      owed (Some n) is a = front_grows c n is

      tables : (o : Option ℕ) → c.front ≡ o → (is_growing c ≡ true → is_waiting c ≡ true) → is_growing c ≡ true → tables_fit c (not (is_empty (map (λ q. Some q) rs))) o (is_there c.id && (not (is_growing c) && (not (is_there c.subset) && not (is_late c)))) ≡ true
          → (is_waiting c ≡ true) × (is_empty rs ≡ false)
      tables None is was g a = absurd (not_both g (first (not (is_growing c)) _ (second (is_there c.id) _ a)))
      tables (Some n) is was g a = (was g, some_ahead rs (second (is_empty c.parts) _ (second (is_empty c.unsent) _ (second (not (is_there c.subset)) _ (second (c.ident == 0) _ a)))))

      next : (r : ClientRecord) → client_admits p c (map (λ q. Some q) rs) r ≡ true → (is_growing c ≡ true → is_waiting c ≡ true) → is_growing (after_record p c r) ≡ true → (is_waiting (after_record p c r) ≡ true) × (is_empty rs ≡ false)
      next (Born id) a was g = absurd (not_both (first (is_there c.id) _ (was g)) a)
      next (Named ident) a was g = absurd (not_both g (first (not (is_growing c)) _ (second (is_there c.id) _ a)))
      next (Made number ms body) a was g = absurd (not_both g (first (not (is_growing c)) _ (second (is_there c.id) _ a)))
      next (Form) a was g = absurd (not_both g (first (not (is_growing c)) _ (second (is_there c.id) _ a)))
      next (Subset t) a was g = tables c.front refl was g a
      next (Took origin number ms body) a was g =
          let w = was (sym (took_growing c (record { origin = origin; number = number; ms = ms; instrs = ok_list (p.unspell body) })) ∙ g) in
          absurd (not_both (second (is_there c.id) _ w) (first (not (c.ident == 0)) _ a))
      next (Floor version) a was g = absurd (floored (is_empty c.parts) g)
        where
          floored : (x : Bool) → (not x && not (is_there {A = ℕ} (Some version))) ≡ true → ⊥
          floored true f = cc
          floored false f = cc
      next (Part body) a was g = (within c.front refl was (first (may_grow c) _ a), some_ahead rs (first (not (is_empty (map (λ q. Some q) rs))) _ (second (may_grow c) _ a)))
      next (Resumed number waiting) a was g = (blank_waiting c (first (is_blank c) _ a), some_ahead rs (first (not (is_empty (map (λ q. Some q) rs))) _ (second (not (is_growing c)) _ (second (is_blank c) _ a))))
      next (Waits number base ms body current) a was g =
          (was (owed c.front refl (first (some_come c.front) _ a)), some_ahead rs (first (not (is_empty (map (λ q. Some q) rs))) _ (second (number == suc (length c.made)) _ (second (some_come c.front) _ a))))

  pub calm : (rs : List ClientRecord) → client_opens p (no_client p) rs ≡ true → is_growing (client_of p rs) ≡ false
  calm rs e = settles_down rs (no_client p) (λ g. absurd (never g)) e
    where
      never : is_growing (no_client p) ≡ true → ⊥
      never g = cc

  -- a calm client stays so
  pub calm_on : (c : Client I S) (rs : List ClientRecord) → is_growing c ≡ false → client_opens p c rs ≡ true → is_growing (after_records p c rs) ≡ false
  calm_on c rs calm_ e = settles_down rs c (λ g. absurd (never g calm_)) e
    where
      never : {b : Bool} → b ≡ true → b ≡ false → ⊥
      never g k = cc
