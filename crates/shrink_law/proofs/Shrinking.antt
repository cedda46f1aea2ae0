-- What is left of a client answers as the client.
use Rattle.std.proofs.Common.{◌≡◌, ℕ, zero, suc, ◌+◌, ◌≤◌, Bool, true, false, List, [], ◌∷◌, ◌++◌, Some, None, Result, Ok, Err, refl, sym, ap, ◌∙◌, arith, if◌then◌else◌, ◌==◌, length, map}
use Rattle.sync_theory.specs.Grid.{rebase, tail}
use Rattle.sync_theory.specs.Changesets.{Changeset}
use Rattle.sync_theory.proofs.Logs.{length_snoc}
use Rattle.sync_model.specs.Profile.{Profile, Stuck, cross_changesets}
use Rattle.sync_model.specs.Clients.{Client, ClientRecord, Born, Named, Made, Took, Form, Subset, Part, Floor, Resumed, Waits, blanks, Original, Unsent, as_made, changeset_of, carried_to, ok_list, crossed, takes_entry, no_client, client_of, after_record, after_records}
use Rattle.sync_model.proofs.Settling.{length_blanks}
use Rattle.shrink_law.specs.Short.{Alike, has_begun, taken, shrunk}

pub len_append : {A : Type 0} (xs ys : List A) → length (xs ++ ys) ≡ length xs + length ys
len_append [] ys = omega arith
len_append (x ∷ xs) ys = let r = len_append xs ys in omega arith

pub len_map : {A B : Type 0} (f : A → B) (xs : List A) → length (map f xs) ≡ length xs
len_map f [] = refl
len_map f (x ∷ xs) = let r = len_map f xs in omega arith

len_tail : {A : Type 0} (xs : List A) → length (tail xs) ≤ length xs
len_tail [] = omega arith
len_tail (x ∷ xs) = omega arith

len_carried : {I : Type 0} (us : List (Unsent I)) (xs : List (Changeset I)) → length (carried_to us xs) ≤ length us
len_carried [] xs = omega arith
len_carried (u ∷ us) [] = omega arith
len_carried (u ∷ us) (x ∷ xs) = let r = len_carried us xs in omega arith

-- all that is unsent was made
abbrev pub Keeps : {I S : Type 0} → Client I S → Type 0
Keeps c = length c.unsent ≤ length c.made

pub alike_refl : {I S : Type 0} (c : Client I S) → Alike c c
alike_refl c = record { id = refl; ident = refl; second = refl; subset = refl; cursor = refl; unsent = refl; objects = refl; last = refl; begun = refl }

pub alike_then : {I S : Type 0} {b c d : Client I S} → Alike b c → Alike c d → Alike b d
alike_then a e = record {
  id = e.id ∙ a.id;
  ident = e.ident ∙ a.ident;
  second = e.second ∙ a.second;
  subset = e.subset ∙ a.subset;
  cursor = e.cursor ∙ a.cursor;
  unsent = e.unsent ∙ a.unsent;
  objects = e.objects ∙ a.objects;
  last = e.last ∙ a.last;
  begun = e.begun ∙ a.begun;
}

pub keeps_alike : {I S : Type 0} (c d : Client I S) → Alike c d → Keeps c → Keeps d
keeps_alike c d a h =
    let e : length d.unsent ≡ length c.unsent = ap length a.unsent in
    let f = a.last in
    omega arith

module _ {I S : Type 0} (p : Profile I S) where
  takes_keeps : (c : Client I S) (x : Changeset I) → Keeps c → Keeps (takes_entry p c x)
  takes_keeps c x h = go (x.origin == c.ident) (rebase (cross_changesets p) (map (changeset_of c.ident) c.unsent) x)
    where
      on : (r : Result (List (Changeset I) × Changeset I) (ℕ × Stuck)) → Keeps (crossed p c r)
      on (Ok q) = let l = len_carried c.unsent q.0 in omega arith
      on (Err f) = h

      go : (b : Bool) (r : Result (List (Changeset I) × Changeset I) (ℕ × Stuck)) → Keeps (if b then record c { cursor = suc c.cursor; unsent = tail c.unsent } else crossed p c r)
      go true r = let l = len_tail c.unsent in omega arith
      go false r = on r

  record_keeps : (c : Client I S) (r : ClientRecord) → Keeps c → Keeps (after_record p c r)
  record_keeps c (Born id) h = h
  record_keeps c (Named ident) h = h
  record_keeps c (Made number ms body) h =
      let o : Original I = record { base = c.cursor; number = number; ms = ms; instrs = ok_list (p.unspell body) } in
      let e = length_snoc c.unsent (as_made o) in
      let f = length_snoc c.made o in
      omega arith
  record_keeps c (Took origin number ms body) h = takes_keeps c (record { origin = origin; number = number; ms = ms; instrs = ok_list (p.unspell body) }) h
  record_keeps c Form h = h
  record_keeps c (Subset tables) h = h
  record_keeps c (Part body) h = h
  record_keeps c (Floor version) h = h
  record_keeps c (Resumed number waiting) h = let l = len_append c.made (blanks {I = I} (suc (length c.made)) number) in omega arith
  record_keeps c (Waits number base ms body current) h =
      let o : Original I = record { base = base; number = number; ms = ms; instrs = ok_list (p.unspell body) } in
      let l = length_snoc c.made o in
      let k = length_snoc c.unsent (record { original = o; current = ok_list (p.unspell current) }) in
      omega (arith, l, k, h)

  records_keep : (rs : List ClientRecord) (c : Client I S) → Keeps c → Keeps (after_records p c rs)
  records_keep [] c h = h
  records_keep (r ∷ rs) c h = records_keep rs (after_record p c r) (record_keeps c r h)

  pub client_keeps : (rs : List ClientRecord) → Keeps (client_of p rs)
  client_keeps rs = records_keep rs (no_client p) (omega arith)

  pub shrunk_alike : (c : Client I S) → Keeps c → Alike c (shrunk p c)
  shrunk_alike c h = go (has_begun c) refl
    where
      go : (b : Bool) → has_begun c ≡ b → Alike c (if b then record c { parts = p.build c.objects; floor = Some c.cursor; front = None; made = blanks 1 (taken c) ++ map (λ u. u.original) c.unsent } else c)
      go true e = record {
        id = refl;
        ident = refl;
        second = refl;
        subset = refl;
        cursor = refl;
        unsent = refl;
        objects = refl;
        last =
            let f = len_append (blanks {I = I} 1 (taken c)) (map (λ u. u.original) c.unsent) in
            let g = length_blanks I 1 (taken c) in
            let k = len_map (λ (u : Unsent I). u.original) c.unsent in
            omega arith;
        begun = sym e;
      }
      go false e = alike_refl c
