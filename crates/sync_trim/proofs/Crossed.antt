-- The entries that an ident's changes crossed, pair by pair.
use Rattle.std.proofs.Common.{◌≡◌, ℕ, zero, suc, ◌+◌, ◌-◌, ◌<◌, ◌≤◌, Bool, true, false, List, [], ◌∷◌, ◌++◌, map, drop, Option, Some, None, refl, sym, ap, ◌∙◌, arith}
use Rattle.std.specs.Prelude.{nat_lt, if◌then◌else◌, max}
use Rattle.std.proofs.lemmas.Bool.{le-ltb, lt-ltb}
use Rattle.std.specs.Option.{option_map}
use Rattle.sync_theory.specs.Changesets.{Changeset}
use Rattle.sync_data.specs.declared.entry.Entry.{Entry}
use Rattle.sync_recip.specs.Lists.{entry_of}
use Rattle.sync_data.specs.declared.instr.Instr.{Instr}
use Rattle.sync_model.specs.Servers as model
use Rattle.sync_model.specs.Trimmed.{count_records, crossed_record, crossed_of, crossed_records}
use Rattle.sync_model.specs.Trims.{is_live, pairs_from, trimmed_given}
use Rattle.sync_model.specs.Worlds.{at}
use Rattle.sync_exchange.specs.Profile.{the_profile}
use Rattle.server_memory.specs.Readers.{item_from}
use Rattle.sync_trim.proofs.Given.{Idents}
use Rattle.sync_trim.proofs.Versions.{from_floor}

abbrev pub Pair : Type 0
Pair = ℕ × Changeset Instr

-- ---- the pairs from a version on
pub pair_before : (b : ℕ) (q : Pair) (qs : List Pair) → q.0 < b → pairs_from b (q ∷ qs) ≡ pairs_from b qs
pair_before b q qs h = ap (λ t. if t then pairs_from b qs else q ∷ pairs_from b qs) (lt-ltb q.0 b h)

pub pair_from : (b : ℕ) (q : Pair) (qs : List Pair) → b ≤ q.0 → pairs_from b (q ∷ qs) ≡ q ∷ pairs_from b qs
pair_from b q qs h = ap (λ t. if t then pairs_from b qs else q ∷ pairs_from b qs) (le-ltb q.0 b h)

twice_on : (b : ℕ) (q : Pair) (qs : List Pair) (t : Bool) → nat_lt q.0 b ≡ t → pairs_from b (pairs_from b qs) ≡ pairs_from b qs → pairs_from b (if t then pairs_from b qs else q ∷ pairs_from b qs) ≡ (if t then pairs_from b qs else q ∷ pairs_from b qs)
twice_on b q qs true e h = h
twice_on b q qs false e h = ap (λ u. if u then pairs_from b (pairs_from b qs) else q ∷ pairs_from b (pairs_from b qs)) e ∙ ap (λ l. q ∷ l) h

twice : (b : ℕ) (qs : List Pair) → pairs_from b (pairs_from b qs) ≡ pairs_from b qs
twice b [] = refl
twice b (q ∷ qs) = twice_on b q qs (nat_lt q.0 b) refl (twice b qs)

-- ---- the entry of a version in what is left of the history
at_drop : {A : Type 0} (xs : List A) (a b : ℕ) → at (drop a xs) b ≡ at xs (a + b)
at_drop xs zero b = let e : 0 + b ≡ b = omega arith in ap (at xs) (sym e)
at_drop [] (suc a) b = refl
at_drop (x ∷ xs) (suc a) b = let e : suc a + b ≡ suc (a + b) = omega arith in at_drop xs a b ∙ ap (at (x ∷ xs)) (sym e)

entry_left : (floor f v : ℕ) (xs : List (Changeset Instr)) → floor ≤ f → f ≤ v → at (drop (f - floor) xs) (v - f) ≡ item_from floor xs v
entry_left floor f v xs h k =
    let n : (f - floor) + (v - f) ≡ v - floor = omega (arith, h, k) in
    let above : floor ≤ v = omega (arith, h, k) in
    at_drop xs (f - floor) (v - f) ∙ ap (at xs) n ∙ sym (from_floor floor v xs above)

-- ---- a pair more
abbrev pub crossed_left : (c floor f b : ℕ) → List (Changeset Instr) → List Pair → List model.ServerRecord
crossed_left c floor f b xs qs = crossed_of the_profile c f (drop (f - floor) xs) (pairs_from b qs)

pub passed : (c floor f b : ℕ) (xs : List (Changeset Instr)) (qs rest : List Pair) (q : Pair) → qs ≡ q ∷ rest → q.0 < b → crossed_left c floor f b xs qs ≡ crossed_left c floor f b xs rest
passed c floor f b xs qs rest q e h = ap (λ l. crossed_of the_profile c f (drop (f - floor) xs) l) (ap (pairs_from b) e ∙ pair_before b q rest h)

pub crossed : (c floor f b : ℕ) (xs : List (Changeset Instr)) (qs rest : List Pair) (q : Pair) → qs ≡ q ∷ rest → b ≤ q.0 → floor ≤ f → f ≤ b → crossed_left c floor f b xs qs ≡ crossed_record the_profile c q (item_from floor xs q.0) ++ crossed_left c floor f b xs rest
crossed c floor f b xs qs rest q e h k l =
    let above : f ≤ q.0 = omega (arith, h, l) in
    ap (λ l. crossed_of the_profile c f (drop (f - floor) xs) l) (ap (pairs_from b) e ∙ pair_from b q rest h)
    ∙ ap (λ x. crossed_record the_profile c q x ++ crossed_left c floor f b xs rest) (entry_left floor f q.0 xs k above)

pub none_crossed : (c floor f b : ℕ) (xs : List (Changeset Instr)) (qs : List Pair) → qs ≡ [] → crossed_left c floor f b xs qs ≡ []
none_crossed c floor f b xs qs e = ap (crossed_left c floor f b xs) e

-- ---- the idents of the trimmed file
pub clients_left : (f : ℕ) (gs : Idents) → map (λ g. model.Client g.uuid) (map (trimmed_given f) gs) ≡ map (λ g. model.Client g.uuid) gs
clients_left f [] = refl
clients_left f (g ∷ gs) = ap (λ l. model.Client g.uuid ∷ l) (clients_left f gs)

pub counts_left : (f c : ℕ) (gs : Idents) → count_records the_profile c (map (trimmed_given f) gs) ≡ count_records the_profile c gs
counts_left f c [] = refl
counts_left f c (g ∷ gs) = ap (λ l. model.Count c g.count g.last g.mark ∷ l) (counts_left f (suc c) gs)

pub crossed_idents_left : (f c : ℕ) (xs : List (Changeset Instr)) (gs : Idents) → crossed_records the_profile c f xs (map (trimmed_given f) gs) ≡ crossed_records the_profile c f xs gs
crossed_idents_left f c xs [] = refl
crossed_idents_left f c xs (g ∷ gs) =
    ap (λ qs. (if is_live g then crossed_of the_profile c f xs qs else []) ++ crossed_records the_profile (suc c) f xs (map (trimmed_given f) gs)) (twice (max f g.last) g.reciprocal)
    ∙ ap (λ l. (if is_live g then crossed_of the_profile c f xs (pairs_from (max f g.last) g.reciprocal) else []) ++ l) (crossed_idents_left f (suc c) xs gs)

-- ---- a pair that is read
pub got_some : (r : Option (ℕ × Entry)) (o : Option Pair) (v : ℕ) (e : Entry) → option_map {U = Pair} (λ p. (p.0, entry_of p.1)) r ≡ o → r ≡ Some (v, e) → ◌≡◌ {A = Option Pair} (Some (v, entry_of e)) o
got_some r o v e says is = sym (ap (option_map {U = Pair} (λ p. (p.0, entry_of p.1))) is) ∙ says

pub got_none : (r : Option (ℕ × Entry)) (o : Option Pair) → option_map {U = Pair} (λ p. (p.0, entry_of p.1)) r ≡ o → r ≡ None → o ≡ None
got_none r o says is = sym says ∙ ap (option_map {U = Pair} (λ p. (p.0, entry_of p.1))) is
