-- Entries and clients that are told one after the other.
use Rattle.std.proofs.Common.{◌≡◌, ℕ, zero, suc, ◌+◌, ◌-◌, ◌≤◌, List, [], ◌∷◌, ◌++◌, drop, take, Option, Some, None, refl, sym, ap, ◌∙◌, arith, append_assoc, append-nil, add-one}
use Rattle.std.specs.Prelude.{slice_get, if◌then◌else◌}
use Rattle.std.specs.List.{flat_map}
use Rattle.std.proofs.lemmas.Bool.{le-ltb}
use Rattle.std.specs.Prelude.{Bool, true, false, not, is_some}
use Rattle.std.specs.Option.{option_map}
use Rattle.sync_data.specs.declared.instr.Instr.{Instr}
use Rattle.sync_theory.specs.Changesets.{Changeset}
use Rattle.sync_model.specs.Parts.{Given, at_ident}
use Rattle.sync_model.specs.Trims.{is_live}
use Rattle.server_memory.proofs.Idents.{at_get}
use Rattle.server_memory.specs.Readers.{counts_of, item_from, live_list}
use Rattle.server_memory.specs.declared.counts.Counts.{Counts}
use Rattle.sync_host.specs.Histories.{client_told, told_of}

-- ---- what is left of a list from a place on
got_some : {A : Type 0} (xs : List A) (k : ℕ) (x : A) → slice_get xs k ≡ Some x → drop k xs ≡ x ∷ drop (suc k) xs
got_some [] k x e = cc
got_some (y ∷ ys) zero x e = let same : y ≡ x = cc in ap (λ z. z ∷ ys) same
got_some (y ∷ ys) (suc k) x e = got_some ys k x e

got_none : {A : Type 0} (xs : List A) (k : ℕ) → slice_get xs k ≡ None → drop k xs ≡ []
got_none [] zero e = refl
got_none [] (suc k) e = refl
got_none (y ∷ ys) zero e = cc
got_none (y ∷ ys) (suc k) e = got_none ys k e

from_floor : {A : Type 0} (floor v : ℕ) (xs : List A) → floor ≤ v → item_from floor xs v ≡ slice_get xs (v - floor)
from_floor floor v xs h = ap (λ b. if b then None else slice_get xs (v - floor)) (le-ltb v floor h)

pub entry_there : {A : Type 0} (floor v : ℕ) (xs : List A) (x : A) → floor ≤ v → Some x ≡ item_from floor xs v → drop (v - floor) xs ≡ x ∷ drop (v + 1 - floor) xs
entry_there floor v xs x h e =
    let n : suc (v - floor) ≡ v + 1 - floor = omega (arith, h) in
    got_some xs (v - floor) x (sym (from_floor floor v xs h) ∙ sym e) ∙ ap (λ k. x ∷ drop k xs) n

pub none_there : {A : Type 0} (floor v : ℕ) (xs : List A) → floor ≤ v → None ≡ item_from floor xs v → drop (v - floor) xs ≡ []
none_there floor v xs h e = got_none xs (v - floor) (sym (from_floor floor v xs h) ∙ sym e)

-- ---- a client, by what a server tells of it
still_some : {A B : Type 0} (f : A → B) (o : Option A) → is_some (option_map f o) ≡ is_some o
still_some f None = refl
still_some f (Some x) = refl

given_up : {A : Type 0} (live none : Bool) (x : A) (r : Option A) → r ≡ (if live then Some x else None) → is_some r ≡ not none → none ≡ not live
given_up true false x r e d = refl
given_up false true x r e d = refl
given_up true true x r e d = let h : true ≡ false = sym (ap is_some e) ∙ d in cc
given_up false false x r e d = let h : false ≡ true = sym (ap is_some e) ∙ d in cc

pub record Told (gs : List (Given Instr)) (place : ℕ) (id : List ℕ) (counts : Counts) (none : Bool) : Type 0 where
  pub client : Given Instr
  pub there : drop place gs ≡ client ∷ drop (place + 1) gs
  pub told : told_of id counts none ≡ client_told client

told_so : (gs : List (Given Instr)) (place : ℕ) (id : List ℕ) (counts : Counts) (r : Option (List (ℕ × Changeset Instr))) (none : Bool) (o : Option (Given Instr)) → at_ident (place + 1) gs ≡ o
    → Some id ≡ option_map (λ g. g.uuid) o → Some counts ≡ option_map counts_of o → r ≡ live_list o → is_some r ≡ not none → Told gs place id counts none
told_so gs place id counts r none None here of_id of_counts of_list of_none = cc
told_so gs place id counts r none (Some g) here of_id of_counts of_list of_none =
    let same_id : id ≡ g.uuid = cc in
    let same_counts : counts ≡ counts_of g = cc in
    record {
      client = g;
      there = got_some gs place g (at_get gs place ∙ sym (ap (λ k. at_ident k gs) (add-one place)) ∙ here) ∙ ap (λ k. g ∷ drop k gs) (sym (add-one place));
      told = ap (λ u. told_of u counts none) same_id ∙ ap (λ n. told_of g.uuid n none) same_counts ∙ ap (told_of g.uuid (counts_of g)) (given_up (is_live g) none g.reciprocal r of_list of_none);
    }

pub is_told : {R : Type 0} (view : R → List (ℕ × Changeset Instr)) (gs : List (Given Instr)) (place : ℕ) (id : List ℕ) (counts : Counts) (r : Option R) (none : Bool)
    → Some id ≡ option_map (λ g. g.uuid) (at_ident (place + 1) gs) → Some counts ≡ option_map counts_of (at_ident (place + 1) gs) → option_map view r ≡ live_list (at_ident (place + 1) gs) → is_some r ≡ not none → Told gs place id counts none
is_told view gs place id counts r none of_id of_counts of_list of_none =
    told_so gs place id counts (option_map view r) none (at_ident (place + 1) gs) refl of_id of_counts of_list (still_some view r ∙ of_none)

-- ---- what is told of it
module _ {A : Type 0} (tell : A → List ℕ) where
  -- nothing is left, or nothing more is asked for
  pub ends_there : (out all : List ℕ) (n : ℕ) (left : List A) → left ≡ [] → out ++ flat_map tell (take n left) ≡ all → out ≡ all
  ends_there out all n left none so_far = sym (append-nil out) ∙ ap (λ l. out ++ l) (sym (ap (λ l. flat_map tell (take n l)) none ∙ ap (flat_map tell) (take_none n))) ∙ so_far
    where
      take_none : (n : ℕ) → take {A = A} n [] ≡ []
      take_none zero = refl
      take_none (suc n) = refl

  pub asked_for : (out all : List ℕ) (n : ℕ) (left : List A) → n ≡ 0 → out ++ flat_map tell (take n left) ≡ all → out ≡ all
  asked_for out all n left none so_far = sym (append-nil out) ∙ ap (λ k. out ++ flat_map tell (take k left)) (sym none) ∙ so_far

  -- one more
  pub goes_on : (out more all : List ℕ) (n m : ℕ) (left rest : List A) (x : A) → n ≡ m + 1 → left ≡ x ∷ rest → more ≡ out ++ tell x → out ++ flat_map tell (take n left) ≡ all → more ++ flat_map tell (take m rest) ≡ all
  goes_on out more all n m left rest x n_is left_is more_is so_far =
      ap (λ o. o ++ flat_map tell (take m rest)) more_is ∙ append_assoc out (tell x) (flat_map tell (take m rest))
      ∙ sym (ap (λ l. out ++ flat_map tell l) (ap (λ k. take k left) (n_is ∙ add-one m) ∙ ap (take (suc m)) left_is))
      ∙ so_far
