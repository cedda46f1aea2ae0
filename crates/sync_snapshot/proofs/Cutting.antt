-- Instructions are cut into changesets as they come.
use Rattle.std.proofs.Common.{◌≡◌, ◌+◌, true, false, ◌&&◌, List, [], ◌∷◌, ◌++◌, map, length, refl, sym, ap, ◌∙◌, append_assoc, arith, subst, Option}
use Rattle.std.specs.Prelude.{nat_le, sum_by, if◌then◌else◌}
use Rattle.std.proofs.lemmas.List.Sums.{sum_by-append}
use Rattle.std.specs.Prelude.{flat_map}
use Rattle.std.specs.declared.cmp.Ordering.{Ordering}
use Rattle.store_walks.specs.Walk.{from_key, from, Step}
use Rattle.sync_data.specs.Payload.{Changes}
use Rattle.sync_data.specs.declared.instr.Instr.{Instr}
use Rattle.sync_model.specs.Cuts.{closed, cut_after}
use Rattle.sync_exchange.specs.Profile.{weight, fits_changeset}
use Rattle.sync_snapshot.specs.Parts.{Cut, untimed, parts_with, Leaves, Takes}

one_longer : (xs : List Instr) (i : Instr) → length (xs ++ i ∷ []) ≡ length xs + 1
one_longer [] i = refl
one_longer (x ∷ xs) i = let e = one_longer xs i in omega (arith, e)

one_weight : (i : Instr) → sum_by weight (i ∷ []) ≡ weight i
one_weight i = omega arith

pub fits_with : (part : List Instr) (i : Instr) → fits_changeset (part ++ i ∷ []) ≡ (nat_le (length part + 1) 65536 && nat_le (sum_by weight part + weight i) 4194304)
fits_with part i = λ k. nat_le (one_longer part i k) 65536 && nat_le ((sum_by-append weight part (i ∷ []) ∙ ap (λ n. sum_by weight part + n) (one_weight i)) k) 4194304

map_append : {A B : Type 0} (f : A → B) (xs ys : List A) → map f (xs ++ ys) ≡ map f xs ++ map f ys
map_append f [] ys = refl
map_append f (x ∷ xs) ys = ap (λ l. f x ∷ l) (map_append f xs ys)

closed_first : (part : List Instr) (parts : List (List Instr)) → closed part parts ≡ closed part [] ++ parts
closed_first [] parts = refl
closed_first (i ∷ is) parts = refl

-- an instruction that fits the open changeset
pub put_on : (parts : List Changes) (part : List Instr) (i : Instr) → fits_changeset (part ++ i ∷ []) ≡ true → Takes (record { parts = parts; part = part }) (record { parts = parts; part = part ++ i ∷ [] }) (i ∷ [])
put_on parts part i e rest = ap (λ b. parts ++ map untimed (if b then cut_after fits_changeset (part ++ i ∷ []) rest else closed part (cut_after fits_changeset (i ∷ []) rest))) (sym e)

-- one that doesn't, and begins the next
pub put_next : (parts : List Changes) (part : List Instr) (i : Instr) → fits_changeset (part ++ i ∷ []) ≡ false → Takes (record { parts = parts; part = part }) (record { parts = parts ++ map untimed (closed part []); part = i ∷ [] }) (i ∷ [])
put_next parts part i e rest =
    let after = cut_after fits_changeset (i ∷ []) rest in
    append_assoc parts (map untimed (closed part [])) (map untimed after)
    ∙ ap (λ l. parts ++ l) (sym (map_append untimed (closed part []) after) ∙ ap (map untimed) (sym (closed_first part after)))
    ∙ ap (λ b. parts ++ map untimed (if b then cut_after fits_changeset (part ++ i ∷ []) rest else closed part after)) (sym e)

-- one more of a list
pub takes_one : (old now new : Cut) (all left : List Instr) (i : Instr) → Leaves old now all (i ∷ left) → Takes now new (i ∷ []) → Leaves old new all left
takes_one old now new all left i before take rest = take (left ++ rest) ∙ before rest

-- and some more
pub takes_some : (old now new : Cut) (all some left : List Instr) → Leaves old now all (some ++ left) → Takes now new some → Leaves old new all left
takes_some old now new all some left before take rest = take (left ++ rest) ∙ ap (parts_with now) (sym (append_assoc some left rest)) ∙ before rest

module _ {K X : Type 0} (R : K → K → Ordering) (g : K × X → List Instr) where
  -- a step of a walk takes what is made of an entry
  pub takes_step : (old now new : Cut) (all : List Instr) (k : K) (next : Option K) (es : List (K × X)) (s : Step R k next es) → Leaves old now all (flat_map g (from_key R k es)) → Takes now new (g (k, s.value)) → Leaves old new all (flat_map g (from R next es))
  takes_step old now new all k next es s before take =
      takes_some old now new all (g (k, s.value)) (flat_map g (from R next es)) (subst (λ l. Leaves old now all (flat_map g l)) s.rest before) take
