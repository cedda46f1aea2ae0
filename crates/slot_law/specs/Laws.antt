-- What crossing instruction by instruction gives.
use Rattle.std.specs.Prelude.{◌≡◌, Bool, List, [], ◌∷◌, ◌++◌, Option, Some, None, Result, Ok, IsErr, IfSome, map}
use Rattle.sync_theory.specs.Lists.{cross}
use Rattle.sync_theory.specs.Changesets.{Changeset, cross_sets}
use Rattle.sync_theory.specs.Grid.{rebase, carry}
use Rattle.slot_law.specs.Slots.{Slot, Meets, through, all_through, pick, put, PassesOthers, InClass, StaysInClass, Item, set_of, flat, refilled, SameItems, with_instrs, on_left, on_right}

-- what goes instruction by instruction through the slots of a client's changesets rebases them
abbrev pub Rebases : {I M : Type 0} → (I → I → Bool → Result (Option I × Option I) M) → Type 0
Rebases {I} meet = (is : List (Item I)) (e : Changeset I) (ys zs : List (Option I)) (ss : List (Slot (Changeset I) I)) → all_through (on_left meet e) (flat is) ys ≡ Some (ss, zs)
    → (rebase (cross_sets meet) (map set_of is) (with_instrs e ys) ≡ Ok (map set_of (refilled is ss), with_instrs e zs)) × (flat (refilled is ss) ≡ ss) × SameItems is (refilled is ss)

-- and through those of a server's entries is carried over them
abbrev pub Carries : {I M : Type 0} → (I → I → Bool → Result (Option I × Option I) M) → Type 0
Carries {I} meet = (is : List (Item I)) (e : Changeset I) (ys zs : List (Option I)) (ss : List (Slot (Changeset I) I)) → all_through (on_right meet e) (flat is) ys ≡ Some (ss, zs)
    → (carry (cross_sets meet) (with_instrs e ys) (map set_of is) ≡ Ok (with_instrs e zs, map set_of (refilled is ss))) × (flat (refilled is ss) ≡ ss) × SameItems is (refilled is ss)

-- an instruction that passes all but some crosses these alone
abbrev pub Picks : {T I : Type 0} → Meets T I → Type 0
Picks {T} {I} meets = (Class : I → Bool) → StaysInClass meets Class → (ms : List Bool) (ss us : List (Slot T I)) (y z : Option I) → InClass Class y → PassesOthers meets Class ms ss
    → through meets (pick ms ss) y ≡ Some (us, z) → through meets ss y ≡ Some (put ms ss us, z)

-- slots in two parts
abbrev pub Parts : {T I : Type 0} → Meets T I → Type 0
Parts {T} {I} meets = (xs ys us vs : List (Slot T I)) (x y z : Option I) → through meets xs x ≡ Some (us, y) → through meets ys y ≡ Some (vs, z) → through meets (xs ++ ys) x ≡ Some (us ++ vs, z)

-- nothing is left of the incoming one
abbrev pub Ends : {T I : Type 0} → Meets T I → Type 0
Ends {T} {I} meets = (ss : List (Slot T I)) → through meets ss None ≡ Some (ss, None)

-- where it mismatches, so do the pairs
abbrev pub GivesUpLeft : {I M : Type 0} → (I → I → Bool → Result (Option I × Option I) M) → Type 0
GivesUpLeft {I} {M} meet = (is : List (Item I)) (e : Changeset I) (ys : List (Option I)) → all_through (on_left meet e) (flat is) ys ≡ None → IsErr (rebase (cross_sets meet) (map set_of is) (with_instrs e ys))

abbrev pub GivesUpRight : {I M : Type 0} → (I → I → Bool → Result (Option I × Option I) M) → Type 0
GivesUpRight {I} {M} meet = (is : List (Item I)) (e : Changeset I) (ys : List (Option I)) → all_through (on_right meet e) (flat is) ys ≡ None → IsErr (carry (cross_sets meet) (with_instrs e ys) (map set_of is))

-- ---- slots that an index passes over: each, as a list of its own, crosses the incoming one as it is
abbrev pub SingleStays : {I M : Type 0} → (I → I → Result (Option I × Option I) M) → I → I → Type 0
SingleStays meet a b = cross meet (a ∷ []) (b ∷ []) ≡ Ok (a ∷ [], b ∷ [])

abbrev pub AllStay : {I M : Type 0} → (I → I → Bool → Result (Option I × Option I) M) → List (Slot (Changeset I) I) → I → Type 0
AllStay meet [] b = Unit {0}
AllStay meet (s ∷ ss) b = IfSome s.1 (λ a. (later : Bool) → SingleStays (λ x y. meet x y later) a b × SingleStays (λ x y. meet x y later) b a) × AllStay meet ss b

abbrev pub Skips : {I M : Type 0} → (I → I → Bool → Result (Option I × Option I) M) → Type 0
Skips {I} meet = (e : Changeset I) (ss : List (Slot (Changeset I) I)) (b : I) → AllStay meet ss b → (through (on_left meet e) ss (Some b) ≡ Some (ss, Some b)) × (through (on_right meet e) ss (Some b) ≡ Some (ss, Some b))
