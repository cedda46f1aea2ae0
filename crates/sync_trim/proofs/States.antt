-- A store is grown again from the parts of its state, and the entries act on it one after the other.
use Rattle.std.proofs.Common.{◌≡◌, ℕ, zero, suc, ◌+◌, ◌-◌, ◌<◌, Bool, true, false, List, [], ◌∷◌, map, take, Option, Some, None, refl, sym, ap, ◌∙◌, arith}
use Rattle.std.specs.Prelude.{bytes_eq, Result, Ok, Err, if◌then◌else◌}
use Rattle.std.specs.Option.{option_map}
use Rattle.std.proofs.lemmas.Slice.Eq.{bytes_eq-Decides}
use Rattle.sync_theory.specs.Changesets.{Changeset}
use Rattle.sync_theory.specs.Lists.{and_then, run}
use Rattle.sync_data.specs.Payload.{Changes}
use Rattle.sync_data.specs.declared.instr.Instr.{Instr}
use Rattle.sync_base.specs.declared.answers.Break.{Break}
use Rattle.sync_base.specs.After.{after}
use Rattle.sync_base.specs.Checks.{act, act_all, break_at, break_of, unbroken}
use Rattle.sync_base.specs.Effects.{effect_of, is_effect}
use Rattle.sync_base.specs.States.{State, IsState, no_state}
use Rattle.sync_law.specs.Law.{act_all-run}
use Rattle.sync_law.specs.CodedLaw.{applies}
use Rattle.sync_codec.specs.Spelling.{spelling}
use Rattle.snapshot_law.specs.Build.{build, built_list}
use Rattle.snapshot_law.specs.Lemmas.Runs.{built_runs}
use Rattle.sync_model.specs.Clients.{state_or}
use Rattle.sync_model.specs.Profile.{act_changeset}
use Rattle.sync_model.specs.Profile.{act as act_by}
use Rattle.sync_model.specs.Snapshots.{grown, grown_as, grown_to, part_differs, run_parts}
use Rattle.sync_model.specs.Lemmas.Cuts.{cut_runs}
use Rattle.sync_exchange.specs.Profile.{fits_changeset, the_profile}
use Rattle.sync_snapshot.specs.Grown.{lists_of}
use Rattle.sync_snapshot.specs.Parts.{untimed}

-- ---- a copy
lists_untimed : (xs : List (List Instr)) → lists_of (map untimed xs) ≡ xs
lists_untimed [] = refl
lists_untimed (x ∷ xs) = ap (λ l. x ∷ l) (lists_untimed xs)

acts_alike : ◌≡◌ {A = Instr → State → Option State} (act_by the_profile) act
acts_alike = λ j i s. applies i s j

runs : (s : State) → IsState s → run_parts the_profile 0 (the_profile.build s) no_state ≡ Ok s
runs s ok = cut_runs the_profile (built_list s) no_state s (ap (λ f. run f (built_list s) no_state) acts_alike ∙ built_runs s ok)

same_bytes : (xs : List ℕ) → bytes_eq xs xs ≡ true
same_bytes xs = on (bytes_eq xs xs) (bytes_eq-Decides xs xs).1
  where
    on : (b : Bool) → (xs ≡ xs → b ≡ true) → b ≡ true
    on b f = f refl

none_differs : (k : ℕ) (xs : List (List Instr)) → part_differs the_profile k xs xs ≡ None
none_differs k [] = refl
none_differs k (x ∷ xs) = ap (λ b. if b then part_differs the_profile (suc k) xs xs else Some k) (same_bytes (the_profile.spell x)) ∙ none_differs (suc k) xs

pub grows_again : (s : State) → IsState s → grown the_profile (lists_of (map untimed (build fits_changeset s))) ≡ Ok s
grows_again s ok =
    ap (grown the_profile) (lists_untimed (build fits_changeset s))
    ∙ ap (grown_to the_profile (the_profile.build s)) (runs s ok)
    ∙ ap (grown_as s) (none_differs 0 (the_profile.build s))

-- ---- entries that act
run_all : (is : List Instr) (s : State) → run (act_by the_profile) is s ≡ act_all is s
run_all is s = ap (λ f. run f is s) acts_alike ∙ sym (act_all-run is s)

breaks : (is : List Instr) (s : State) (q : ℕ × Break) → break_at is s ≡ Some q → run act is s ≡ None
breaks [] s q e = cc
breaks (i ∷ is) s q e = on (is_effect (effect_of i)) (break_of s (effect_of i)) e (λ r f. breaks is (after s (effect_of i)) r f)
  where
    on : (b : Bool) (o : Option Break)
        → ◌≡◌ {A = Option (ℕ × Break)} (elim o [ Some b ↦ Some (0, b) | None ↦ option_map {U = ℕ × Break} (λ p. (suc p.0, p.1)) (break_at is (after s (effect_of i))) ]) (Some q)
        → ((r : ℕ × Break) → break_at is (after s (effect_of i)) ≡ Some r → run act is (after s (effect_of i)) ≡ None)
        → and_then (if b then unbroken o (after s (effect_of i)) else None) (λ t. run act is t) ≡ None
    on false o e go = refl
    on true (Some b) e go = refl
    on true None e go = later (break_at is (after s (effect_of i))) e go
      where
        later : (o : Option (ℕ × Break)) → option_map {U = ℕ × Break} (λ p. (suc p.0, p.1)) o ≡ Some q → ((r : ℕ × Break) → o ≡ Some r → run act is (after s (effect_of i)) ≡ None) → run act is (after s (effect_of i)) ≡ None
        later None e go = cc
        later (Some r) e go = go r refl

abbrev Entries : Type 0
Entries = List (Changeset Instr)

-- the state after so many entries, where none breaks, or else this one
abbrev pub state_after : State → ℕ → Entries → State → State
state_after below n xs s = state_or below (run (act_changeset the_profile) (take n xs) s)

-- an entry more
pub acts_on : (below : State) (to v : ℕ) (xs rest : Entries) (x : Changeset Instr) (s t : State) → v < to → xs ≡ x ∷ rest → act_all x.instrs s ≡ Some t → state_after below (to - (v + 1)) rest t ≡ state_after below (to - v) xs s
acts_on below to v xs rest x s t h e acts =
    let n : to - v ≡ suc (to - (v + 1)) = omega (arith, h) in
    let done = run_all x.instrs s ∙ acts in
    sym (ap (λ m. state_after below m xs s) n ∙ ap (λ l. state_after below (suc (to - (v + 1))) l s) e ∙ ap (λ o. state_or below (and_then o (run (act_changeset the_profile) (take (to - (v + 1)) rest)))) done)

-- one that breaks
pub stops_at : (below : State) (to v : ℕ) (xs rest : Entries) (x : Changeset Instr) (s : State) (q : ℕ × Break) → v < to → xs ≡ x ∷ rest → break_at x.instrs s ≡ Some q → below ≡ state_after below (to - v) xs s
stops_at below to v xs rest x s q h e broken =
    let n : to - v ≡ suc (to - (v + 1)) = omega (arith, h) in
    let done = ap (λ f. run f x.instrs s) acts_alike ∙ breaks x.instrs s q broken in
    sym (ap (λ m. state_after below m xs s) n ∙ ap (λ l. state_after below (suc (to - (v + 1))) l s) e ∙ ap (λ o. state_or below (and_then o (run (act_changeset the_profile) (take (to - (v + 1)) rest)))) done)

-- no entry is left
pub none_left : (below : State) (n : ℕ) (xs : Entries) (s : State) → xs ≡ [] → s ≡ state_after below n xs s
none_left below n xs s e = sym (ap (λ l. state_after below n l s) e ∙ on n)
  where
    on : (n : ℕ) → state_after below n [] s ≡ s
    on zero = refl
    on (suc n) = refl

pub all_taken : (below : State) (n : ℕ) (xs : Entries) (s : State) → n ≡ 0 → s ≡ state_after below n xs s
all_taken below n xs s e = sym (ap (λ m. state_after below m xs s) e ∙ on xs)
  where
    on : (xs : Entries) → state_after below 0 xs s ≡ s
    on [] = refl
    on (x ∷ xs) = refl

-- what is grown from the parts of a state is that state
ok_is : (s t : State) (r : Result State ℕ) → r ≡ Ok t → r ≡ Ok s → t ≡ s
ok_is s t (Ok u) e f = let a : u ≡ t = cc in let b : u ≡ s = cc in sym a ∙ b
ok_is s t (Err k) e f = cc

pub grown_is : (s t : State) (ps : List Changes) → IsState s → ps ≡ map untimed (build fits_changeset s) → grown the_profile (lists_of ps) ≡ Ok t → t ≡ s
grown_is s t ps ok e f = ok_is s t (grown the_profile (lists_of ps)) f (ap (λ l. grown the_profile (lists_of l)) e ∙ grows_again s ok)

-- the bytes of the parts of a state
pub spelled_parts : (xs : List (List Instr)) → map (λ part. spelling part.instrs) (map untimed xs) ≡ map spelling xs
spelled_parts [] = refl
spelled_parts (x ∷ xs) = ap (λ l. spelling x ∷ l) (spelled_parts xs)
