-- The parts of a state that stand one behind the other in a file.
use Rattle.std.proofs.Common.{◌≡◌, ℕ, suc, ◌+◌, Bool, true, false, List, [], ◌∷◌, ◌++◌, length, map, drop, get_or, Vec, Option, Some, None, Result, Ok, refl, ap, ◌∙◌, sym, subst, length-append, arith, ◌==◌, if◌then◌else◌}
use Rattle.std.specs.Option.{option_map}
use Rattle.sync_data.specs.Payload.{Changes}
use Rattle.sync_data.specs.declared.instr.Instr.{Instr}
use Rattle.sync_data.specs.declared.memory.NoMemory.{NoMemory}
use Rattle.sync_io.specs.Formats.{◌>>=◌}
use Rattle.sync_model.specs.Bytes.{Bytes}
use Rattle.sync_model.specs.Files.{bodies_ahead, body_and, part_body}
use Rattle.sync_records.specs.declared.client.ClientRecord.{ClientRecord as CodeRecord}
use Rattle.sync_records.specs.declared.client.ClientRecord.TheVariants as codes
use Rattle.sync_records.specs.Reading.{id_in, ident_in, made_in, made_of, took_in, took_of, form_in, names_in, version_in, pair_in, resumed_of, waits_in, waits_of}
use Rattle.sync_exchange.specs.Profile.{the_profile}
use Rattle.sync_exchange.specs.Seen.{client_seen, read_client}
use Rattle.sync_client.specs.declared.beginning.Found.{Found}
use Rattle.sync_client.specs.declared.beginning.Found.TheVariants as founds
use Rattle.sync_snapshot.specs.Grown.{lists_of}
use Rattle.sync_client.specs.Parts.{none_read, part_bytes, CutRun, Finds, IsBadPart, IsNoState, IsPart, RunOf, WholeRun}
use Rattle.sync_client.proofs.Parts.{read_more}

-- ---- a record with another tag is no part
not_part : {A : Type 0} (o : Option A) (make : A → CodeRecord) → ((x : A) → part_body (Some (client_seen (make x))) ≡ None) → part_body (option_map client_seen (o >>= λ x. Some (make x))) ≡ None
not_part None make h = refl
not_part (Some x) make h = h x

unless : (b : Bool) (x y : Option CodeRecord) → (b ≡ true → part_body (option_map client_seen x) ≡ None) → part_body (option_map client_seen y) ≡ None → part_body (option_map client_seen (if b then x else y)) ≡ None
unless true x y f g = f refl
unless false x y f g = g

other_tag : (tag : ℕ) (fields : List ℕ) → ¬ (tag ≡ 11) → part_body (read_client (tag ∷ fields)) ≡ None
other_tag tag fields h =
    unless (tag == 1) _ _ (λ e. not_part (id_in fields) codes.Born (λ x. refl))
    (unless (tag == 2) _ _ (λ e. not_part (ident_in fields) codes.Named (λ x. refl))
    (unless (tag == 3) _ _ (λ e. not_part (made_in fields) made_of (λ x. refl))
    (unless (tag == 4) _ _ (λ e. not_part (took_in fields) took_of (λ x. refl))
    (unless (tag == 7) _ _ (λ e. not_part (form_in fields) (λ _. codes.Form) (λ x. refl))
    (unless (tag == 9) _ _ (λ e. not_part (names_in fields) codes.Subset (λ x. refl))
    (unless (tag == 11) _ _ (λ e. absurd (h (Rattle.std.proofs.Common.eqb-true tag 11 e)))
    (unless (tag == 12) _ _ (λ e. not_part (version_in fields) codes.Floor (λ x. refl))
    (unless (tag == 16) _ _ (λ e. not_part (pair_in fields) resumed_of (λ x. refl))
    (unless (tag == 17) _ _ (λ e. not_part (waits_in fields) waits_of (λ x. refl)) refl)))))))))

pub no_part : (bytes : List ℕ) → ¬ (get_or bytes 0 0 ≡ 11) → part_body (read_client bytes) ≡ None
no_part [] h = refl
no_part (b ∷ bytes) h = other_tag b bytes h

-- ---- and with two others neither a part nor a version
no_state_of : {A : Type 0} (o : Option A) (make : A → CodeRecord) → ((x : A) → IsNoState (Some (client_seen (make x)))) → IsNoState (option_map client_seen (o >>= λ x. Some (make x)))
no_state_of None make h = tt
no_state_of (Some x) make h = h x

unless_state : (b : Bool) (x y : Option CodeRecord) → (b ≡ true → IsNoState (option_map client_seen x)) → IsNoState (option_map client_seen y) → IsNoState (option_map client_seen (if b then x else y))
unless_state true x y f g = f refl
unless_state false x y f g = g

other_tags : (tag : ℕ) (fields : List ℕ) → ¬ (tag ≡ 11) → ¬ (tag ≡ 12) → IsNoState (read_client (tag ∷ fields))
other_tags tag fields h g =
    unless_state (tag == 1) _ _ (λ e. no_state_of (id_in fields) codes.Born (λ x. tt))
    (unless_state (tag == 2) _ _ (λ e. no_state_of (ident_in fields) codes.Named (λ x. tt))
    (unless_state (tag == 3) _ _ (λ e. no_state_of (made_in fields) made_of (λ x. tt))
    (unless_state (tag == 4) _ _ (λ e. no_state_of (took_in fields) took_of (λ x. tt))
    (unless_state (tag == 7) _ _ (λ e. no_state_of (form_in fields) (λ _. codes.Form) (λ x. tt))
    (unless_state (tag == 9) _ _ (λ e. no_state_of (names_in fields) codes.Subset (λ x. tt))
    (unless_state (tag == 11) _ _ (λ e. absurd (h (Rattle.std.proofs.Common.eqb-true tag 11 e)))
    (unless_state (tag == 12) _ _ (λ e. absurd (g (Rattle.std.proofs.Common.eqb-true tag 12 e)))
    (unless_state (tag == 16) _ _ (λ e. no_state_of (pair_in fields) resumed_of (λ x. tt))
    (unless_state (tag == 17) _ _ (λ e. no_state_of (waits_in fields) waits_of (λ x. tt)) tt)))))))))

pub no_state : (bytes : List ℕ) → ¬ (get_or bytes 0 0 ≡ 11) → ¬ (get_or bytes 0 0 ≡ 12) → IsNoState (read_client bytes)
no_state [] h g = tt
no_state (b ∷ bytes) h g = other_tags b bytes h g

-- ---- one after the other
length_map : {A B : Type 0} (f : A → B) (xs : List A) → length (map f xs) ≡ length xs
length_map f [] = refl
length_map f (x ∷ xs) = ap suc (length_map f xs)

pub length_lists : (run : List Changes) → length (lists_of run) ≡ length run
length_lists run = length_map (λ (part : Changes). part.instrs) run

pub record RunSoFar (second : Bool) (file rest : List (List ℕ)) (run : List Changes) (place index : ℕ) : Type 0 where
  pub run_of : RunOf second file rest (lists_of run)
  pub index_is : index ≡ place + length run

pub run_first : (second : Bool) (file : List (List ℕ)) (place : ℕ) → RunSoFar second file file [] place place
run_first second file place = record { run_of = record { bodies = []; split = refl; read = none_read }; index_is = omega arith }

both_mapped : (bs : List Bytes) (b : Bytes) (rest : List (List ℕ)) → map part_bytes (bs ++ b ∷ []) ++ rest ≡ map part_bytes bs ++ (part_bytes b ∷ rest)
both_mapped [] b rest = refl
both_mapped (c ∷ bs) b rest = ap (λ (l : List (List ℕ)). part_bytes c ∷ l) (both_mapped bs b rest)

lists_both : (run : List Changes) (x : Changes) → lists_of (run ++ x ∷ []) ≡ lists_of run ++ x.instrs ∷ []
lists_both [] x = refl
lists_both (y ∷ run) x = ap (λ (l : List (List Instr)). y.instrs ∷ l) (lists_both run x)

pub run_next : (second : Bool) (file left rest : List (List ℕ)) (run new : List Changes) (place index : ℕ) (bytes : List ℕ) (x : Changes) → RunSoFar second file left run place index → left ≡ bytes ∷ rest → IsPart second bytes x.instrs → new ≡ run ++ x ∷ [] → RunSoFar second file rest new place (index + 1)
run_next second file left rest run new place index bytes x s is p put =
    let index_is = s.index_is in
    let longer : length new ≡ length run + 1 = ap length put ∙ length-append run (x ∷ []) in
    record {
      run_of = record {
        bodies = s.run_of.bodies ++ p.body ∷ [];
        split = s.run_of.split ∙ ap (λ l. map part_bytes s.run_of.bodies ++ l) (is ∙ ap (λ b. b ∷ rest) p.spelled) ∙ sym (both_mapped s.run_of.bodies p.body rest);
        read = subst (Rattle.sync_client.specs.Parts.AreRead the_profile second (s.run_of.bodies ++ p.body ∷ [])) (sym (ap lists_of put ∙ lists_both run x)) (read_more the_profile second s.run_of.bodies (lists_of run) p.body x.instrs s.run_of.read p.read);
      };
      index_is = omega (arith, index_is, longer);
    }

pub run_bad : (second : Bool) (file left rest : List (List ℕ)) (run : List Changes) (place index : ℕ) (bytes : List ℕ) → RunSoFar second file left run place index → left ≡ bytes ∷ rest → IsBadPart second bytes → (count : ℕ) × (index ≡ place + count) × CutRun second file count
run_bad second file left rest run place index bytes s is bad = (
  length run,
  s.index_is,
  record { run = lists_of run; bytes = bytes; rest = rest; run_of = subst (λ l. RunOf second file l (lists_of run)) is s.run_of; bad = bad; count_is = sym (length_lists run) },
)

-- those behind the run
behind_is : (records : List (List ℕ)) (second : Bool) (file : List (List ℕ)) (run : List Changes) (place index : ℕ) → RunSoFar second file (drop index records) run place index → RunOf second file (drop (place + length run) records) (lists_of run)
behind_is records second file run place index s = subst (λ i. RunOf second file (drop i records) (lists_of run)) s.index_is s.run_of

pub run_other : (records : List (List ℕ)) (second : Bool) (file rest : List (List ℕ)) (run : List Changes) (place index : ℕ) (bytes : List ℕ) → RunSoFar second file (drop index records) run place index → drop index records ≡ bytes ∷ rest → part_body (read_client bytes) ≡ None
    → WholeRun second file (drop (place + length run) records) (lists_of run)
run_other records second file rest run place index bytes s is other = record {
  run_of = behind_is records second file run place index s;
  no_more = ap (λ i. bodies_ahead the_profile (map read_client (drop i records))) (sym s.index_is) ∙ ap (λ (l : List (List ℕ)). bodies_ahead the_profile (map read_client l)) is ∙ ap (λ o. body_and o (bodies_ahead the_profile (map read_client rest))) other;
}

pub run_end : (records : List (List ℕ)) (second : Bool) (file : List (List ℕ)) (run : List Changes) (place index : ℕ) → RunSoFar second file (drop index records) run place index → drop index records ≡ [] → WholeRun second file (drop (place + length run) records) (lists_of run)
run_end records second file run place index s is = record {
  run_of = behind_is records second file run place index s;
  no_more = ap (λ i. bodies_ahead the_profile (map read_client (drop i records))) (sym s.index_is) ∙ ap (λ (l : List (List ℕ)). bodies_ahead the_profile (map read_client l)) is;
}

-- what was found
pub found_part : (second : Bool) (bytes given : List ℕ) (r : Result Found NoMemory) (f : Found) (x : Changes) → given ≡ bytes → r ≡ Ok f → f ≡ founds.Part x → Finds second given r → IsPart second bytes x.instrs
found_part second bytes given r f x same is part finds = subst (λ b. IsPart second b x.instrs) same (subst (Finds second given) (is ∙ ap (λ (g : Found). Ok g) part) finds)

pub found_bad : (second : Bool) (bytes given : List ℕ) (r : Result Found NoMemory) (f : Found) → given ≡ bytes → r ≡ Ok f → f ≡ founds.BadPart → Finds second given r → IsBadPart second bytes
found_bad second bytes given r f same is part finds = subst (IsBadPart second) same (subst (Finds second given) (is ∙ ap (λ (g : Found). Ok g) part) finds)

pub found_other : (second : Bool) (bytes given : List ℕ) (r : Result Found NoMemory) (f : Found) → given ≡ bytes → r ≡ Ok f → f ≡ founds.Other → Finds second given r → part_body (read_client bytes) ≡ None
found_other second bytes given r f same is part finds = ap (λ b. part_body (read_client b)) (sym same) ∙ subst (Finds second given) (is ∙ ap (λ (g : Found). Ok g) part) finds
