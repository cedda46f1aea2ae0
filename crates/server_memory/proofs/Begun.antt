-- The front of a file, as the code reads it.
use Rattle.std.proofs.Common.{◌≡◌, ℕ, zero, suc, Bool, true, false, ◌&&◌, ◌||◌, List, [], ◌∷◌, Option, Some, None, Result, Ok, Err, if◌then◌else◌, refl, sym, ap, ◌∙◌, subst, arith, length, map, take}
use Rattle.sync_data.specs.declared.instr.Instr.{Instr}
use Rattle.sync_base.specs.States.{State}
use Rattle.sync_model.specs.Fronts.{Front, begins_trimmed, front_of, front_parts, is_form, of_kind, part_of, taking_all}
use Rattle.sync_model.specs.Parts.{no_parts}
use Rattle.sync_model.specs.Servers.{ServerRecord}
use Rattle.sync_exchange.specs.Profile.{the_profile}
use Rattle.sync_exchange.specs.Seen.{read_server, server_bytes}
use Rattle.sync_records.specs.declared.server.ServerRecord.{ServerRecord as CodeRecord}
use Rattle.server_memory.specs.Kept.{parts}
use Rattle.server_memory.specs.Fronting.{AreSpelled, Fronts, IsSpelled, seen}
use Rattle.server_memory.specs.Opening.{ReadsFront, is_trimmed}
use Rattle.server_memory.specs.declared.kept.Kept.{Kept}
use Rattle.sync_journal.specs.declared.opening.ReadRefusal.{ReadRefusal}
use Rattle.sync_journal.specs.declared.opening.ReadRefusal.TheVariants as refusals
use Rattle.server_memory.proofs.Continuing.{front_on}
use Rattle.server_memory.proofs.There.{front_there, there_records}

-- ---- where the front begins
form_first : (o : Option ServerRecord) (os : List (Option ServerRecord)) → is_form the_profile o ≡ true → begins_trimmed the_profile (o ∷ os) ≡ false
form_first None os e = cc
form_first (Some (ServerRecord.Client id)) os e = cc
form_first (Some (ServerRecord.Entry origin number base ms body)) os e = cc
form_first (Some ServerRecord.Form) os e = refl
form_first (Some (ServerRecord.Retired ident by)) os e = cc
form_first (Some (ServerRecord.Settled c n)) os e = cc
form_first (Some (ServerRecord.Part body)) os e = cc
form_first (Some (ServerRecord.Floor version)) os e = cc
form_first (Some (ServerRecord.Count c number base n)) os e = cc
form_first (Some (ServerRecord.Carried origin number base ms body)) os e = cc
form_first (Some (ServerRecord.Past c version ms body)) os e = cc

abbrev choose : Bool → Bool → Option ServerRecord → List (Option ServerRecord) → Result (Front Instr State) ℕ
choose a b o os = if a then taking_all (of_kind part_of) (o ∷ os) (front_parts the_profile false 0) else if b then taking_all (of_kind part_of) os (front_parts the_profile true 1) else Ok (record { parts = no_parts the_profile; size = 0 })

or_first : (a b : Bool) → (a || b) ≡ true → b ≡ false → a ≡ true
or_first true b e f = refl
or_first false b e f = cc

or_second : (a b : Bool) → (a || b) ≡ true → a ≡ false → b ≡ true
or_second true b e f = cc
or_second false b e f = e

none_and : (b c : Bool) → b ≡ false → (b && c) ≡ false
none_and true c e = cc
none_and false c e = refl

-- behind a form
pub behind_form : (o : Option ServerRecord) (os : List (Option ServerRecord)) → is_trimmed (o ∷ os) ≡ true → is_form the_profile o ≡ true → front_of the_profile (o ∷ os) ≡ taking_all (of_kind part_of) os (front_parts the_profile true 1)
behind_form o os e form =
    let not_here = form_first o os form in
    ap (λ a. choose a (is_form the_profile o && begins_trimmed the_profile os) o os) not_here
    ∙ ap (λ b. choose false b o os) (or_second (begins_trimmed the_profile (o ∷ os)) (is_form the_profile o && begins_trimmed the_profile os) e not_here)

-- or without one
pub without_form : (o : Option ServerRecord) (os : List (Option ServerRecord)) → is_trimmed (o ∷ os) ≡ true → is_form the_profile o ≡ false → front_of the_profile (o ∷ os) ≡ taking_all (of_kind part_of) (o ∷ os) (front_parts the_profile false 0)
without_form o os e form =
    ap (λ a. choose a (is_form the_profile o && begins_trimmed the_profile os) o os)
    (or_first (begins_trimmed the_profile (o ∷ os)) (is_form the_profile o && begins_trimmed the_profile os) e (none_and (is_form the_profile o) (begins_trimmed the_profile os) form))

-- ---- what the records of the front are
map_take : {A B : Type 0} (f : A → B) (n : ℕ) (xs : List A) → map f (take n xs) ≡ take n (map f xs)
map_take f zero xs = refl
map_take f (suc n) [] = refl
map_take f (suc n) (x ∷ xs) = ap (λ l. f x ∷ l) (map_take f n xs)

first_is : (o : Option ServerRecord) (r : ServerRecord) (os : List (Option ServerRecord)) (rs : List (Option ServerRecord)) → o ∷ os ≡ Some r ∷ rs → (o ≡ Some r) × (os ≡ rs)
first_is o r os rs e = (cc, cc)

spelled_taken : (n : ℕ) (os : List (Option ServerRecord)) (file : List (List ℕ)) (rs : List ServerRecord) → length os ≡ length file → AreSpelled os file → take n os ≡ map (λ r. Some r) rs → map server_bytes rs ≡ take n file
spelled_taken zero os file [] e s t = refl
spelled_taken zero os file (r ∷ rs) e s t = cc
spelled_taken (suc n) [] [] [] e s t = refl
spelled_taken (suc n) [] [] (r ∷ rs) e s t = cc
spelled_taken (suc n) [] (b ∷ file) rs e s t = absurd (omega (arith, e))
spelled_taken (suc n) (o ∷ os) [] rs e s t = absurd (omega (arith, e))
spelled_taken (suc n) (o ∷ os) (b ∷ file) [] e s t = cc
spelled_taken (suc n) (o ∷ os) (b ∷ file) (r ∷ rs) e s t =
    let both = first_is o r (take n os) (map (λ r. Some r) rs) t in
    let first : server_bytes r ≡ b = subst (λ x. IsSpelled x b) both.0 s.0 in
    (λ i. first i ∷ spelled_taken n os file rs (omega (arith, e)) s.1 both.1 i)

pub fronts_read : (file : List (List ℕ)) (records : List (Option CodeRecord)) (r : Result (Kept × ℕ) ReadRefusal) → seen records ≡ map read_server file → AreSpelled (seen records) file → Fronts r (front_of the_profile (seen records)) → ReadsFront file r
fronts_read file records (Err refusals.NoMemory) e s says = tt
fronts_read file records (Err (refusals.BadRecord place)) e s says = ap (front_of the_profile) (sym e) ∙ says
fronts_read file records (Ok f) e s says =
    let front : Front Instr State = record { parts = parts f.0; size = f.1 } in
    let on = front_on the_profile [] tt (seen records) front says in
    let there = there_records (take f.1 (seen records)) (front_there the_profile (seen records) front says) in
    let size : length (seen records) ≡ length file = ap length e ∙ mapped file in
    let bound = on.within in
    record {
      within = omega (arith, bound, size);
      records = there.0;
      are = record {
        reads = map_take read_server f.1 file ∙ ap (take f.1) (sym e) ∙ there.1;
        spelled = spelled_taken f.1 (seen records) file there.0 size s there.1;
      };
      gives = ap (front_of the_profile) (sym e) ∙ says;
    }
  where
    mapped : (l : List (List ℕ)) → length (map read_server l) ≡ length l
    mapped [] = refl
    mapped (b ∷ l) = ap suc (mapped l)
