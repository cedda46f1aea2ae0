-- The front of a trimmed file, phase by phase.
use Rattle.std.proofs.Common.{◌≡◌, ℕ, zero, suc, ◌==◌, ◌+◌, ◌<◌, ◌≤◌, Bool, true, false, not, ◌&&◌, List, [], ◌∷◌, ◌++◌, Option, Some, None, Result, Ok, Err, if◌then◌else◌, refl, sym, ap, ◌∙◌, subst, arith, length, drop, take, get_or, length-append}
use Rattle.std.proofs.lemmas.List.{map-append}
use Rattle.std.specs.Option.{is_some, option_map}
use Rattle.std.proofs.lemmas.Bool.{ne_eqb}
use Rattle.sync_data.specs.Payload.{Changes}
use Rattle.sync_exchange.specs.Seen.{server_seen}
use Rattle.sync_data.specs.declared.instr.Instr.{Instr}
use Rattle.sync_base.specs.States.{State}
use Rattle.sync_model.specs.Clients.{ok_list}
use Rattle.sync_model.specs.Files.{readable}
use Rattle.sync_model.specs.Fronts.{Front, front_behind, front_parts, leading, of_kind, part_of, part_step, retired_step, taking_all, then_at, uuid_step, walk}
use Rattle.sync_model.specs.Bytes.{Uuid}
use Rattle.sync_model.specs.Parts.{Given}
use Rattle.sync_model.specs.Profile.{needs}
use Rattle.sync_model.specs.Servers.{place_of}
use Rattle.sync_model.specs.Snapshots.{grown}
use Rattle.sync_model.specs.Worlds.{is_there}
use Rattle.sync_exchange.specs.Profile.{the_profile, unspell}
use Rattle.sync_records.specs.declared.server.ServerRecord.{ServerRecord as CodeRecord}
use Rattle.server_memory.specs.Fronting.{Fronts, Grows, RefusedAt, Walks, can_retire, instrs_of, seen_from, uuids_of}
use Rattle.server_memory.specs.Integrating.{found}
use Rattle.server_memory.specs.declared.kept.Kept.{Kept}
use Rattle.sync_journal.specs.declared.opening.ReadRefusal.{ReadRefusal}
use Rattle.sync_journal.specs.declared.opening.ReadRefusal.TheVariants as refusals
use Rattle.server_memory.proofs.Continuing.{lead_short}
use Rattle.server_memory.proofs.Walking.{LoopSoFar, all_of_kind, from_later, from_length, loop_begins, loop_next, loop_refuses, walked as loop_walked}

-- ---- parts
readable_is : (second : Bool) (r : Result (List Instr) (ℕ × ℕ)) (is : List Instr) → readable the_profile second r ≡ Some is → (is_there (readable the_profile second r) ≡ true) × (ok_list r ≡ is)
readable_is second (Err f) is e = cc
readable_is second (Ok js) is e = on (needs the_profile js && not second) e
  where
    on : (t : Bool) → ◌≡◌ {A = Option (List Instr)} (if t then None else Some js) (Some is) → (is_there {A = List Instr} (if t then None else Some js) ≡ true) × (js ≡ is)
    on true f = cc
    on false f = (refl, cc)

pub part_more : (second : Bool) (parts : List (List Instr)) (body : List ℕ) (is : List Instr) → readable the_profile second (unspell body) ≡ Some is → part_step the_profile second parts body ≡ Some (parts ++ is ∷ [])
part_more second parts body is e =
    let both = readable_is second (unspell body) is e in
    ap (λ t. if t then Some (parts ++ ok_list (unspell body) ∷ []) else None) both.0 ∙ ap (λ l. Some (parts ++ l ∷ [])) both.1

pub part_none : (second : Bool) (parts : List (List Instr)) (body : List ℕ) → readable the_profile second (unspell body) ≡ None → part_step the_profile second parts body ≡ None
part_none second parts body e = ap (λ o. if is_there o then Some (parts ++ ok_list (unspell body) ∷ []) else None) e

pub instrs_more : (vs : List Changes) (v : Changes) → instrs_of (vs ++ v ∷ []) ≡ instrs_of vs ++ v.instrs ∷ []
instrs_more vs v = map-append (λ (w : Changes). w.instrs) vs (v ∷ [])

-- ---- the loop over the parts
module _ (records : List (Option CodeRecord)) (first : ℕ) (second : Bool) where
  abbrev most : ℕ
  most = length (seen_from first records)

  abbrev pub PartsSoFar : ℕ → List Changes → Type 0
  PartsSoFar place parts = LoopSoFar part_of (part_step the_profile second) most records first place [] (instrs_of parts) (length parts)

  abbrev all_bodies : List (List ℕ)
  all_bodies = leading (of_kind part_of) (seen_from first records)

  pub parts_whole : (parts : List Changes) → (loop_walked part_of (part_step the_profile second) most records first [] ≡ Ok (instrs_of parts)) × (length parts ≡ length (take most all_bodies)) → (walk (part_step the_profile second) [] all_bodies ≡ Ok (instrs_of parts)) × (length parts ≡ length all_bodies)
  parts_whole parts e =
      let same = all_of_kind part_of (seen_from first records) in
      subst (λ l. (walk (part_step the_profile second) [] l ≡ Ok (instrs_of parts)) × (length parts ≡ length l)) same e

  pub parts_begin : (parts : List Changes) → parts ≡ [] → PartsSoFar first parts
  parts_begin parts e = subst (PartsSoFar first) (sym e) (loop_begins part_of (part_step the_profile second) most records first [])

  module _ (place : ℕ) (parts : List Changes) (s : PartsSoFar place parts) (lt : place < length records) (within : first ≤ length records) (r : Option CodeRecord) (is : r ≡ get_or records place r) where
    few : length parts < most
    few =
        let long = from_length records first within in
        let here = s.here in
        omega (arith, long, here)

    pub parts_next : (body : List ℕ) (v : Changes) (now : List Changes) → of_kind part_of (option_map server_seen r) ≡ Some body → readable the_profile second (unspell body) ≡ Some v.instrs → now ≡ parts ++ v ∷ [] → PartsSoFar (place + 1) now
    parts_next body v now e made after =
        let more = loop_next part_of (part_step the_profile second) most records first place [] (instrs_of parts) (length parts) s r body (instrs_of parts ++ v.instrs ∷ []) few lt is e (part_more second (instrs_of parts) body v.instrs made) in
        let size : length parts + 1 ≡ length now = omega (arith, ap length after, length-append parts (v ∷ [])) in
        let listed : instrs_of parts ++ v.instrs ∷ [] ≡ instrs_of now = sym (ap instrs_of after ∙ instrs_more parts v) in
        subst (λ n. LoopSoFar part_of (part_step the_profile second) most records first (place + 1) [] (instrs_of now) n) size
        (subst (λ l. LoopSoFar part_of (part_step the_profile second) most records first (place + 1) [] l (length parts + 1)) listed more)

    pub parts_refuse : (body : List ℕ) → of_kind part_of (option_map server_seen r) ≡ Some body → readable the_profile second (unspell body) ≡ None → RefusedAt first place (walk (part_step the_profile second) [] all_bodies)
    parts_refuse body e none =
        let same = all_of_kind part_of (seen_from first records) in
        subst (λ l. RefusedAt first place (walk (part_step the_profile second) [] l)) same
        (loop_refuses part_of (part_step the_profile second) most records first place [] (instrs_of parts) (length parts) s r body few lt is e (part_none second (instrs_of parts) body none))

-- ---- what comes behind the parts
module _ (records : List (Option CodeRecord)) (first : ℕ) (second : Bool) where
  abbrev bodies : List (List ℕ)
  bodies = leading (of_kind part_of) (seen_from first records)

  abbrev walked : Result (List (List Instr)) ℕ
  walked = walk (part_step the_profile second) [] bodies

  -- a part is refused
  pub parts_fail : (why : ReadRefusal) → Walks {T = List Changes} instrs_of length first walked (length bodies) (Err why) → Fronts (Err why) (taking_all (of_kind part_of) (seen_from first records) (front_parts the_profile second first))
  parts_fail refusals.NoMemory bad = tt
  parts_fail (refusals.BadRecord place) bad =
      ap (λ w. then_at first w (λ parts. then_at first (grown the_profile parts) (λ s. front_behind the_profile second s (first + length bodies) (drop (length bodies) (seen_from first records))))) bad.is ∙ ap (λ n. Err n) (sym bad.place_is)

  module _ (parts : List Changes) (read : walked ≡ Ok (instrs_of parts)) (size : length parts ≡ length bodies) where
    behind : (go : Result (Front Instr State) ℕ) → then_at first (grown the_profile (instrs_of parts)) (λ s. front_behind the_profile second s (first + length bodies) (drop (length bodies) (seen_from first records))) ≡ go
        → taking_all (of_kind part_of) (seen_from first records) (front_parts the_profile second first) ≡ go
    behind go e = ap (λ w. then_at first w (λ parts. then_at first (grown the_profile parts) (λ s. front_behind the_profile second s (first + length bodies) (drop (length bodies) (seen_from first records))))) read ∙ e

    -- they aren't those of a state
    pub not_grown : (why : ReadRefusal) (ps : List Changes) → ps ≡ parts → Grows first (instrs_of ps) (Err why) → Fronts (Err why) (taking_all (of_kind part_of) (seen_from first records) (front_parts the_profile second first))
    not_grown refusals.NoMemory ps e bad = tt
    not_grown (refusals.BadRecord place) ps e bad =
        behind (Err place)
        (ap (λ w. then_at first w (λ s. front_behind the_profile second s (first + length bodies) (drop (length bodies) (seen_from first records)))) (ap (λ l. grown the_profile (instrs_of l)) (sym e) ∙ bad.is) ∙ ap (λ n. Err n) (sym bad.place_is))

    -- they are within the records
    pub parts_fit : first ≤ length records → first + length parts ≤ length records
    parts_fit within =
        let long = from_length records first within in
        let short = lead_short part_of (seen_from first records) in
        omega (arith, long, short, size)

    -- they are
    pub grown_on : (s : State) (place : ℕ) (r : Result (Kept × ℕ) ReadRefusal) → grown the_profile (instrs_of parts) ≡ Ok s → place ≡ first + length parts → Fronts r (front_behind the_profile second s place (seen_from place records))
        → Fronts r (taking_all (of_kind part_of) (seen_from first records) (front_parts the_profile second first))
    grown_on s place r e here says =
        let at : place ≡ first + length bodies = omega (arith, here, size) in
        let same : taking_all (of_kind part_of) (seen_from first records) (front_parts the_profile second first) ≡ front_behind the_profile second s place (seen_from place records) =
        behind (front_behind the_profile second s place (seen_from place records))
        (ap (λ w. then_at first w (λ s. front_behind the_profile second s (first + length bodies) (drop (length bodies) (seen_from first records)))) e
        ∙ ap (front_behind the_profile second s (first + length bodies)) (from_later records first (length bodies) place at)
        ∙ ap (λ n. front_behind the_profile second s n (seen_from place records)) (sym at))
        in
        subst (Fronts r) (sym same) says

pub one_state : (a b : List Changes) (s t : State) → a ≡ b → grown the_profile (instrs_of a) ≡ Ok s → grown the_profile (instrs_of b) ≡ Ok t → t ≡ s
one_state a b s t e f g = got (sym g ∙ ap (λ l. grown the_profile (instrs_of l)) (sym e) ∙ f)
  where
    got : {x y : State} → ◌≡◌ {A = Result State ℕ} (Ok x) (Ok y) → x ≡ y
    got e = cc

-- ---- retired idents, one more
pub retires_not : (given : ℕ) (told qs : List (ℕ × ℕ)) (ident by : ℕ) → told ≡ qs → (b : Bool) → b ≡ can_retire given told ident by → b ≡ false → retired_step given qs (ident, by) ≡ None
retires_not given told qs ident by e b says is = ap (λ t. if t then Some (qs ++ (ident, by) ∷ []) else None) (ap (λ l. can_retire given l ident by) (sym e) ∙ sym says ∙ is)

pub retires : (given : ℕ) (told qs now : List (ℕ × ℕ)) (ident by : ℕ) → told ≡ qs → (b : Bool) → b ≡ can_retire given told ident by → b ≡ true → now ≡ qs ++ (ident, by) ∷ [] → retired_step given qs (ident, by) ≡ Some now
retires given told qs now ident by e b says is after = ap (λ t. if t then Some (qs ++ (ident, by) ∷ []) else None) (ap (λ l. can_retire given l ident by) (sym e) ∙ sym says ∙ is) ∙ ap (λ l. Some l) (sym after)

-- ---- uuids, one more
place_found : (n : ℕ) → is_some (found n) ≡ true → (n == 0) ≡ false
place_found zero e = cc
place_found (suc n) e = ne_eqb (suc n) 0 (λ f. absurd (omega (arith, f)))

place_free : (n : ℕ) → is_some (found n) ≡ false → (n == 0) ≡ true
place_free zero e = refl
place_free (suc n) e = cc

pub uuid_known : (told gs : List (Given Instr)) (id : Uuid) → told ≡ gs → is_some (found (place_of id (uuids_of told))) ≡ true → uuid_step (uuids_of gs) id ≡ None
uuid_known told gs id e known = ap (λ t. if t then Some (uuids_of gs ++ id ∷ []) else None) (ap (λ l. place_of id (uuids_of l) == 0) (sym e) ∙ place_found (place_of id (uuids_of told)) known)

pub uuid_new : (told gs now : List (Given Instr)) (id : Uuid) (g : Given Instr) → told ≡ gs → is_some (found (place_of id (uuids_of told))) ≡ false → g.uuid ≡ id → now ≡ gs ++ g ∷ [] → uuid_step (uuids_of gs) id ≡ Some (uuids_of now)
uuid_new told gs now id g e free same after =
    ap (λ t. if t then Some (uuids_of gs ++ id ∷ []) else None) (ap (λ l. place_of id (uuids_of l) == 0) (sym e) ∙ place_free (place_of id (uuids_of told)) free)
    ∙ ap (λ u. Some (uuids_of gs ++ u ∷ [])) (sym same)
    ∙ ap (λ l. Some l) (sym (ap uuids_of after ∙ map-append (λ (h : Given Instr). h.uuid) gs (g ∷ [])))
