-- A client's file that begins with a state: what opening makes of it.
use Rattle.std.proofs.Common.{◌≡◌, ℕ, zero, suc, ◌+◌, ◌≤◌, ◌<◌, Bool, true, false, not, ◌&&◌, ◌||◌, ◌==◌, List, [], ◌∷◌, ◌++◌, length, map, drop, Vec, Option, Some, None, Result, Ok, Err, refl, ap, ◌∙◌, sym, subst, append-nil, length-append, arith, inl, inr}
use Rattle.std.specs.Prelude.{◌⊎◌}
use Rattle.sync_data.specs.Payload.{Changes}
use Rattle.sync_data.specs.declared.instr.Instr.{Instr}
use Rattle.sync_base.specs.States.{State}
use Rattle.sync_model.specs.Bytes.{Bytes}
use Rattle.sync_model.specs.Clients.{Client, ClientRecord, after_record, after_records, client_of, grown_or, no_client}
use Rattle.sync_model.specs.Each.{Each, no_more, and_each}
use Rattle.sync_model.specs.Files.{all_came, bodies_ahead, client_admits, client_opens, client_reads, closes, is_blank, is_empty, is_fine, is_growing, is_place, may_grow, read_one, read_put}
use Rattle.sync_model.specs.Limits.{IsClientRecord}
use Rattle.sync_model.specs.Snapshots.{grown}
use Rattle.sync_model.specs.Worlds.{is_there}
use Rattle.sync_model.proofs.Limits.{each_append}
use Rattle.sync_model.proofs.Opening.{client_opens_on}
use Rattle.sync_model.proofs.Own.{after_append, if_true}
use Rattle.sync_model.proofs.Settling.{blank_waiting, is_waiting, no_front}
use Rattle.sync_exchange.specs.Profile.{the_profile}
use Rattle.sync_exchange.specs.Seen.{client_bytes, read_client}
use Rattle.sync_journal.specs.declared.opening.ReadRefusal.{ReadRefusal}
use Rattle.sync_journal.specs.declared.opening.ReadRefusal.TheVariants as reads
use Rattle.sync_client.specs.declared.replica.Replica.{Replica}
use Rattle.sync_client.specs.Keeping.{Keeps}
use Rattle.sync_snapshot.specs.Grown.{lists_of}
use Rattle.sync_client.specs.Parts.{front_of, part_bytes, Closed, Closes, CutRun, Ended, FindsRun, IsFloor, IsNoFloor, IsOfState, Named, OfState, Unclosed, WholeRun}
use Rattle.sync_client.specs.Reading.{GrewSome, GrowsOn, MayGrow, ReadSome, ReadsOn, read_puts}
use Rattle.sync_client.specs.Seen.{Past, seen}
use Rattle.sync_client.proofs.Parts.{IsOther, admits_open, after_parts, all_admit, cut_at, floor_admits, not_ready, not_ready_floor, others_refused, part, refuses, refuses_none, same_length, stops_behind, stops_last, stops_named, stops_unread, walk, with_parts}
use Rattle.sync_client.proofs.Records.{past_of, puts_more}
use Rattle.sync_client.proofs.Runs.{length_lists}

abbrev Seen : Type 0
Seen = Client Instr State

back : (b : Bytes) → read_client (part_bytes b) ≡ Some (part b)
back b = refl

abbrev reading : Seen → List (List ℕ) → Result (List ClientRecord) ℕ
reading c file = client_reads the_profile read_client c file

-- ---- a client that takes no parts
pub state_refused : (c : Seen) (bytes : List ℕ) (rest : List (List ℕ)) → may_grow c ≡ false → IsOfState (read_client bytes) → reading c (bytes ∷ rest) ≡ Err 0
state_refused c bytes rest ready of_state = go (read_client bytes) refl of_state
  where
    go : (o : Option ClientRecord) → read_client bytes ≡ o → IsOfState o → reading c (bytes ∷ rest) ≡ Err 0
    go None is h = refuses_none the_profile read_client part_bytes back c bytes rest is
    go (Some (ClientRecord.Part body)) is h = refuses the_profile read_client part_bytes back c bytes rest (part body) is (not_ready the_profile c (map read_client rest) body ready)
    go (Some (ClientRecord.Floor version)) is h = refuses the_profile read_client part_bytes back c bytes rest (ClientRecord.Floor version) is (not_ready_floor the_profile c (map read_client rest) version ready)
    go (Some (ClientRecord.Born id)) is h = absurd h
    go (Some (ClientRecord.Named ident)) is h = absurd h
    go (Some (ClientRecord.Made number ms body)) is h = absurd h
    go (Some (ClientRecord.Took origin number ms body)) is h = absurd h
    go (Some ClientRecord.Form) is h = absurd h
    go (Some (ClientRecord.Subset tables)) is h = absurd h
    go (Some (ClientRecord.Resumed number waiting)) is h = absurd h
    go (Some (ClientRecord.Waits number base ms body current)) is h = absurd h

-- ---- a blank one has no parts
no_parts : (c : Seen) → is_blank c ≡ true → (not (is_empty c.parts) && not (is_there c.floor)) ≡ false → c.parts ≡ []
no_parts c blank calm_ = go (is_there c.id) (is_there c.subset) (is_there c.floor) (_) c.parts blank calm_
  where
    go : (a b f rest : Bool) (xs : List (List Instr)) → (a && (not b && (not f && rest))) ≡ true → (not (is_empty xs) && not f) ≡ false → xs ≡ []
    go a b f rest [] e g = refl
    go true false false rest (x ∷ xs) e g = cc
    go true false true rest (x ∷ xs) e g = cc
    go true true f rest (x ∷ xs) e g = cc
    go false b f rest (x ∷ xs) e g = cc

-- and may go on with them
pub blank_grows : (before : List ClientRecord) (r : Replica) (k : Keeps before r) → is_blank (seen k.past r) ≡ true → MayGrow false k.past r
blank_grows before r k blank =
    let settled = (past_of before r k).settled in
    let front = no_front (seen k.past r) settled in
    let waiting = blank_waiting (seen k.past r) blank in
    record {
      parts = no_parts (seen k.past r) blank (second_no (is_there k.past.front) _ settled);
      front = front;
      count = k.count;
      ready = ap (λ o. all_came o (is_blank (seen k.past r))) front ∙ blank;
      born = first_yes (is_there r.id) (r.ident == 0) waiting;
      unnamed = second_yes (is_there r.id) (r.ident == 0) waiting;
      floorless = λ e. no_floor r.floor (is_there r.id) (is_there r.subset) _ blank;
    }
  where
    second_no : (a b : Bool) → (a || b) ≡ false → b ≡ false
    second_no true b e = cc
    second_no false b e = e

    first_yes : (a b : Bool) → (a && b) ≡ true → a ≡ true
    first_yes true b e = refl
    first_yes false b e = e

    second_yes : (a b : Bool) → (a && b) ≡ true → b ≡ true
    second_yes true b e = e
    second_yes false b e = cc

    no_floor : (o : Option ℕ) (a b rest : Bool) → (a && (not b && (not (is_there o) && rest))) ≡ true → o ≡ None
    no_floor None a b rest e = refl
    no_floor (Some v) true true rest e = cc
    no_floor (Some v) true false rest e = cc
    no_floor (Some v) false b rest e = cc

-- ---- runs that are refused
module _ (within : Bool) (past : Past) (r : Replica) (k : MayGrow within past r) where
  abbrev Now : Seen
  Now = seen past r

  abbrev with_run : List (List Instr) → Seen
  with_run run = with_parts the_profile (seen past r) run

  -- whether a part may need the second form
  abbrev form : Bool
  form = is_there past.front || r.second

  waiting : is_waiting (seen past r) ≡ true
  waiting = both_true k.born k.unnamed
    where
      both_true : {a b : Bool} → a ≡ true → b ≡ true → (a && b) ≡ true
      both_true {a = true} e f = f
      both_true {a = false} e f = e

  from_blank : (file : List (List ℕ)) → reading (seen past r) file ≡ reading (with_run []) file
  from_blank file = ap (λ (xs : List (List Instr)). reading (record (seen past r) { parts = xs }) file) k.parts

  -- one part isn't one that the form allows
  pub cut_refused : (file : List (List ℕ)) (count : ℕ) → CutRun form file count → reading (seen past r) file ≡ Err count
  cut_refused file count t =
      let bodies = t.run_of.bodies in
      from_blank file
      ∙ ap (reading (with_run [])) (t.run_of.split ∙ ap (λ b. map part_bytes bodies ++ (b ∷ t.rest)) t.bad.spelled)
      ∙ stops_unread the_profile read_client part_bytes back (seen past r) bodies t.run t.bad.body t.rest k.ready t.run_of.read t.bad.unread
      ∙ ap (λ n. Err n) (same_length the_profile form bodies t.run t.run_of.read ∙ sym t.count_is)

  -- one is named
  pub named_refused : (file rest : List (List ℕ)) (run : List (List Instr)) (place : ℕ) → WholeRun form file rest run → Named run place → reading (seen past r) file ≡ Err place
  named_refused file rest run place w n =
      let t = cut_at the_profile form place w.run_of.bodies run w.run_of.read n.within in
      from_blank file
      ∙ ap (reading (with_run [])) (w.run_of.split ∙ ap (λ (bs : List Bytes). map part_bytes bs ++ rest) t.bodies)
      ∙ stops_named the_profile read_client part_bytes back (seen past r) t.front t.back t.body t.first t.last t.here rest k.ready t.read_front t.read_here t.read_back w.no_more
      (ap (grown the_profile) (sym t.lists) ∙ n.grows ∙ ap (λ i. Err i) (sym t.place))
      ∙ ap (λ i. Err i) (same_length the_profile form t.front t.first t.read_front ∙ t.place)

  -- nothing follows
  pub ended_refused : (file : List (List ℕ)) (run : List (List Instr)) (place : ℕ) → WholeRun form file [] run → Ended run place → reading (seen past r) file ≡ Err place
  ended_refused file run place w e =
      let all = e.place_is in
      let t = cut_at the_profile form place w.run_of.bodies run w.run_of.read (omega (arith, all)) in
      let long : length run ≡ length t.first + length (t.here ∷ t.last) = ap length t.lists ∙ length-append t.first (t.here ∷ t.last) in
      let place_is = t.place in
      let none : t.last ≡ [] = nothing t.last (omega (arith, all, long, place_is)) in
      let none_back : t.back ≡ [] = nothing t.back (same_length the_profile form t.back t.last t.read_back ∙ ap length none) in
      from_blank file
      ∙ ap (reading (with_run [])) (w.run_of.split ∙ append-nil (map part_bytes w.run_of.bodies) ∙ ap (map part_bytes) (t.bodies ∙ ap (λ (l : List Bytes). t.front ++ (t.body ∷ l)) none_back))
      ∙ stops_last the_profile read_client part_bytes back (seen past r) t.front t.body t.first t.here k.ready t.read_front t.read_here
      (λ i h. ap (λ l. is_place i (grown the_profile l)) (sym (t.lists ∙ ap (λ l. t.first ++ (t.here ∷ l)) none)) ∙ e.fine i (omega (arith, h, place_is)))
      ∙ ap (λ i. Err i) (same_length the_profile form t.front t.first t.read_front ∙ place_is)
    where
      nothing : {A : Type 0} (xs : List A) → length xs ≡ 0 → xs ≡ []
      nothing [] h = refl
      nothing (x ∷ xs) h = cc

  -- the record behind them is refused
  floor_refused : (run : List (List Instr)) (bytes : List ℕ) (rest : List (List ℕ)) (version : ℕ) → IsFloor bytes version → (is_fine (grown the_profile run) && closes (front_of within) version r.unsent) ≡ false → reading (with_run run) (bytes ∷ rest) ≡ Err 0
  floor_refused run bytes rest version floor bad =
      refuses the_profile read_client part_bytes back (with_run run) bytes rest (ClientRecord.Floor version) floor.read (floor_admits the_profile (with_run run) k.ready waiting (map read_client rest) version ∙ ap (λ o. is_fine (grown the_profile run) && closes o version r.unsent) k.front ∙ bad)

  other : (q : ClientRecord) (rest : List (List ℕ)) → IsNoFloor (Some q) → bodies_ahead the_profile (Some q ∷ map read_client rest) ≡ [] → IsOther q
  other (ClientRecord.Part body) rest h none = let f : body ∷ bodies_ahead the_profile (map read_client rest) ≡ [] = none in cc
  other (ClientRecord.Floor version) rest h none = absurd h
  other (ClientRecord.Born id) rest h none = tt
  other (ClientRecord.Named ident) rest h none = tt
  other (ClientRecord.Made number ms body) rest h none = tt
  other (ClientRecord.Took origin number ms body) rest h none = tt
  other ClientRecord.Form rest h none = tt
  other (ClientRecord.Subset tables) rest h none = tt
  other (ClientRecord.Resumed number waiting) rest h none = tt
  other (ClientRecord.Waits number base ms body current) rest h none = tt

  -- it waits for a version where it has parts
  grows : (x : List Instr) (run : List (List Instr)) (b : Bool) → within ≡ b → is_growing (with_run (x ∷ run)) ≡ true
  grows x run true is = ap (λ (o : Option ℕ). is_there o || (not (is_empty (x ∷ run)) && not (is_there r.floor))) (k.front ∙ ap front_of is)
  grows x run false is = ap (λ (o : Option ℕ). is_there past.front || (not (is_empty (x ∷ run)) && not (is_there o))) (k.floorless is) ∙ or_yes (is_there past.front)
    where
      or_yes : (b : Bool) → (b || true) ≡ true
      or_yes true = refl
      or_yes false = refl

  other_refused : (x : List Instr) (run : List (List Instr)) (bytes : List ℕ) (rest : List (List ℕ)) (o : Option ClientRecord) → read_client bytes ≡ o → IsNoFloor o → bodies_ahead the_profile (map read_client (bytes ∷ rest)) ≡ [] → reading (with_run (x ∷ run)) (bytes ∷ rest) ≡ Err 0
  other_refused x run bytes rest None is h none = refuses_none the_profile read_client part_bytes back (with_run (x ∷ run)) bytes rest is
  other_refused x run bytes rest (Some q) is h none =
      refuses the_profile read_client part_bytes back (with_run (x ∷ run)) bytes rest q is
      (others_refused the_profile (with_run (x ∷ run)) k.ready waiting (map read_client rest) q (other q rest h (sym (ap (λ o. bodies_ahead the_profile (o ∷ map read_client rest)) is) ∙ none)) (grows x run within refl) refl)

  -- nothing stands there at all
  first_refused : (bytes : List ℕ) (rest : List (List ℕ)) (o : Option ClientRecord) → read_client bytes ≡ o → IsNoFloor o → IsOfState o → bodies_ahead the_profile (map read_client (bytes ∷ rest)) ≡ [] → reading (with_run []) (bytes ∷ rest) ≡ Err 0
  first_refused bytes rest None is h s none = refuses_none the_profile read_client part_bytes back (with_run []) bytes rest is
  first_refused bytes rest (Some (ClientRecord.Part body)) is h s none = absurd (other (ClientRecord.Part body) rest h (sym (ap (λ o. bodies_ahead the_profile (o ∷ map read_client rest)) is) ∙ none))
  first_refused bytes rest (Some (ClientRecord.Floor version)) is h s none = absurd h
  first_refused bytes rest (Some (ClientRecord.Born id)) is h s none = absurd s
  first_refused bytes rest (Some (ClientRecord.Named ident)) is h s none = absurd s
  first_refused bytes rest (Some (ClientRecord.Made number ms body)) is h s none = absurd s
  first_refused bytes rest (Some (ClientRecord.Took origin number ms body)) is h s none = absurd s
  first_refused bytes rest (Some ClientRecord.Form) is h s none = absurd s
  first_refused bytes rest (Some (ClientRecord.Subset tables)) is h s none = absurd s
  first_refused bytes rest (Some (ClientRecord.Resumed number waiting)) is h s none = absurd s
  first_refused bytes rest (Some (ClientRecord.Waits number base ms body current)) is h s none = absurd s

  behind_refused : (run : List (List Instr)) (bytes : List ℕ) (rest : List (List ℕ)) → bodies_ahead the_profile (map read_client (bytes ∷ rest)) ≡ [] → IsNoFloor (read_client bytes) ⊎ ((version : ℕ) × IsFloor bytes version × ((is_fine (grown the_profile run) && closes (front_of within) version r.unsent) ≡ false)) → (run ≡ [] → IsOfState (read_client bytes)) → reading (with_run run) (bytes ∷ rest) ≡ Err 0
  behind_refused run bytes rest none (inr f) s = floor_refused run bytes rest f.0 f.1 f.2
  behind_refused [] bytes rest none (inl h) s = first_refused bytes rest (read_client bytes) refl h (s refl) none
  behind_refused (x ∷ run) bytes rest none (inl h) s = other_refused x run bytes rest (read_client bytes) refl h none

  -- what follows isn't the version of a state
  pub unclosed_refused : (file rest : List (List ℕ)) (run : List (List Instr)) (bytes : List ℕ) (place : ℕ) → WholeRun form file (bytes ∷ rest) run → Unclosed within r run bytes place → ((b : List ℕ) (l : List (List ℕ)) → file ≡ b ∷ l → IsOfState (read_client b)) → reading (seen past r) file ≡ Err place
  unclosed_refused file rest run bytes place w u of_state =
      from_blank file
      ∙ ap (reading (with_run [])) w.run_of.split
      ∙ stops_behind the_profile read_client part_bytes back (seen past r) w.run_of.bodies run bytes rest k.ready w.run_of.read w.no_more u.fine
      (behind_refused run bytes rest w.no_more u.behind (λ none. of_state bytes rest (w.run_of.split ∙ ap (λ (l : List Bytes). map part_bytes l ++ (bytes ∷ rest)) (nothing w.run_of.bodies (same_length the_profile form w.run_of.bodies run w.run_of.read ∙ ap length none)))))
      ∙ ap (λ i. Err i) (same_length the_profile form w.run_of.bodies run w.run_of.read ∙ sym u.place_is)
    where
      nothing : {A : Type 0} (xs : List A) → length xs ≡ 0 → xs ≡ []
      nothing [] h = refl
      nothing (x ∷ xs) h = cc

  -- ---- the state is complete
  module _ (new : Replica) (file rest : List (List ℕ)) (run : List (List Instr)) (bytes : List ℕ) (w : WholeRun form file (bytes ∷ rest) run) (d : Closed within r new run bytes) where
    abbrev floored : ClientRecord
    floored = ClientRecord.Floor d.version

    abbrev next : List ClientRecord
    next = map part w.run_of.bodies ++ floored ∷ []

    fine_here : (i : ℕ) → i < length run → is_place i (grown the_profile run) ≡ false
    fine_here i h = ap (is_place i) d.grows

    closes_here : (ahead : List (Option ClientRecord)) → client_admits the_profile (with_run run) ahead floored ≡ true
    closes_here ahead =
        floor_admits the_profile (with_run run) k.ready waiting ahead d.version
        ∙ ap (λ o. is_fine (grown the_profile run) && closes o d.version r.unsent) k.front
        ∙ ap (λ b. is_fine (grown the_profile run) && b) d.behind
        ∙ ap (λ g. is_fine g && true) d.grows

    after_run : after_records the_profile (with_run []) (map part w.run_of.bodies) ≡ with_run run
    after_run = after_parts the_profile (seen past r) [] run w.run_of.bodies w.run_of.read

    after_next : after_records the_profile (with_run []) next ≡ after_record the_profile (with_run run) floored
    after_next = after_append the_profile (with_run []) (map part w.run_of.bodies) (floored ∷ []) ∙ ap (λ (c : Seen). after_record the_profile c floored) after_run

    past_now : Past
    past_now = record past { parts = run; front = None }

    stands : after_record the_profile (with_run run) floored ≡ seen (record past { parts = run; front = None }) new
    stands =
        ap (λ g. record (with_run run) { floor = Some d.version; front = None; cursor = d.version; objects = grown_or r.objects g }) d.grows
        ∙ sym (ap (seen (record past { parts = run; front = None })) d.is)

    each_part : (bs : List Bytes) → Each (IsClientRecord the_profile) (map part bs)
    each_part [] = no_more
    each_part (b ∷ bs) = and_each tt (each_part bs)

    opens_next : client_opens the_profile (seen past r) next ≡ true
    opens_next =
        ap (λ (xs : List (List Instr)). client_opens the_profile (record (seen past r) { parts = xs }) next) k.parts
        ∙ admits_open the_profile (map part w.run_of.bodies) (floored ∷ []) (with_run [])
        (all_admit the_profile read_client part_bytes back (seen past r) w.run_of.bodies run (Some floored ∷ []) k.ready w.run_of.read refl refl fine_here)
        (ap (λ (c : Seen). client_opens the_profile c (floored ∷ [])) after_run ∙ and_true (client_admits the_profile (with_run run) [] floored) (closes_here []))
      where
        and_true : (b : Bool) → b ≡ true → (b && true) ≡ true
        and_true true e = refl
        and_true false e = e

    read_floor : reading (with_run run) (bytes ∷ rest) ≡ read_put floored (reading (after_record the_profile (with_run run) floored) rest)
    read_floor =
        ap (λ o. read_one o (client_admits the_profile (with_run run) (map read_client rest)) (λ q. reading (after_record the_profile (with_run run) q) rest)) d.floor.read
        ∙ if_true (client_admits the_profile (with_run run) (map read_client rest) floored) _ _ (closes_here (map read_client rest))

    goes_on : reading (seen past r) file ≡ read_puts next (reading (seen (record past { parts = run; front = None }) new) rest)
    goes_on =
        from_blank file
        ∙ ap (reading (with_run [])) w.run_of.split
        ∙ walk the_profile read_client part_bytes back w.run_of.bodies (bytes ∷ rest) (with_run [])
        (all_admit the_profile read_client part_bytes back (seen past r) w.run_of.bodies run (map read_client (bytes ∷ rest)) k.ready w.run_of.read w.no_more refl fine_here)
        ∙ ap (read_puts (map part w.run_of.bodies)) (ap (λ (c : Seen). reading c (bytes ∷ rest)) after_run ∙ read_floor ∙ ap (λ (c : Seen). read_put floored (reading c rest)) stands)
        ∙ sym (puts_more (map part w.run_of.bodies) floored (reading (seen (record past { parts = run; front = None }) new) rest))

    spelled_parts : (bs : List Bytes) → map client_bytes (map part bs ++ floored ∷ []) ++ rest ≡ map part_bytes bs ++ (client_bytes floored ∷ rest)
    spelled_parts [] = refl
    spelled_parts (b ∷ bs) = ap (λ (l : List (List ℕ)). part_bytes b ∷ l) (spelled_parts bs)

    length_parts : (bs : List Bytes) → length (map part bs) ≡ length bs
    length_parts [] = refl
    length_parts (b ∷ bs) = ap suc (length_parts bs)

    pub state_read : GrewSome past r new file rest (length run + 1)
    state_read =
        let long : length next ≡ length (map part w.run_of.bodies) + 1 = length-append (map part w.run_of.bodies) (floored ∷ []) in
        let parts = length_parts w.run_of.bodies in
        let lists_ = same_length the_profile form w.run_of.bodies run w.run_of.read in
        record {
          next = next;
          count_is = omega (arith, long, parts, lists_);
          spelled = w.run_of.split ∙ ap (λ b. map part_bytes w.run_of.bodies ++ (b ∷ rest)) d.floor.spelled ∙ sym (spelled_parts w.run_of.bodies);
          then_past = record past { parts = run; front = None };
          made = k.count ∙ sym (ap (λ (q : Replica). q.count) d.is);
          after = ap (λ (xs : List (List Instr)). after_records the_profile (record (seen past r) { parts = xs }) next) k.parts ∙ after_next ∙ stands;
          goes_on = goes_on;
          opens = opens_next;
          each = each_append (each_part w.run_of.bodies) (and_each d.floor.small no_more);
        }

-- ---- from a place of the file on
pub some_left : (records : List (List ℕ)) (place : ℕ) → place < length records → (b : List ℕ) × (l : List (List ℕ)) × (drop place records ≡ b ∷ l)
some_left [] place h = absurd (omega (arith, h))
some_left (v ∷ vs) zero h = (v, vs, refl)
some_left (v ∷ vs) (suc n) h = some_left vs n (omega (arith, h))

abbrev file_at : List (List ℕ) → ℕ → List (List ℕ)
file_at records place = drop place records

-- a place that is refused
abbrev Refused : Seen → List (List ℕ) → ℕ → ℕ → Type 0
Refused c records place bad = (count : ℕ) × (bad ≡ place + count) × (reading c (file_at records place) ≡ Err count)

pub none_refused : (c : Seen) (records : List (List ℕ)) (place : ℕ) → place < length records → may_grow c ≡ false → OfState records place → Refused c records place place
none_refused c records place h ready of_state =
    let t = some_left records place h in
    (0, omega arith, ap (reading c) t.2 ∙ state_refused c t.0 t.1 ready (of_state t.0 t.1 t.2))

pub blank_refused : (before : List ClientRecord) (r : Replica) (k : Keeps before r) (records : List (List ℕ)) (place : ℕ) → place < length records → is_blank (seen k.past r) ≡ false → OfState records place → Refused (client_of the_profile before) records place place
blank_refused before r k records place h blank of_state =
    let ready : may_grow (seen k.past r) ≡ false = ap (λ o. all_came o (is_blank (seen k.past r))) (no_front (seen k.past r) (past_of before r k).settled) ∙ blank in
    subst (λ c. Refused c records place place) (sym k.stands_for) (none_refused (seen k.past r) records place h ready of_state)

module _ (within : Bool) (past : Past) (r : Replica) (k : MayGrow within past r) (second : Bool) (second_is : second ≡ (within || r.second)) where
  form_is : second ≡ (is_there past.front || r.second)
  form_is = second_is ∙ on within ∙ ap (λ (o : Option ℕ). is_there o || r.second) (sym k.front)
    where
      on : (b : Bool) → (b || r.second) ≡ (is_there (front_of b) || r.second)
      on true = refl
      on false = refl

  pub run_refused : (new : Replica) (file : List (List ℕ)) (behind : ℕ → List (List ℕ)) (place : ℕ) (why : ReadRefusal) → FindsRun second file behind place (Err why) → GrowsOn past r new file behind place (Err why)
  run_refused new file behind place (reads.BadRecord bad) f = (f.0, f.1, cut_refused within past r k file f.0 (subst (λ b. CutRun b file f.0) form_is f.2))
  run_refused new file behind place reads.NoMemory f = tt

  module _ (records : List (List ℕ)) (place : ℕ) (run : List Changes) (n : ℕ) (n_is : n ≡ length run) (w : WholeRun second (drop place records) (drop (place + length run) records) (lists_of run)) where
    whole : WholeRun (is_there past.front || r.second) (drop place records) (drop (place + n) records) (lists_of run)
    whole = subst (λ b. WholeRun b (drop place records) (drop (place + n) records) (lists_of run)) form_is (subst (λ m. WholeRun second (drop place records) (drop (place + m) records) (lists_of run)) (sym n_is) w)

    pub end_refused : (number : ℕ) → drop (place + n) records ≡ [] → Named (lists_of run) number ⊎ Ended (lists_of run) number → Refused (seen past r) records place (place + number)
    end_refused number none (inl named) = (number, refl, named_refused within past r k (file_at records place) (drop (place + n) records) (lists_of run) number whole named)
    end_refused number none (inr ended) = (number, refl, ended_refused within past r k (file_at records place) (lists_of run) number (subst (λ l. WholeRun (is_there past.front || r.second) (file_at records place) l (lists_of run)) none whole) ended)

    module _ (bytes : List ℕ) (left : drop (place + n) records ≡ bytes ∷ drop (place + n + 1) records) where
      before_it : WholeRun (is_there past.front || r.second) (file_at records place) (bytes ∷ drop (place + n + 1) records) (lists_of run)
      before_it = subst (λ l. WholeRun (is_there past.front || r.second) (file_at records place) l (lists_of run)) left whole

      pub close_refused : (number : ℕ) → OfState records place → Named (lists_of run) number ⊎ Unclosed within r (lists_of run) bytes number → Refused (seen past r) records place (place + number)
      close_refused number of_state (inl named) = (number, refl, named_refused within past r k (file_at records place) (bytes ∷ drop (place + n + 1) records) (lists_of run) number before_it named)
      close_refused number of_state (inr unclosed) = (number, refl, unclosed_refused within past r k (file_at records place) (drop (place + n + 1) records) (lists_of run) bytes number before_it unclosed of_state)

      pub closed_on : (new : Replica) → Closed within r new (lists_of run) bytes → (count : ℕ) × (place + n + 1 ≡ place + count) × (1 ≤ count) × GrewSome past r new (file_at records place) (drop (place + count) records) count
      closed_on new d =
          let long = length_lists run in
          let count : length (lists_of run) + 1 ≡ n + 1 = omega (arith, long, n_is) in
          let there : place + n + 1 ≡ place + (n + 1) = omega arith in (
            n + 1,
            there,
            omega arith,
            subst (λ m. GrewSome past r new (file_at records place) (drop m records) (n + 1)) there
                (subst (GrewSome past r new (file_at records place) (drop (place + n + 1) records)) count (state_read within past r k new (file_at records place) (drop (place + n + 1) records) (lists_of run) bytes before_it d)),
          )

-- what `close` told, of the run and the bytes as they are kept
pub closes_none : (within : Bool) (old new : Replica) (run given : List Changes) (bytes given_bytes : List ℕ) (f : Option ℕ) → given ≡ run → given_bytes ≡ bytes → f ≡ None → Closes within old new (lists_of given) given_bytes (Ok f) → Closed within old new (lists_of run) bytes
closes_none within old new run given bytes given_bytes f same same_bytes is closes =
    subst (λ l. Closed within old new (lists_of l) bytes) same (subst (Closed within old new (lists_of given)) same_bytes (subst (λ o. Closes within old new (lists_of given) given_bytes (Ok o)) is closes))

pub closes_some : (within : Bool) (old new : Replica) (run given : List Changes) (bytes given_bytes : List ℕ) (f : Option ℕ) (number : ℕ) → given ≡ run → given_bytes ≡ bytes → f ≡ Some number → Closes within old new (lists_of given) given_bytes (Ok f) → Named (lists_of run) number ⊎ Unclosed within old (lists_of run) bytes number
closes_some within old new run given bytes given_bytes f number same same_bytes is closes =
    subst (λ l. Named (lists_of l) number ⊎ Unclosed within old (lists_of l) bytes number) same (subst (λ b. Named (lists_of given) number ⊎ Unclosed within old (lists_of given) b number) same_bytes (subst (λ o. Closes within old new (lists_of given) given_bytes (Ok o)) is closes))

-- ---- what was read behind the records of a client
pub grown_on : (before : List ClientRecord) (r new : Replica) (k : Keeps before r) (file : List (List ℕ)) (behind : ℕ → List (List ℕ)) (place : ℕ) (result : Result ℕ ReadRefusal) → GrowsOn k.past r new file behind place result → ReadsOn before new file behind place result
grown_on before r new k file behind place (Err (reads.BadRecord bad)) g = (g.0, g.1, ap (λ (c : Seen). reading c file) k.stands_for ∙ g.2)
grown_on before r new k file behind place (Err reads.NoMemory) g = tt
grown_on before r new k file behind place (Ok next) g = (
  g.0,
  g.1,
  g.2,
  (let s = g.3 in
      let after : client_of the_profile (before ++ s.next) ≡ seen s.then_past new = after_append the_profile (no_client the_profile) before s.next ∙ ap (λ (c : Seen). after_records the_profile c s.next) k.stands_for ∙ s.after in
      record {
        next = s.next;
        count_is = s.count_is;
        spelled = s.spelled;
        goes_on = ap (λ (c : Seen). reading c file) k.stands_for ∙ s.goes_on ∙ ap (λ (c : Seen). read_puts s.next (reading c (behind g.0))) (sym after);
        keeps = record {
          past = s.then_past;
          count = s.made;
          stands_for = after;
          opens = client_opens_on the_profile (no_client the_profile) before s.next k.opens (ap (λ (c : Seen). client_opens the_profile c s.next) k.stands_for ∙ s.opens);
          each = each_append k.each s.each;
        };
      }),
)
