-- The front of a short file: what opening makes of it.
use Rattle.std.proofs.Common.{◌≡◌, ℕ, zero, suc, ◌+◌, ◌-◌, ◌≤◌, ◌<◌, Bool, true, false, not, ◌&&◌, ◌||◌, ◌==◌, List, [], ◌∷◌, ◌++◌, length, map, drop, Option, Some, None, Result, Ok, Err, refl, ap, ap₂, ◌∙◌, sym, subst, append_assoc, append-nil, length-append, arith, nat_le, eqb-true, add-one}
use Rattle.std.proofs.lemmas.Bool.{eq-eqb, le-leb}
use Rattle.sync_theory.proofs.Server.{test_false}
use Rattle.sync_data.specs.declared.instr.Instr.{Instr}
use Rattle.sync_data.specs.declared.memory.NoMemory.{NoMemory}
use Rattle.sync_base.specs.States.{State}
use Rattle.sync_model.specs.Bytes.{Bytes, Tables as Names}
use Rattle.sync_model.specs.Clients.{Client, ClientRecord, Original, Unsent, after_record, after_records, blanks, client_of, is_late, no_client, ok_list}
use Rattle.sync_model.specs.Each.{Each, no_more, and_each}
use Rattle.sync_model.specs.Files.{all_came, client_admits, client_opens, client_reads, is_blank, is_empty, is_fine, is_growing, may_grow, read_one, read_put, some_come, tables_fit}
use Rattle.sync_model.specs.Limits.{IsClientRecord}
use Rattle.sync_model.specs.Worlds.{is_there}
use Rattle.sync_model.proofs.Limits.{each_append}
use Rattle.sync_model.proofs.Own.{after_append, if_true, if_false}
use Rattle.sync_model.proofs.Settling.{blank_waiting, length_blanks, no_front}
use Rattle.std.specs.Option.{option_map}
use Rattle.sync_records.specs.declared.client.ClientRecord.{ClientRecord as CodeRecord}
use Rattle.sync_records.specs.declared.client.ClientRecord.TheVariants as codes
use Rattle.sync_records.specs.Limits.{IsClientRecord as IsSpelled}
use Rattle.sync_records.specs.Reading.{client_forms, record_in}
use Rattle.sync_records.specs.Spelling.{client_spelling}
use Rattle.sync_exchange.specs.Profile.{the_profile, unspell}
use Rattle.sync_exchange.specs.Seen.{client_bytes, client_seen, read_client}
use Rattle.sync_journal.specs.declared.opening.ReadRefusal.{ReadRefusal}
use Rattle.sync_journal.specs.declared.opening.ReadRefusal.TheVariants as reads
use Rattle.sync_client.specs.declared.replica.Replica.{Replica}
use Rattle.sync_client.specs.Fronts.{Behind, FindsResumed, IsNoFront, IsOfFront, IsResumed, NoWaits, other_number, bad_body, bad_current, Tables, TablesNow, Took, Waits, WaitsNow, WithinFront}
use Rattle.sync_client.specs.Keeping.{Keeps}
use Rattle.sync_client.specs.Parts.{IsNoState, IsOfState, OfState}
use Rattle.sync_client.specs.Reading.{GrewSome, GrowsOn, MayGrow, ReadSome, ReadsOn, read_puts}
use Rattle.sync_client.specs.Seen.{Past, seen}
use Rattle.sync_client.proofs.Records.{past_of}
use Rattle.std.proofs.Math.ListN.{drop_of_length-le}
use Rattle.sync_client.proofs.States.{blank_grows, grown_on, none_refused, some_left}

abbrev Seen : Type 0
Seen = Client Instr State

abbrev reading : Seen → List (List ℕ) → Result (List ClientRecord) ℕ
reading c file = client_reads the_profile read_client c file

both : {a b : Bool} → a ≡ true → b ≡ true → (a && b) ≡ true
both {a = true} e f = f
both {a = false} e f = e

second_false : (a b : Bool) → b ≡ false → (a && b) ≡ false
second_false true b e = e
second_false false b e = refl

-- ---- records that were read one after the other
pub record WentSome (past : Past) (old : Replica) (then_past : Past) (now : Replica) (file rest : List (List ℕ)) (count : ℕ) : Type 0 where
  pub next : List ClientRecord
  pub count_is : count ≡ length next
  pub spelled : file ≡ map client_bytes next ++ rest
  pub after : after_records the_profile (seen past old) next ≡ seen then_past now
  pub goes_on : reading (seen past old) file ≡ read_puts next (reading (seen then_past now) rest)
  pub opens : (ts : List ClientRecord) → is_empty ts ≡ false → client_opens the_profile (seen then_past now) ts ≡ true → client_opens the_profile (seen past old) (next ++ ts) ≡ true
  pub each : Each (IsClientRecord the_profile) next

pub went_none : (past : Past) (r : Replica) (file : List (List ℕ)) → WentSome past r past r file file 0
went_none past r file = record { next = []; count_is = refl; spelled = refl; after = refl; goes_on = refl; opens = λ ts some e. e; each = no_more }

puts_both : (xs ys : List ClientRecord) (r : Result (List ClientRecord) ℕ) → read_puts (xs ++ ys) r ≡ read_puts xs (read_puts ys r)
puts_both [] ys r = refl
puts_both (x ∷ xs) ys r = ap (read_put x) (puts_both xs ys r)

puts_fault : (xs : List ClientRecord) (n : ℕ) → read_puts xs (Err n) ≡ Err (length xs + n)
puts_fault [] n = (let e : n ≡ 0 + n = omega arith in ap (λ m. Err m) e)
puts_fault (x ∷ xs) n = ap (read_put x) (puts_fault xs n) ∙ (let e : suc (length xs + n) ≡ suc (length xs) + n = omega arith in ap (λ m. Err m) e)

map_both : (xs ys : List ClientRecord) → map client_bytes (xs ++ ys) ≡ map client_bytes xs ++ map client_bytes ys
map_both [] ys = refl
map_both (x ∷ xs) ys = ap (λ (l : List (List ℕ)). client_bytes x ∷ l) (map_both xs ys)

some_more : (xs ts : List ClientRecord) → is_empty ts ≡ false → is_empty (xs ++ ts) ≡ false
some_more [] ts e = e
some_more (x ∷ xs) ts e = refl

pub went_both : (a b c : Past) (r s t : Replica) (file mid rest : List (List ℕ)) (m n : ℕ) → WentSome a r b s file mid m → WentSome b s c t mid rest n → WentSome a r c t file rest (m + n)
went_both a b c r s t file mid rest m n x y =
    let x_is = x.count_is in
    let y_is = y.count_is in
    let long = length-append x.next y.next in
    record {
      next = x.next ++ y.next;
      count_is = omega (arith, x_is, y_is, long);
      spelled = x.spelled ∙ ap (λ l. map client_bytes x.next ++ l) y.spelled ∙ sym (append_assoc (map client_bytes x.next) (map client_bytes y.next) rest) ∙ ap (λ l. l ++ rest) (sym (map_both x.next y.next));
      after = after_append the_profile (seen a r) x.next y.next ∙ ap (λ (q : Seen). after_records the_profile q y.next) x.after ∙ y.after;
      goes_on = x.goes_on ∙ ap (read_puts x.next) y.goes_on ∙ sym (puts_both x.next y.next (reading (seen c t) rest));
      opens = λ ts some e. ap (client_opens the_profile (seen a r)) (append_assoc x.next y.next ts) ∙ x.opens (y.next ++ ts) (some_more y.next ts some) (y.opens ts some e);
      each = each_append x.each y.each;
    }

-- and then the parts of a state
pub went_grows : (a b : Past) (r s new : Replica) (file mid : List (List ℕ)) (behind behind2 : ℕ → List (List ℕ)) (m place place2 : ℕ) (result : Result ℕ ReadRefusal) → WentSome a r b s file mid m → place2 ≡ place + m → ((n : ℕ) → behind2 n ≡ behind (m + n))
    → GrowsOn b s new mid behind2 place2 result → GrowsOn a r new file behind place result
went_grows a b r s new file mid behind behind2 m place place2 (Err (reads.BadRecord bad)) x there same g =
    let x_is = x.count_is in
    let g_is = g.1 in
    let e : length x.next + g.0 ≡ m + g.0 = omega (arith, x_is) in (
      m + g.0,
      omega (arith, g_is, there),
      x.goes_on ∙ ap (read_puts x.next) g.2 ∙ puts_fault x.next g.0 ∙ ap (λ n. Err n) e,
    )
went_grows a b r s new file mid behind behind2 m place place2 (Err reads.NoMemory) x there same g = tt
went_grows a b r s new file mid behind behind2 m place place2 (Ok next) x there same g =
    let x_is = x.count_is in
    let g_is = g.1 in
    let some = g.2 in
    let y = g.3 in
    let y_is = y.count_is in
    let long = length-append x.next y.next in (
      m + g.0,
      omega (arith, g_is, there),
      omega (arith, some),
      subst (λ l. GrewSome a r new file l (m + g.0)) (same g.0) (record {
        next = x.next ++ y.next;
        count_is = omega (arith, x_is, y_is, long);
        spelled = x.spelled ∙ ap (λ l. map client_bytes x.next ++ l) y.spelled ∙ sym (append_assoc (map client_bytes x.next) (map client_bytes y.next) (behind2 g.0)) ∙ ap (λ l. l ++ behind2 g.0) (sym (map_both x.next y.next));
        then_past = y.then_past;
        made = y.made;
        after = after_append the_profile (seen a r) x.next y.next ∙ ap (λ (q : Seen). after_records the_profile q y.next) x.after ∙ y.after;
        goes_on = x.goes_on ∙ ap (read_puts x.next) y.goes_on ∙ sym (puts_both x.next y.next (reading (seen y.then_past new) (behind2 g.0)));
        opens = x.opens y.next (nonempty y.next (omega (arith, some, y_is))) y.opens;
        each = each_append x.each y.each;
      }),
    )
  where
    nonempty : (ts : List ClientRecord) → 1 ≤ length ts → is_empty ts ≡ false
    nonempty [] h = absurd (omega (arith, h))
    nonempty (t ∷ ts) h = refl

-- one record
pub went_one : (a b : Past) (r s : Replica) (bytes : List ℕ) (rest : List (List ℕ)) (x : ClientRecord) → read_client bytes ≡ Some x → bytes ≡ client_bytes x → ((ahead : List (Option ClientRecord)) → is_empty ahead ≡ false → client_admits the_profile (seen a r) ahead x ≡ true)
    → IsClientRecord the_profile x → after_record the_profile (seen a r) x ≡ seen b s → is_empty rest ≡ false → WentSome a r b s (bytes ∷ rest) rest 1
went_one a b r s bytes rest x read spelled admits fits after some = record {
  next = x ∷ [];
  count_is = refl;
  spelled = ap (λ l. l ∷ rest) spelled;
  after = after;
  goes_on =
      ap (λ o. read_one o (client_admits the_profile (seen a r) (map read_client rest)) (λ q. reading (after_record the_profile (seen a r) q) rest)) read
      ∙ if_true (client_admits the_profile (seen a r) (map read_client rest) x) _ _ (admits (map read_client rest) (mapped rest some))
      ∙ ap (λ (q : Seen). read_put x (reading q rest)) after;
  opens = λ ts more e. both (admits (map (λ q. Some q) ts) (noted ts more)) (ap (λ (q : Seen). client_opens the_profile q ts) after ∙ e);
  each = and_each fits no_more;
}
  where
    mapped : (l : List (List ℕ)) → is_empty l ≡ false → is_empty (map read_client l) ≡ false
    mapped [] e = e
    mapped (y ∷ l) e = refl

    noted : (l : List ClientRecord) → is_empty l ≡ false → is_empty (map (λ (q : ClientRecord). Some q) l) ≡ false
    noted [] e = e
    noted (y ∷ l) e = refl

-- ---- the first record of a front

none_made : {A : Type 0} (xs : List A) → is_empty xs ≡ true → length xs ≡ 0
none_made [] e = refl
none_made (x ∷ xs) e = cc

blank_made : (c : Seen) → is_blank c ≡ true → length c.made ≡ 0
blank_made c e = go (is_there c.id) (not (is_there c.subset)) (not (is_there c.floor)) (c.ident == 0) e
  where
    go : (a b f i : Bool) → (a && (b && (f && (i && is_empty c.made)))) ≡ true → length c.made ≡ 0
    go true true true true h = none_made c.made h
    go true true true false h = cc
    go true true false i h = cc
    go true false f i h = cc
    go false b f i h = cc

-- what is past once the counts were read
abbrev pub resumed_past : Past → ℕ → ℕ → Past
resumed_past past number waiting = record past { made = past.made ++ blanks (suc (length past.made)) number; front = Some waiting }

abbrev pub counted : Replica → ℕ → Replica
counted r number = record r { count = number }

pub resumed_within : (before : List ClientRecord) (r : Replica) (k : Keeps before r) (number waiting : ℕ) → is_blank (seen k.past r) ≡ true → WithinFront waiting (resumed_past k.past number waiting) (counted r number)
resumed_within before r k number waiting blank =
    let g = blank_grows before r k blank in
    let none = blank_made (seen k.past r) blank in
    let long = length-append k.past.made (blanks {I = Instr} (suc (length k.past.made)) number) in
    let many = length_blanks Instr (suc (length k.past.made)) number in
    record { parts = g.parts; front = refl; count = omega (arith, none, long, many); born = g.born; unnamed = g.unnamed }

resumed_admits : (before : List ClientRecord) (r : Replica) (k : Keeps before r) (number waiting : ℕ) → is_blank (seen k.past r) ≡ true → number + waiting ≤ 4294967295 → (ahead : List (Option ClientRecord)) → is_empty ahead ≡ false
    → client_admits the_profile (seen k.past r) ahead (ClientRecord.Resumed number waiting) ≡ true
resumed_admits before r k number waiting blank small ahead some = both blank (both (ap not (past_of before r k).settled) (both (ap not some) (le-leb (number + waiting) 4294967295 small)))

-- the front behind a client's records
pub front_on : (before : List ClientRecord) (r new : Replica) (k : Keeps before r) (number waiting : ℕ) (records : List (List ℕ)) (place : ℕ) (bytes : List ℕ) (result : Result ℕ ReadRefusal) → is_blank (seen k.past r) ≡ true → IsResumed bytes (number, waiting) → number + waiting ≤ 4294967295
    → drop place records ≡ bytes ∷ drop (place + 1) records → is_empty (drop (place + 1) records) ≡ false
    → GrowsOn (resumed_past k.past number waiting) (counted r number) new (drop (place + 1) records) (λ n. drop (place + 1 + n) records) (place + 1) result → ReadsOn before new (drop place records) (λ n. drop (place + n) records) place result
front_on before r new k number waiting records place bytes result blank is small left some g =
    let one = went_one k.past (resumed_past k.past number waiting) r (counted r number) bytes (drop (place + 1) records) (ClientRecord.Resumed number waiting) is.read is.spelled (resumed_admits before r k number waiting blank small) (is.number, is.waiting) refl some in
    grown_on before r new k (drop place records) (λ n. drop (place + n) records) place result
    (went_grows k.past (resumed_past k.past number waiting) r (counted r number) new (drop place records) (drop (place + 1) records) (λ n. drop (place + n) records) (λ n. drop (place + 1 + n) records) 1 place (place + 1) result
    (subst (λ l. WentSome k.past r (resumed_past k.past number waiting) (counted r number) l (drop (place + 1) records) 1) (sym left) one) refl (λ n. let e : place + 1 + n ≡ place + (1 + n) = omega arith in ap (λ i. drop i records) e) g)

-- a record that isn't admitted, or none
stops_here : (c : Seen) (bytes : List ℕ) (rest : List (List ℕ)) (x : ClientRecord) → read_client bytes ≡ Some x → client_admits the_profile c (map read_client rest) x ≡ false → reading c (bytes ∷ rest) ≡ Err 0
stops_here c bytes rest x read declines =
    ap (λ o. read_one o (client_admits the_profile c (map read_client rest)) (λ q. reading (after_record the_profile c q) rest)) read ∙ if_false (client_admits the_profile c (map read_client rest) x) _ _ declines

stops_none : (c : Seen) (bytes : List ℕ) (rest : List (List ℕ)) → read_client bytes ≡ None → reading c (bytes ∷ rest) ≡ Err 0
stops_none c bytes rest read = ap (λ o. read_one o (client_admits the_profile c (map read_client rest)) (λ q. reading (after_record the_profile c q) rest)) read

abbrev Refused : List ClientRecord → List (List ℕ) → ℕ → Type 0
Refused before records place = (count : ℕ) × (place ≡ place + count) × (reading (client_of the_profile before) (drop place records) ≡ Err count)

-- its bytes are no record of counts
pub front_unread : (before : List ClientRecord) (records : List (List ℕ)) (place : ℕ) (bytes : List ℕ) → drop place records ≡ bytes ∷ drop (place + 1) records → IsOfFront (read_client bytes) → IsNoFront (read_client bytes) → Refused before records place
front_unread before records place bytes left of_front none = (0, omega arith, ap (reading (client_of the_profile before)) left ∙ go (read_client bytes) refl of_front none)
  where
    go : (o : Option ClientRecord) → read_client bytes ≡ o → IsOfFront o → IsNoFront o → reading (client_of the_profile before) (bytes ∷ drop (place + 1) records) ≡ Err 0
    go None is a b = stops_none (client_of the_profile before) bytes (drop (place + 1) records) is
    go (Some (ClientRecord.Resumed number waiting)) is a b = absurd b
    go (Some (ClientRecord.Born id)) is a b = absurd a
    go (Some (ClientRecord.Named ident)) is a b = absurd a
    go (Some (ClientRecord.Made number ms body)) is a b = absurd a
    go (Some (ClientRecord.Took origin number ms body)) is a b = absurd a
    go (Some ClientRecord.Form) is a b = absurd a
    go (Some (ClientRecord.Subset tables)) is a b = absurd a
    go (Some (ClientRecord.Part body)) is a b = absurd a
    go (Some (ClientRecord.Floor version)) is a b = absurd a
    go (Some (ClientRecord.Waits number base ms body current)) is a b = absurd a

-- the client isn't blank, the counts are too large, or nothing follows
pub front_refused : (before : List ClientRecord) (r : Replica) (k : Keeps before r) (number waiting : ℕ) (records : List (List ℕ)) (place : ℕ) (bytes : List ℕ) → drop place records ≡ bytes ∷ drop (place + 1) records → IsResumed bytes (number, waiting)
    → ((is_blank (seen k.past r) ≡ true) → (number + waiting ≤ 4294967295) → is_empty (drop (place + 1) records) ≡ false → ⊥) → Refused before records place
front_refused before r k number waiting records place bytes left is never_so = (
  0,
  omega arith,
  ap (reading (client_of the_profile before)) left ∙ ap (λ (c : Seen). reading c (bytes ∷ drop (place + 1) records)) k.stands_for
      ∙ stops_here (seen k.past r) bytes (drop (place + 1) records) (ClientRecord.Resumed number waiting) is.read
      (go (is_blank (seen k.past r)) (is_growing (seen k.past r)) (drop (place + 1) records) refl refl never_so),
)
  where
    go : (b g : Bool) (rest : List (List ℕ)) → is_blank (seen k.past r) ≡ b → rest ≡ drop (place + 1) records → ((b ≡ true) → (number + waiting ≤ 4294967295) → is_empty rest ≡ false → ⊥) → (b && (not g && (not (is_empty (map read_client rest)) && nat_le (number + waiting) 4294967295))) ≡ false
    go false g rest e f h = refl
    go true true rest e f h = refl
    go true false [] e f h = refl
    go true false (x ∷ rest) e f h = large (nat_le (number + waiting) 4294967295) refl
      where
        large : (t : Bool) → nat_le (number + waiting) 4294967295 ≡ t → t ≡ false
        large false z = refl
        large true z = absurd (h refl (Rattle.std.proofs.lemmas.Bool.leb-true (number + waiting) 4294967295 z) refl)

-- ---- behind it

-- so far, from a place on
pub record WaitsSoFar (first : Past) (old now : Replica) (owed : ℕ) (records : List (List ℕ)) (from place : ℕ) : Type 0 where
  pub past : Past
  pub within : WithinFront owed past now
  pub count : ℕ
  pub place_is : place ≡ from + count
  pub went : WentSome first old past now (drop from records) (drop place records) count

pub waits_first : (past : Past) (r : Replica) (owed : ℕ) (records : List (List ℕ)) (from : ℕ) → WithinFront owed past r → WaitsSoFar past r r owed records from from
waits_first past r owed records from w = record { past = past; within = w; count = 0; place_is = omega arith; went = went_none past r (drop from records) }

pub waits_next : (first : Past) (old now new : Replica) (owed left : ℕ) (records : List (List ℕ)) (from place : ℕ) (bytes : List ℕ) (s : WaitsSoFar first old now owed records from place) → drop place records ≡ bytes ∷ drop (place + 1) records → is_empty (drop (place + 1) records) ≡ false
    → Took s.past now new bytes left → WaitsSoFar first old new left records from (place + 1)
waits_next first old now new owed left records from place bytes s is some t =
    let place_is = s.place_is in
    let one = went_one s.past t.then_past now new bytes (drop (place + 1) records) t.next t.read t.spelled t.admitted t.fits t.after some in
    record {
      past = t.then_past;
      within = t.within;
      count = s.count + 1;
      place_is = omega (arith, place_is);
      went = went_both first s.past t.then_past old now new (drop from records) (drop place records) (drop (place + 1) records) s.count 1 s.went (subst (λ l. WentSome s.past now t.then_past new l (drop (place + 1) records) 1) (sym is) one);
    }

-- and what is read then
pub waits_then : (first : Past) (old now new : Replica) (owed : ℕ) (records : List (List ℕ)) (from place : ℕ) (result : Result ℕ ReadRefusal) (s : WaitsSoFar first old now owed records from place) → GrowsOn s.past now new (drop place records) (λ n. drop (place + n) records) place result
    → GrowsOn first old new (drop from records) (λ n. drop (from + n) records) from result
waits_then first old now new owed records from place result s g =
    let place_is = s.place_is in
    went_grows first s.past old now new (drop from records) (drop place records) (λ n. drop (from + n) records) (λ n. drop (place + n) records) s.count from place result s.went s.place_is
    (λ n. let e : place + n ≡ from + (s.count + n) = omega (arith, place_is) in ap (λ i. drop i records) e) g

-- a place of the front that is refused
abbrev Stops : Past → Replica → List (List ℕ) → ℕ → Type 0
Stops past r records place = (count : ℕ) × (place ≡ place + count) × (reading (seen past r) (drop place records) ≡ Err count)

module _ (past : Past) (r : Replica) (owed : ℕ) (w : WithinFront owed past r) where
  growing : is_growing (seen past r) ≡ true
  growing = ap (λ (o : Option ℕ). is_there o || (not (is_empty past.parts) && not (is_there r.floor))) w.front

  waits_more : (rest : Bool) → (is_there r.id && (not (is_growing (seen past r)) && rest)) ≡ false
  waits_more rest = second_false (is_there r.id) _ (ap (λ b. not b && rest) growing)

  waits_for_ident : (rest : Bool) → (not (r.ident == 0) && rest) ≡ false
  waits_for_ident rest = ap (λ b. not b && rest) w.unnamed

  tables_by : (more x : Bool) → tables_fit (seen past r) more past.front x ≡ ((r.ident == 0) && (not (is_there r.subset) && (is_empty r.unsent && (is_empty past.parts && more))))
  tables_by more x = ap (λ o. tables_fit (seen past r) more o x) w.front

  -- nothing follows, and it isn't of the state
  last_admits : (x : ClientRecord) → IsNoState (Some x) → client_admits the_profile (seen past r) [] x ≡ false
  last_admits (ClientRecord.Born id) h = ap not w.born
  last_admits (ClientRecord.Named ident) h = waits_more _
  last_admits (ClientRecord.Made number ms body) h = waits_more _
  last_admits (ClientRecord.Took origin number ms body) h = waits_for_ident _
  last_admits ClientRecord.Form h = waits_more _
  last_admits (ClientRecord.Subset tables) h = tables_by false _ ∙ second_false (r.ident == 0) _ (second_false (not (is_there r.subset)) _ (second_false (is_empty r.unsent) _ (second_false (is_empty past.parts) false refl)))
  last_admits (ClientRecord.Part body) h = absurd h
  last_admits (ClientRecord.Floor version) h = absurd h
  last_admits (ClientRecord.Resumed number waiting) h = second_false (is_blank (seen past r)) _ (ap (λ b. not b && (false && nat_le (number + waiting) 4294967295)) growing)
  last_admits (ClientRecord.Waits number base ms body current) h = second_false (some_come past.front) _ (second_false (number == suc (length past.made)) _ refl)

  pub last_stops : (records : List (List ℕ)) (place : ℕ) (bytes : List ℕ) → drop place records ≡ bytes ∷ drop (place + 1) records → drop (place + 1) records ≡ [] → IsNoState (read_client bytes) → Stops past r records place
  last_stops records place bytes left none h = (0, omega arith, ap (reading (seen past r)) (left ∙ ap (λ l. bytes ∷ l) none) ∙ go (read_client bytes) refl h)
    where
      go : (o : Option ClientRecord) → read_client bytes ≡ o → IsNoState o → reading (seen past r) (bytes ∷ []) ≡ Err 0
      go None is h = stops_none (seen past r) bytes [] is
      go (Some x) is h = stops_here (seen past r) bytes [] x is (last_admits x h)

  pub other_stops : (records : List (List ℕ)) (place : ℕ) (bytes : List ℕ) → drop place records ≡ bytes ∷ drop (place + 1) records
      → ((ahead : List (Option ClientRecord)) (go : ClientRecord → Result (List ClientRecord) ℕ) → read_one (read_client bytes) (client_admits the_profile (seen past r) ahead) go ≡ Err 0) → Stops past r records place
  other_stops records place bytes left stop = (0, omega arith, ap (reading (seen past r)) left ∙ stop (map read_client (drop (place + 1) records)) (λ q. reading (after_record the_profile (seen past r) q) (drop (place + 1) records)))

  -- some are still to come
  pub owed_stops : (records : List (List ℕ)) (place : ℕ) → place < length records → OfState records place → (owed ≡ 0 → ⊥) → Stops past r records place
  owed_stops records place there of_state some = none_refused (seen past r) records place there (ap (λ o. all_came o (is_blank (seen past r))) w.front ∙ go owed some) of_state
    where
      go : (n : ℕ) → (n ≡ 0 → ⊥) → all_came (Some n) (is_blank (seen past r)) ≡ false
      go zero h = absurd (h refl)
      go (suc n) h = refl

  pub all_came_now : owed ≡ 0 → MayGrow true past r
  all_came_now none = record {
    parts = w.parts;
    front = w.front ∙ ap (λ n. Some n) none;
    count = w.count;
    ready = ap (λ o. all_came o (is_blank (seen past r))) (w.front ∙ ap (λ n. Some n) none);
    born = w.born;
    unnamed = w.unnamed;
    floorless = λ e. cc;
  }

  -- ---- one record behind the first
  abbrev Declines : List ℕ → Type 0
  Declines bytes = (ahead : List (Option ClientRecord)) (go : ClientRecord → Result (List ClientRecord) ℕ) → read_one (read_client bytes) (client_admits the_profile (seen past r) ahead) go ≡ Err 0

  declined : (bytes : List ℕ) (x : ClientRecord) → read_client bytes ≡ Some x → ((ahead : List (Option ClientRecord)) → client_admits the_profile (seen past r) ahead x ≡ false) → Declines bytes
  declined bytes x read declines ahead go = ap (λ o. read_one o (client_admits the_profile (seen past r) ahead) go) read ∙ if_false (client_admits the_profile (seen past r) ahead x) _ _ (declines ahead)

  pub declined_none : (bytes : List ℕ) → read_client bytes ≡ None → Declines bytes
  declined_none bytes read ahead go = ap (λ o. read_one o (client_admits the_profile (seen past r) ahead) go) read

  -- records that a front never has behind its first
  abbrev pub IsStrange : ClientRecord → Type 0
  IsStrange (ClientRecord.Subset tables) = ⊥
  IsStrange (ClientRecord.Part body) = ⊥
  IsStrange (ClientRecord.Floor version) = ⊥
  IsStrange (ClientRecord.Waits number base ms body current) = ⊥
  IsStrange x = Unit {0}

  strange : (x : ClientRecord) → IsStrange x → (ahead : List (Option ClientRecord)) → client_admits the_profile (seen past r) ahead x ≡ false
  strange (ClientRecord.Born id) h ahead = ap not w.born
  strange (ClientRecord.Named ident) h ahead = waits_more _
  strange (ClientRecord.Made number ms body) h ahead = waits_more _
  strange (ClientRecord.Took origin number ms body) h ahead = waits_for_ident _
  strange ClientRecord.Form h ahead = waits_more _
  strange (ClientRecord.Resumed number waiting) h ahead = second_false (is_blank (seen past r)) _ (ap (λ b. not b && (not (is_empty ahead) && nat_le (number + waiting) 4294967295)) growing)
  strange (ClientRecord.Subset tables) h ahead = absurd h
  strange (ClientRecord.Part body) h ahead = absurd h
  strange (ClientRecord.Floor version) h ahead = absurd h
  strange (ClientRecord.Waits number base ms body current) h ahead = absurd h

  pub strange_declined : (bytes : List ℕ) (x : ClientRecord) → read_client bytes ≡ Some x → IsStrange x → Declines bytes
  strange_declined bytes x read h = declined bytes x read (strange x h)

  pub tables_taken : (new : Replica) (bytes : List ℕ) (tables : Names) → read_client bytes ≡ Some (ClientRecord.Subset tables) → bytes ≡ client_bytes (ClientRecord.Subset tables) → TablesNow tables r new → Took past r new bytes owed
  tables_taken new bytes tables read spelled t = record {
    next = ClientRecord.Subset tables;
    read = read;
    spelled = spelled;
    admitted = λ ahead some. tables_by (not (is_empty ahead)) _ ∙ both w.unnamed (both (ap (λ (o : Option Names). not (is_there o)) t.none) (both (ap is_empty t.bare) (both (ap is_empty w.parts) (ap not some))));
    fits = tt;
    then_past = past;
    within = record {
      parts = w.parts;
      front = w.front;
      count = w.count ∙ sym (ap (λ (q : Replica). q.count) t.is);
      born = ap (λ (q : Replica). is_there q.id) t.is ∙ w.born;
      unnamed = ap (λ (q : Replica). q.ident == 0) t.is ∙ w.unnamed;
    };
    after = sym (ap (seen past) t.is);
  }

  pub tables_declined : (bytes : List ℕ) (tables : Names) → read_client bytes ≡ Some (ClientRecord.Subset tables) → (r.subset ≡ None → r.unsent ≡ [] → ⊥) → Declines bytes
  tables_declined bytes tables read never_so = declined bytes (ClientRecord.Subset tables) read (λ ahead. tables_by (not (is_empty ahead)) _ ∙ second_false (r.ident == 0) _ (go _ r.subset r.unsent never_so))
    where
      go : (more : Bool) (o : Option Names) (us : List (Unsent Instr)) → (o ≡ None → us ≡ [] → ⊥) → (not (is_there o) && (is_empty us && more)) ≡ false
      go more None [] h = absurd (h refl refl)
      go more None (u ∷ us) h = refl
      go more (Some t) us h = refl

  pub waits_taken : (new : Replica) (bytes : List ℕ) (number base ms : ℕ) (body current : Bytes) → read_client bytes ≡ Some (ClientRecord.Waits number base ms body current) → bytes ≡ client_bytes (ClientRecord.Waits number base ms body current) → IsClientRecord the_profile (ClientRecord.Waits number base ms body current)
      → (owed ≡ 0 → ⊥) → WaitsNow number base ms body current r new → Took past r new bytes (owed - 1)
  waits_taken new bytes number base ms body current read spelled fits some t = go owed refl some
    where
      o : Original Instr
      o = record { base = base; number = number; ms = ms; instrs = t.original.instrs }

      next_is : number ≡ suc (length past.made)
      next_is = t.next ∙ ap suc (sym w.count)

      go : (n : ℕ) → owed ≡ n → (n ≡ 0 → ⊥) → Took past r new bytes (n - 1)
      go zero is h = absurd (h refl)
      go (suc n) is h =
          let front : past.front ≡ Some (suc n) = w.front ∙ ap (λ k. Some k) is in
          let less : suc n - 1 ≡ n = omega arith in
          record {
            next = ClientRecord.Waits number base ms body current;
            read = read;
            spelled = spelled;
            admitted = λ ahead more. both (ap some_come front) (both (eq-eqb number (suc (length past.made)) next_is) (both (ap not more) (both (ap is_fine t.read.read) (ap is_fine t.read_current.read))));
            fits = fits;
            then_past = record past { front = Some n; made = past.made ++ o ∷ [] };
            within = record {
              parts = w.parts;
              front = ap (λ k. Some k) (sym less);
              count = length-append past.made (o ∷ []) ∙ add-one (length past.made) ∙ sym next_is ∙ sym (ap (λ (q : Replica). q.count) t.is);
              born = ap (λ (q : Replica). is_there q.id) t.is ∙ w.born;
              unnamed = ap (λ (q : Replica). q.ident == 0) t.is ∙ w.unnamed;
            };
            after =
                (λ i. record (seen past r) {
                  front = Rattle.sync_model.specs.Clients.one_less (front i);
                  made = past.made ++ record { base = base; number = number; ms = ms; instrs = ok_list (t.read.read i) } ∷ [];
                  unsent = r.unsent ++ record { original = record { base = base; number = number; ms = ms; instrs = ok_list (t.read.read i) }; current = ok_list (t.read_current.read i) } ∷ [];
                })
                ∙ sym (ap (seen (record past { front = Some n; made = past.made ++ o ∷ [] })) t.is);
          }

  pub waits_declined : (bytes : List ℕ) (number base ms : ℕ) (body current : Bytes) → read_client bytes ≡ Some (ClientRecord.Waits number base ms body current) → NoWaits number body current r → Declines bytes
  waits_declined bytes number base ms body current read why = declined bytes (ClientRecord.Waits number base ms body current) read (λ ahead. second_false (some_come past.front) _ (go _ why))
    where
      go : (more : Bool) → NoWaits number body current r → ((number == suc (length past.made)) && (more && (is_fine (unspell body) && is_fine (unspell current)))) ≡ false
      go more (other_number h) = ap (λ b. b && (more && (is_fine (unspell body) && is_fine (unspell current)))) (test_false number (suc (length past.made)) (λ e. h (e ∙ ap suc w.count)))
      go more (bad_body h) = second_false (number == suc (length past.made)) _ (second_false more _ (ap (λ b. b && is_fine (unspell current)) h))
      go more (bad_current h) = second_false (number == suc (length past.made)) _ (second_false more _ (second_false (is_fine (unspell body)) _ h))

  pub waits_none : (bytes : List ℕ) (number base ms : ℕ) (body current : Bytes) → read_client bytes ≡ Some (ClientRecord.Waits number base ms body current) → owed ≡ 0 → Declines bytes
  waits_none bytes number base ms body current read none =
      declined bytes (ClientRecord.Waits number base ms body current) read (λ ahead. ap (λ o. some_come o && ((number == suc (length past.made)) && (not (is_empty ahead) && (is_fine (unspell body) && is_fine (unspell current))))) (w.front ∙ ap (λ n. Some n) none))

-- ---- what was found, of the record that was read
pub tables_true : (tables : Names) (old new : Replica) (b : Bool) → b ≡ true → Tables tables old new (Ok b) → TablesNow tables old new
tables_true tables old new true e t = t
tables_true tables old new false e t = cc

pub waits_true : (number base ms : ℕ) (body current : Bytes) (old new : Replica) (b : Bool) → b ≡ true → Waits number base ms body current old new (Ok b) → WaitsNow number base ms body current old new
waits_true number base ms body current old new true e t = t
waits_true number base ms body current old new false e t = cc

pub tables_on : (past : Past) (r : Replica) (owed : ℕ) → WithinFront owed past r → (new : Replica) (bytes : List ℕ) (x : CodeRecord) (tables : Names) → record_in client_forms bytes ≡ Some x → bytes ≡ client_spelling x → x ≡ codes.Subset tables → TablesNow tables r new → Took past r new bytes owed
tables_on past r owed w new bytes x tables read spelled is t = tables_taken past r owed w new bytes tables (ap (option_map client_seen) (read ∙ ap (λ q. Some q) is)) (spelled ∙ ap client_spelling is) t

pub waits_on : (past : Past) (r : Replica) (owed : ℕ) → WithinFront owed past r → (new : Replica) (bytes : List ℕ) (x : CodeRecord) (number base ms : ℕ) (body current : Bytes) → record_in client_forms bytes ≡ Some x → bytes ≡ client_spelling x → IsSpelled x → x ≡ codes.Waits number base ms body current
    → (owed ≡ 0 → ⊥) → WaitsNow number base ms body current r new → Took past r new bytes (owed - 1)
waits_on past r owed w new bytes x number base ms body current read spelled fits is some t =
    let f = subst IsSpelled is fits in
    let f0 : number < 4294967296 = f.0 in
    let f1 : base < 4294967296 = f.1 in
    let small : number ≤ 4294967295 = omega (arith, f0) in
    let low : base ≤ 4294967295 = omega (arith, f1) in
    waits_taken past r owed w new bytes number base ms body current (ap (option_map client_seen) (read ∙ ap (λ q. Some q) is)) (spelled ∙ ap client_spelling is) (small, low, f.4) some t

pub behind_none : (past : Past) (old new : Replica) (bytes : List ℕ) (f : Option ℕ) → f ≡ None → Behind past old new bytes (Ok f) → (ahead : List (Option ClientRecord)) (go : ClientRecord → Result (List ClientRecord) ℕ) → read_one (read_client bytes) (client_admits the_profile (seen past old) ahead) go ≡ Err 0
behind_none past old new bytes None e b = b
behind_none past old new bytes (Some n) e b = cc

pub behind_some : (past : Past) (old new : Replica) (bytes : List ℕ) (f : Option ℕ) (left : ℕ) → f ≡ Some left → Behind past old new bytes (Ok f) → Took past old new bytes left
behind_some past old new bytes f left e b = subst (λ o. Behind past old new bytes (Ok o)) e b

pub finds_none : (bytes : List ℕ) (f : Option (ℕ × ℕ)) → f ≡ None → FindsResumed bytes (Ok f) → IsNoFront (read_client bytes)
finds_none bytes f e b = subst (λ o. FindsResumed bytes (Ok o)) e b

pub finds_some : (bytes : List ℕ) (f : Option (ℕ × ℕ)) (counts : ℕ × ℕ) → f ≡ Some counts → FindsResumed bytes (Ok f) → IsResumed bytes counts
finds_some bytes f counts e b = subst (λ o. FindsResumed bytes (Ok o)) e b

-- ---- places
pub of_state_at : (records : List (List ℕ)) (place : ℕ) (bytes : List ℕ) → drop place records ≡ bytes ∷ drop (place + 1) records → IsOfState (read_client bytes) → OfState records place
of_state_at records place bytes left is b l e =
    let same : b ≡ bytes = (let both_are = sym e ∙ left in cc) in
    subst (λ x. IsOfState (read_client x)) (sym same) is

pub some_more_left : (records : List (List ℕ)) (place : ℕ) → place < length records → is_empty (drop place records) ≡ false
some_more_left records place h = let t = some_left records place h in ap is_empty t.2

pub none_more_left : (records : List (List ℕ)) (place : ℕ) → is_empty (drop place records) ≡ false → length records ≤ place → ⊥
none_more_left records place some h = (let e : is_empty (drop place records) ≡ true = ap is_empty (drop_of_length-le records h) in cc)

-- a place behind some records that is refused
pub waits_stop : (first : Past) (old now : Replica) (owed : ℕ) (records : List (List ℕ)) (from place : ℕ) (s : WaitsSoFar first old now owed records from place) → Stops s.past now records place
    → (count : ℕ) × (place ≡ from + count) × (reading (seen first old) (drop from records) ≡ Err count)
waits_stop first old now owed records from place s stop = waits_then first old now now owed records from place (Err (reads.BadRecord place)) s stop
