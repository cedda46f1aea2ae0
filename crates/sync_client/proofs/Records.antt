-- Records of a client that are read one after the other.
use Rattle.std.proofs.Common.{arith, ◌≡◌, ℕ, suc, ◌+◌, Bool, true, false, ◌&&◌, List, [], ◌∷◌, ◌++◌, length, map, Option, Some, None, Result, Ok, Err, refl, ap, ◌∙◌, sym, subst, append-nil, append_assoc, length-append}
use Rattle.std.specs.Option.{option_map}
use Rattle.sync_data.specs.declared.instr.Instr.{Instr}
use Rattle.sync_base.specs.States.{State}
use Rattle.sync_model.specs.Clients.{Client, ClientRecord, after_record, client_of, no_client}
use Rattle.sync_model.specs.Files.{client_admits, client_reads, is_growing, read_one, read_put}
use Rattle.sync_model.specs.Each.{no_more}
use Rattle.sync_model.proofs.Opening.{calm}
use Rattle.sync_model.proofs.Own.{client_step, if_true, if_false}
use Rattle.sync_records.specs.declared.client.ClientRecord.{ClientRecord as CodeRecord}
use Rattle.sync_records.specs.declared.client.ClientRecord.TheVariants as codes
use Rattle.sync_records.specs.Reading.{client_forms, record_in}
use Rattle.sync_records.specs.Spelling.{client_spelling}
use Rattle.sync_exchange.specs.Profile.{the_profile}
use Rattle.sync_exchange.specs.Seen.{client_bytes, client_kept, client_seen, read_client}
use Rattle.sync_client.specs.declared.replica.Replica.{Replica}
use Rattle.sync_client.specs.Keeping.{Keeps}
use Rattle.sync_data.specs.declared.memory.NoMemory.{NoMemory}
use Rattle.sync_journal.specs.declared.opening.ReadRefusal.{ReadRefusal}
use Rattle.sync_journal.specs.declared.opening.ReadRefusal.TheVariants as refusals
use Rattle.sync_client.specs.Opening.{Admits, Admitted, IsEmpty, IsPast}
use Rattle.sync_client.specs.Reading.{Next, ReadAll, ReadOn, ReadSome, ReadsFile, ReadsOn, ReadsOne, read_puts}
use Rattle.sync_client.specs.Seen.{no_past, seen}
use Rattle.sync_client.proofs.Calls.{keeps_next}

kept_seen : (r : CodeRecord) → client_kept (client_seen r) ≡ r
kept_seen (codes.Born id) = refl
kept_seen (codes.Named ident) = refl
kept_seen (codes.Made number ms body) = refl
kept_seen (codes.Took origin number ms body) = refl
kept_seen codes.Form = refl
kept_seen (codes.Subset tables) = refl
kept_seen (codes.Part body) = refl
kept_seen (codes.Floor version) = refl
kept_seen (codes.Resumed number waiting) = refl
kept_seen (codes.Waits number base ms body current) = refl

pub bytes_back : (r : CodeRecord) → client_spelling r ≡ client_bytes (client_seen r)
bytes_back r = ap client_spelling (sym (kept_seen r))

-- ---- one record
pub read_on : (records : List ClientRecord) (r s : Replica) (bytes : List ℕ) (x : CodeRecord) (k : Keeps records r) → record_in client_forms bytes ≡ Some x → bytes ≡ client_spelling x → Admitted k.past r s (client_seen x) → ReadOn records s bytes
read_on records r s bytes x k read spelled a =
    let admits : (ahead : List (Option ClientRecord)) → client_admits the_profile (client_of the_profile records) ahead (client_seen x) ≡ true = λ ahead. ap (λ c. client_admits the_profile c ahead (client_seen x)) k.stands_for ∙ a.admitted ahead in
    record {
      next = client_seen x;
      spelled = spelled ∙ ap client_spelling (sym (kept_seen x));
      goes_on = λ ahead go. ap (λ o. read_one (option_map client_seen o) (client_admits the_profile (client_of the_profile records) ahead) go) read ∙ if_true (client_admits the_profile (client_of the_profile records) ahead (client_seen x)) _ _ (admits ahead);
      keeps = keeps_next records (client_seen x) r s a.then_past k (one (client_admits the_profile (client_of the_profile records) [] (client_seen x)) (admits [])) a.fits a.after a.count;
    }
  where
    one : (b : Bool) → b ≡ true → (b && true) ≡ true
    one true e = refl
    one false e = e

pub read_declined : (records : List ClientRecord) (r : Replica) (bytes : List ℕ) (x : CodeRecord) (k : Keeps records r) → record_in client_forms bytes ≡ Some x → ((ahead : List (Option ClientRecord)) → client_admits the_profile (seen k.past r) ahead (client_seen x) ≡ false)
    → (ahead : List (Option ClientRecord)) (go : ClientRecord → Result (List ClientRecord) ℕ) → Next records ahead bytes go ≡ Err 0
read_declined records r bytes x k read declines ahead go =
    ap (λ o. read_one (option_map client_seen o) (client_admits the_profile (client_of the_profile records) ahead) go) read
    ∙ if_false (client_admits the_profile (client_of the_profile records) ahead (client_seen x)) _ _ (ap (λ c. client_admits the_profile c ahead (client_seen x)) k.stands_for ∙ declines ahead)

pub read_nothing : (records : List ClientRecord) (bytes : List ℕ) → record_in client_forms bytes ≡ None → (ahead : List (Option ClientRecord)) (go : ClientRecord → Result (List ClientRecord) ℕ) → Next records ahead bytes go ≡ Err 0
read_nothing records bytes none ahead go = ap (λ o. read_one (option_map client_seen o) (client_admits the_profile (client_of the_profile records) ahead) go) none

-- what an open client doesn't keep
pub past_of : (records : List ClientRecord) (r : Replica) (k : Keeps records r) → IsPast k.past r
past_of records r k = record { count = k.count; settled = ap (λ (c : Client Instr State). is_growing c) (sym k.stands_for) ∙ calm the_profile records k.opens }

-- ---- one after the other
abbrev pub Read : Type 0
Read = Result (List ClientRecord) ℕ

pub puts_more : (xs : List ClientRecord) (x : ClientRecord) (r : Read) → read_puts (xs ++ x ∷ []) r ≡ read_puts xs (read_put x r)
puts_more [] x r = refl
puts_more (y ∷ xs) x r = ap (read_put y) (puts_more xs x r)

puts_all : (xs : List ClientRecord) → read_puts xs (Ok []) ≡ Ok xs
puts_all [] = refl
puts_all (x ∷ xs) = ap (read_put x) (puts_all xs)

puts_fault : (xs : List ClientRecord) (n : ℕ) → read_puts xs (Err n) ≡ Err (length xs + n)
puts_fault [] n = (let e : n ≡ 0 + n = omega arith in ap (λ m. Err m) e)
puts_fault (x ∷ xs) n = ap (read_put x) (puts_fault xs n) ∙ (let e : suc (length xs + n) ≡ suc (length xs) + n = omega arith in ap (λ m. Err m) e)

pub record ReadSoFar (file : List (List ℕ)) (place : ℕ) (rest : List (List ℕ)) (now : Replica) : Type 0 where
  pub records : List ClientRecord
  pub place_is : place ≡ length records
  pub split : file ≡ map client_bytes records ++ rest
  pub reads : client_reads the_profile read_client (no_client the_profile) file ≡ read_puts records (client_reads the_profile read_client (client_of the_profile records) rest)
  pub keeps : Keeps records now

pub reads_first : (file : List (List ℕ)) (r : Replica) → IsEmpty r → ReadSoFar file 0 file r
reads_first file r e = record {
  records = [];
  place_is = refl;
  split = refl;
  reads = refl;
  keeps = record { past = no_past; count = sym e.count; stands_for = sym e.stands_for; opens = refl; each = no_more };
}

puts_both : (xs ys : List ClientRecord) (r : Read) → read_puts (xs ++ ys) r ≡ read_puts xs (read_puts ys r)
puts_both [] ys r = refl
puts_both (x ∷ xs) ys r = ap (read_put x) (puts_both xs ys r)

map_both : (xs ys : List ClientRecord) → map client_bytes (xs ++ ys) ≡ map client_bytes xs ++ map client_bytes ys
map_both [] ys = refl
map_both (x ∷ xs) ys = ap (λ (l : List (List ℕ)). client_bytes x ∷ l) (map_both xs ys)

pub reads_next : (file : List (List ℕ)) (place behind count : ℕ) (left rest : List (List ℕ)) (now next : Replica) (s : ReadSoFar file place left now) → behind ≡ place + count → ReadSome s.records next left rest count → ReadSoFar file behind rest next
reads_next file place behind count left rest now next s there o =
    let place_is = s.place_is in
    let count_is = o.count_is in
    let long = length-append s.records o.next in
    record {
      records = s.records ++ o.next;
      place_is = omega (arith, place_is, count_is, long, there);
      split = s.split ∙ ap (λ l. map client_bytes s.records ++ l) o.spelled ∙ sym (append_assoc (map client_bytes s.records) (map client_bytes o.next) rest) ∙ ap (λ l. l ++ rest) (sym (map_both s.records o.next));
      reads = s.reads ∙ ap (read_puts s.records) o.goes_on ∙ sym (puts_both s.records o.next (client_reads the_profile read_client (client_of the_profile (s.records ++ o.next)) rest));
      keeps = o.keeps;
    }

pub reads_stop : (file : List (List ℕ)) (place bad count : ℕ) (left : List (List ℕ)) (now : Replica) (s : ReadSoFar file place left now) → bad ≡ place + count → client_reads the_profile read_client (client_of the_profile s.records) left ≡ Err count → client_reads the_profile read_client (no_client the_profile) file ≡ Err bad
reads_stop file place bad count left now s there stop =
    let place_is = s.place_is in
    let e : length s.records + count ≡ bad = omega (arith, place_is, there) in
    s.reads ∙ ap (read_puts s.records) stop ∙ puts_fault s.records count ∙ ap (λ n. Err n) e

-- the loop over a file
pub reads_refused : (file : List (List ℕ)) (place : ℕ) (left : List (List ℕ)) (behind : ℕ → List (List ℕ)) (now new : Replica) (why : ReadRefusal) (s : ReadSoFar file place left now) → ReadsOn s.records new left behind place (Err why) → ReadsFile file (Err why)
reads_refused file place left behind now new (refusals.BadRecord bad) s r = reads_stop file place bad r.0 left now s r.1 r.2
reads_refused file place left behind now new refusals.NoMemory s r = tt

-- one record
pub one_on : (records : List ClientRecord) (new : Replica) (bytes : List ℕ) (file rest : List (List ℕ)) → file ≡ bytes ∷ rest → ReadOn records new bytes → ReadSome records new file rest 1
one_on records new bytes file rest is o = record {
  next = o.next ∷ [];
  count_is = refl;
  spelled = is ∙ ap (λ b. b ∷ rest) o.spelled;
  goes_on =
      ap (client_reads the_profile read_client (client_of the_profile records)) is
      ∙ o.goes_on (map read_client rest) (λ r. client_reads the_profile read_client (after_record the_profile (client_of the_profile records) r) rest)
      ∙ ap (λ c. read_put o.next (client_reads the_profile read_client c rest)) (sym (client_step the_profile records o.next));
  keeps = o.keeps;
}

pub one_stops : (records : List ClientRecord) (bytes : List ℕ) (file rest : List (List ℕ)) → file ≡ bytes ∷ rest → ((ahead : List (Option ClientRecord)) (go : ClientRecord → Read) → Next records ahead bytes go ≡ Err 0) → client_reads the_profile read_client (client_of the_profile records) file ≡ Err 0
one_stops records bytes file rest is stop =
    ap (client_reads the_profile read_client (client_of the_profile records)) is ∙ stop (map read_client rest) (λ r. client_reads the_profile read_client (after_record the_profile (client_of the_profile records) r) rest)

pub reads_end : (file : List (List ℕ)) (place : ℕ) (left : List (List ℕ)) (now : Replica) → ReadSoFar file place left now → left ≡ [] → ReadAll file now
reads_end file place left now s is = record {
  records = s.records;
  reads = s.reads ∙ ap (λ l. read_puts s.records (client_reads the_profile read_client (client_of the_profile s.records) l)) is ∙ puts_all s.records;
  spelled = sym (s.split ∙ ap (λ l. map client_bytes s.records ++ l) is ∙ append-nil (map client_bytes s.records));
  keeps = s.keeps;
}

pub read_says : (records : List ClientRecord) (r s : Replica) (bytes : List ℕ) (x : CodeRecord) (a : Result Bool NoMemory) (k : Keeps records r) → record_in client_forms bytes ≡ Some x → bytes ≡ client_spelling x → Admits k.past r s (client_seen x) a → ReadsOne records s bytes a
read_says records r s bytes x (Ok true) k read spelled a = read_on records r s bytes x k read spelled a
read_says records r s bytes x (Ok false) k read spelled a = read_declined records r bytes x k read a
read_says records r s bytes x (Err e) k read spelled a = tt

pub one_read : (records : List ClientRecord) (s : Replica) (bytes given : List ℕ) (a : Result Bool NoMemory) (b : Bool) → given ≡ bytes → a ≡ Ok b → b ≡ true → ReadsOne records s given a → ReadOn records s bytes
one_read records s bytes given a b same is yes_ says =
    subst (ReadOn records s) same (subst (ReadsOne records s given) (is ∙ ap (λ (c : Bool). Ok c) yes_) says)

pub one_declined : (records : List ClientRecord) (s : Replica) (bytes given : List ℕ) (a : Result Bool NoMemory) (b : Bool) → given ≡ bytes → a ≡ Ok b → b ≡ false → ReadsOne records s given a → (ahead : List (Option ClientRecord)) (go : ClientRecord → Read) → Next records ahead bytes go ≡ Err 0
one_declined records s bytes given a b same is isnt says =
    subst (λ bs. (ahead : List (Option ClientRecord)) (go : ClientRecord → Read) → Next records ahead bs go ≡ Err 0) same (subst (ReadsOne records s given) (is ∙ ap (λ (c : Bool). Ok c) isnt) says)
