-- Records of a server's file that are read one after the other.
use Rattle.std.proofs.Common.{◌≡◌, ℕ, zero, suc, ◌+◌, Bool, true, false, ◌&&◌, ◌||◌, List, [], ◌∷◌, ◌++◌, length, map, take, drop, Vec, Global, Option, Some, None, Result, Ok, Err, if◌then◌else◌, refl, ap, ◌∙◌, sym, subst, arith, append-nil, append_assoc, length-append}
use Rattle.std.specs.Option.{option_map}
use Rattle.sync_data.specs.declared.instr.Instr.{Instr}
use Rattle.sync_base.specs.States.{State}
use Rattle.sync_data.specs.declared.memory.NoMemory.{NoMemory}
use Rattle.sync_model.specs.Fronts.{Front, begins_trimmed, file_gives, front_of, front_parts, further_on, is_form, part_of, of_kind, rest_of, rest_on, taking_all, then_at}
use Rattle.sync_model.specs.Parts.{Parts, admits_part, no_parts}
use Rattle.sync_model.specs.Servers.{ServerRecord}
use Rattle.sync_model.proofs.Own.{if_true, if_false}
use Rattle.sync_records.specs.declared.server.ServerRecord.{ServerRecord as CodeRecord}
use Rattle.sync_records.specs.declared.server.ServerRecord.TheVariants as codes
use Rattle.sync_records.specs.Reading.{record_in, server_forms}
use Rattle.sync_records.specs.Spelling.{server_spelling}
use Rattle.sync_exchange.specs.Profile.{the_profile}
use Rattle.sync_exchange.specs.Seen.{read_server, server_bytes, server_kept, server_seen}
use Rattle.server_memory.specs.Kept.{parts}
use Rattle.server_memory.specs.Opening.{Admits, AreRecords, FrontRead, IsDeclined, ReadAll, ReadOn, ReadsFile, ReadsFront, ReadsOne, ReadsRest, RestBad, RestRead, is_trimmed}
use Rattle.server_memory.specs.declared.kept.Kept.{Kept}
use Rattle.sync_journal.specs.declared.opening.ReadRefusal.{ReadRefusal}
use Rattle.sync_journal.specs.declared.opening.ReadRefusal.TheVariants as refusals

pub kept_seen : (r : CodeRecord) → server_kept (server_seen r) ≡ r
kept_seen (codes.Client id) = refl
kept_seen (codes.Entry origin number base ms body) = refl
kept_seen codes.Form = refl
kept_seen (codes.Retired ident by) = refl
kept_seen (codes.Settled ident settled) = refl
kept_seen (codes.Part body) = refl
kept_seen (codes.Floor version) = refl
kept_seen (codes.Count ident number base settled) = refl
kept_seen (codes.Carried origin number base ms body) = refl
kept_seen (codes.Past ident version ms body) = refl

-- ---- one record
pub read_says : (old new : Kept) (bytes : List ℕ) (x : CodeRecord) (a : Result Bool NoMemory) → record_in server_forms bytes ≡ Some x → bytes ≡ server_spelling x → Admits old new (server_seen x) a → ReadsOne old new bytes a
read_says old new bytes x (Ok true) read spelled a = record {
  next = server_seen x;
  reads = ap (option_map server_seen) read;
  spelled = spelled ∙ ap server_spelling (sym (kept_seen x));
  admitted = a;
}
read_says old new bytes x (Ok false) read spelled a =
    λ go. ap (λ o. rest_on the_profile (parts old) (option_map server_seen o) go) read ∙ if_false (admits_part the_profile (parts old) (server_seen x)) _ _ a
read_says old new bytes x (Err e) read spelled a = tt

pub read_nothing : (old : Kept) (bytes : List ℕ) → record_in server_forms bytes ≡ None → IsDeclined old bytes
read_nothing old bytes none = λ go. ap (λ o. rest_on the_profile (parts old) (option_map server_seen o) go) none

-- ---- one after the other
abbrev Made : Type 0
Made = Result (Parts Instr State) ℕ

-- so many records further
abbrev pub furthers : ℕ → Made → Made
furthers zero r = r
furthers (suc n) r = further_on (furthers n r)

furthers_more : (n : ℕ) (r : Made) → furthers n (further_on r) ≡ further_on (furthers n r)
furthers_more zero r = refl
furthers_more (suc n) r = ap further_on (furthers_more n r)

furthers_ok : (n : ℕ) (k : Parts Instr State) → furthers n (Ok k) ≡ Ok k
furthers_ok zero k = refl
furthers_ok (suc n) k = ap further_on (furthers_ok n k)

furthers_err : (n : ℕ) → furthers n (Err 0) ≡ Err n
furthers_err zero = refl
furthers_err (suc n) = ap further_on (furthers_err n)

abbrev somes : List ServerRecord → List (Option ServerRecord)
somes rs = map (λ r. Some r) rs

pub record ReadSoFar (rest : List (List ℕ)) (first place : ℕ) (left : List (List ℕ)) (old now : Kept) : Type 0 where
  pub records : List ServerRecord
  pub place_is : place ≡ first + length records
  pub split : rest ≡ map server_bytes records ++ left
  pub reads : map read_server rest ≡ somes records ++ map read_server left
  pub goes : rest_of the_profile (parts old) (map read_server rest) ≡ furthers (length records) (rest_of the_profile (parts now) (map read_server left))

pub reads_first : (rest : List (List ℕ)) (first : ℕ) (old : Kept) → ReadSoFar rest first first rest old old
reads_first rest first old = record { records = []; place_is = omega arith; split = refl; reads = refl; goes = refl }

map_append : {A B : Type 0} (f : A → B) (xs : List A) (x : A) → map f (xs ++ x ∷ []) ≡ map f xs ++ f x ∷ []
map_append f [] x = refl
map_append f (y ∷ xs) x = ap (λ l. f y ∷ l) (map_append f xs x)

pub reads_next : (rest : List (List ℕ)) (first place : ℕ) (left after : List (List ℕ)) (bytes : List ℕ) (old now next : Kept) (s : ReadSoFar rest first place left old now) → left ≡ bytes ∷ after → ReadOn now next bytes → ReadSoFar rest first (place + 1) after old next
reads_next rest first place left after bytes old now next s is o =
    let more = length-append s.records (o.next ∷ []) in
    let size : length (s.records ++ o.next ∷ []) ≡ suc (length s.records) = omega (arith, more) in
    let place_is = s.place_is in
    record {
      records = s.records ++ o.next ∷ [];
      place_is = omega (arith, place_is, more);
      split = s.split ∙ ap (λ l. map server_bytes s.records ++ l) (is ∙ ap (λ b. b ∷ after) o.spelled) ∙ sym (append_assoc (map server_bytes s.records) (server_bytes o.next ∷ []) after) ∙ ap (λ l. l ++ after) (sym (map_append server_bytes s.records o.next));
      reads = s.reads ∙ ap (λ l. somes s.records ++ map read_server l) is ∙ ap (λ r. somes s.records ++ r ∷ map read_server after) o.reads ∙ sym (append_assoc (somes s.records) (Some o.next ∷ []) (map read_server after)) ∙ ap (λ l. l ++ map read_server after) (sym (map_append (λ r. Some r) s.records o.next));
      goes = s.goes
          ∙ ap (λ l. furthers (length s.records) (rest_of the_profile (parts now) (map read_server l))) is
          ∙ ap (λ r. furthers (length s.records) (rest_on the_profile (parts now) r (λ k. rest_of the_profile k (map read_server after)))) o.reads
          ∙ ap (furthers (length s.records)) (if_true (admits_part the_profile (parts now) o.next) _ _ o.admitted.admitted)
          ∙ ap (λ k. furthers (length s.records) (further_on (rest_of the_profile k (map read_server after)))) (sym o.admitted.kept)
          ∙ furthers_more (length s.records) (rest_of the_profile (parts next) (map read_server after))
          ∙ ap (λ n. furthers n (rest_of the_profile (parts next) (map read_server after))) (sym size);
    }

pub reads_stop : (rest : List (List ℕ)) (first place : ℕ) (left after : List (List ℕ)) (bytes : List ℕ) (old now : Kept) (s : ReadSoFar rest first place left old now) → left ≡ bytes ∷ after → IsDeclined now bytes → RestBad rest old first place
reads_stop rest first place left after bytes old now s is stop = record {
  number = length s.records;
  place_is = s.place_is;
  reads = s.goes
      ∙ ap (λ l. furthers (length s.records) (rest_of the_profile (parts now) (map read_server l))) is
      ∙ ap (furthers (length s.records)) (stop (λ k. rest_of the_profile k (map read_server after)))
      ∙ furthers_err (length s.records);
}

pub reads_end : (rest : List (List ℕ)) (first place : ℕ) (left : List (List ℕ)) (old now : Kept) → ReadSoFar rest first place left old now → left ≡ [] → RestRead rest old now
reads_end rest first place left old now s is = record {
  records = s.records;
  are = record {
    reads = s.reads ∙ ap (λ l. somes s.records ++ map read_server l) is ∙ append-nil (somes s.records);
    spelled = sym (s.split ∙ ap (λ l. map server_bytes s.records ++ l) is ∙ append-nil (map server_bytes s.records));
  };
  gives = s.goes ∙ ap (λ l. furthers (length s.records) (rest_of the_profile (parts now) (map read_server l))) is ∙ furthers_ok (length s.records) (parts now);
}

-- ---- the bytes of vectors
pub one_read : (old new : Kept) (bytes given : List ℕ) (a : Result Bool NoMemory) (b : Bool) → given ≡ bytes → a ≡ Ok b → b ≡ true → ReadsOne old new given a → ReadOn old new bytes
one_read old new bytes given a b same is yes_ says = subst (ReadOn old new) same (subst (ReadsOne old new given) (is ∙ ap (λ (c : Bool). Ok c) yes_) says)

pub one_declined : (old new : Kept) (bytes given : List ℕ) (a : Result Bool NoMemory) (b : Bool) → given ≡ bytes → a ≡ Ok b → b ≡ false → ReadsOne old new given a → IsDeclined old bytes
one_declined old new bytes given a b same is isnt says = subst (IsDeclined old) same (subst (ReadsOne old new given) (is ∙ ap (λ (c : Bool). Ok c) isnt) says)

-- ---- the whole
module _ {A B : Type 0} (f : A → B) where
  map_drop : (n : ℕ) (xs : List A) → map f (drop n xs) ≡ drop n (map f xs)
  map_drop zero xs = refl
  map_drop (suc n) [] = refl
  map_drop (suc n) (x ∷ xs) = map_drop n xs

  map_both : (xs ys : List A) → map f (xs ++ ys) ≡ map f xs ++ map f ys
  map_both [] ys = refl
  map_both (x ∷ xs) ys = ap (λ l. f x ∷ l) (map_both xs ys)

take_drop : {A : Type 0} (n : ℕ) (xs : List A) → take n xs ++ drop n xs ≡ xs
take_drop zero xs = refl
take_drop (suc n) [] = refl
take_drop (suc n) (x ∷ xs) = ap (λ l. x ∷ l) (take_drop n xs)

are_both : (file : List (List ℕ)) (n : ℕ) (a b : List ServerRecord) → AreRecords (take n file) a → AreRecords (drop n file) b → AreRecords file (a ++ b)
are_both file n a b front rest = record {
  reads = ap (map read_server) (sym (take_drop n file)) ∙ map_both read_server (take n file) (drop n file) ∙ (λ i. front.reads i ++ rest.reads i) ∙ sym (map_both (λ r. Some r) a b);
  spelled = map_both server_bytes a b ∙ (λ i. front.spelled i ++ rest.spelled i) ∙ take_drop n file;
}

then_err : {A B : Type 0} (k : ℕ) (w : Result A ℕ) (go : A → Result B ℕ) (n : ℕ) → w ≡ Err n → then_at k w go ≡ Err (k + n)
then_err k w go n e = ap (λ r. then_at k r go) e

abbrev rest_behind : List (Option ServerRecord) → Front Instr State → Made
rest_behind os front = then_at front.size (rest_of the_profile front.parts (drop front.size os)) (λ kept. Ok kept)

pub all_read : (file : List (List ℕ)) (size : ℕ) (mid new : Kept) (rest : List (List ℕ)) → FrontRead file mid size → rest ≡ drop size file → RestRead rest mid new → ReadAll file new
all_read file size mid new rest f is end =
    let ended = subst (λ l. RestRead l mid new) is end in
    record {
      records = f.records ++ ended.records;
      are = are_both file size f.records ended.records f.are ended.are;
      gives = ap (λ w. then_at 0 w (rest_behind (map read_server file))) f.gives
          ∙ ap (λ l. then_at size (rest_of the_profile (parts mid) l) (λ kept. Ok kept)) (sym (map_drop read_server size file))
          ∙ ap (λ w. then_at size w (λ kept. Ok kept)) ended.gives;
    }

pub all_bad : (file : List (List ℕ)) (size place : ℕ) (mid : Kept) (rest : List (List ℕ)) → FrontRead file mid size → rest ≡ drop size file → RestBad rest mid size place → file_gives the_profile (map read_server file) ≡ Err place
all_bad file size place mid rest f is bad =
    ap (λ w. then_at 0 w (rest_behind (map read_server file))) f.gives
    ∙ ap (λ l. then_at size (rest_of the_profile (parts mid) l) (λ kept. Ok kept)) (sym (map_drop read_server size file))
    ∙ ap (λ l. then_at size (rest_of the_profile (parts mid) (map read_server l)) (λ kept. Ok kept)) (sym is)
    ∙ ap (λ w. then_at size w (λ kept. Ok kept)) bad.reads
    ∙ ap (λ n. Err n) (sym bad.place_is)

pub front_bad : (file : List (List ℕ)) (place : ℕ) → front_of the_profile (map read_server file) ≡ Err place → file_gives the_profile (map read_server file) ≡ Err place
front_bad file place e =
    let same : 0 + place ≡ place = omega arith in
    ap (λ w. then_at 0 w (rest_behind (map read_server file))) e ∙ ap (λ n. Err n) same

pub all_fails : (file : List (List ℕ)) (size : ℕ) (mid new : Kept) (rest : List (List ℕ)) (why : ReadRefusal) → FrontRead file mid size → rest ≡ drop size file → ReadsRest rest size mid new (Err why) → ReadsFile file (Err why)
all_fails file size mid new rest refusals.NoMemory f is bad = tt
all_fails file size mid new rest (refusals.BadRecord place) f is bad = all_bad file size place mid rest f is bad

pub front_fails : (file : List (List ℕ)) (why : ReadRefusal) → ReadsFront file (Err why) → ReadsFile file (Err why)
front_fails file refusals.NoMemory bad = tt
front_fails file (refusals.BadRecord place) bad = front_bad file place bad

-- ---- a file with its whole history
or_left : (a b : Bool) → (a || b) ≡ false → (a ≡ false) × (b ≡ false)
or_left true b e = cc
or_left false b e = (refl, e)

pub plain_front : (os : List (Option ServerRecord)) → is_trimmed os ≡ false → front_of the_profile os ≡ Ok (record { parts = no_parts the_profile; size = 0 })
plain_front [] e = refl
plain_front (o ∷ os) e =
    let both = or_left (begins_trimmed the_profile (o ∷ os)) (is_form the_profile o && begins_trimmed the_profile os) e in
    ap (λ t. if t then taking_all (of_kind part_of) (o ∷ os) (front_parts the_profile false 0) else if is_form the_profile o && begins_trimmed the_profile os then taking_all (of_kind part_of) os (front_parts the_profile true 1) else Ok (record { parts = no_parts the_profile; size = 0 })) both.0
    ∙ ap (λ t. if t then taking_all (of_kind part_of) os (front_parts the_profile true 1) else Ok (record { parts = no_parts the_profile; size = 0 })) both.1

pub whole_file : (file : List (List ℕ)) (new : Kept) → is_trimmed (map read_server file) ≡ false → parts new ≡ no_parts the_profile → FrontRead file new 0
whole_file file new e is = record {
  within = omega arith;
  records = [];
  are = record { reads = refl; spelled = refl };
  gives = plain_front (map read_server file) e ∙ ap (λ k. Ok (record { parts = k; size = 0 })) (sym is);
}
