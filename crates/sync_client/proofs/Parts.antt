-- The parts of a state, and its version, where a client's file begins with them: what opening makes of each.
use Rattle.std.proofs.Common.{◌≡◌, ℕ, zero, suc, ◌+◌, ◌<◌, ◌≤◌, Bool, true, false, not, ◌&&◌, List, [], ◌∷◌, ◌++◌, length, map, Option, Some, None, Result, Ok, Err, refl, ap, ◌∙◌, sym, subst, append_assoc, append-nil, length-append, arith, ◌==◌, if◌then◌else◌, nat_le}
use Rattle.sync_model.specs.Bytes.{Bytes}
use Rattle.sync_model.specs.Clients.{Client, ClientRecord, after_record, after_records, ok_list}
use Rattle.sync_model.specs.Files.{all_came, bodies_ahead, client_admits, client_opens, client_reads, closes, is_blank, is_empty, is_fine, is_growing, is_place, may_grow, part_and, part_fits, parts_grow, read_one, read_parts, read_put, readable, reads_second, some_come, tables_fit}
use Rattle.sync_model.specs.Profile.{Profile, needs}
use Rattle.sync_model.specs.Snapshots.{grown}
use Rattle.sync_model.specs.Worlds.{is_there}
use Rattle.sync_model.proofs.Own.{if_true, if_false}
use Rattle.sync_model.proofs.Settling.{is_waiting}
use Rattle.sync_client.specs.Parts.{AreRead, none_read, and_read}
use Rattle.sync_client.specs.Reading.{read_puts}
use Rattle.sync_client.proofs.Refusing.{differ}

abbrev pub part : Bytes → ClientRecord
part b = ClientRecord.Part b

puts_fault : (xs : List ClientRecord) → read_puts xs (Err 0) ≡ Err (length xs)
puts_fault [] = refl
puts_fault (x ∷ xs) = ap (read_put x) (puts_fault xs)

both : (a b : Bool) → a ≡ true → b ≡ true → (a && b) ≡ true
both true b e f = f
both false b e f = e

second_false : (a b : Bool) → b ≡ false → (a && b) ≡ false
second_false true b e = e
second_false false b e = refl

first_of : (a b : Bool) → (a && b) ≡ true → a ≡ true
first_of true b e = refl
first_of false b e = e

second_of : (a b : Bool) → (a && b) ≡ true → b ≡ true
second_of true b e = e
second_of false b e = cc

not_true : (b : Bool) → not b ≡ true → b ≡ false
not_true true e = cc
not_true false e = refl

some_here : {A : Type 0} (xs ys : List A) → is_empty ys ≡ false → is_empty (xs ++ ys) ≡ false
some_here [] ys e = e
some_here (x ∷ xs) ys e = refl

-- neither a part nor a version
abbrev pub IsOther : ClientRecord → Type 0
IsOther (ClientRecord.Part body) = ⊥
IsOther (ClientRecord.Floor version) = ⊥
IsOther r = Unit {0}

length_parts : (bs : List Bytes) → length (map part bs) ≡ length bs
length_parts [] = refl
length_parts (b ∷ bs) = ap suc (length_parts bs)

module _ {I S : Type 0} (p : Profile I S) where
  abbrev pub with_parts : Client I S → List (List I) → Client I S
  with_parts c xs = record c { parts = xs }

  -- ---- lists of instructions and their bodies
  read_is : (second : Bool) (bs : List Bytes) (xs : List (List I)) → AreRead p second bs xs → read_parts p second bs ≡ Some xs
  read_is second [] [] none_read = refl
  read_is second [] (x ∷ xs) h = elim h [ ]
  read_is second (b ∷ bs) [] h = elim h [ ]
  read_is second (b ∷ bs) (x ∷ xs) (and_read r rs) = ap (λ o. part_and o (read_parts p second bs)) r ∙ ap (part_and (Some x)) (read_is second bs xs rs)

  read_both : (second : Bool) (bs cs : List Bytes) (xs ys : List (List I)) → AreRead p second bs xs → read_parts p second cs ≡ Some ys → read_parts p second (bs ++ cs) ≡ Some (xs ++ ys)
  read_both second [] cs [] ys none_read e = e
  read_both second [] cs (x ∷ xs) ys h e = elim h [ ]
  read_both second (b ∷ bs) cs [] ys h e = elim h [ ]
  read_both second (b ∷ bs) cs (x ∷ xs) ys (and_read r rs) e = ap (λ o. part_and o (read_parts p second (bs ++ cs))) r ∙ ap (part_and (Some x)) (read_both second bs cs xs ys rs e)

  read_not : (second : Bool) (bs cs : List Bytes) (xs : List (List I)) → AreRead p second bs xs → read_parts p second cs ≡ None → read_parts p second (bs ++ cs) ≡ None
  read_not second [] cs [] none_read e = e
  read_not second [] cs (x ∷ xs) h e = elim h [ ]
  read_not second (b ∷ bs) cs [] h e = elim h [ ]
  read_not second (b ∷ bs) cs (x ∷ xs) (and_read r rs) e = ap (λ o. part_and o (read_parts p second (bs ++ cs))) r ∙ ap (part_and (Some x)) (read_not second bs cs xs rs e)

  pub read_more : (second : Bool) (bs : List Bytes) (xs : List (List I)) (b : Bytes) (x : List I) → AreRead p second bs xs → readable p second (p.unspell b) ≡ Some x → AreRead p second (bs ++ b ∷ []) (xs ++ x ∷ [])
  read_more second [] [] b x none_read e = and_read e none_read
  read_more second [] (y ∷ xs) b x h e = elim h [ ]
  read_more second (c ∷ bs) [] b x h e = elim h [ ]
  read_more second (c ∷ bs) (y ∷ xs) b x (and_read r rs) e = and_read r (read_more second bs xs b x rs e)

  pub same_length : (second : Bool) (bs : List Bytes) (xs : List (List I)) → AreRead p second bs xs → length bs ≡ length xs
  same_length second [] [] none_read = refl
  same_length second [] (x ∷ xs) h = elim h [ ]
  same_length second (b ∷ bs) [] h = elim h [ ]
  same_length second (b ∷ bs) (x ∷ xs) (and_read r rs) = ap suc (same_length second bs xs rs)

  readable_ok : (second : Bool) (r : Result (List I) (ℕ × ℕ)) (x : List I) → readable p second r ≡ Some x → ok_list r ≡ x
  readable_ok second (Err f) x e = cc
  readable_ok second (Ok is) x e = go (needs p is && not second) e
    where
      go : (b : Bool) → ◌≡◌ {A = Option (List I)} (if b then None else Some is) (Some x) → is ≡ x
      go true f = cc
      go false f = cc

  -- ---- what is ahead of a part
  ahead_bodies : (bs : List Bytes) (os : List (Option ClientRecord)) → bodies_ahead p (map (λ q. Some q) (map part bs) ++ os) ≡ bs ++ bodies_ahead p os
  ahead_bodies [] os = refl
  ahead_bodies (b ∷ bs) os = ap (λ (l : List Bytes). b ∷ l) (ahead_bodies bs os)

  -- a part is admitted where something is ahead and the parts aren't refused here
  one_admits : (c : Client I S) (before : List (List I)) (b : Bytes) (x : List I) (ahead : List (Option ClientRecord)) → may_grow c ≡ true → readable p (reads_second c) (p.unspell b) ≡ Some x
      → client_admits p (with_parts c before) ahead (part b) ≡ (not (is_empty ahead) && parts_grow p before x (read_parts p (reads_second c) (bodies_ahead p ahead)))
  one_admits c before b x ahead blank r =
      ap (λ t. t && (not (is_empty ahead) && part_fits p (with_parts c before) ahead (readable p (reads_second c) (p.unspell b)))) blank
      ∙ ap (λ o. not (is_empty ahead) && part_fits p (with_parts c before) ahead o) r

  -- each of these records is admitted before those that are ahead
  abbrev pub AllAdmit : Client I S → List ClientRecord → List (Option ClientRecord) → Type 0
  AllAdmit c [] os = Unit {0}
  AllAdmit c (r ∷ rs) os = (client_admits p c (map (λ q. Some q) rs ++ os) r ≡ true) × AllAdmit (after_record p c r) rs os

  -- after a part
  then_part : (c : Client I S) (before : List (List I)) (b : Bytes) (x : List I) → readable p (reads_second c) (p.unspell b) ≡ Some x → after_record p (with_parts c before) (part b) ≡ with_parts c (before ++ x ∷ [])
  then_part c before b x r = ap (λ (y : List I). with_parts c (before ++ y ∷ [])) (readable_ok (reads_second c) (p.unspell b) x r)

  -- no place from the first of these on is refused
  abbrev NoneOf : List (List I) → List (List I) → Result S ℕ → Type 0
  NoneOf before xs g = (i : ℕ) → length before ≤ i → i < length before + length xs → is_place i g ≡ false

  pub parts_admit : (c : Client I S) (before after xs : List (List I)) (bs : List Bytes) (os : List (Option ClientRecord)) → may_grow c ≡ true → AreRead p (reads_second c) bs xs → read_parts p (reads_second c) (bodies_ahead p os) ≡ Some after → is_empty os ≡ false
      → NoneOf before xs (grown p (before ++ (xs ++ after))) → AllAdmit (with_parts c before) (map part bs) os
  parts_admit c before after [] [] os blank none_read rest some none = tt
  parts_admit c before after [] (b ∷ bs) os blank h rest some none = elim h [ ]
  parts_admit c before after (x ∷ xs) [] os blank h rest some none = elim h [ ]
  parts_admit c before after (x ∷ xs) (b ∷ bs) os blank (and_read r rs) rest some none =
      let ahead = map (λ q. Some q) (map part bs) ++ os in
      let behind : read_parts p (reads_second c) (bodies_ahead p ahead) ≡ Some (xs ++ after) = ap (read_parts p (reads_second c)) (ahead_bodies bs os) ∙ read_both (reads_second c) bs (bodies_ahead p os) xs after rs rest in
      let fine : parts_grow p before x (read_parts p (reads_second c) (bodies_ahead p ahead)) ≡ true = ap (parts_grow p before x) behind ∙ ap not (none (length before) (omega arith) (omega arith)) in
      let next : grown p (before ++ (x ∷ (xs ++ after))) ≡ grown p ((before ++ x ∷ []) ++ (xs ++ after)) = ap (grown p) (sym (append_assoc before (x ∷ []) (xs ++ after))) in
      let longer : length (before ++ x ∷ []) ≡ length before + 1 = length-append before (x ∷ []) in (
        one_admits c before b x ahead blank r ∙ both (not (is_empty ahead)) _ (ap not (some_here (map (λ q. Some q) (map part bs)) os some)) fine,
        subst (λ d. AllAdmit d (map part bs) os) (sym (then_part c before b x r))
            (parts_admit c (before ++ x ∷ []) after xs bs os blank rs rest some (λ i low high. subst (λ g. is_place i g ≡ false) next (none i (omega (arith, low, longer)) (omega (arith, high, longer))))),
      )

  -- where a later one isn't read
  pub unread_admit : (c : Client I S) (before xs : List (List I)) (bs : List Bytes) (os : List (Option ClientRecord)) → may_grow c ≡ true → AreRead p (reads_second c) bs xs → read_parts p (reads_second c) (bodies_ahead p os) ≡ None → is_empty os ≡ false → AllAdmit (with_parts c before) (map part bs) os
  unread_admit c before [] [] os blank none_read rest some = tt
  unread_admit c before [] (b ∷ bs) os blank h rest some = elim h [ ]
  unread_admit c before (x ∷ xs) [] os blank h rest some = elim h [ ]
  unread_admit c before (x ∷ xs) (b ∷ bs) os blank (and_read r rs) rest some =
      let ahead = map (λ q. Some q) (map part bs) ++ os in
      let behind : read_parts p (reads_second c) (bodies_ahead p ahead) ≡ None = ap (read_parts p (reads_second c)) (ahead_bodies bs os) ∙ read_not (reads_second c) bs (bodies_ahead p os) xs rs rest in (
        one_admits c before b x ahead blank r ∙ both (not (is_empty ahead)) _ (ap not (some_here (map (λ q. Some q) (map part bs)) os some)) (ap (parts_grow p before x) behind),
        subst (λ d. AllAdmit d (map part bs) os) (sym (then_part c before b x r)) (unread_admit c (before ++ x ∷ []) xs bs os blank rs rest some),
      )

  -- what the parts leave
  pub after_parts : (c : Client I S) (before xs : List (List I)) (bs : List Bytes) → AreRead p (reads_second c) bs xs → after_records p (with_parts c before) (map part bs) ≡ with_parts c (before ++ xs)
  after_parts c before [] [] none_read = ap (with_parts c) (sym (append-nil before))
  after_parts c before [] (b ∷ bs) h = elim h [ ]
  after_parts c before (x ∷ xs) [] h = elim h [ ]
  after_parts c before (x ∷ xs) (b ∷ bs) (and_read r rs) =
      ap (λ d. after_records p d (map part bs)) (then_part c before b x r) ∙ after_parts c (before ++ x ∷ []) xs bs rs ∙ ap (with_parts c) (append_assoc before (x ∷ []) xs)

  -- ---- what is read, and what opens
  pub admits_open : (rs ts : List ClientRecord) (c : Client I S) → AllAdmit c rs (map (λ q. Some q) ts) → client_opens p (after_records p c rs) ts ≡ true → client_opens p c (rs ++ ts) ≡ true
  admits_open [] ts c a e = e
  admits_open (r ∷ rs) ts c a e =
      both (client_admits p c (map (λ q. Some q) (rs ++ ts)) r) (client_opens p (after_record p c r) (rs ++ ts)) (ap (λ l. client_admits p c l r) (both_mapped rs ts) ∙ a.0) (admits_open rs ts (after_record p c r) a.1 e)
    where
      both_mapped : (xs ys : List ClientRecord) → map (λ q. Some q) (xs ++ ys) ≡ map (λ q. Some q) xs ++ map (λ q. Some q) ys
      both_mapped [] ys = refl
      both_mapped (x ∷ xs) ys = ap (λ l. Some x ∷ l) (both_mapped xs ys)

  module _ (read : Bytes → Option ClientRecord) (spell : Bytes → Bytes) (back : (b : Bytes) → read (spell b) ≡ Some (part b)) where
    mapped : (bs : List Bytes) (tail : List Bytes) → map read (map spell bs ++ tail) ≡ map (λ q. Some q) (map part bs) ++ map read tail
    mapped [] tail = refl
    mapped (b ∷ bs) tail = ap (λ o. o ∷ map read (map spell bs ++ tail)) (back b) ∙ ap (λ l. Some (part b) ∷ l) (mapped bs tail)

    pub walk : (bs tail : List Bytes) (c : Client I S) → AllAdmit c (map part bs) (map read tail) → client_reads p read c (map spell bs ++ tail) ≡ read_puts (map part bs) (client_reads p read (after_records p c (map part bs)) tail)
    walk [] tail c a = refl
    walk (b ∷ bs) tail c a =
        ap (λ o. read_one o (client_admits p c (map read (map spell bs ++ tail))) (λ r. client_reads p read (after_record p c r) (map spell bs ++ tail))) (back b)
        ∙ if_true (client_admits p c (map read (map spell bs ++ tail)) (part b)) _ _ (ap (λ l. client_admits p c l (part b)) (mapped bs tail) ∙ a.0)
        ∙ ap (read_put (part b)) (walk bs tail (after_record p c (part b)) a.1)

    -- the record behind them is refused
    stops : (bs : List Bytes) (b : Bytes) (tail : List Bytes) (c : Client I S) → AllAdmit c (map part bs) (map read (b ∷ tail)) → client_reads p read (after_records p c (map part bs)) (b ∷ tail) ≡ Err 0
        → client_reads p read c (map spell bs ++ (b ∷ tail)) ≡ Err (length bs)
    stops bs b tail c a e = walk bs (b ∷ tail) c a ∙ ap (read_puts (map part bs)) e ∙ puts_fault (map part bs) ∙ ap (λ n. Err n) (length_parts bs)

    -- what is read is a record that isn't admitted, or none
    pub refuses : (d : Client I S) (b : Bytes) (tail : List Bytes) (r : ClientRecord) → read b ≡ Some r → client_admits p d (map read tail) r ≡ false → client_reads p read d (b ∷ tail) ≡ Err 0
    refuses d b tail r is declines = ap (λ o. read_one o (client_admits p d (map read tail)) (λ q. client_reads p read (after_record p d q) tail)) is ∙ if_false (client_admits p d (map read tail) r) _ _ declines

    pub refuses_none : (d : Client I S) (b : Bytes) (tail : List Bytes) → read b ≡ None → client_reads p read d (b ∷ tail) ≡ Err 0
    refuses_none d b tail is = ap (λ o. read_one o (client_admits p d (map read tail)) (λ q. client_reads p read (after_record p d q) tail)) is

    -- ---- a part is refused
    named_here : (g : Result S ℕ) (k i : ℕ) → g ≡ Err k → i ≡ k → is_place i g ≡ true
    named_here g k i is same = ap (is_place i) is ∙ Rattle.std.proofs.lemmas.Bool.eq-eqb k i (sym same)

    pub named_not : (g : Result S ℕ) (k i : ℕ) → g ≡ Err k → ¬ (k ≡ i) → is_place i g ≡ false
    named_not g k i is other = ap (is_place i) is ∙ differ k i other

    pub named_none : (g : Result S ℕ) (s : S) (i : ℕ) → g ≡ Ok s → is_place i g ≡ false
    named_none g s i is = ap (is_place i) is

    -- the parts before one, and those behind it
    front_admits : (c : Client I S) (bs1 bs2 : List Bytes) (b : Bytes) (xs1 xs2 : List (List I)) (x : List I) (tail : List Bytes) → may_grow c ≡ true → AreRead p (reads_second c) bs1 xs1 → readable p (reads_second c) (p.unspell b) ≡ Some x → AreRead p (reads_second c) bs2 xs2
        → bodies_ahead p (map read tail) ≡ [] → ((i : ℕ) → i < length xs1 → is_place i (grown p (xs1 ++ (x ∷ xs2))) ≡ false) → AllAdmit (with_parts c []) (map part bs1) (map read (map spell (b ∷ bs2) ++ tail))
    front_admits c bs1 bs2 b xs1 xs2 x tail blank r1 r r2 last none =
        let os = map read (map spell (b ∷ bs2) ++ tail) in
        let ahead : os ≡ map (λ q. Some q) (map part (b ∷ bs2)) ++ map read tail = mapped (b ∷ bs2) tail in
        let bodies : bodies_ahead p os ≡ b ∷ bs2 = ap (bodies_ahead p) ahead ∙ ahead_bodies (b ∷ bs2) (map read tail) ∙ ap (λ (l : List Bytes). b ∷ (bs2 ++ l)) last ∙ ap (λ (l : List Bytes). b ∷ l) (append-nil bs2) in
        parts_admit c [] (x ∷ xs2) xs1 bs1 os blank r1 (ap (read_parts p (reads_second c)) bodies ∙ read_is (reads_second c) (b ∷ bs2) (x ∷ xs2) (and_read r r2)) (ap is_empty ahead)
        (λ i low high. none i (omega (arith, high)))

    -- the parts are refused at this one
    pub stops_named : (c : Client I S) (bs1 bs2 : List Bytes) (b : Bytes) (xs1 xs2 : List (List I)) (x : List I) (tail : List Bytes) → may_grow c ≡ true → AreRead p (reads_second c) bs1 xs1 → readable p (reads_second c) (p.unspell b) ≡ Some x → AreRead p (reads_second c) bs2 xs2
        → bodies_ahead p (map read tail) ≡ [] → grown p (xs1 ++ (x ∷ xs2)) ≡ Err (length xs1) → client_reads p read (with_parts c []) (map spell (bs1 ++ (b ∷ bs2)) ++ tail) ≡ Err (length bs1)
    stops_named c bs1 bs2 b xs1 xs2 x tail blank r1 r r2 last bad =
        let front = front_admits c bs1 bs2 b xs1 xs2 x tail blank r1 r r2 last (λ i high. named_not (grown p (xs1 ++ (x ∷ xs2))) (length xs1) i bad (λ e. absurd (omega (arith, e, high)))) in
        let rest = map spell bs2 ++ tail in
        let bodies : bodies_ahead p (map read rest) ≡ bs2 = ap (bodies_ahead p) (mapped bs2 tail) ∙ ahead_bodies bs2 (map read tail) ∙ ap (λ (l : List Bytes). bs2 ++ l) last ∙ append-nil bs2 in
        let behind : read_parts p (reads_second c) (bodies_ahead p (map read rest)) ≡ Some xs2 = ap (read_parts p (reads_second c)) bodies ∙ read_is (reads_second c) bs2 xs2 r2 in
        let here : client_admits p (with_parts c xs1) (map read rest) (part b) ≡ false =
        one_admits c xs1 b x (map read rest) blank r ∙ second_false (not (is_empty (map read rest))) _ (ap (parts_grow p xs1 x) behind ∙ ap not (named_here (grown p (xs1 ++ (x ∷ xs2))) (length xs1) (length xs1) bad refl)) in
        let stop : client_reads p read (after_records p (with_parts c []) (map part bs1)) (spell b ∷ rest) ≡ Err 0 =
        ap (λ d. client_reads p read d (spell b ∷ rest)) (after_parts c [] xs1 bs1 r1) ∙ refuses (with_parts c xs1) (spell b) rest (part b) (back b) here in
        ap (λ (l : List Bytes). client_reads p read (with_parts c []) l) (spelled_both bs1 (b ∷ bs2) tail) ∙ stops bs1 (spell b) rest (with_parts c []) front stop
      where
        spelled_both : (us vs ws : List Bytes) → map spell (us ++ vs) ++ ws ≡ map spell us ++ (map spell vs ++ ws)
        spelled_both [] vs ws = refl
        spelled_both (u ∷ us) vs ws = ap (λ (l : List Bytes). spell u ∷ l) (spelled_both us vs ws)

    -- nothing follows the last one
    pub stops_last : (c : Client I S) (bs1 : List Bytes) (b : Bytes) (xs1 : List (List I)) (x : List I) → may_grow c ≡ true → AreRead p (reads_second c) bs1 xs1 → readable p (reads_second c) (p.unspell b) ≡ Some x
        → ((i : ℕ) → i < length xs1 → is_place i (grown p (xs1 ++ (x ∷ []))) ≡ false) → client_reads p read (with_parts c []) (map spell (bs1 ++ (b ∷ []))) ≡ Err (length bs1)
    stops_last c bs1 b xs1 x blank r1 r none =
        let front = front_admits c bs1 [] b xs1 [] x [] blank r1 r none_read refl none in
        let here : client_admits p (with_parts c xs1) [] (part b) ≡ false = one_admits c xs1 b x [] blank r in
        let stop : client_reads p read (after_records p (with_parts c []) (map part bs1)) (spell b ∷ []) ≡ Err 0 =
        ap (λ d. client_reads p read d (spell b ∷ [])) (after_parts c [] xs1 bs1 r1) ∙ refuses (with_parts c xs1) (spell b) [] (part b) (back b) here in
        ap (λ (l : List Bytes). client_reads p read (with_parts c []) l) (spelled_last bs1) ∙ stops bs1 (spell b) [] (with_parts c []) front stop
      where
        spelled_last : (us : List Bytes) → map spell (us ++ (b ∷ [])) ≡ map spell us ++ (spell b ∷ [])
        spelled_last [] = refl
        spelled_last (u ∷ us) = ap (λ (l : List Bytes). spell u ∷ l) (spelled_last us)

    -- one of them isn't a part that the form allows
    pub stops_unread : (c : Client I S) (bs : List Bytes) (xs : List (List I)) (b : Bytes) (tail : List Bytes) → may_grow c ≡ true → AreRead p (reads_second c) bs xs → readable p (reads_second c) (p.unspell b) ≡ None
        → client_reads p read (with_parts c []) (map spell bs ++ (spell b ∷ tail)) ≡ Err (length bs)
    stops_unread c bs xs b tail blank rs r =
        let os = map read (spell b ∷ tail) in
        let bodies : bodies_ahead p os ≡ b ∷ bodies_ahead p (map read tail) = ap (λ o. bodies_ahead p (o ∷ map read tail)) (back b) in
        let none : read_parts p (reads_second c) (bodies_ahead p os) ≡ None = ap (read_parts p (reads_second c)) bodies ∙ ap (λ o. part_and o (read_parts p (reads_second c) (bodies_ahead p (map read tail)))) r in
        let front = unread_admit c [] xs bs os blank rs none refl in
        let here : client_admits p (with_parts c xs) (map read tail) (part b) ≡ false =
        ap (λ t. t && (not (is_empty (map read tail)) && part_fits p (with_parts c xs) (map read tail) (readable p (reads_second c) (p.unspell b)))) blank
        ∙ ap (λ o. not (is_empty (map read tail)) && part_fits p (with_parts c xs) (map read tail) o) r ∙ second_false (not (is_empty (map read tail))) false refl in
        let stop : client_reads p read (after_records p (with_parts c []) (map part bs)) (spell b ∷ tail) ≡ Err 0 =
        ap (λ d. client_reads p read d (spell b ∷ tail)) (after_parts c [] xs bs rs) ∙ refuses (with_parts c xs) (spell b) tail (part b) (back b) here in
        stops bs (spell b) tail (with_parts c []) front stop

    -- ---- all of them are admitted
    pub all_admit : (c : Client I S) (bs : List Bytes) (xs : List (List I)) (os : List (Option ClientRecord)) → may_grow c ≡ true → AreRead p (reads_second c) bs xs → bodies_ahead p os ≡ [] → is_empty os ≡ false
        → ((i : ℕ) → i < length xs → is_place i (grown p xs) ≡ false) → AllAdmit (with_parts c []) (map part bs) os
    all_admit c bs xs os blank rs last some none =
        parts_admit c [] [] xs bs os blank rs (ap (read_parts p (reads_second c)) last) some
        (λ i low high. ap (λ l. is_place i (grown p l)) (append-nil xs) ∙ none i (omega (arith, high)))

    -- and what follows is refused
    pub stops_behind : (c : Client I S) (bs : List Bytes) (xs : List (List I)) (b : Bytes) (tail : List Bytes) → may_grow c ≡ true → AreRead p (reads_second c) bs xs → bodies_ahead p (map read (b ∷ tail)) ≡ []
        → ((i : ℕ) → i < length xs → is_place i (grown p xs) ≡ false) → client_reads p read (with_parts c xs) (b ∷ tail) ≡ Err 0 → client_reads p read (with_parts c []) (map spell bs ++ (b ∷ tail)) ≡ Err (length bs)
    stops_behind c bs xs b tail blank rs last none stop =
        stops bs b tail (with_parts c []) (all_admit c bs xs (map read (b ∷ tail)) blank rs last refl none) (ap (λ d. client_reads p read d (b ∷ tail)) (after_parts c [] xs bs rs) ∙ stop)

  -- ---- what a client that waits for its version refuses
  module _ (d : Client I S) (ready : may_grow d ≡ true) (waiting : is_waiting d ≡ true) where
    is_born : is_there d.id ≡ true
    is_born = first_of (is_there d.id) _ waiting

    unnamed : (d.ident == 0) ≡ true
    unnamed = second_of (is_there d.id) _ waiting

    waits_on : (rest : Bool) → is_growing d ≡ true → (is_there d.id && (not (is_growing d) && rest)) ≡ false
    waits_on rest g = second_false (is_there d.id) _ (ap (λ b. not b && rest) g)

    waits_for_ident : (rest : Bool) → (not (d.ident == 0) && rest) ≡ false
    waits_for_ident rest = ap (λ b. not b && rest) unnamed

    none_come : (o : Option ℕ) (b : Bool) → all_came o b ≡ true → some_come o ≡ false
    none_come None b e = refl
    none_come (Some zero) b e = refl
    none_come (Some (suc n)) b e = cc

    tables_refused : (o : Option ℕ) (more : Bool) (x : Bool) → x ≡ false → is_empty d.parts ≡ false → tables_fit d more o x ≡ false
    tables_refused None more x e f = e
    tables_refused (Some n) more x e f = second_false (d.ident == 0) _ (second_false (not (is_there d.subset)) _ (second_false (is_empty d.unsent) _ (ap (λ b. b && more) f)))

    pub others_refused : (ahead : List (Option ClientRecord)) (r : ClientRecord) → IsOther r → is_growing d ≡ true → is_empty d.parts ≡ false → client_admits p d ahead r ≡ false
    others_refused ahead (ClientRecord.Born id) o g some = ap not is_born
    others_refused ahead (ClientRecord.Named ident) o g some = waits_on _ g
    others_refused ahead (ClientRecord.Made number ms body) o g some = waits_on _ g
    others_refused ahead (ClientRecord.Took origin number ms body) o g some = waits_for_ident _
    others_refused ahead ClientRecord.Form o g some = waits_on _ g
    others_refused ahead (ClientRecord.Subset tables) o g some = tables_refused d.front (not (is_empty ahead)) _ (waits_on _ g) some
    others_refused ahead (ClientRecord.Part body) o g some = absurd o
    others_refused ahead (ClientRecord.Floor version) o g some = absurd o
    others_refused ahead (ClientRecord.Resumed number waiting) o g some = second_false (is_blank d) _ (ap (λ b. not b && (not (is_empty ahead) && nat_le (number + waiting) p.full)) g)
    others_refused ahead (ClientRecord.Waits number base ms body current) o g some =
        ap (λ b. b && ((number == suc (length d.made)) && (not (is_empty ahead) && (is_fine (p.unspell body) && is_fine (p.unspell current))))) (none_come d.front (is_blank d) ready)

    -- a version closes the parts exactly where they grow, and behind it nothing is unsent
    pub floor_admits : (ahead : List (Option ClientRecord)) (version : ℕ) → client_admits p d ahead (ClientRecord.Floor version) ≡ (is_fine (grown p d.parts) && closes d.front version d.unsent)
    floor_admits ahead version = ap (λ b. b && (is_fine (grown p d.parts) && closes d.front version d.unsent)) ready

  -- where none may come a client takes neither
  pub not_ready : (d : Client I S) (ahead : List (Option ClientRecord)) (b : Bytes) → may_grow d ≡ false → client_admits p d ahead (part b) ≡ false
  not_ready d ahead b e = ap (λ t. t && (not (is_empty ahead) && part_fits p d ahead (readable p (reads_second d) (p.unspell b)))) e

  pub not_ready_floor : (d : Client I S) (ahead : List (Option ClientRecord)) (version : ℕ) → may_grow d ≡ false → client_admits p d ahead (ClientRecord.Floor version) ≡ false
  not_ready_floor d ahead version e = ap (λ t. t && (is_fine (grown p d.parts) && closes d.front version d.unsent)) e

-- ---- a run cut at a place
pub record Cut {I S : Type 0} (p : Profile I S) (second : Bool) (bs : List Bytes) (xs : List (List I)) (k : ℕ) : Type 0 where
  pub front : List Bytes
  pub body : Bytes
  pub back : List Bytes
  pub first : List (List I)
  pub here : List I
  pub last : List (List I)
  pub bodies : bs ≡ front ++ (body ∷ back)
  pub lists : xs ≡ first ++ (here ∷ last)
  pub read_front : AreRead p second front first
  pub read_here : readable p second (p.unspell body) ≡ Some here
  pub read_back : AreRead p second back last
  pub place : length first ≡ k

pub cut_at : {I S : Type 0} (p : Profile I S) (second : Bool) (k : ℕ) (bs : List Bytes) (xs : List (List I)) → AreRead p second bs xs → k < length xs → Cut p second bs xs k
cut_at p second k [] [] none_read h = absurd (omega (arith, h))
cut_at p second k [] (x ∷ xs) r h = elim r [ ]
cut_at p second zero (b ∷ bs) [] r h = elim r [ ]
cut_at p second (suc k) (b ∷ bs) [] r h = elim r [ ]
cut_at p second zero (b ∷ bs) (x ∷ xs) (and_read r rs) h = record { front = []; body = b; back = bs; first = []; here = x; last = xs; bodies = refl; lists = refl; read_front = none_read; read_here = r; read_back = rs; place = refl }
cut_at p second (suc k) (b ∷ bs) (x ∷ xs) (and_read r rs) h =
    let c = cut_at p second k bs xs rs (omega (arith, h)) in
    record {
      front = b ∷ c.front;
      body = c.body;
      back = c.back;
      first = x ∷ c.first;
      here = c.here;
      last = c.last;
      bodies = ap (λ (l : List Bytes). b ∷ l) c.bodies;
      lists = ap (λ l. x ∷ l) c.lists;
      read_front = and_read r c.read_front;
      read_here = c.read_here;
      read_back = c.read_back;
      place = ap suc c.place;
    }
