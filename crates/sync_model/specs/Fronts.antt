-- What opening makes of a server's file: of the records at the front of a trimmed one, and of those behind them.
use Rattle.std.specs.Prelude.{bytes_eq, ℕ, suc, ◌+◌, ◌-◌, Bool, true, false, ◌&&◌, ◌||◌, not, List, [], ◌∷◌, ◌++◌, Option, Some, None, Result, Ok, Err, nat_lt, nat_le, ◌==◌, if◌then◌else◌, length, drop, take, max, sum_by}
use Rattle.sync_theory.specs.Changesets.{Changeset}
use Rattle.sync_model.specs.Bytes.{Bytes, Uuid}
use Rattle.sync_model.specs.Profile.{Profile, act_changeset}
use Rattle.sync_model.specs.Snapshots.{grown}
use Rattle.sync_model.specs.Servers.{ServerRecord, Client, Form, Retired, Part, Floor, Count, Carried, Past, place_of, heir_of, is_retired}
use Rattle.sync_model.specs.Parts.{Given, Parts, at_ident, list_kept, no_parts, after_part, admits_part}
use Rattle.sync_model.specs.Trims.{pairs_from, is_live}
use Rattle.sync_model.specs.Files.{is_empty, readable}
use Rattle.sync_model.specs.Worlds.{at, is_there}

-- ---- the records of a kind at the front of a file; a record that isn't one is none

-- one in front of the others, up to the first that isn't of the kind
abbrev pub lead_on : {A : Type 0} → Option A → List A → List A
lead_on None xs = []
lead_on (Some x) xs = x ∷ xs

-- those at the front
abbrev pub leading : {R A : Type 0} → (R → Option A) → List R → List A
leading kind [] = []
leading kind (r ∷ rs) = lead_on (kind r) (leading kind rs)

-- those at the front, so many at most, and what follows them
abbrev pub taking : {R A B : Type 0} → (R → Option A) → ℕ → List R → (List A → List R → B) → B
taking kind most file go = go (take most (leading kind file)) (drop (length (take most (leading kind file))) file)

-- all those at the front, and what follows them
abbrev pub taking_all : {R A B : Type 0} → (R → Option A) → List R → (List A → List R → B) → B
taking_all kind file go = go (leading kind file) (drop (length (leading kind file)) file)

-- a count of an ident
pub record Counted : Type 0 where
  pub ident : ℕ
  pub number : ℕ
  pub base : ℕ
  pub settled : ℕ

-- an entry of the history as it was carried
pub record Kept : Type 0 where
  pub origin : ℕ
  pub number : ℕ
  pub base : ℕ
  pub ms : ℕ
  pub body : Bytes

-- an entry as an ident's changes crossed it
pub record Crossed : Type 0 where
  pub ident : ℕ
  pub version : ℕ
  pub ms : ℕ
  pub body : Bytes

-- of a record that was read
abbrev pub of_kind : {A : Type 0} → (ServerRecord → Option A) → Option ServerRecord → Option A
of_kind kind None = None
of_kind kind (Some r) = kind r

-- the kinds
abbrev pub part_of : ServerRecord → Option Bytes
part_of (Part body) = Some body
part_of r = None

-- a floor
abbrev pub floor_is : ServerRecord → Option ℕ
floor_is (Floor version) = Some version
floor_is r = None

-- an ident's uuid
abbrev pub uuid_is : ServerRecord → Option Uuid
uuid_is (Client id) = Some id
uuid_is r = None

-- a retired ident and its heir
abbrev pub retired_is : ServerRecord → Option (ℕ × ℕ)
retired_is (Retired ident by) = Some (ident, by)
retired_is r = None

-- an ident's count
abbrev pub count_is : ServerRecord → Option Counted
count_is (Count ident number base settled) = Some (record { ident = ident; number = number; base = base; settled = settled })
count_is r = None

-- an entry
abbrev pub entry_is : ServerRecord → Option Kept
entry_is (Carried origin number base ms body) = Some (record { origin = origin; number = number; base = base; ms = ms; body = body })
entry_is r = None

-- and one that was crossed
abbrev pub crossed_is : ServerRecord → Option Crossed
crossed_is (Past ident version ms body) = Some (record { ident = ident; version = version; ms = ms; body = body })
crossed_is r = None

-- ---- one after the other

-- it is refused, or goes on
abbrev pub walk_on : {B C : Type 0} → Option B → (B → Result C ℕ) → Result C ℕ
walk_on None go = Err 0
walk_on (Some b) go = go b

-- a refusal one place further
abbrev pub further_on : {C : Type 0} → Result C ℕ → Result C ℕ
further_on (Ok c) = Ok c
further_on (Err n) = Err (suc n)

-- what a list of records makes, or the place of the first that is refused
abbrev pub walk : {A B : Type 0} → (B → A → Option B) → B → List A → Result B ℕ
walk step b [] = Ok b
walk step b (x ∷ xs) = walk_on (step b x) (λ c. further_on (walk step c xs))

-- what comes next, or the refusal at its place in the file
abbrev pub then_at : {A B : Type 0} → ℕ → Result A ℕ → (A → Result B ℕ) → Result B ℕ
then_at k (Ok a) go = go a
then_at k (Err n) go = Err (k + n)

-- ---- what is read of each kind

-- a part
abbrev pub part_step : {I S : Type 0} → Profile I S → Bool → List (List I) → Bytes → Option (List (List I))
part_step p second parts body = if is_there (readable p second (p.unspell body)) then Some (parts ++ Rattle.sync_model.specs.Clients.ok_list (p.unspell body) ∷ []) else None

-- a uuid that isn't there yet
abbrev pub uuid_step : List Uuid → Uuid → Option (List Uuid)
uuid_step us u = if place_of u us == 0 then Some (us ++ u ∷ []) else None

-- it is one of so many idents
abbrev pub is_among : ℕ → ℕ → Bool
is_among n c = nat_le 1 c && nat_le c n

-- of so many idents one that isn't retired yet, for another
abbrev pub retired_step : ℕ → List (ℕ × ℕ) → ℕ × ℕ → Option (List (ℕ × ℕ))
retired_step n qs q = if (is_among n q.0 && is_among n q.1) && (not (q.0 == q.1) && not (is_retired (heir_of q.0 qs))) then Some (qs ++ q ∷ []) else None

-- how many changes are integrated
abbrev pub counted_sum : List Counted → ℕ
counted_sum cs = sum_by (λ c. c.number) cs

-- the count of the next ident
abbrev pub count_step : ℕ → List Counted → Counted → Option (List Counted)
count_step full cs c = if (c.ident == suc (length cs)) && nat_le (counted_sum cs + c.number) full then Some (cs ++ c ∷ []) else None

-- no base and no settled number is beyond the length
abbrev pub all_within : ℕ → List Counted → Bool
all_within len [] = true
all_within len (c ∷ cs) = (nat_le c.base len && nat_le c.settled len) && all_within len cs

-- an ident of which no changes are crossed yet
abbrev pub with_count : {I : Type 0} → List (ℕ × ℕ) → Uuid → Counted → Given I
with_count qs u c = record { uuid = u; count = c.number; last = c.base; heir = heir_of c.ident qs; mark = c.settled; reciprocal = [] }

-- each uuid with its count, and with its heir where it is retired
abbrev pub with_counts : {I : Type 0} → List (ℕ × ℕ) → List Uuid → List Counted → List (Given I)
with_counts qs [] cs = []
with_counts qs (u ∷ us) [] = []
with_counts qs (u ∷ us) (c ∷ cs) = with_count qs u c ∷ with_counts qs us cs

-- the number of the last entry of an origin, if there is one
abbrev pub last_of : {I : Type 0} → ℕ → List (Changeset I) → Option ℕ → Option ℕ
last_of c [] o = o
last_of c (x ∷ xs) o = last_of c xs (if x.origin == c then Some x.number else o)

-- the next number of an origin, if it has one already
abbrev pub follows : Option ℕ → ℕ → Bool
follows None number = true
follows (Some n) number = number == suc n

-- it is the last one, or there is none
abbrev pub is_last : Option ℕ → ℕ → Bool
is_last None count = true
is_last (Some n) count = n == count

-- the numbers of each ident, the first of which is c, end with its count
abbrev pub all_end : {I : Type 0} → ℕ → List (Changeset I) → List (Given I) → Bool
all_end c xs [] = true
all_end c xs (g ∷ gs) = is_last (last_of c xs None) g.count && all_end (suc c) xs gs

-- the entries so far, and the objects after them
pub record Grows (I S : Type 0) : Type 0 where
  pub objects : S
  pub entries : List (Changeset I)
  pub bases : List ℕ

-- an entry that acts
abbrev pub grows_on : {I S : Type 0} → Grows I S → Changeset I → ℕ → Option S → Option (Grows I S)
grows_on st x base None = None
grows_on st x base (Some s) = Some (record { objects = s; entries = st.entries ++ x ∷ []; bases = st.bases ++ base ∷ [] })

-- an entry of an ident that has these
abbrev pub numbers_on : {I : Type 0} → List (Changeset I) → Kept → Option (Given I) → Bool
numbers_on xs e None = false
numbers_on xs e (Some g) = (nat_le 1 e.number && nat_le e.number g.count) && follows (last_of e.origin xs None) e.number

-- its body
abbrev pub entry_read : {I S : Type 0} → Profile I S → Grows I S → Kept → Option (List I) → Option (Grows I S)
entry_read p st e None = None
entry_read p st e (Some is) = grows_on st (record { origin = e.origin; number = e.number; ms = e.ms; instrs = is }) e.base (act_changeset p (record { origin = e.origin; number = e.number; ms = e.ms; instrs = is }) st.objects)

-- the next entry
abbrev pub entry_step : {I S : Type 0} → Profile I S → Bool → List (Given I) → Grows I S → Kept → Option (Grows I S)
entry_step p second gs st e = if numbers_on st.entries e (at_ident e.origin gs) then entry_read p st e (readable p second (p.unspell e.body)) else None

-- an entry as an ident's changes crossed it
pub record Passed (I : Type 0) : Type 0 where
  pub ident : ℕ
  pub version : ℕ
  pub instrs : List I

-- it comes after the last one
abbrev pub rises : {I : Type 0} → List (Passed I) → ℕ → ℕ → Bool
rises [] c version = true
rises (q ∷ []) c version = nat_lt q.ident c || ((q.ident == c) && nat_lt q.version version)
rises (q ∷ r ∷ qs) c version = rises (r ∷ qs) c version

-- of an ident that has these, another list than the entry's
abbrev pub is_crossed : {I S : Type 0} → Profile I S → ℕ → Crossed → Option (Given I) → Option (Changeset I) → Bool
is_crossed p floor e None o = false
is_crossed p floor e (Some g) None = false
is_crossed p floor e (Some g) (Some x) = is_live g && (nat_le (max floor g.last) e.version && (not (x.origin == e.ident) && ((e.ms == x.ms) && not (bytes_eq e.body (p.spell x.instrs)))))

-- one more, its body once read
abbrev pub passed_on : {I : Type 0} → List (Passed I) → Crossed → Option (List I) → Option (List (Passed I))
passed_on qs e None = None
passed_on qs e (Some is) = Some (qs ++ record { ident = e.ident; version = e.version; instrs = is } ∷ [])

-- the next of them
abbrev pub crossed_step : {I S : Type 0} → Profile I S → Bool → ℕ → List (Given I) → List (Changeset I) → List (Passed I) → Crossed → Option (List (Passed I))
crossed_step p second floor gs xs qs e =
    if rises qs e.ident e.version && (nat_le floor e.version && is_crossed p floor e (at_ident e.ident gs) (at xs (e.version - floor)))
    then passed_on qs e (readable p second (p.unspell e.body)) else None

-- the list of an ident at a version, if it is another than the entry's
abbrev pub instrs_at : {I : Type 0} → ℕ → ℕ → List (Passed I) → List I → List I
instrs_at c version [] is = is
instrs_at c version (q ∷ qs) is = if (q.ident == c) && (q.version == version) then q.instrs else instrs_at c version qs is

-- the entries of others, as an ident's changes crossed them
abbrev pub pairs_of : {I : Type 0} → ℕ → ℕ → List (Changeset I) → List (Passed I) → List (ℕ × Changeset I)
pairs_of c version [] qs = []
pairs_of c version (x ∷ xs) qs = (if x.origin == c then [] else (version, record x { instrs = instrs_at c version qs x.instrs }) ∷ []) ++ pairs_of c (suc version) xs qs

-- the idents, the first of which is c, with them; those before its last base no change of an ident crosses any more, nor
-- does any change of a retired ident
abbrev pub with_pairs : {I : Type 0} → ℕ → ℕ → List (Changeset I) → List (Passed I) → List (Given I) → List (Given I)
with_pairs c floor xs qs [] = []
with_pairs c floor xs qs (g ∷ gs) = record g { reciprocal = list_kept g.heir (pairs_from (max floor g.last) (pairs_of c floor xs qs)) } ∷ with_pairs (suc c) floor xs qs gs

-- what the front of a file gives, and how many records it takes
pub record Front (I S : Type 0) : Type 0 where
  pub parts : Parts I S
  pub size : ℕ

module _ {I S : Type 0} (p : Profile I S) where
  -- ---- the front of a trimmed file, phase by phase

  -- what was crossed; k is the place of the first record of the kind
  abbrev pub front_crossed : Bool → S → ℕ → ℕ → List (ℕ × ℕ) → List (Given I) → Grows I S → ℕ → List Crossed → List (Option ServerRecord) → Result (Front I S) ℕ
  front_crossed second below floor len ds gs st k es rest =
      then_at k (walk (crossed_step p second floor gs st.entries) [] es) (λ qs. Ok (record {
        parts = record { floor = floor; below = below; len = len; entries = st.entries; bases = st.bases; objects = st.objects; second = second; idents = with_pairs 1 floor st.entries qs gs; retired = ds };
        size = k + length es;
      }))

  -- the entries
  abbrev pub front_entries : Bool → S → ℕ → ℕ → List (ℕ × ℕ) → List (Given I) → ℕ → List Kept → List (Option ServerRecord) → Result (Front I S) ℕ
  front_entries second below floor len ds gs k es rest =
      then_at k (walk (entry_step p second gs) (record { objects = below; entries = []; bases = [] }) es) (λ st.
      if nat_lt (length es) (len - floor) then Err (k + length es - 1)
      else if not (all_end 1 st.entries gs) then Err (k + length es - 1)
      else taking_all (of_kind crossed_is) rest (front_crossed second below floor len ds gs st (k + length es)))

  -- the counts, one for each of these uuids
  abbrev pub front_counts : Bool → S → ℕ → List Uuid → List (ℕ × ℕ) → ℕ → List Counted → List (Option ServerRecord) → Result (Front I S) ℕ
  front_counts second below floor us ds k cs rest =
      then_at k (walk (count_step p.full) [] cs) (λ es.
      if nat_lt (length cs) (length us) then Err (k + length cs - 1)
      else if not (nat_le floor (counted_sum es) && all_within (counted_sum es) es) then Err (k + length cs - 1)
      else taking (of_kind entry_is) (counted_sum es - floor) rest (front_entries second below floor (counted_sum es) ds (with_counts ds us es) (k + length cs)))

  -- nothing but a state and its version
  abbrev pub front_alone : Bool → S → ℕ → ℕ → Front I S
  front_alone second below floor k = record {
    parts = record { floor = floor; below = below; len = floor; entries = []; bases = []; objects = below; second = second; idents = []; retired = [] };
    size = k;
  }

  -- the retired idents behind the uuids; where no count follows, both are later records
  abbrev pub front_retired : Bool → S → ℕ → ℕ → List Uuid → List (ℕ × ℕ) → List (Option ServerRecord) → Result (Front I S) ℕ
  front_retired second below floor k us qs rest =
      if is_empty (leading (of_kind count_is) rest) then (if nat_lt 0 floor then Err (k - 1) else Ok (front_alone second below floor k))
      else if is_empty us then Err k
      else then_at k (walk uuid_step [] us) (λ vs.
      then_at (k + length us) (walk (retired_step (length us)) [] qs) (λ ds.
      taking (of_kind count_is) (length us) rest (front_counts second below floor vs ds (k + length us + length qs))))

  -- the uuids
  abbrev pub front_uuids : Bool → S → ℕ → ℕ → List Uuid → List (Option ServerRecord) → Result (Front I S) ℕ
  front_uuids second below floor k us rest = taking_all (of_kind retired_is) rest (front_retired second below floor k us)

  -- the floor behind the parts
  abbrev pub front_floor : Bool → S → ℕ → Option ℕ → List (Option ServerRecord) → Result (Front I S) ℕ
  front_floor second below k None rest = Err k
  front_floor second below k (Some floor) rest = taking_all (of_kind uuid_is) rest (front_uuids second below floor (suc k))

  -- the first record behind the parts, or the last part where there is none
  abbrev pub front_behind : Bool → S → ℕ → List (Option ServerRecord) → Result (Front I S) ℕ
  front_behind second below k [] = Err (k - 1)
  front_behind second below k (o ∷ rest) = front_floor second below k (of_kind floor_is o) rest

  -- the parts
  abbrev pub front_parts : Bool → ℕ → List Bytes → List (Option ServerRecord) → Result (Front I S) ℕ
  front_parts second k bodies rest =
      then_at k (walk (part_step p second) [] bodies) (λ parts. then_at k (grown p parts) (λ s. front_behind second s (k + length bodies) rest))

  -- ---- any file

  -- a part or a floor stands here
  abbrev pub begins_trimmed : List (Option ServerRecord) → Bool
  begins_trimmed [] = false
  begins_trimmed (o ∷ os) = is_there (of_kind part_of o) || is_there (of_kind floor_is o)

  -- a form stands here
  abbrev pub is_form : Option ServerRecord → Bool
  is_form (Some Form) = true
  is_form o = false

  -- the front of a file: nothing where it has its whole history
  abbrev pub front_of : List (Option ServerRecord) → Result (Front I S) ℕ
  front_of [] = Ok (record { parts = no_parts p; size = 0 })
  front_of (o ∷ os) =
      if begins_trimmed (o ∷ os) then taking_all (of_kind part_of) (o ∷ os) (front_parts false 0)
      else if is_form o && begins_trimmed os then taking_all (of_kind part_of) os (front_parts true 1)
      else Ok (record { parts = no_parts p; size = 0 })

  -- one record more, if it is one that a server would have written there
  abbrev pub rest_on : Parts I S → Option ServerRecord → (Parts I S → Result (Parts I S) ℕ) → Result (Parts I S) ℕ
  rest_on kept None go = Err 0
  rest_on kept (Some r) go = if admits_part p kept r then further_on (go (after_part p kept r)) else Err 0

  -- what the records behind the front make of what is kept
  abbrev pub rest_of : Parts I S → List (Option ServerRecord) → Result (Parts I S) ℕ
  rest_of kept [] = Ok kept
  rest_of kept (o ∷ os) = rest_on kept o (λ next. rest_of next os)

  -- what a server's file gives, or the place of the first record that is refused
  abbrev pub file_gives : List (Option ServerRecord) → Result (Parts I S) ℕ
  file_gives file = then_at 0 (front_of file) (λ front. then_at front.size (rest_of front.parts (drop front.size file)) (λ kept. Ok kept))
