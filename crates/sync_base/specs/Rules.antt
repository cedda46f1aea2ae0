-- The rule table: what becomes of two concurrent instructions. The flag is whether the left is later.
use Rattle.std.specs.Prelude.{ℕ, ◌+◌, ◌-◌, Bool, true, false, not, ◌&&◌, ◌||◌, if◌then◌else◌, ◌==◌, nat_lt, nat_le, Option, None, Some, Result, Ok, Err}
use Rattle.std.specs.Option.{option_map}
use Rattle.std.specs.Ordering.{eq_by_cmp}
use Rattle.sync_data.specs.Spot.{Spot}
use Rattle.sync_data.specs.Orders.{name_cmp, value_cmp}
use Rattle.sync_data.specs.declared.value.Value.{Value}
use Rattle.sync_data.specs.declared.value.Value.TheVariants as values
use Rattle.sync_data.specs.declared.instr.Instr.{Instr}
use Rattle.sync_base.specs.declared.answers.Mismatch.{Mismatch}
use Rattle.sync_base.specs.declared.answers.Mismatch.TheVariants as mismatches
use Rattle.sync_base.specs.declared.answers.Outcome.{Outcome}
use Rattle.sync_base.specs.Effects.{CellPath, Edit, Effect, Set, Add, Replace, Insert, Remove, Include, Exclude, Bind, Empty, NewTable, NewColumn, Create, Erase, Change, effect_of, instr_of}
use Rattle.sync_base.specs.States.{object_cmp, key_rank_of}
use Rattle.sync_base.specs.After.{added}
use Rattle.sync_base.specs.Merged.{path_cmp, same_column}

-- what becomes of the two sides: each is an edit or an effect, or nothing
pub record Outcomes (A : Type 0) : Type 0 where
  pub left : Option A
  pub right : Option A

abbrev pub Answer : Type 0 → Type 0
Answer A = Result (Outcomes A) Mismatch

module _ {A : Type 0} where
  abbrev pub kept : A → A → Answer A
  kept a b = Ok (record { left = Some a; right = Some b })

  abbrev pub only_left : A → Answer A
  only_left a = Ok (record { left = Some a; right = None })

  abbrev pub only_right : A → Answer A
  only_right b = Ok (record { left = None; right = Some b })

  abbrev pub neither : Answer A
  neither = Ok (record { left = None; right = None })

  abbrev pub later_of : Bool → A → A → Answer A
  later_of true a b = only_left a
  later_of false a b = only_right b

-- a place in a list of that length
abbrev pub spot : ℕ → ℕ → Spot
spot p n = record { place = p; prior = n }

-- the greatest length that an instruction can bear
abbrev pub top : ℕ
top = 4294967295

-- two list instructions: they were made on lists of one length, and an insertion can lengthen it
abbrev pub sized : Bool → Spot → Spot → Answer Edit → Answer Edit
sized inserts s t row = if s.prior == t.prior then (if inserts && (s.prior == top) then Err mismatches.Range else row) else Err mismatches.SizesDiffer

-- an addition changes it, or leaves it null
abbrev pub is_summed : Value → Bool
is_summed values.Null = true
is_summed (values.Int n) = true
is_summed v = false

-- ---- two edits of one cell
-- * one value: of two updates the later stays; a later addition is added to a concurrent update, an earlier one is dropped
-- * lists: the places that stay are those after the other side; two insertions at one place stand in the order of their stamps;
--   an element erased twice is erased once; the update of an erased element is dropped; of two updates of one element the later stays
-- * sets: of an insertion and an erasure of one value the later stays
-- * dictionaries: of two updates of one key the later stays
-- * clearing: a Clear stays and the other side is dropped; two Clears drop each other
-- * all else: both stay as they are
abbrev pub rule_of_edits : Bool → Edit → Edit → Answer Edit
rule_of_edits l (Set v) (Set w) = later_of l (Set v) (Set w)
rule_of_edits l (Set v) (Add n) = if is_summed v then (if l then only_left (Set v) else kept (Set (added n v)) (Add n)) else kept (Set v) (Add n)
rule_of_edits l (Add n) (Set v) = if is_summed v then (if l then kept (Add n) (Set (added n v)) else only_right (Set v)) else kept (Add n) (Set v)
rule_of_edits l (Insert s v) (Insert t w) = sized true s t (
    if nat_lt s.place t.place || (s.place == t.place && not l)
    then kept (Insert (spot s.place (s.prior + 1)) v) (Insert (spot (t.place + 1) (t.prior + 1)) w)
    else kept (Insert (spot (s.place + 1) (s.prior + 1)) v) (Insert (spot t.place (t.prior + 1)) w))
rule_of_edits l (Insert s v) (Remove t) = sized true s t (
    if nat_le s.place t.place
    then kept (Insert (spot s.place (s.prior - 1)) v) (Remove (spot (t.place + 1) (t.prior + 1)))
    else kept (Insert (spot (s.place - 1) (s.prior - 1)) v) (Remove (spot t.place (t.prior + 1))))
rule_of_edits l (Remove s) (Insert t w) = sized true s t (
    if nat_le t.place s.place
    then kept (Remove (spot (s.place + 1) (s.prior + 1))) (Insert (spot t.place (t.prior - 1)) w)
    else kept (Remove (spot s.place (s.prior + 1))) (Insert (spot (t.place - 1) (t.prior - 1)) w))
rule_of_edits l (Insert s v) (Replace t w) = sized true s t (
    if nat_le s.place t.place then kept (Insert s v) (Replace (spot (t.place + 1) (t.prior + 1)) w) else kept (Insert s v) (Replace (spot t.place (t.prior + 1)) w))
rule_of_edits l (Replace s v) (Insert t w) = sized true s t (
    if nat_le t.place s.place then kept (Replace (spot (s.place + 1) (s.prior + 1)) v) (Insert t w) else kept (Replace (spot s.place (s.prior + 1)) v) (Insert t w))
rule_of_edits l (Remove s) (Remove t) = sized false s t (
    if s.place == t.place then neither
    else if nat_lt s.place t.place
    then kept (Remove (spot s.place (s.prior - 1))) (Remove (spot (t.place - 1) (t.prior - 1)))
    else kept (Remove (spot (s.place - 1) (s.prior - 1))) (Remove (spot t.place (t.prior - 1))))
rule_of_edits l (Remove s) (Replace t w) = sized false s t (
    if s.place == t.place then only_left (Remove s)
    else if nat_lt s.place t.place then kept (Remove s) (Replace (spot (t.place - 1) (t.prior - 1)) w)
    else kept (Remove s) (Replace (spot t.place (t.prior - 1)) w))
rule_of_edits l (Replace s v) (Remove t) = sized false s t (
    if s.place == t.place then only_right (Remove t)
    else if nat_lt t.place s.place then kept (Replace (spot (s.place - 1) (s.prior - 1)) v) (Remove t)
    else kept (Replace (spot s.place (s.prior - 1)) v) (Remove t))
rule_of_edits l (Replace s v) (Replace t w) = sized false s t (
    if s.place == t.place then later_of l (Replace s v) (Replace t w) else kept (Replace s v) (Replace t w))
rule_of_edits l (Include v) (Exclude w) = if eq_by_cmp value_cmp v w then later_of l (Include v) (Exclude w) else kept (Include v) (Exclude w)
rule_of_edits l (Exclude v) (Include w) = if eq_by_cmp value_cmp v w then later_of l (Exclude v) (Include w) else kept (Exclude v) (Include w)
rule_of_edits l (Bind j v) (Bind k w) = if eq_by_cmp name_cmp j k then later_of l (Bind j v) (Bind k w) else kept (Bind j v) (Bind k w)
rule_of_edits l Empty Empty = neither
rule_of_edits l Empty (Insert t w) = only_left Empty
rule_of_edits l Empty (Remove t) = only_left Empty
rule_of_edits l Empty (Replace t w) = only_left Empty
rule_of_edits l Empty (Include w) = only_left Empty
rule_of_edits l Empty (Exclude w) = only_left Empty
rule_of_edits l Empty (Bind k w) = only_left Empty
rule_of_edits l (Insert s v) Empty = only_right Empty
rule_of_edits l (Remove s) Empty = only_right Empty
rule_of_edits l (Replace s v) Empty = only_right Empty
rule_of_edits l (Include v) Empty = only_right Empty
rule_of_edits l (Exclude v) Empty = only_right Empty
rule_of_edits l (Bind k v) Empty = only_right Empty
rule_of_edits l e f = kept e f

-- which pairs of edits have a row of their own above; the others stay as they are, in one cell or in two
abbrev pub has_row : Edit → Edit → Bool
has_row (Set v) (Set w) = true
has_row (Set v) (Add n) = true
has_row (Add n) (Set v) = true
has_row (Insert s v) (Insert t w) = true
has_row (Insert s v) (Remove t) = true
has_row (Remove s) (Insert t w) = true
has_row (Insert s v) (Replace t w) = true
has_row (Replace s v) (Insert t w) = true
has_row (Remove s) (Remove t) = true
has_row (Remove s) (Replace t w) = true
has_row (Replace s v) (Remove t) = true
has_row (Replace s v) (Replace t w) = true
has_row (Include v) (Exclude w) = true
has_row (Exclude v) (Include w) = true
has_row (Bind j v) (Bind k w) = true
has_row Empty Empty = true
has_row Empty (Insert t w) = true
has_row Empty (Remove t) = true
has_row Empty (Replace t w) = true
has_row Empty (Include w) = true
has_row Empty (Exclude w) = true
has_row Empty (Bind k w) = true
has_row (Insert s v) Empty = true
has_row (Remove s) Empty = true
has_row (Replace s v) Empty = true
has_row (Include v) Empty = true
has_row (Exclude v) Empty = true
has_row (Bind k v) Empty = true
has_row e f = false

-- what is left of two edits, in their cell
abbrev pub placed : CellPath → Option Edit → Option Effect
placed p None = None
placed p (Some e) = Some (Change p e)

abbrev pub lifted : CellPath → Answer Edit → Answer Effect
lifted p (Err m) = Err m
lifted p (Ok f) = Ok (record { left = placed p f.left; right = placed p f.right })

-- ---- two effects
-- * of two equal definitions neither stays, and two different ones of one table or column can't be merged
-- * an erase stays, and a creation of the object or a change of its cells is dropped; two erases drop each other
-- * two changes of one cell: as above
-- * all else: both stay as they are
abbrev pub rule : Bool → Effect → Effect → Answer Effect
rule l (NewTable t k) (NewTable u j) =
    if eq_by_cmp name_cmp t u then (if key_rank_of k == key_rank_of j then neither else Err mismatches.TablesDiffer) else kept (NewTable t k) (NewTable u j)
rule l (NewColumn t c x) (NewColumn u d y) =
    if eq_by_cmp name_cmp t u && eq_by_cmp name_cmp c d then (if same_column x y then neither else Err mismatches.ColumnsDiffer) else kept (NewColumn t c x) (NewColumn u d y)
rule l (Create o) (Erase p) = if eq_by_cmp object_cmp o p then only_right (Erase p) else kept (Create o) (Erase p)
rule l (Erase o) (Create p) = if eq_by_cmp object_cmp o p then only_left (Erase o) else kept (Erase o) (Create p)
rule l (Erase o) (Erase p) = if eq_by_cmp object_cmp o p then neither else kept (Erase o) (Erase p)
rule l (Erase o) (Change q e) = if eq_by_cmp object_cmp o q.0 then only_left (Erase o) else kept (Erase o) (Change q e)
rule l (Change q e) (Erase o) = if eq_by_cmp object_cmp q.0 o then only_right (Erase o) else kept (Change q e) (Erase o)
rule l (Change p e) (Change q f) = if has_row e f && eq_by_cmp path_cmp p q then lifted p (rule_of_edits l e f) else kept (Change p e) (Change q f)
rule l a b = kept a b

-- ---- the same of instructions
abbrev pub outcome_of : Answer Effect → Result Outcome Mismatch
outcome_of (Ok f) = Ok (record { left = option_map instr_of f.left; right = option_map instr_of f.right })
outcome_of (Err m) = Err m

-- what is left of two instructions that meet, or why they can't be merged
abbrev pub meeting : Instr → Instr → Bool → Result Outcome Mismatch
meeting a b later = outcome_of (rule later (effect_of a) (effect_of b))
