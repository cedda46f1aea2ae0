-- What is left of an instruction carries as many bytes as the instruction.
use Rattle.std.specs.Prelude.{◌≡◌, ℕ, ◌+◌, Bool, true, false, not, cond, ◌&&◌, ◌||◌, ◌==◌, nat_lt, nat_le, Option, None, Some, Ok, Err, IfOk, refl}
use Rattle.std.specs.Option.{option_map}
use Rattle.std.specs.Ordering.{eq_by_cmp}
use Rattle.std.proofs.Common.{sym, ◌∙◌, ap, subst, ℤ}
use Rattle.sync_data.specs.Spot.{Spot}
use Rattle.sync_data.specs.Orders.{name_cmp, value_cmp}
use Rattle.sync_data.specs.Payload.{payload, value_payload}
use Rattle.sync_data.specs.declared.value.Value.{Value}
use Rattle.sync_data.specs.declared.value.Value.TheVariants as values
use Rattle.sync_data.specs.declared.instr.Instr.{Instr}
use Rattle.sync_base.specs.declared.answers.Mismatch.TheVariants as mismatches
use Rattle.sync_base.specs.Effects.{CellPath, Edit, Effect, Set, Add, Replace, Insert, Remove, Include, Exclude, Bind, Empty, NewTable, NewColumn, Create, Erase, Change, effect_of, instr_of}
use Rattle.sync_base.specs.States.{object_cmp, key_rank_of}
use Rattle.sync_base.specs.After.{added}
use Rattle.sync_base.specs.Merged.{path_cmp, same_column}
use Rattle.sync_base.specs.Rules.{Answer, rule, rule_of_edits, sized, top, is_summed, later_of, kept, neither, only_left, only_right, lifted, placed, outcome_of}
use Rattle.sync_base.specs.Objects.{CarriesAsMuch, PayloadsStay}
use Rattle.sync_base.specs.Lemmas.Maps.{tied_is}
use Rattle.sync_base.specs.Lemmas.Looks.{path_exact}
use Rattle.sync_base.specs.Lemmas.Apart.{changes_there, changes_apart}
use Rattle.sync_base.specs.Lemmas.Whole.{instr-effect}

-- ---- edits, in one cell
abbrev size : CellPath → Edit → ℕ
size p e = payload (instr_of (Change p e))

abbrev AsMuch : CellPath → Edit → Option Edit → Type 0
AsMuch p e None = Unit {0}
AsMuch p e (Some f) = size p f ≡ size p e

abbrev KeptAt : CellPath → Edit → Edit → Answer Edit → Type 0
KeptAt p e f (Err m) = Unit {0}
KeptAt p e f (Ok o) = AsMuch p e o.left × AsMuch p f o.right

record Kept (p : CellPath) (e f : Edit) (m : Answer Edit) : Type 0 where
  all : KeptAt p e f m

either : (p : CellPath) (e f : Edit) (b : Bool) (m n : Answer Edit) → Kept p e f m → Kept p e f n → Kept p e f (cond b m n)
either p e f true m n g h = g
either p e f false m n g h = h

in_size : (p : CellPath) (e f : Edit) (b : Bool) (s t : Spot) (row : Answer Edit) → Kept p e f row → Kept p e f (sized b s t row)
in_size p e f b s t row h = either p e f (s.prior == t.prior) _ _ (either p e f (b && (s.prior == top)) (Err mismatches.Range) row (record { all = tt }) h) (record { all = tt })

two : (p : CellPath) (e f : Edit) → Kept p e f (kept e f)
two p e f = record { all = (refl, refl) }

later : (p : CellPath) (e f : Edit) (l : Bool) → Kept p e f (later_of l e f)
later p e f true = record { all = (refl, tt) }
later p e f false = record { all = (tt, refl) }

one : (p : CellPath) (e f : Edit) → Kept p e f (only_left e)
one p e f = record { all = (refl, tt) }

other : (p : CellPath) (e f : Edit) → Kept p e f (only_right f)
other p e f = record { all = (tt, refl) }

none : (p : CellPath) (e f : Edit) → Kept p e f neither
none p e f = record { all = (tt, tt) }

-- two instructions whose places alone have changed
moved : (p : CellPath) (e f g h : Edit) → size p g ≡ size p e → size p h ≡ size p f → Kept p e f (kept g h)
moved p e f g h a b = record { all = (a, b) }

sum_size : (n : ℤ) (v : Value) → value_payload (added n v) ≡ value_payload v
sum_size n values.Null = refl
sum_size n (values.Int i) = refl
sum_size n (values.Bool b) = refl
sum_size n (values.Text t) = refl
sum_size n (values.Bytes b) = refl
sum_size n (values.Time t) = refl
sum_size n (values.Uuid u) = refl
sum_size n (values.Link t k) = refl

set_size : (p : CellPath) (n : ℤ) (v : Value) → size p (Set (added n v)) ≡ size p (Set v)
set_size p n v = ap (λ k. size p Empty + k) (sum_size n v)

edits_kept : (p : CellPath) (l : Bool) (e f : Edit) → Kept p e f (rule_of_edits l e f)
edits_kept p l (Set v) (Set w) = later p (Set v) (Set w) l
edits_kept p true (Set v) (Add n) = either p (Set v) (Add n) (is_summed v) _ _ (one p (Set v) (Add n)) (two p (Set v) (Add n))
edits_kept p false (Set v) (Add n) = either p (Set v) (Add n) (is_summed v) _ _ (moved p (Set v) (Add n) (Set (added n v)) (Add n) (set_size p n v) refl) (two p (Set v) (Add n))
edits_kept p true (Add n) (Set v) = either p (Add n) (Set v) (is_summed v) _ _ (moved p (Add n) (Set v) (Add n) (Set (added n v)) refl (set_size p n v)) (two p (Add n) (Set v))
edits_kept p false (Add n) (Set v) = either p (Add n) (Set v) (is_summed v) _ _ (other p (Add n) (Set v)) (two p (Add n) (Set v))
edits_kept p l (Insert s v) (Insert t w) = in_size p (Insert s v) (Insert t w) true s t _ (either p (Insert s v) (Insert t w) (nat_lt s.place t.place || ((s.place == t.place) && not l)) _ _ (record { all = (refl, refl) }) (record { all = (refl, refl) }))
edits_kept p l (Insert s v) (Remove t) = in_size p (Insert s v) (Remove t) true s t _ (either p (Insert s v) (Remove t) (nat_le s.place t.place) _ _ (record { all = (refl, refl) }) (record { all = (refl, refl) }))
edits_kept p l (Remove s) (Insert t w) = in_size p (Remove s) (Insert t w) true s t _ (either p (Remove s) (Insert t w) (nat_le t.place s.place) _ _ (record { all = (refl, refl) }) (record { all = (refl, refl) }))
edits_kept p l (Insert s v) (Replace t w) = in_size p (Insert s v) (Replace t w) true s t _ (either p (Insert s v) (Replace t w) (nat_le s.place t.place) _ _ (record { all = (refl, refl) }) (record { all = (refl, refl) }))
edits_kept p l (Replace s v) (Insert t w) = in_size p (Replace s v) (Insert t w) true s t _ (either p (Replace s v) (Insert t w) (nat_le t.place s.place) _ _ (record { all = (refl, refl) }) (record { all = (refl, refl) }))
edits_kept p l (Remove s) (Remove t) = in_size p (Remove s) (Remove t) false s t _ (either p (Remove s) (Remove t) (s.place == t.place) _ _ (none p (Remove s) (Remove t)) (either p (Remove s) (Remove t) (nat_lt s.place t.place) _ _ (record { all = (refl, refl) }) (record { all = (refl, refl) })))
edits_kept p l (Remove s) (Replace t w) = in_size p (Remove s) (Replace t w) false s t _ (either p (Remove s) (Replace t w) (s.place == t.place) _ _ (one p (Remove s) (Replace t w)) (either p (Remove s) (Replace t w) (nat_lt s.place t.place) _ _ (record { all = (refl, refl) }) (record { all = (refl, refl) })))
edits_kept p l (Replace s v) (Remove t) = in_size p (Replace s v) (Remove t) false s t _ (either p (Replace s v) (Remove t) (s.place == t.place) _ _ (other p (Replace s v) (Remove t)) (either p (Replace s v) (Remove t) (nat_lt t.place s.place) _ _ (record { all = (refl, refl) }) (record { all = (refl, refl) })))
edits_kept p l (Replace s v) (Replace t w) = in_size p (Replace s v) (Replace t w) false s t _ (either p (Replace s v) (Replace t w) (s.place == t.place) _ _ (later p (Replace s v) (Replace t w) l) (two p (Replace s v) (Replace t w)))
edits_kept p l (Include v) (Exclude w) = either p (Include v) (Exclude w) (eq_by_cmp value_cmp v w) _ _ (later p (Include v) (Exclude w) l) (two p (Include v) (Exclude w))
edits_kept p l (Exclude v) (Include w) = either p (Exclude v) (Include w) (eq_by_cmp value_cmp v w) _ _ (later p (Exclude v) (Include w) l) (two p (Exclude v) (Include w))
edits_kept p l (Bind j v) (Bind k w) = either p (Bind j v) (Bind k w) (eq_by_cmp name_cmp j k) _ _ (later p (Bind j v) (Bind k w) l) (two p (Bind j v) (Bind k w))
edits_kept p l Empty (Set v) = two p Empty (Set v)
edits_kept p l Empty (Add n) = two p Empty (Add n)
edits_kept p l Empty Empty = none p Empty Empty
edits_kept p l Empty (Insert t w) = one p Empty (Insert t w)
edits_kept p l Empty (Remove t) = one p Empty (Remove t)
edits_kept p l Empty (Replace t w) = one p Empty (Replace t w)
edits_kept p l Empty (Include w) = one p Empty (Include w)
edits_kept p l Empty (Exclude w) = one p Empty (Exclude w)
edits_kept p l Empty (Bind k w) = one p Empty (Bind k w)
edits_kept p l (Insert s v) Empty = other p (Insert s v) Empty
edits_kept p l (Remove s) Empty = other p (Remove s) Empty
edits_kept p l (Replace s v) Empty = other p (Replace s v) Empty
edits_kept p l (Include v) Empty = other p (Include v) Empty
edits_kept p l (Exclude v) Empty = other p (Exclude v) Empty
edits_kept p l (Bind k v) Empty = other p (Bind k v) Empty
edits_kept p l e f = two p e f

-- ---- effects
abbrev About : ℕ → Option Effect → Type 0
About n None = Unit {0}
About n (Some d) = payload (instr_of d) ≡ n

abbrev WholeAt : ℕ → ℕ → Answer Effect → Type 0
WholeAt m n (Err k) = Unit {0}
WholeAt m n (Ok f) = About m f.left × About n f.right

record Whole (m n : ℕ) (r : Answer Effect) : Type 0 where
  all : WholeAt m n r

abbrev bytes : Effect → ℕ
bytes d = payload (instr_of d)

whole_if : (m n : ℕ) (b : Bool) (r s : Answer Effect) → Whole m n r → Whole m n s → Whole m n (cond b r s)
whole_if m n true r s g h = g
whole_if m n false r s g h = h

stay : (a b : Effect) → Whole (bytes a) (bytes b) (kept a b)
stay a b = record { all = (refl, refl) }

first_stays : (a : Effect) (n : ℕ) → Whole (bytes a) n (only_left a)
first_stays a n = record { all = (refl, tt) }

second_stays : (m : ℕ) (b : Effect) → Whole m (bytes b) (only_right b)
second_stays m b = record { all = (tt, refl) }

gone : (m n : ℕ) → Whole m n neither
gone m n = record { all = (tt, tt) }

about_placed : (p : CellPath) (e : Edit) (o : Option Edit) → AsMuch p e o → About (size p e) (placed p o)
about_placed p e None h = tt
about_placed p e (Some f) h = h

lifted_whole : (p : CellPath) (e f : Edit) (m : Answer Edit) → Kept p e f m → Whole (size p e) (size p f) (lifted p m)
lifted_whole p e f (Err k) h = record { all = tt }
lifted_whole p e f (Ok o) h = record { all = (about_placed p e o.left h.all.0, about_placed p f o.right h.all.1) }

rule_keeps : (l : Bool) (a b : Effect) → Whole (bytes a) (bytes b) (rule l a b)
rule_keeps l (NewTable t k) (NewTable u j) =
    whole_if _ _ (eq_by_cmp name_cmp t u) _ _ (whole_if _ _ (key_rank_of k == key_rank_of j) _ _ (gone _ _) (record { all = tt })) (stay (NewTable t k) (NewTable u j))
rule_keeps l (NewColumn t c x) (NewColumn u d y) =
    whole_if _ _ (eq_by_cmp name_cmp t u && eq_by_cmp name_cmp c d) _ _ (whole_if _ _ (same_column x y) _ _ (gone _ _) (record { all = tt })) (stay (NewColumn t c x) (NewColumn u d y))
rule_keeps l (Create o) (Erase p) = whole_if _ _ (eq_by_cmp object_cmp o p) _ _ (second_stays _ (Erase p)) (stay (Create o) (Erase p))
rule_keeps l (Erase o) (Create p) = whole_if _ _ (eq_by_cmp object_cmp o p) _ _ (first_stays (Erase o) _) (stay (Erase o) (Create p))
rule_keeps l (Erase o) (Erase p) = whole_if _ _ (eq_by_cmp object_cmp o p) _ _ (gone _ _) (stay (Erase o) (Erase p))
rule_keeps l (Erase o) (Change q e) = whole_if _ _ (eq_by_cmp object_cmp o q.0) _ _ (first_stays (Erase o) _) (stay (Erase o) (Change q e))
rule_keeps l (Change q e) (Erase o) = whole_if _ _ (eq_by_cmp object_cmp q.0 o) _ _ (second_stays _ (Erase o)) (stay (Change q e) (Erase o))
rule_keeps l (Change p e) (Change q f) =
    elim (eq_by_cmp path_cmp p q) as (λ b. eq_by_cmp path_cmp p q ≡ b → Whole (size p e) (size q f) (rule l (Change p e) (Change q f))) [
      | true ↦ λ h.
          let same : p ≡ q = tied_is path_exact p q h in
          subst (Whole (size p e) (size q f)) (sym (changes_there l p q e f h same)) (subst (λ (r : CellPath). Whole (size p e) (size r f) (lifted p (rule_of_edits l e f))) same (lifted_whole p e f (rule_of_edits l e f) (edits_kept p l e f)))
      | false ↦ λ h. subst (Whole (size p e) (size q f)) (sym (changes_apart l p q e f h)) (stay (Change p e) (Change q f))
    ] refl
rule_keeps l (NewTable t k) (NewColumn u d y) = stay (NewTable t k) (NewColumn u d y)
rule_keeps l (NewTable t k) (Create p) = stay (NewTable t k) (Create p)
rule_keeps l (NewTable t k) (Erase p) = stay (NewTable t k) (Erase p)
rule_keeps l (NewTable t k) (Change q f) = stay (NewTable t k) (Change q f)
rule_keeps l (NewColumn t c x) (NewTable u j) = stay (NewColumn t c x) (NewTable u j)
rule_keeps l (NewColumn t c x) (Create p) = stay (NewColumn t c x) (Create p)
rule_keeps l (NewColumn t c x) (Erase p) = stay (NewColumn t c x) (Erase p)
rule_keeps l (NewColumn t c x) (Change q f) = stay (NewColumn t c x) (Change q f)
rule_keeps l (Create o) (NewTable u j) = stay (Create o) (NewTable u j)
rule_keeps l (Create o) (NewColumn u d y) = stay (Create o) (NewColumn u d y)
rule_keeps l (Create o) (Create p) = stay (Create o) (Create p)
rule_keeps l (Create o) (Change q f) = stay (Create o) (Change q f)
rule_keeps l (Erase o) (NewTable u j) = stay (Erase o) (NewTable u j)
rule_keeps l (Erase o) (NewColumn u d y) = stay (Erase o) (NewColumn u d y)
rule_keeps l (Change q e) (NewTable u j) = stay (Change q e) (NewTable u j)
rule_keeps l (Change q e) (NewColumn u d y) = stay (Change q e) (NewColumn u d y)
rule_keeps l (Change q e) (Create p) = stay (Change q e) (Create p)

-- ---- instructions
about_instr : (i : Instr) (d : Option Effect) → About (bytes (effect_of i)) d → CarriesAsMuch i (option_map instr_of d)
about_instr i None h = tt
about_instr i (Some d) h = h ∙ ap payload (instr-effect i)

left_carries : (a b : Instr) (m : Answer Effect) → Whole (bytes (effect_of a)) (bytes (effect_of b)) m → IfOk (outcome_of m) (λ o. CarriesAsMuch a o.left × CarriesAsMuch b o.right)
left_carries a b (Err k) h = tt
left_carries a b (Ok f) h = (about_instr a f.left h.all.0, about_instr b f.right h.all.1)

pub payloads_stay : (a b : Instr) → PayloadsStay a b
payloads_stay a b l = left_carries a b (rule l (effect_of a) (effect_of b)) (rule_keeps l (effect_of a) (effect_of b))
