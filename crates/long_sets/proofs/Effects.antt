-- Which instructions are strangers to a list, by what they do.
use Rattle.std.proofs.Common.{◌≡◌, Bool, true, false, cond, not, ◌&&◌, Some, Ok, refl, sym, ap, ◌∙◌, subst}
use Rattle.std.specs.Ordering.{eq_by_cmp}
use Rattle.std.specs.Cmp.{eq_by_cmp_equiv}
use Rattle.sync_data.specs.declared.instr.Instr.{Instr}
use Rattle.sync_data.specs.declared.instr.Instr.TheVariants as instrs
use Rattle.sync_data.specs.declared.instr.AddTable.{AddTable}
use Rattle.sync_data.specs.declared.instr.AddColumn.{AddColumn}
use Rattle.sync_data.specs.declared.instr.CreateObject.{CreateObject}
use Rattle.sync_data.specs.declared.instr.EraseObject.{EraseObject}
use Rattle.sync_data.specs.declared.instr.Update.{Update}
use Rattle.sync_data.specs.declared.instr.AddInteger.{AddInteger}
use Rattle.sync_data.specs.declared.instr.ListUpdate.{ListUpdate}
use Rattle.sync_data.specs.declared.instr.ListInsert.{ListInsert}
use Rattle.sync_data.specs.declared.instr.ListErase.{ListErase}
use Rattle.sync_data.specs.declared.instr.SetInsert.{SetInsert}
use Rattle.sync_data.specs.declared.instr.SetErase.{SetErase}
use Rattle.sync_data.specs.declared.instr.DictUpdate.{DictUpdate}
use Rattle.sync_data.specs.declared.instr.Clear.{Clear}
use Rattle.sync_base.specs.Effects.{CellPath, ObjectName, Edit, Set, Add, Replace, Insert, Remove, Include, Exclude, Bind, Empty, Effect, NewTable, NewColumn, Create, Erase, Change, effect_of, path_of}
use Rattle.sync_base.specs.Merged.{path_cmp}
use Rattle.sync_base.specs.States.{object_cmp}
use Rattle.sync_base.specs.Rules.{rule, meeting, outcome_of, kept, has_row, lifted, rule_of_edits, only_left, only_right}
use Rattle.sync_base.specs.Lemmas.Apart.{changes_apart}
use Rattle.sync_base.specs.Lemmas.Looks.{path_total, object_total}
use Rattle.sync_base.specs.Lemmas.Whole.{instr-effect}
use Rattle.sync_rivals.specs.Homes.{Place, OfTable, OfColumn, Creation, Erasure, InCell, AllOf, AllIn, Lane, Assigned, Added, Placed, Coming, Going, Bound, Emptied, home, lane}
use Rattle.sync_rivals.specs.Strangers.{place_of}
use Rattle.long_sets.specs.Parts.{Stranger}

-- what stands at a place is a stranger to the list in a cell
abbrev LaneApart : CellPath → CellPath → Lane → Type 0
LaneApart p q Assigned = Unit {0}
LaneApart p q Added = Unit {0}
LaneApart p q Placed = eq_by_cmp path_cmp q p ≡ false
LaneApart p q (Coming v) = Unit {0}
LaneApart p q (Going v) = Unit {0}
LaneApart p q (Bound k) = Unit {0}
LaneApart p q Emptied = eq_by_cmp path_cmp q p ≡ false

abbrev HomeApart : CellPath → Place → Type 0
HomeApart p (OfTable t) = Unit {0}
HomeApart p (OfColumn t c) = Unit {0}
HomeApart p (Creation o) = Unit {0}
HomeApart p (Erasure o) = eq_by_cmp object_cmp o p.0 ≡ false
HomeApart p (InCell q l) = LaneApart p q l
HomeApart p (AllOf o) = ⊥
HomeApart p (AllIn q) = ⊥

-- both stay, in both orders
abbrev Keeps : Effect → Effect → Type 0
Keeps x y = (l : Bool) → (rule l x y ≡ kept x y) × (rule l y x ≡ kept y x)

and_false : (b c : Bool) → b ≡ false → (b && c) ≡ false
and_false true c h = cc
and_false false c h = refl

no_row : (l : Bool) (p q : CellPath) (e f : Edit) → has_row e f ≡ false → rule l (Change p e) (Change q f) ≡ kept (Change p e) (Change q f)
no_row l p q e f h = ap (λ b. cond b (lifted p (rule_of_edits l e f)) (kept (Change p e) (Change q f))) (and_false (has_row e f) (eq_by_cmp path_cmp p q) h)

rowless : (p q : CellPath) (e f : Edit) → has_row e f ≡ false → has_row f e ≡ false → Keeps (Change q e) (Change p f)
rowless p q e f h k l = (no_row l q p e f h, no_row l p q f e k)

two_cells : (p q : CellPath) (e f : Edit) → eq_by_cmp path_cmp q p ≡ false → Keeps (Change q e) (Change p f)
two_cells p q e f h l = (changes_apart l q p e f h, changes_apart l p q f e ((eq_by_cmp_equiv path_total).symm p q ∙ h))

other_object : (o : ObjectName) (p : CellPath) (f : Edit) → eq_by_cmp object_cmp o p.0 ≡ false → Keeps (Erase o) (Change p f)
other_object o p f h l = (
  ap (λ b. cond b (only_left (Erase o)) (kept (Erase o) (Change p f))) h,
  ap (λ b. cond b (only_right (Erase o)) (kept (Change p f) (Erase o))) ((eq_by_cmp_equiv object_total).symm p.0 o ∙ h),
)

-- an edit of a list, and another edit
edit_keeps : (p q : CellPath) (e f : Edit) → lane f ≡ Placed → LaneApart p q (lane e) → Keeps (Change q e) (Change p f)
edit_keeps p q (Set v) (Replace s w) g h = rowless p q _ _ refl refl
edit_keeps p q (Set v) (Insert s w) g h = rowless p q _ _ refl refl
edit_keeps p q (Set v) (Remove s) g h = rowless p q _ _ refl refl
edit_keeps p q (Add v) (Replace s w) g h = rowless p q _ _ refl refl
edit_keeps p q (Add v) (Insert s w) g h = rowless p q _ _ refl refl
edit_keeps p q (Add v) (Remove s) g h = rowless p q _ _ refl refl
edit_keeps p q (Include v) (Replace s w) g h = rowless p q _ _ refl refl
edit_keeps p q (Include v) (Insert s w) g h = rowless p q _ _ refl refl
edit_keeps p q (Include v) (Remove s) g h = rowless p q _ _ refl refl
edit_keeps p q (Exclude v) (Replace s w) g h = rowless p q _ _ refl refl
edit_keeps p q (Exclude v) (Insert s w) g h = rowless p q _ _ refl refl
edit_keeps p q (Exclude v) (Remove s) g h = rowless p q _ _ refl refl
edit_keeps p q (Bind k v) (Replace s w) g h = rowless p q _ _ refl refl
edit_keeps p q (Bind k v) (Insert s w) g h = rowless p q _ _ refl refl
edit_keeps p q (Bind k v) (Remove s) g h = rowless p q _ _ refl refl
edit_keeps p q (Replace r v) f g h = two_cells p q _ f h
edit_keeps p q (Insert r v) f g h = two_cells p q _ f h
edit_keeps p q (Remove r) f g h = two_cells p q _ f h
edit_keeps p q Empty f g h = two_cells p q _ f h
edit_keeps p q e f g h = cc

effect_keeps : (p : CellPath) (x : Effect) (f : Edit) → lane f ≡ Placed → HomeApart p (home x) → Keeps x (Change p f)
effect_keeps p (NewTable t k) f g h l = (refl, refl)
effect_keeps p (NewColumn t c d) f g h l = (refl, refl)
effect_keeps p (Create o) f g h l = (refl, refl)
effect_keeps p (Erase o) f g h l = other_object o p f h l
effect_keeps p (Change q e) f g h l = edit_keeps p q e f g h l

record ListEdit (p : CellPath) (d : Effect) : Type 0 where
  edit : Edit
  is : d ≡ Change p edit
  placed : lane edit ≡ Placed

list_edit : (p : CellPath) (d : Effect) → home d ≡ InCell p Placed → ListEdit p d
list_edit p (NewTable t k) h = cc
list_edit p (NewColumn t c d) h = cc
list_edit p (Create o) h = cc
list_edit p (Erase o) h = cc
list_edit p (Change q e) h = let same : q ≡ p = cc in record { edit = e; is = λ i. Change (same i) e; placed = cc }

met_kept : (l : Bool) (a b : Instr) → rule l (effect_of a) (effect_of b) ≡ kept (effect_of a) (effect_of b) → meeting a b l ≡ Ok (record { left = Some a; right = Some b })
met_kept l a b h = ap outcome_of h ∙ (λ i. Ok (record { left = Some (instr-effect a i); right = Some (instr-effect b i) }))

pub stranger_by : (p : CellPath) (i : Instr) → HomeApart p (place_of i) → Stranger p (Some i)
stranger_by p i h a b e f later =
    let at = list_edit p (effect_of b) f in
    let keeps : Keeps (effect_of a) (effect_of b) = subst (Keeps (effect_of a)) (sym at.is) (effect_keeps p (effect_of a) at.edit at.placed (subst (HomeApart p) (sym e) h)) in
    (met_kept later a b (keeps later).0, met_kept later b a (keeps later).1)

pub table_stranger : (p : CellPath) (i : AddTable) → Stranger p (Some (instrs.AddTable i))
table_stranger p i = stranger_by p (instrs.AddTable i) tt

pub column_stranger : (p : CellPath) (i : AddColumn) → Stranger p (Some (instrs.AddColumn i))
column_stranger p i = stranger_by p (instrs.AddColumn i) tt

pub create_stranger : (p : CellPath) (i : CreateObject) → Stranger p (Some (instrs.CreateObject i))
create_stranger p i = stranger_by p (instrs.CreateObject i) tt

pub update_stranger : (p : CellPath) (i : Update) → Stranger p (Some (instrs.Update i))
update_stranger p i = stranger_by p (instrs.Update i) tt

pub add_stranger : (p : CellPath) (i : AddInteger) → Stranger p (Some (instrs.AddInteger i))
add_stranger p i = stranger_by p (instrs.AddInteger i) tt

pub include_stranger : (p : CellPath) (i : SetInsert) → Stranger p (Some (instrs.SetInsert i))
include_stranger p i = stranger_by p (instrs.SetInsert i) tt

pub exclude_stranger : (p : CellPath) (i : SetErase) → Stranger p (Some (instrs.SetErase i))
exclude_stranger p i = stranger_by p (instrs.SetErase i) tt

pub bind_stranger : (p : CellPath) (i : DictUpdate) → Stranger p (Some (instrs.DictUpdate i))
bind_stranger p i = stranger_by p (instrs.DictUpdate i) tt

untrue : (b : Bool) → not b ≡ true → b ≡ false
untrue true h = cc
untrue false h = refl

pub erase_stranger : (p : CellPath) (i : EraseObject) → not (eq_by_cmp object_cmp (i.table, i.key) p.0) ≡ true → Stranger p (Some (instrs.EraseObject i))
erase_stranger p i h = stranger_by p (instrs.EraseObject i) (untrue (eq_by_cmp object_cmp (i.table, i.key) p.0) h)

pub insert_stranger : (p : CellPath) (i : ListInsert) → not (eq_by_cmp path_cmp (path_of i.cell) p) ≡ true → Stranger p (Some (instrs.ListInsert i))
insert_stranger p i h = stranger_by p (instrs.ListInsert i) (untrue (eq_by_cmp path_cmp (path_of i.cell) p) h)

pub remove_stranger : (p : CellPath) (i : ListErase) → not (eq_by_cmp path_cmp (path_of i.cell) p) ≡ true → Stranger p (Some (instrs.ListErase i))
remove_stranger p i h = stranger_by p (instrs.ListErase i) (untrue (eq_by_cmp path_cmp (path_of i.cell) p) h)

pub replace_stranger : (p : CellPath) (i : ListUpdate) → not (eq_by_cmp path_cmp (path_of i.cell) p) ≡ true → Stranger p (Some (instrs.ListUpdate i))
replace_stranger p i h = stranger_by p (instrs.ListUpdate i) (untrue (eq_by_cmp path_cmp (path_of i.cell) p) h)

pub clear_stranger : (p : CellPath) (i : Clear) → not (eq_by_cmp path_cmp (path_of i.cell) p) ≡ true → Stranger p (Some (instrs.Clear i))
clear_stranger p i h = stranger_by p (instrs.Clear i) (untrue (eq_by_cmp path_cmp (path_of i.cell) p) h)
