-- What is drawn never mismatches: instructions that make no table and no column, on lists far from the greatest length.
use Rattle.std.proofs.Common.{◌≡◌, ◌≢◌, ◌⊎◌, inl, inr, ⊎_elim, ℕ, zero, suc, ◌+◌, ◌-◌, ◌<◌, ◌≤◌, Bool, true, false, ◌&&◌, ◌||◌, List, [], ◌∷◌, ◌++◌, Option, Some, None, Result, Ok, Err, IfOk, IfErr, refl, sym, ap, ◌∙◌, subst, arith, if◌then◌else◌, ◌==◌, eqb-true, length}
use Rattle.std.specs.Option.{option_map}
use Rattle.std.specs.Ordering.{eq_by_cmp}
use Rattle.sync_data.specs.Spot.{Spot}
use Rattle.sync_data.specs.Orders.{value_cmp}
use Rattle.sync_data.specs.declared.instr.Instr.{Instr}
use Rattle.sync_data.specs.declared.instr.Instr.TheVariants as instrs
use Rattle.sync_base.specs.declared.answers.Mismatch.TheVariants as mismatches
use Rattle.sync_base.specs.Codes.{mismatch_code}
use Rattle.sync_base.specs.Effects.{CellPath, Edit, Effect, Set, Add, Replace, Insert, Remove, Include, Exclude, Bind, Empty, NewTable, NewColumn, Create, Erase, Change, effect_of, instr_of}
use Rattle.sync_base.specs.Merged.{path_cmp}
use Rattle.sync_base.specs.Rules.{Answer, kept, only_left, only_right, later_of, top, sized, is_summed, rule_of_edits, has_row, placed, lifted, rule, outcome_of}
use Rattle.sync_base.specs.States.{object_cmp}
use Rattle.sync_law.specs.Coded.{coded, meet_by_code}
use Rattle.sync_law.specs.Instrs.{as_pair}
use Rattle.sync_model.specs.Profile.{IsNamedKind}

-- ---- edits of a cell

-- after so many crossings
abbrev pub IsTameEdit : ℕ → Edit → Type 0
IsTameEdit n (Set v) = Unit {0}
IsTameEdit n (Add k) = Unit {0}
IsTameEdit n (Replace s v) = s.prior ≤ 2147483648 + n
IsTameEdit n (Insert s v) = s.prior ≤ 2147483648 + n
IsTameEdit n (Remove s) = s.prior ≤ 2147483648 + n
IsTameEdit n (Include v) = Unit {0}
IsTameEdit n (Exclude v) = Unit {0}
IsTameEdit n (Bind k v) = ⊥
IsTameEdit n Empty = ⊥

abbrev pub IsTame : ℕ → Effect → Type 0
IsTame n (NewTable t k) = ⊥
IsTame n (NewColumn t c x) = ⊥
IsTame n (Create o) = Unit {0}
IsTame n (Erase o) = Unit {0}
IsTame n (Change p e) = IsTameEdit n e

abbrev pub Opt : {A : Type 0} → (A → Type 0) → Option A → Type 0
Opt P None = Unit {0}
Opt P (Some x) = P x

-- both sides go on, or they were made on lists of two lengths
abbrev Goes : {A : Type 0} → (ℕ → A → Type 0) → ℕ → ℕ → Answer A → Type 0
Goes P m n (Ok o) = Opt (P (suc m)) o.left × Opt (P (suc n)) o.right
Goes P m n (Err x) = IsNamedKind (mismatch_code x) → ⊥

edit_more : (n : ℕ) (e : Edit) → IsTameEdit n e → IsTameEdit (suc n) e
edit_more n (Set v) t = tt
edit_more n (Add k) t = tt
edit_more n (Replace s v) t = omega arith
edit_more n (Insert s v) t = omega arith
edit_more n (Remove s) t = omega arith
edit_more n (Include v) t = tt
edit_more n (Exclude v) t = tt
edit_more n (Bind k v) t = absurd t
edit_more n Empty t = absurd t

pub effect_more : (n : ℕ) (e : Effect) → IsTame n e → IsTame (suc n) e
effect_more n (NewTable t k) h = absurd h
effect_more n (NewColumn t c x) h = absurd h
effect_more n (Create o) h = tt
effect_more n (Erase o) h = tt
effect_more n (Change p e) h = edit_more n e h

either : (m n : ℕ) (b : Bool) (x y : Answer Edit) → Goes IsTameEdit m n x → Goes IsTameEdit m n y → Goes IsTameEdit m n (if b then x else y)
either m n true x y f g = f
either m n false x y f g = g

either_effect : (m n : ℕ) (b : Bool) (x y : Answer Effect) → Goes IsTame m n x → Goes IsTame m n y → Goes IsTame m n (if b then x else y)
either_effect m n true x y f g = f
either_effect m n false x y f g = g

keeps : (m n : ℕ) (e f : Edit) → IsTameEdit m e → IsTameEdit n f → Goes IsTameEdit m n (kept e f)
keeps m n e f t u = (edit_more m e t, edit_more n f u)

later_one : (m n : ℕ) (l : Bool) (e f : Edit) → IsTameEdit m e → IsTameEdit n f → Goes IsTameEdit m n (later_of l e f)
later_one m n true e f t u = (edit_more m e t, tt)
later_one m n false e f t u = (tt, edit_more n f u)

not_sizes : IsNamedKind 3 → ⊥
not_sizes (inl (inl e)) = absurd (omega arith)
not_sizes (inl (inr e)) = absurd (omega arith)
not_sizes (inr e) = absurd (omega arith)

sized_goes : (m n : ℕ) (ins : Bool) (s t : Spot) (row : Answer Edit) → s.prior < 4294967295 → Goes IsTameEdit m n row → Goes IsTameEdit m n (sized ins s t row)
sized_goes m n ins s t row lt good = on (s.prior == t.prior)
  where
    full : (b : Bool) → (s.prior == top) ≡ b → Goes IsTameEdit m n (if ins && b then Err mismatches.Range else row)
    full true is = let e = eqb-true s.prior top is in absurd (omega arith)
    full false is = fine ins
      where
        fine : (a : Bool) → Goes IsTameEdit m n (if a && false then Err mismatches.Range else row)
        fine true = good
        fine false = good

    on : (b : Bool) → Goes IsTameEdit m n (if b then (if ins && (s.prior == top) then Err mismatches.Range else row) else Err mismatches.SizesDiffer)
    on true = full (s.prior == top) refl
    on false = not_sizes

edits_go : (l : Bool) (m n : ℕ) (e f : Edit) → m < 100001 → IsTameEdit m e → IsTameEdit n f → Goes IsTameEdit m n (rule_of_edits l e f)
edits_go l m n (Bind k v) f lt h g = absurd h
edits_go l m n Empty f lt h g = absurd h
edits_go l m n (Set v) (Bind j w) lt h g = absurd g
edits_go l m n (Set v) Empty lt h g = absurd g
edits_go l m n (Set v) (Set w) lt h g = later_one m n l (Set v) (Set w) tt tt
edits_go l m n (Set v) (Add j) lt h g = either m n (is_summed v) _ _ (adds l) (tt, tt)
  where
    adds : (l : Bool) → Goes IsTameEdit m n (if l then only_left (Set v) else kept (Set (Rattle.sync_base.specs.After.added j v)) (Add j))
    adds true = (tt, tt)
    adds false = (tt, tt)
edits_go l m n (Set v) (Replace t w) lt h g = keeps m n (Set v) (Replace t w) h g
edits_go l m n (Set v) (Insert t w) lt h g = keeps m n (Set v) (Insert t w) h g
edits_go l m n (Set v) (Remove t) lt h g = keeps m n (Set v) (Remove t) h g
edits_go l m n (Set v) (Include w) lt h g = keeps m n (Set v) (Include w) h g
edits_go l m n (Set v) (Exclude w) lt h g = keeps m n (Set v) (Exclude w) h g
edits_go l m n (Add k) (Bind j w) lt h g = absurd g
edits_go l m n (Add k) Empty lt h g = absurd g
edits_go l m n (Add k) (Set w) lt h g = either m n (is_summed w) _ _ (adds l) (tt, tt)
  where
    adds : (l : Bool) → Goes IsTameEdit m n (if l then kept (Add k) (Set (Rattle.sync_base.specs.After.added k w)) else only_right (Set w))
    adds true = (tt, tt)
    adds false = (tt, tt)
edits_go l m n (Add k) (Add j) lt h g = keeps m n (Add k) (Add j) h g
edits_go l m n (Add k) (Replace t w) lt h g = keeps m n (Add k) (Replace t w) h g
edits_go l m n (Add k) (Insert t w) lt h g = keeps m n (Add k) (Insert t w) h g
edits_go l m n (Add k) (Remove t) lt h g = keeps m n (Add k) (Remove t) h g
edits_go l m n (Add k) (Include w) lt h g = keeps m n (Add k) (Include w) h g
edits_go l m n (Add k) (Exclude w) lt h g = keeps m n (Add k) (Exclude w) h g
edits_go l m n (Replace s v) (Bind j w) lt h g = absurd g
edits_go l m n (Replace s v) Empty lt h g = absurd g
edits_go l m n (Replace s v) (Set w) lt h g = keeps m n (Replace s v) (Set w) h g
edits_go l m n (Replace s v) (Add j) lt h g = keeps m n (Replace s v) (Add j) h g
edits_go l m n (Replace s v) (Replace t w) lt h g = sized_goes m n false s t _ (omega arith) (either m n (s.place == t.place) _ _ (later_one m n l (Replace s v) (Replace t w) h g) (omega arith, omega arith))
edits_go l m n (Replace s v) (Insert t w) lt h g = sized_goes m n true s t _ (omega arith) (either m n (Rattle.std.specs.Prelude.nat_le t.place s.place) _ _ (omega arith, omega arith) (omega arith, omega arith))
edits_go l m n (Replace s v) (Remove t) lt h g = sized_goes m n false s t _ (omega arith) (either m n (s.place == t.place) _ _ (tt, omega arith) (either m n (Rattle.std.specs.Prelude.nat_lt t.place s.place) _ _ (omega arith, omega arith) (omega arith, omega arith)))
edits_go l m n (Replace s v) (Include w) lt h g = keeps m n (Replace s v) (Include w) h g
edits_go l m n (Replace s v) (Exclude w) lt h g = keeps m n (Replace s v) (Exclude w) h g
edits_go l m n (Insert s v) (Bind j w) lt h g = absurd g
edits_go l m n (Insert s v) Empty lt h g = absurd g
edits_go l m n (Insert s v) (Set w) lt h g = keeps m n (Insert s v) (Set w) h g
edits_go l m n (Insert s v) (Add j) lt h g = keeps m n (Insert s v) (Add j) h g
edits_go l m n (Insert s v) (Replace t w) lt h g = sized_goes m n true s t _ (omega arith) (either m n (Rattle.std.specs.Prelude.nat_le s.place t.place) _ _ (omega arith, omega arith) (omega arith, omega arith))
edits_go l m n (Insert s v) (Insert t w) lt h g = sized_goes m n true s t _ (omega arith) (either m n (Rattle.std.specs.Prelude.nat_lt s.place t.place || (s.place == t.place && Rattle.std.specs.Prelude.not l)) _ _ (omega arith, omega arith) (omega arith, omega arith))
edits_go l m n (Insert s v) (Remove t) lt h g = sized_goes m n true s t _ (omega arith) (either m n (Rattle.std.specs.Prelude.nat_le s.place t.place) _ _ (omega arith, omega arith) (omega arith, omega arith))
edits_go l m n (Insert s v) (Include w) lt h g = keeps m n (Insert s v) (Include w) h g
edits_go l m n (Insert s v) (Exclude w) lt h g = keeps m n (Insert s v) (Exclude w) h g
edits_go l m n (Remove s) (Bind j w) lt h g = absurd g
edits_go l m n (Remove s) Empty lt h g = absurd g
edits_go l m n (Remove s) (Set w) lt h g = keeps m n (Remove s) (Set w) h g
edits_go l m n (Remove s) (Add j) lt h g = keeps m n (Remove s) (Add j) h g
edits_go l m n (Remove s) (Replace t w) lt h g = sized_goes m n false s t _ (omega arith) (either m n (s.place == t.place) _ _ (omega arith, tt) (either m n (Rattle.std.specs.Prelude.nat_lt s.place t.place) _ _ (omega arith, omega arith) (omega arith, omega arith)))
edits_go l m n (Remove s) (Insert t w) lt h g = sized_goes m n true s t _ (omega arith) (either m n (Rattle.std.specs.Prelude.nat_le t.place s.place) _ _ (omega arith, omega arith) (omega arith, omega arith))
edits_go l m n (Remove s) (Remove t) lt h g = sized_goes m n false s t _ (omega arith) (either m n (s.place == t.place) _ _ (tt, tt) (either m n (Rattle.std.specs.Prelude.nat_lt s.place t.place) _ _ (omega arith, omega arith) (omega arith, omega arith)))
edits_go l m n (Remove s) (Include w) lt h g = keeps m n (Remove s) (Include w) h g
edits_go l m n (Remove s) (Exclude w) lt h g = keeps m n (Remove s) (Exclude w) h g
edits_go l m n (Include v) (Bind j w) lt h g = absurd g
edits_go l m n (Include v) Empty lt h g = absurd g
edits_go l m n (Include v) (Set w) lt h g = keeps m n (Include v) (Set w) h g
edits_go l m n (Include v) (Add j) lt h g = keeps m n (Include v) (Add j) h g
edits_go l m n (Include v) (Replace t w) lt h g = keeps m n (Include v) (Replace t w) h g
edits_go l m n (Include v) (Insert t w) lt h g = keeps m n (Include v) (Insert t w) h g
edits_go l m n (Include v) (Remove t) lt h g = keeps m n (Include v) (Remove t) h g
edits_go l m n (Include v) (Include w) lt h g = keeps m n (Include v) (Include w) h g
edits_go l m n (Include v) (Exclude w) lt h g = either m n (eq_by_cmp value_cmp v w) _ _ (later_one m n l (Include v) (Exclude w) tt tt) (tt, tt)
edits_go l m n (Exclude v) (Bind j w) lt h g = absurd g
edits_go l m n (Exclude v) Empty lt h g = absurd g
edits_go l m n (Exclude v) (Set w) lt h g = keeps m n (Exclude v) (Set w) h g
edits_go l m n (Exclude v) (Add j) lt h g = keeps m n (Exclude v) (Add j) h g
edits_go l m n (Exclude v) (Replace t w) lt h g = keeps m n (Exclude v) (Replace t w) h g
edits_go l m n (Exclude v) (Insert t w) lt h g = keeps m n (Exclude v) (Insert t w) h g
edits_go l m n (Exclude v) (Remove t) lt h g = keeps m n (Exclude v) (Remove t) h g
edits_go l m n (Exclude v) (Include w) lt h g = either m n (eq_by_cmp value_cmp v w) _ _ (later_one m n l (Exclude v) (Include w) tt tt) (tt, tt)
edits_go l m n (Exclude v) (Exclude w) lt h g = keeps m n (Exclude v) (Exclude w) h g

-- ---- effects
lifted_goes : (p : CellPath) (m n : ℕ) (r : Answer Edit) → Goes IsTameEdit m n r → Goes IsTame m n (lifted p r)
lifted_goes p m n (Err x) h = h
lifted_goes p m n (Ok o) h = (one o.left m h.0, one o.right n h.1)
  where
    one : (x : Option Edit) (k : ℕ) → Opt (IsTameEdit (suc k)) x → Opt (IsTame (suc k)) (placed p x)
    one None k g = tt
    one (Some e) k g = g

effects_go : (l : Bool) (m n : ℕ) (a b : Effect) → m < 100001 → IsTame m a → IsTame n b → Goes IsTame m n (rule l a b)
effects_go l m n (NewTable t k) b lt h g = absurd h
effects_go l m n (NewColumn t c x) b lt h g = absurd h
effects_go l m n (Create o) (NewTable t k) lt h g = absurd g
effects_go l m n (Create o) (NewColumn t c x) lt h g = absurd g
effects_go l m n (Erase o) (NewTable t k) lt h g = absurd g
effects_go l m n (Erase o) (NewColumn t c x) lt h g = absurd g
effects_go l m n (Change p e) (NewTable t k) lt h g = absurd g
effects_go l m n (Change p e) (NewColumn t c x) lt h g = absurd g
effects_go l m n (Create o) (Create q) lt h g = (tt, tt)
effects_go l m n (Create o) (Erase q) lt h g = either_effect m n (eq_by_cmp object_cmp o q) _ _ (tt, tt) (tt, tt)
effects_go l m n (Create o) (Change q f) lt h g = (tt, edit_more n f g)
effects_go l m n (Erase o) (Create q) lt h g = either_effect m n (eq_by_cmp object_cmp o q) _ _ (tt, tt) (tt, tt)
effects_go l m n (Erase o) (Erase q) lt h g = either_effect m n (eq_by_cmp object_cmp o q) _ _ (tt, tt) (tt, tt)
effects_go l m n (Erase o) (Change q f) lt h g = either_effect m n (eq_by_cmp object_cmp o q.0) _ _ (tt, tt) (tt, edit_more n f g)
effects_go l m n (Change p e) (Create q) lt h g = (edit_more m e h, tt)
effects_go l m n (Change p e) (Erase q) lt h g = either_effect m n (eq_by_cmp object_cmp p.0 q) _ _ (tt, tt) (edit_more m e h, tt)
effects_go l m n (Change p e) (Change q f) lt h g = either_effect m n (has_row e f && eq_by_cmp path_cmp p q) _ _ (lifted_goes p m n (rule_of_edits l e f) (edits_go l m n e f lt h g)) (edit_more m e h, edit_more n f g)

-- ---- instructions
pub effect_back : (e : Effect) → effect_of (instr_of e) ≡ e
effect_back (NewTable t k) = refl
effect_back (NewColumn t c x) = refl
effect_back (Create o) = refl
effect_back (Erase o) = refl
effect_back (Change p (Set v)) = refl
effect_back (Change p (Add k)) = refl
effect_back (Change p (Replace s v)) = refl
effect_back (Change p (Insert s v)) = refl
effect_back (Change p (Remove s)) = refl
effect_back (Change p (Include v)) = refl
effect_back (Change p (Exclude v)) = refl
effect_back (Change p (Bind k v)) = refl
effect_back (Change p Empty) = refl

pub instr_back : (i : Instr) → instr_of (effect_of i) ≡ i
instr_back (instrs.AddTable i) = refl
instr_back (instrs.AddColumn i) = refl
instr_back (instrs.CreateObject i) = refl
instr_back (instrs.EraseObject i) = refl
instr_back (instrs.Update i) = refl
instr_back (instrs.AddInteger i) = refl
instr_back (instrs.ListUpdate i) = refl
instr_back (instrs.ListInsert i) = refl
instr_back (instrs.ListErase i) = refl
instr_back (instrs.SetInsert i) = refl
instr_back (instrs.SetErase i) = refl
instr_back (instrs.DictUpdate i) = refl
instr_back (instrs.Clear i) = refl

-- what is left of two of them
abbrev pub MeetGoes : ℕ → ℕ → Result (Option Instr × Option Instr) ℕ → Type 0
MeetGoes m n (Ok q) = Opt (λ i. IsTame (suc m) (effect_of i)) q.0 × Opt (λ i. IsTame (suc n) (effect_of i)) q.1
MeetGoes m n (Err k) = IsNamedKind k → ⊥

pub meets_go : (l : Bool) (m n : ℕ) (a b : Instr) → m < 100001 → IsTame m (effect_of a) → IsTame n (effect_of b) → MeetGoes m n (meet_by_code a b l)
meets_go l m n a b lt h g = on (rule l (effect_of a) (effect_of b)) (effects_go l m n (effect_of a) (effect_of b) lt h g)
  where
    one : (k : ℕ) (x : Option Effect) → Opt (IsTame (suc k)) x → Opt (λ i. IsTame (suc k) (effect_of i)) (option_map instr_of x)
    one k None f = tt
    one k (Some e) f = subst (IsTame (suc k)) (sym (effect_back e)) f

    on : (r : Answer Effect) → Goes IsTame m n r → MeetGoes m n (coded (as_pair (outcome_of r)))
    on (Err x) f = f
    on (Ok o) f = (one m o.left f.0, one n o.right f.1)

-- ---- a definition stays as it is beside them, and they beside it

abbrev pub IsDefinition : Effect → Type 0
IsDefinition (NewTable t k) = Unit {0}
IsDefinition (NewColumn t c x) = Unit {0}
IsDefinition (Create o) = ⊥
IsDefinition (Erase o) = ⊥
IsDefinition (Change p e) = ⊥

def_left : (l : Bool) (n : ℕ) (d e : Effect) → IsDefinition d → IsTame n e → rule l d e ≡ kept d e
def_left l n (NewTable t k) (NewTable u j) h g = absurd g
def_left l n (NewTable t k) (NewColumn u v y) h g = absurd g
def_left l n (NewTable t k) (Create o) h g = refl
def_left l n (NewTable t k) (Erase o) h g = refl
def_left l n (NewTable t k) (Change p e) h g = refl
def_left l n (NewColumn t c x) (NewTable u j) h g = absurd g
def_left l n (NewColumn t c x) (NewColumn u v y) h g = absurd g
def_left l n (NewColumn t c x) (Create o) h g = refl
def_left l n (NewColumn t c x) (Erase o) h g = refl
def_left l n (NewColumn t c x) (Change p e) h g = refl
def_left l n (Create o) f h g = absurd h
def_left l n (Erase o) f h g = absurd h
def_left l n (Change p e) f h g = absurd h

def_right : (l : Bool) (n : ℕ) (e d : Effect) → IsDefinition d → IsTame n e → rule l e d ≡ kept e d
def_right l n (NewTable u j) (NewTable t k) h g = absurd g
def_right l n (NewColumn u v y) (NewTable t k) h g = absurd g
def_right l n (Create o) (NewTable t k) h g = refl
def_right l n (Erase o) (NewTable t k) h g = refl
def_right l n (Change p e) (NewTable t k) h g = refl
def_right l n (NewTable u j) (NewColumn t c x) h g = absurd g
def_right l n (NewColumn u v y) (NewColumn t c x) h g = absurd g
def_right l n (Create o) (NewColumn t c x) h g = refl
def_right l n (Erase o) (NewColumn t c x) h g = refl
def_right l n (Change p e) (NewColumn t c x) h g = refl
def_right l n f (Create o) h g = absurd h
def_right l n f (Erase o) h g = absurd h
def_right l n f (Change p e) h g = absurd h

kept_meet : (l : Bool) (a b : Instr) → rule l (effect_of a) (effect_of b) ≡ kept (effect_of a) (effect_of b) → meet_by_code a b l ≡ Ok (Some a, Some b)
kept_meet l a b e = ap (λ r. coded (as_pair (outcome_of r))) e ∙ Rattle.std.proofs.Common.ap₂ (λ x y. Ok (Some x, Some y)) (instr_back a) (instr_back b)

pub def_meets : (l : Bool) (n : ℕ) (d i : Instr) → IsDefinition (effect_of d) → IsTame n (effect_of i) → meet_by_code d i l ≡ Ok (Some d, Some i)
def_meets l n d i h g = kept_meet l d i (def_left l n (effect_of d) (effect_of i) h g)

pub meets_def : (l : Bool) (n : ℕ) (i d : Instr) → IsDefinition (effect_of d) → IsTame n (effect_of i) → meet_by_code i d l ≡ Ok (Some i, Some d)
meets_def l n i d h g = kept_meet l i d (def_right l n (effect_of i) (effect_of d) h g)
