-- Pairs without a row, and pairs of changes of one cell or of two.
use Rattle.std.specs.Prelude.{◌≡◌, Bool, true, false, ◌&&◌, cond, refl}
use Rattle.std.proofs.Common.{sym, ◌∙◌, ap}
use Rattle.std.specs.Ordering.{eq_by_cmp}
use Rattle.sync_base.specs.Effects.{CellPath, Edit, Set, Add, Replace, Insert, Remove, Include, Exclude, Bind, Empty, Change}
use Rattle.sync_base.specs.Merged.{path_cmp}
use Rattle.sync_base.specs.Rules.{rule, rule_of_edits, has_row, lifted, kept}

-- without a row both stay
pub no_row : (l : Bool) (e f : Edit) → has_row e f ≡ false → rule_of_edits l e f ≡ kept e f
no_row l (Set v) (Set w) h = cc
no_row l (Set v) (Add n) h = cc
no_row l (Add n) (Set v) h = cc
no_row l (Insert s v) (Insert t w) h = cc
no_row l (Insert s v) (Remove t) h = cc
no_row l (Remove s) (Insert t w) h = cc
no_row l (Insert s v) (Replace t w) h = cc
no_row l (Replace s v) (Insert t w) h = cc
no_row l (Remove s) (Remove t) h = cc
no_row l (Remove s) (Replace t w) h = cc
no_row l (Replace s v) (Remove t) h = cc
no_row l (Replace s v) (Replace t w) h = cc
no_row l (Include v) (Exclude w) h = cc
no_row l (Exclude v) (Include w) h = cc
no_row l (Bind j v) (Bind k w) h = cc
no_row l Empty Empty h = cc
no_row l Empty (Insert t w) h = cc
no_row l Empty (Remove t) h = cc
no_row l Empty (Replace t w) h = cc
no_row l Empty (Include w) h = cc
no_row l Empty (Exclude w) h = cc
no_row l Empty (Bind k w) h = cc
no_row l (Insert s v) Empty h = cc
no_row l (Remove s) Empty h = cc
no_row l (Replace s v) Empty h = cc
no_row l (Include v) Empty h = cc
no_row l (Exclude v) Empty h = cc
no_row l (Bind k v) Empty h = cc
no_row l e f h = refl

-- at one cell the table is that of the edits
pub one_cell : (l : Bool) (p : CellPath) (e f : Edit) (b : Bool) → has_row e f ≡ b → cond b (lifted p (rule_of_edits l e f)) (kept (Change p e) (Change p f)) ≡ lifted p (rule_of_edits l e f)
one_cell l p e f true h = refl
one_cell l p e f false h = ap (lifted p) (sym (no_row l e f h))

and_true : (b : Bool) → (b && true) ≡ b
and_true true = refl
and_true false = refl

and_false : (b : Bool) → (b && false) ≡ false
and_false true = refl
and_false false = refl

pub changes_there : (l : Bool) (p q : CellPath) (e f : Edit) → eq_by_cmp path_cmp p q ≡ true → p ≡ q → rule l (Change p e) (Change q f) ≡ lifted p (rule_of_edits l e f)
changes_there l p q e f h same =
    ap (λ b. cond (has_row e f && b) (lifted p (rule_of_edits l e f)) (kept (Change p e) (Change q f))) h
    ∙ ap (λ b. cond b (lifted p (rule_of_edits l e f)) (kept (Change p e) (Change q f))) (and_true (has_row e f))
    ∙ ap (λ r. cond (has_row e f) (lifted p (rule_of_edits l e f)) (kept (Change p e) (Change r f))) (sym same)
    ∙ one_cell l p e f (has_row e f) refl

pub changes_apart : (l : Bool) (p q : CellPath) (e f : Edit) → eq_by_cmp path_cmp p q ≡ false → rule l (Change p e) (Change q f) ≡ kept (Change p e) (Change q f)
changes_apart l p q e f h =
    ap (λ b. cond (has_row e f && b) (lifted p (rule_of_edits l e f)) (kept (Change p e) (Change q f))) h
    ∙ ap (λ b. cond b (lifted p (rule_of_edits l e f)) (kept (Change p e) (Change q f))) (and_false (has_row e f))
