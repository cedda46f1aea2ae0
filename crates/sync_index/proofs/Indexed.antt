-- An index that a loop fills.
use Rattle.std.specs.Prelude.{◌≡◌, Bool, true, false, cond, not, ◌||◌, ◌&&◌, List, [], ◌∷◌, Option, None, Some, is_some, refl}
use Rattle.std.specs.List.{list_any}
use Rattle.std.specs.Option.{option_map_or, unwrap_or}
use Rattle.std.specs.Ordering.{is_eq, eq_by_cmp}
use Rattle.std.specs.Cmp.{tied_then, tied_itself}
use Rattle.std.specs.FinMap as map
use Rattle.std.specs.FinSet as set
use Rattle.std.proofs.Common.{sym, ◌∙◌, ap}
use Rattle.sync_data.specs.Orders.{name_cmp, key_cmp, key_cmp_total}
use Rattle.sync_data.specs.declared.instr.Instr.{Instr}
use Rattle.sync_base.specs.Effects.{ObjectName, effect_of}
use Rattle.sync_base.specs.States.{object_cmp}
use Rattle.sync_base.specs.Objects.{object_of}
use Rattle.sync_base.specs.Lemmas.Looks.{name_total, name_exact, object_total, object_exact}
use Rattle.sync_base.specs.Lemmas.Maps.{tied_is}
use Rattle.sync_index.specs.Touched.{Touched, holds, has_object, with_name, with_first, is_one, is_about, is_of_schema, HoldsMore, Adds, touches, Covers}

-- ---- what is there after one more
pub or_false : (b : Bool) → (b || false) ≡ b
or_false true = refl
or_false false = refl

or_swap : (a b c : Bool) → ((a || b) || c) ≡ (b || (a || c))
or_swap true true c = refl
or_swap true false c = refl
or_swap false b c = refl

pub or_true : (b : Bool) → (b || true) ≡ true
or_true true = refl
or_true false = refl

-- the keys of a table, where it has none yet
keys_of : (k : Option (set.FinSet key_cmp)) (o : ObjectName) → set.contains (unwrap_or k set.empty) o.1 ≡ option_map_or (λ keys. set.contains keys o.1) k false
keys_of None o = set.contains-empty key_cmp o.1
keys_of (Some s) o = refl

pub holds-with : (objects : map.FinMap name_cmp (set.FinSet key_cmp)) (p o : ObjectName) → holds (with_name p objects) o ≡ (eq_by_cmp object_cmp o p || holds objects o)
holds-with objects p o =
    ap (λ k. option_map_or (λ keys. set.contains keys o.1) k false) (map.get-insert name_total objects p.0 _ o.0)
    ∙ elim (eq_by_cmp name_cmp o.0 p.0) as (λ b. eq_by_cmp name_cmp o.0 p.0 ≡ b → option_map_or (λ keys. set.contains keys o.1) (cond b (Some (set.insert (unwrap_or (map.get objects p.0) set.empty) p.1)) (map.get objects o.0)) false ≡ ((b && eq_by_cmp key_cmp o.1 p.1) || holds objects o)) [
      | true ↦ λ h.
          set.contains-insert key_cmp_total _ p.1 o.1
          ∙ ap (λ b. eq_by_cmp key_cmp o.1 p.1 || b) (ap (λ q. set.contains (unwrap_or (map.get objects q) set.empty) o.1) (sym (tied_is name_exact o.0 p.0 h)) ∙ keys_of (map.get objects o.0) o)
      | false ↦ λ _. refl
    ] refl
    ∙ ap (λ b. b || holds objects o) (tied_then (name_cmp o.0 p.0) (key_cmp o.1 p.1))

pub holds-first : (p : Option ObjectName) (objects : map.FinMap name_cmp (set.FinSet key_cmp)) (o : ObjectName) → holds (with_first p objects) o ≡ (is_one o p || holds objects o)
holds-first None objects o = refl
holds-first (Some p) objects o = holds-with objects p o

-- the first of all
pub new_first : (first : Option ObjectName) (p q : ObjectName) (objects : map.FinMap name_cmp (set.FinSet key_cmp)) → is_some first ≡ false → p ≡ q → HoldsMore q (with_first first objects) (with_name p objects)
new_first None p q objects e same o = holds-with objects p o ∙ ap (λ r. eq_by_cmp object_cmp o r || holds objects o) same
new_first (Some f) p q objects e same o = cc

or_turn : (a b c : Bool) → (a || (b || c)) ≡ (b || (a || c))
or_turn true true c = refl
or_turn true false c = refl
or_turn false b c = refl

or_twice : (a b : Bool) → (a || b) ≡ (a || (a || b))
or_twice true b = refl
or_twice false b = refl

-- another one among the others
pub first_stays : (first : Option ObjectName) (p : ObjectName) (objects : map.FinMap name_cmp (set.FinSet key_cmp)) → HoldsMore p (with_first first objects) (with_first first (with_name p objects))
first_stays first p objects o =
    holds-first first (with_name p objects) o ∙ ap (λ b. is_one o first || b) (holds-with objects p o) ∙ or_turn (is_one o first) (eq_by_cmp object_cmp o p) (holds objects o)
    ∙ sym (ap (λ b. eq_by_cmp object_cmp o p || b) (holds-first first objects o))

-- the first once more
pub first_again : (first : Option ObjectName) (p : ObjectName) (objects : map.FinMap name_cmp (set.FinSet key_cmp)) → is_one p first ≡ true → HoldsMore p (with_first first objects) (with_first first objects)
first_again None p objects e o = cc
first_again (Some f) p objects e o =
    let same : p ≡ f = tied_is object_exact p f e in
    holds-with objects f o ∙ or_twice (eq_by_cmp object_cmp o f) (holds objects o) ∙ sym (ap (λ b. eq_by_cmp object_cmp o f || b) (holds-with objects f o)) ∙ ap (λ q. eq_by_cmp object_cmp o q || holds (with_name f objects) o) (sym same)

-- ---- a loop that adds each of a list
pub goes_on : (t u : Touched) (i : Instr) (rest : List Instr) → Adds (object_of (effect_of i)) t u → (o : ObjectName) → (has_object u o || list_any (is_about o) rest) ≡ (has_object t o || list_any (is_about o) (i ∷ rest))
goes_on t u i rest more o = ap (λ b. b || list_any (is_about o) rest) (more.0 o) ∙ or_swap (is_about o i) (has_object t o) (list_any (is_about o) rest)

pub schema_goes_on : (t u : Touched) (i : Instr) (rest : List Instr) → Adds (object_of (effect_of i)) t u → (u.schema || list_any is_of_schema rest) ≡ (t.schema || list_any is_of_schema (i ∷ rest))
schema_goes_on t u i rest more = ap (λ b. b || list_any is_of_schema rest) more.1 ∙ or_swap (is_of_schema i) t.schema (list_any is_of_schema rest)

-- ---- it covers the list
itself : (o : ObjectName) → eq_by_cmp object_cmp o o ≡ true
itself o = ap is_eq (tied_itself object_total o)

touched : (t : Touched) (p : Option ObjectName) → ((o : ObjectName) → is_one o p ≡ true → has_object t o ≡ true) → (not (is_some p) ≡ true → t.schema ≡ true) → touches t p ≡ true
touched t None h g = g refl
touched t (Some o) h g = h o (itself o)

pub covers : (t : Touched) (bs : List Instr) → ((o : ObjectName) → list_any (is_about o) bs ≡ true → has_object t o ≡ true) → (list_any is_of_schema bs ≡ true → t.schema ≡ true) → Covers t bs
covers t [] h g = tt
covers t (b ∷ bs) h g = (
  touched t (object_of (effect_of b)) (λ o e. h o (ap (λ c. c || list_any (is_about o) bs) e)) (λ e. g (ap (λ c. c || list_any is_of_schema bs) e)),
  covers t bs (λ o e. h o (ap (λ c. is_about o b || c) e ∙ or_true (is_about o b))) (λ e. g (ap (λ c. is_of_schema b || c) e ∙ or_true (is_of_schema b))),
)
