-- Pairs that are apart stay, and what is left of an instruction is about its object.
use Rattle.std.specs.Prelude.{◌≡◌, Bool, true, false, cond, ◌&&◌, ◌==◌, if◌then◌else◌, Option, None, Some, Ok, Err, IfOk, refl}
use Rattle.std.specs.Option.{option_map}
use Rattle.std.specs.Ordering.{eq_by_cmp}
use Rattle.std.specs.Cmp.{tied_then}
use Rattle.std.proofs.Common.{sym, ◌∙◌, ap, subst}
use Rattle.sync_data.specs.Orders.{name_cmp}
use Rattle.sync_data.specs.declared.instr.Instr.{Instr}
use Rattle.sync_base.specs.Effects.{ObjectName, CellPath, Edit, Effect, NewTable, NewColumn, Create, Erase, Change, effect_of, instr_of}
use Rattle.sync_base.specs.States.{object_cmp, key_rank_of}
use Rattle.sync_base.specs.Merged.{path_cmp, same_column}
use Rattle.sync_base.specs.Rules.{Answer, rule, rule_of_edits, kept, neither, only_left, only_right, has_row, lifted, placed, outcome_of}
use Rattle.sync_base.specs.Objects.{object_of, are_apart, ApartStay, IsAbout, ObjectsStay}
use Rattle.sync_base.specs.Lemmas.Maps.{tied_is}
use Rattle.sync_base.specs.Lemmas.Looks.{path_exact}
use Rattle.sync_base.specs.Lemmas.Apart.{changes_there, changes_apart}
use Rattle.sync_base.specs.Lemmas.Whole.{effect-instr, instr-effect}

-- ---- apart
no_test : {A : Type 0} (b : Bool) (x y : A) → (if b then false else true) ≡ true → cond b x y ≡ y
no_test true x y h = cc
no_test false x y h = refl

and_false : (b c : Bool) → c ≡ false → (b && c) ≡ false
and_false true c h = h
and_false false c h = refl

when_false : {A : Type 0} (b : Bool) (x y : A) → b ≡ false → cond b x y ≡ y
when_false true x y h = cc
when_false false x y h = refl

is_not : (b : Bool) → (if b then false else true) ≡ true → b ≡ false
is_not true h = cc
is_not false h = refl

-- two cells of two objects are two
other_path : (p q : CellPath) → eq_by_cmp object_cmp p.0 q.0 ≡ false → eq_by_cmp path_cmp p q ≡ false
other_path p q h = sym (tied_then (object_cmp p.0 q.0) (name_cmp p.1 q.1)) ∙ ap (λ b. b && eq_by_cmp name_cmp p.1 q.1) h

stay : (l : Bool) (a b : Effect) → are_apart (object_of a) (object_of b) ≡ true → rule l a b ≡ kept a b
stay l (Create o) (Erase p) h = no_test (eq_by_cmp object_cmp o p) _ _ h
stay l (Erase o) (Create p) h = no_test (eq_by_cmp object_cmp o p) _ _ h
stay l (Erase o) (Erase p) h = no_test (eq_by_cmp object_cmp o p) _ _ h
stay l (Erase o) (Change q e) h = no_test (eq_by_cmp object_cmp o q.0) _ _ h
stay l (Change q e) (Erase o) h = no_test (eq_by_cmp object_cmp q.0 o) _ _ h
stay l (Change p e) (Change q f) h = when_false _ _ _ (and_false (has_row e f) _ (other_path p q (is_not _ h)))
stay l (NewTable t k) (NewTable u j) h = cc
stay l (NewTable t k) (NewColumn u d y) h = cc
stay l (NewColumn t c x) (NewTable u j) h = cc
stay l (NewColumn t c x) (NewColumn u d y) h = cc
stay l (NewTable t k) (Create p) h = refl
stay l (NewTable t k) (Erase p) h = refl
stay l (NewTable t k) (Change q f) h = refl
stay l (NewColumn t c x) (Create p) h = refl
stay l (NewColumn t c x) (Erase p) h = refl
stay l (NewColumn t c x) (Change q f) h = refl
stay l (Create o) (NewTable u j) h = refl
stay l (Create o) (NewColumn u d y) h = refl
stay l (Create o) (Create p) h = refl
stay l (Create o) (Change q f) h = refl
stay l (Erase o) (NewTable u j) h = refl
stay l (Erase o) (NewColumn u d y) h = refl
stay l (Change q e) (NewTable u j) h = refl
stay l (Change q e) (NewColumn u d y) h = refl
stay l (Change q e) (Create p) h = refl

pub apart_stay : (a b : Instr) → ApartStay a b
apart_stay a b l h =
    ap outcome_of (stay l (effect_of a) (effect_of b) h) ∙ (λ i. Ok (record { left = Some (instr-effect a i); right = Some (instr-effect b i) }))

-- ---- what is left is about the same object
abbrev About : Option ObjectName → Option Effect → Type 0
About o None = Unit {0}
About o (Some d) = object_of d ≡ o

abbrev KeptAt : Option ObjectName → Option ObjectName → Answer Effect → Type 0
KeptAt o p (Err m) = Unit {0}
KeptAt o p (Ok f) = About o f.left × About p f.right

record Kept (o p : Option ObjectName) (m : Answer Effect) : Type 0 where
  all : KeptAt o p m

either : (o p : Option ObjectName) (b : Bool) (m n : Answer Effect) → Kept o p m → Kept o p n → Kept o p (cond b m n)
either o p true m n g h = g
either o p false m n g h = h

both : (a b : Effect) → Kept (object_of a) (object_of b) (kept a b)
both a b = record { all = (refl, refl) }

about_placed : (p : CellPath) (e : Option Edit) → About (Some p.0) (placed p e)
about_placed p None = tt
about_placed p (Some e) = refl

lifted_kept : (p q : CellPath) → p.0 ≡ q.0 → (m : Answer Edit) → Kept (Some p.0) (Some q.0) (lifted p m)
lifted_kept p q same (Err m) = record { all = tt }
lifted_kept p q same (Ok f) = record { all = (about_placed p f.left, right f.right) }
  where
    right : (e : Option Edit) → About (Some q.0) (placed p e)
    right None = tt
    right (Some e) = ap Some same

one_only : (o p : Option ObjectName) (a : Effect) → object_of a ≡ o → Kept o p (only_left a)
one_only o p a h = record { all = (h, tt) }

other_only : (o p : Option ObjectName) (b : Effect) → object_of b ≡ p → Kept o p (only_right b)
other_only o p b h = record { all = (tt, h) }

gone : (o p : Option ObjectName) → Kept o p neither
gone o p = record { all = (tt, tt) }

objects_kept : (l : Bool) (a b : Effect) → Kept (object_of a) (object_of b) (rule l a b)
objects_kept l (NewTable t k) (NewTable u j) =
    either None None (eq_by_cmp name_cmp t u) _ _ (either None None (key_rank_of k == key_rank_of j) _ _ (gone None None) (record { all = tt })) (both (NewTable t k) (NewTable u j))
objects_kept l (NewColumn t c x) (NewColumn u d y) =
    either None None (eq_by_cmp name_cmp t u && eq_by_cmp name_cmp c d) _ _ (either None None (same_column x y) _ _ (gone None None) (record { all = tt })) (both (NewColumn t c x) (NewColumn u d y))
objects_kept l (Create o) (Erase p) = either (Some o) (Some p) (eq_by_cmp object_cmp o p) _ _ (other_only (Some o) (Some p) (Erase p) refl) (both (Create o) (Erase p))
objects_kept l (Erase o) (Create p) = either (Some o) (Some p) (eq_by_cmp object_cmp o p) _ _ (one_only (Some o) (Some p) (Erase o) refl) (both (Erase o) (Create p))
objects_kept l (Erase o) (Erase p) = either (Some o) (Some p) (eq_by_cmp object_cmp o p) _ _ (gone (Some o) (Some p)) (both (Erase o) (Erase p))
objects_kept l (Erase o) (Change q e) = either (Some o) (Some q.0) (eq_by_cmp object_cmp o q.0) _ _ (one_only (Some o) (Some q.0) (Erase o) refl) (both (Erase o) (Change q e))
objects_kept l (Change q e) (Erase o) = either (Some q.0) (Some o) (eq_by_cmp object_cmp q.0 o) _ _ (other_only (Some q.0) (Some o) (Erase o) refl) (both (Change q e) (Erase o))
objects_kept l (Change p e) (Change q f) =
    elim (eq_by_cmp path_cmp p q) as (λ b. eq_by_cmp path_cmp p q ≡ b → Kept (Some p.0) (Some q.0) (rule l (Change p e) (Change q f))) [
      | true ↦ λ h.
          let same : p ≡ q = tied_is path_exact p q h in
          subst (Kept (Some p.0) (Some q.0)) (sym (changes_there l p q e f h same)) (lifted_kept p q (ap (λ (r : CellPath). r.0) same) (rule_of_edits l e f))
      | false ↦ λ h. subst (Kept (Some p.0) (Some q.0)) (sym (changes_apart l p q e f h)) (both (Change p e) (Change q f))
    ] refl
objects_kept l (NewTable t k) (NewColumn u d y) = both (NewTable t k) (NewColumn u d y)
objects_kept l (NewTable t k) (Create p) = both (NewTable t k) (Create p)
objects_kept l (NewTable t k) (Erase p) = both (NewTable t k) (Erase p)
objects_kept l (NewTable t k) (Change q f) = both (NewTable t k) (Change q f)
objects_kept l (NewColumn t c x) (NewTable u j) = both (NewColumn t c x) (NewTable u j)
objects_kept l (NewColumn t c x) (Create p) = both (NewColumn t c x) (Create p)
objects_kept l (NewColumn t c x) (Erase p) = both (NewColumn t c x) (Erase p)
objects_kept l (NewColumn t c x) (Change q f) = both (NewColumn t c x) (Change q f)
objects_kept l (Create o) (NewTable u j) = both (Create o) (NewTable u j)
objects_kept l (Create o) (NewColumn u d y) = both (Create o) (NewColumn u d y)
objects_kept l (Create o) (Create p) = both (Create o) (Create p)
objects_kept l (Create o) (Change q f) = both (Create o) (Change q f)
objects_kept l (Erase o) (NewTable u j) = both (Erase o) (NewTable u j)
objects_kept l (Erase o) (NewColumn u d y) = both (Erase o) (NewColumn u d y)
objects_kept l (Change q e) (NewTable u j) = both (Change q e) (NewTable u j)
objects_kept l (Change q e) (NewColumn u d y) = both (Change q e) (NewColumn u d y)
objects_kept l (Change q e) (Create p) = both (Change q e) (Create p)

about_instr : (o : Option ObjectName) (d : Option Effect) → About o d → IsAbout o (option_map instr_of d)
about_instr o None h = tt
about_instr o (Some d) h = ap object_of (effect-instr d) ∙ h

left_about : (o p : Option ObjectName) (m : Answer Effect) → Kept o p m → IfOk (outcome_of m) (λ r. IsAbout o r.left × IsAbout p r.right)
left_about o p (Err m) h = tt
left_about o p (Ok f) h = (about_instr o f.left h.all.0, about_instr p f.right h.all.1)

pub objects_stay : (a b : Instr) → ObjectsStay a b
objects_stay a b l = left_about (object_of (effect_of a)) (object_of (effect_of b)) (rule l (effect_of a) (effect_of b)) (objects_kept l (effect_of a) (effect_of b))
