-- What is looked up in a state, and that it tells states apart.
use Rattle.std.specs.Prelude.{◌≡◌, ℕ, Bool, true, false, cond, not, ◌&&◌, ◌||◌, List, is_some, Option, None, Some, refl}
use Rattle.std.specs.declared.cmp.Ordering.{Ordering}
use Rattle.std.specs.Option.{option_map, option_and_then}
use Rattle.std.specs.Ordering.{eq_by_cmp, on, then_cmp}
use Rattle.std.specs.Cmp.{IsTotalOrder, on_total, then_total}
use Rattle.std.specs.Cmp.Lexicographic.{nat_list_cmp_total}
use Rattle.std.specs.FinMap as map
use Rattle.std.specs.FinMap.{IsAntisymmetric, nat_cmp-IsAntisymmetric, slice_cmp-IsAntisymmetric, FinMap}
use Rattle.std.proofs.Common.{sym, ◌∙◌, ap}
use Rattle.sync_base.specs.After.{after, with_default, new_cells, changed}
use Rattle.sync_base.specs.Effects.{ObjectName, CellPath, Effect, NewTable, NewColumn, Create, Erase, Change}
use Rattle.sync_base.specs.Lemmas.Maps.{get-map_with, tied_is}
use Rattle.sync_base.specs.Merged.{path_cmp}
use Rattle.sync_base.specs.States.{State, object_cmp, has, cell_at}
use Rattle.sync_data.specs.Orders.{name_cmp, key_cmp_total, key_cmp_exact, ties_first, ties_second}

-- ---- the orders
pub name_total : IsTotalOrder name_cmp
name_total = nat_list_cmp_total

pub name_exact : IsAntisymmetric name_cmp
name_exact = slice_cmp-IsAntisymmetric nat_cmp-IsAntisymmetric

pub pair_exact : {A B : Type 0} {R : A → A → Ordering} {S : B → B → Ordering} → IsAntisymmetric R → IsAntisymmetric S → IsAntisymmetric (then_cmp (on (λ (p : A × B). p.0) R) (on (λ (p : A × B). p.1) S))
pair_exact {R = R} r s x y e = λ i. (r x.0 y.0 (ties_first (R x.0 y.0) _ e) i, s x.1 y.1 (ties_second (R x.0 y.0) _ e) i)

pub object_total : IsTotalOrder object_cmp
object_total = then_total (on_total (λ (o : ObjectName). o.0) name_total) (on_total (λ (o : ObjectName). o.1) key_cmp_total)

pub object_exact : IsAntisymmetric object_cmp
object_exact = pair_exact name_exact key_cmp_exact

pub path_total : IsTotalOrder path_cmp
path_total = then_total (on_total (λ (p : CellPath). p.0) object_total) (on_total (λ (p : CellPath). p.1) name_total)

pub path_exact : IsAntisymmetric path_cmp
path_exact = pair_exact object_exact name_exact

-- ---- states are alike where their look-ups are
same_lookup : {X : Type 0} (x y : Option (FinMap name_cmp X)) → is_some x ≡ is_some y → ((c : List ℕ) → option_and_then (λ m. map.get m c) x ≡ option_and_then (λ m. map.get m c) y) → x ≡ y
same_lookup None None p h = refl
same_lookup None (Some m) p h = cc
same_lookup (Some m) None p h = cc
same_lookup (Some m) (Some n) p h = ap Some (map.same_map name_total name_exact m n h)

pub same_states : (s t : State) → s.tables ≡ t.tables → ((o : ObjectName) → has s o ≡ has t o) → ((o : ObjectName) (c : List ℕ) → cell_at s o c ≡ cell_at t o c) → s ≡ t
same_states s t p h c =
    let q : s.objects ≡ t.objects = map.same_map object_total object_exact s.objects t.objects (λ o. same_lookup _ _ (h o) (c o)) in
    λ i. record { tables = p i; objects = q i }

-- ---- which objects stand after an instruction
abbrev pub creates : Effect → ObjectName → Bool
creates (Create p) o = eq_by_cmp object_cmp o p
creates d o = false

abbrev pub erases : Effect → ObjectName → Bool
erases (Erase p) o = eq_by_cmp object_cmp o p
erases d o = false

is_some-map : {X Y : Type 0} (f : X → Y) (x : Option X) → is_some (option_map f x) ≡ is_some x
is_some-map f None = refl
is_some-map f (Some x) = refl

is_some-put : {X : Type 0} (b : Bool) (v : X) (x : Option X) → is_some (cond b (Some v) x) ≡ (b || is_some x)
is_some-put true v x = refl
is_some-put false v x = refl

is_some-cut : {X : Type 0} (b : Bool) (x : Option X) → is_some (cond b None x) ≡ (not b && is_some x)
is_some-cut true x = refl
is_some-cut false x = refl

-- where the test finds what stands, a write leaves what stands
put_there : {X : Type 0} (m : FinMap object_cmp X) (p o : ObjectName) → is_some (map.get m p) ≡ true → is_some (map.get m o) ≡ (eq_by_cmp object_cmp o p || is_some (map.get m o))
put_there m p o there =
    elim (eq_by_cmp object_cmp o p) as (λ b. eq_by_cmp object_cmp o p ≡ b → is_some (map.get m o) ≡ (b || is_some (map.get m o))) [
      | true ↦ λ t. ap (λ x. is_some (map.get m x)) (tied_is object_exact o p t) ∙ there
      | false ↦ λ _. refl
    ] refl

pub has-after : (s : State) (d : Effect) (o : ObjectName) → has (after s d) o ≡ (not (erases d o) && (creates d o || has s o))
has-after s (NewTable t k) o = refl
has-after s (NewColumn t c def) o = ap is_some (get-map_with (with_default t c def) object_exact s.objects o) ∙ is_some-map (with_default t c def o) (map.get s.objects o)
has-after s (Create p) o =
    elim (has s p) as (λ b. has s p ≡ b → is_some (map.get (cond b s.objects (map.insert s.objects p (new_cells (map.get s.tables p.0)))) o) ≡ (eq_by_cmp object_cmp o p || has s o)) [
      | true ↦ λ t. put_there s.objects p o t
      | false ↦ λ _. ap is_some (map.get-insert object_total s.objects p _ o) ∙ is_some-put (eq_by_cmp object_cmp o p) _ _
    ] refl
has-after s (Erase p) o = ap is_some (map.get-remove object_total s.objects p o) ∙ is_some-cut (eq_by_cmp object_cmp o p) _
has-after s (Change p e) o =
    elim (map.get s.objects p.0) as (λ x. map.get s.objects p.0 ≡ x → is_some (map.get (elim x [ None ↦ s.objects | Some cells ↦ map.insert s.objects p.0 (changed p.1 e cells) ]) o) ≡ has s o) [
      | None ↦ λ _. refl
      | Some cells ↦ λ t. ap is_some (map.get-insert object_total s.objects p.0 _ o) ∙ is_some-put (eq_by_cmp object_cmp o p.0) _ _ ∙ sym (put_there s.objects p.0 o (ap is_some t))
    ] refl
