-- An ordered map or set of the code, and the finite map or set that it stands for.
use Rattle.std.specs.Prelude.{◌≡◌, Bool, true, false, cond, not, ◌||◌, ◌&&◌, List, [], ◌∷◌, Option, None, Some, refl}
use Rattle.std.specs.declared.cmp.Ordering.{Ordering}
use Rattle.std.specs.declared.cmp.Ordering.TheVariants.{Less, Equal, Greater}
use Rattle.std.specs.Option.{IsSome}
use Rattle.std.specs.Ordering.{is_eq, eq_by_cmp}
use Rattle.std.specs.Cmp.{IsTotalOrder, eq_by_cmp_equiv, tied_itself}
use Rattle.std.specs.FinMap as map
use Rattle.std.specs.FinMap.{FinMap, IsAntisymmetric, find}
use Rattle.std.specs.FinSet as set
use Rattle.std.specs.FinSet.{FinSet}
use Rattle.std.specs.BTreeMap as tree
use Rattle.std.specs.BTreeMap.{BTreeMap}
use Rattle.std.specs.BTreeSet as ordered
use Rattle.std.specs.BTreeSet.{BTreeSet}
use Rattle.std.specs.Map.{lookup}
use Rattle.std.proofs.Common.{sym, ◌∙◌, ap, subst}

either : (b c : Bool) → cond b true c ≡ (b || c)
either true c = refl
either false c = refl

neither : (b c : Bool) → cond b false c ≡ (not b && c)
neither true c = refl
neither false c = refl

one_of : (b c : Bool) → (not b && (b || c)) ≡ (not b && c)
one_of true c = refl
one_of false c = refl

all_of : (b c : Bool) → (b || (not b && c)) ≡ (b || c)
all_of true c = refl
all_of false c = refl

is_Equal : (o : Ordering) → is_eq o ≡ true → o ≡ Equal
is_Equal Less e = cc
is_Equal Equal e = refl
is_Equal Greater e = cc

-- keys that tie are one
pub tied : {K : Type 0} {R : K → K → Ordering} → IsAntisymmetric R → (x y : K) → eq_by_cmp R x y ≡ true → x ≡ y
tied {R = R} exact x y e = exact x y (is_Equal (R x y) e)

module _ {K X : Type 0} (R : K → K → Ordering) where
  find_looked : (q : K) (es : List (K × X)) → find R q es ≡ lookup (tree.is_at (R q)) es
  find_looked q [] = refl
  find_looked q (e ∷ es) = ap (cond (eq_by_cmp R q e.0) (Some e.1)) (find_looked q es)

module _ {K X : Type 0} {R : K → K → Ordering} (o : IsTotalOrder R) where
  -- a look-up finds what the code finds
  pub got : (m : BTreeMap K X) (q : K) → map.get (map.from_entries {R = R} m.entries) q ≡ tree.get R m q
  got m q = map.get-from_entries o m.entries q ∙ find_looked R q m.entries

  -- the same, from what the map is seen as and what the code answers
  pub seen_at : (m : BTreeMap K X) (q : K) {s : FinMap R X} {x : Option X} → map.from_entries {R = R} m.entries ≡ s → x ≡ tree.get R m q → map.get s q ≡ x
  seen_at m q e h = ap (λ s. map.get s q) (sym e) ∙ got m q ∙ sym h

  pub looked_up : (es : List (K × X)) (q : K) → map.get (map.from_entries {R = R} es) q ≡ lookup (tree.is_at (R q)) es
  looked_up es q = map.get-from_entries o es q ∙ find_looked R q es

  module _ (exact : IsAntisymmetric R) where
    -- a value that is put is an insertion of the finite map
    pub inserted : (m n : BTreeMap K X) (k : K) (v : X) → ((q : K) → tree.get R n q ≡ cond (tree.is_at (R k) q) (Some v) (tree.get R m q))
        → map.from_entries {R = R} n.entries ≡ map.insert (map.from_entries m.entries) k v
    inserted m n k v h = map.same_map o exact _ _ (λ q.
        got n q ∙ h q ∙ ap (λ b. cond b (Some v) (tree.get R m q)) ((eq_by_cmp_equiv o).symm k q)
        ∙ ap (cond (eq_by_cmp R q k) (Some v)) (sym (got m q)) ∙ sym (map.get-insert o (map.from_entries m.entries) k v q))

    -- a removal is one of the finite map
    pub removed : (m n : BTreeMap K X) (k : K) → ((q : K) → tree.get R n q ≡ cond (tree.is_at (R k) q) None (tree.get R m q))
        → map.from_entries {R = R} n.entries ≡ map.remove (map.from_entries m.entries) k
    removed m n k h = map.same_map o exact _ _ (λ q.
        got n q ∙ h q ∙ ap (λ b. cond b None (tree.get R m q)) ((eq_by_cmp_equiv o).symm k q)
        ∙ ap (cond (eq_by_cmp R q k) None) (sym (got m q)) ∙ sym (map.get-remove o (map.from_entries m.entries) k q))

    -- a write through a reference that was found is an insertion
    pub written : (m : BTreeMap K X) (k : K) {v : X} → Some v ≡ tree.get R m k → (n : BTreeMap K X) (w : X) → tree.WritesThrough R (R k) m w n
        → map.from_entries {R = R} n.entries ≡ map.insert (map.from_entries m.entries) k w
    written m k {v} found n w h = inserted m n k w (h.3 (subst (λ x. IsSome x) found refl)).0

    pub written_at : (m : BTreeMap K X) (k : K) {v : X} → Some v ≡ tree.get R m k → (n : BTreeMap K X) (w : X) → tree.WritesThrough R (R k) m w n
        → (q : K) → tree.get R n q ≡ cond (tree.is_at (R k) q) (Some w) (tree.get R m q)
    written_at m k found n w h = (h.3 (subst (λ x. IsSome x) found refl)).0

    -- what stands already may be put again
    pub insert_same : (s : FinMap R X) (k : K) (v : X) → map.get s k ≡ Some v → map.insert s k v ≡ s
    insert_same s k v h = map.same_map o exact _ _ (λ q. map.get-insert o s k v q
        ∙ elim (eq_by_cmp R q k) as (λ b. eq_by_cmp R q k ≡ b → cond b (Some v) (map.get s q) ≡ map.get s q) [
          | true ↦ λ e. sym h ∙ ap (map.get s) (sym (tied exact q k e))
          | false ↦ λ _. refl
        ] refl)

    -- a key that is absent may be taken out
    pub remove_absent : (s : FinMap R X) (k : K) → map.get s k ≡ None → map.remove s k ≡ s
    remove_absent s k h = map.same_map o exact _ _ (λ q. map.get-remove o s k q
        ∙ elim (eq_by_cmp R q k) as (λ b. eq_by_cmp R q k ≡ b → cond b None (map.get s q) ≡ map.get s q) [
          | true ↦ λ e. sym h ∙ ap (map.get s) (sym (tied exact q k e))
          | false ↦ λ _. refl
        ] refl)

    -- of two values at one key the later counts
    pub insert_again : (s : FinMap R X) (k : K) (v w : X) → map.insert (map.insert s k v) k w ≡ map.insert s k w
    insert_again s k v w = map.same_map o exact _ _ (λ q. map.get-insert o _ k w q
        ∙ elim (eq_by_cmp R q k) as (λ b. eq_by_cmp R q k ≡ b → cond b (Some w) (map.get (map.insert s k v) q) ≡ cond b (Some w) (map.get s q)) [
          | true ↦ λ _. refl
          | false ↦ λ e. map.get-insert o s k v q ∙ ap (λ b. cond b (Some v) (map.get s q)) e
        ] refl ∙ sym (map.get-insert o s k w q))

    pub remove_inserted : (s : FinMap R X) (k : K) (v : X) → map.remove (map.insert s k v) k ≡ map.remove s k
    remove_inserted s k v = map.same_map o exact _ _ (λ q. map.get-remove o _ k q
        ∙ elim (eq_by_cmp R q k) as (λ b. eq_by_cmp R q k ≡ b → cond b None (map.get (map.insert s k v) q) ≡ cond b None (map.get s q)) [
          | true ↦ λ _. refl
          | false ↦ λ e. map.get-insert o s k v q ∙ ap (λ b. cond b (Some v) (map.get s q)) e
        ] refl ∙ sym (map.get-remove o s k q))

    pub insert_removed : (s : FinMap R X) (k : K) (v : X) → map.insert (map.remove s k) k v ≡ map.insert s k v
    insert_removed s k v = map.same_map o exact _ _ (λ q. map.get-insert o _ k v q
        ∙ elim (eq_by_cmp R q k) as (λ b. eq_by_cmp R q k ≡ b → cond b (Some v) (map.get (map.remove s k) q) ≡ cond b (Some v) (map.get s q)) [
          | true ↦ λ _. refl
          | false ↦ λ e. map.get-remove o s k q ∙ ap (λ b. cond b None (map.get s q)) e
        ] refl ∙ sym (map.get-insert o s k v q))

module _ {K : Type 0} {R : K → K → Ordering} (o : IsTotalOrder R) where
  pub had : (s : BTreeSet K) (q : K) → set.contains (set.from_list {R = R} s.keys) q ≡ ordered.contains R s q
  had s q = set.contains-from_list o s.keys q

  module _ (exact : IsAntisymmetric R) where
    -- a key that is put is an insertion of the finite set
    pub included : (s n : BTreeSet K) (k : K) → ((q : K) → ordered.contains R n q ≡ cond (tree.is_at (R k) q) true (ordered.contains R s q))
        → set.from_list {R = R} n.keys ≡ set.insert (set.from_list s.keys) k
    included s n k h = set.same_set o exact _ _ (λ q. had n q ∙ h q ∙ either (eq_by_cmp R k q) _ ∙ ap (λ b. b || ordered.contains R s q) ((eq_by_cmp_equiv o).symm k q) ∙ ap (λ b. eq_by_cmp R q k || b) (sym (had s q)) ∙ sym (set.contains-insert o (set.from_list s.keys) k q))

    -- a removal is one of the finite set
    pub excluded : (s n : BTreeSet K) (k : K) → ((q : K) → ordered.contains R n q ≡ cond (tree.is_at (R k) q) false (ordered.contains R s q))
        → set.from_list {R = R} n.keys ≡ set.remove (set.from_list s.keys) k
    excluded s n k h = set.same_set o exact _ _ (λ q. had n q ∙ h q ∙ neither (eq_by_cmp R k q) _ ∙ ap (λ b. not b && ordered.contains R s q) ((eq_by_cmp_equiv o).symm k q)
        ∙ ap (λ b. not (eq_by_cmp R q k) && b) (sym (had s q)) ∙ sym (set.contains-remove o (set.from_list s.keys) k q))

    -- a member may be put again, and what is none taken out
    pub include_member : (s : FinSet R) (k : K) → set.contains s k ≡ true → set.insert s k ≡ s
    include_member s k h = set.same_set o exact _ _ (λ q. set.contains-insert o s k q
        ∙ elim (eq_by_cmp R q k) as (λ b. eq_by_cmp R q k ≡ b → (b || set.contains s q) ≡ set.contains s q) [
          | true ↦ λ e. sym h ∙ ap (set.contains s) (sym (tied exact q k e))
          | false ↦ λ _. refl
        ] refl)

    pub exclude_absent : (s : FinSet R) (k : K) → set.contains s k ≡ false → set.remove s k ≡ s
    exclude_absent s k h = set.same_set o exact _ _ (λ q. set.contains-remove o s k q
        ∙ elim (eq_by_cmp R q k) as (λ b. eq_by_cmp R q k ≡ b → (not b && set.contains s q) ≡ set.contains s q) [
          | true ↦ λ e. sym h ∙ ap (set.contains s) (sym (tied exact q k e))
          | false ↦ λ _. refl
        ] refl)

    pub exclude_included : (s : FinSet R) (k : K) → set.remove (set.insert s k) k ≡ set.remove s k
    exclude_included s k = set.same_set o exact _ _ (λ q. set.contains-remove o _ k q ∙ ap (λ b. not (eq_by_cmp R q k) && b) (set.contains-insert o s k q)
        ∙ one_of (eq_by_cmp R q k) _ ∙ sym (set.contains-remove o s k q))

    pub include_excluded : (s : FinSet R) (k : K) → set.insert (set.remove s k) k ≡ set.insert s k
    include_excluded s k = set.same_set o exact _ _ (λ q. set.contains-insert o _ k q ∙ ap (λ b. eq_by_cmp R q k || b) (set.contains-remove o s k q)
        ∙ all_of (eq_by_cmp R q k) _ ∙ sym (set.contains-insert o s k q))

-- a value of a finite map, changed where it stands
module _ {K X : Type 0} {R : K → K → Ordering} where
  abbrev pub at_key : K → (X → X) → FinMap R X → FinMap R X
  at_key k f m = elim (map.get m k) [ None ↦ m | Some x ↦ map.insert m k (f x) ]

  pub at_found : (k : K) (f : X → X) (m : FinMap R X) {x : X} → map.get m k ≡ Some x → at_key k f m ≡ map.insert m k (f x)
  at_found k f m e = ap (λ x. elim x [ None ↦ m | Some x ↦ map.insert m k (f x) ]) e

  pub at_absent : (k : K) (f : X → X) (m : FinMap R X) → map.get m k ≡ None → at_key k f m ≡ m
  at_absent k f m e = ap (λ x. elim x [ None ↦ m | Some x ↦ map.insert m k (f x) ]) e

itself : {K : Type 0} {R : K → K → Ordering} → IsTotalOrder R → (k : K) → eq_by_cmp R k k ≡ true
itself o k = ap is_eq (tied_itself o k)

module _ {K X : Type 0} {R : K → K → Ordering} (o : IsTotalOrder R) (exact : IsAntisymmetric R) where
  -- what was put stands
  pub get-put : (m : FinMap R X) (k : K) (v : X) → map.get (map.insert m k v) k ≡ Some v
  get-put m k v = map.get-insert o m k v k ∙ ap (λ b. cond b (Some v) (map.get m k)) (itself o k)

  -- a change that is taken back at its value is taken back
  pub at_key_back : (k : K) (f g : X → X) (m : FinMap R X) {x : X} → map.get m k ≡ Some x → g (f x) ≡ x → at_key k g (at_key k f m) ≡ m
  at_key_back k f g m {x} e h =
      ap (at_key k g) (at_found k f m e) ∙ at_found k g (map.insert m k (f x)) (get-put m k (f x))
      ∙ insert_again o exact m k (f x) (g (f x)) ∙ ap (map.insert m k) h ∙ insert_same o exact m k x e
