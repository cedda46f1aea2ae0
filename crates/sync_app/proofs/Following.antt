-- A sketch follows the instructions that act.
use Rattle.std.proofs.Common.{◌≡◌, ℕ, ◌+◌, ◌-◌, ◌≤◌, Bool, true, false, cond, not, ◌&&◌, ◌||◌, Option, None, Some, refl, sym, ◌∙◌, ap, subst, arith, ◌==◌}
use Rattle.std.specs.BTreeMap as tree
use Rattle.std.specs.Ordering.{eq_by_cmp}
use Rattle.std.specs.Cmp.{eq_by_cmp_equiv}
use Rattle.std.specs.FinMap as map
use Rattle.std.proofs.lemmas.Bool.{eq-eqb, ne_eqb}
use Rattle.sync_data.specs.declared.instr.Instr.{Instr}
use Rattle.sync_base.specs.After.{after, new_cells, tables_after}
use Rattle.sync_base.specs.Checks.{act}
use Rattle.sync_base.specs.Effects.{ObjectName, CellPath, Edit, Effect, Set, Add, Replace, Insert, Remove, Include, Exclude, Bind, Empty, NewTable, NewColumn, Create, Erase, Change, effect_of}
use Rattle.sync_base.specs.Lemmas.Looks.{has-after, object_exact, object_total, path_exact, path_total}
use Rattle.sync_base.specs.Lemmas.Maps.{tied_is}
use Rattle.sync_base.specs.Lemmas.Places.{acted}
use Rattle.sync_base.specs.Lemmas.Shaped.{IsEdit, IsEffect}
use Rattle.sync_base.specs.Lemmas.Steps.{Found, FoundCell, found}
use Rattle.sync_base.specs.Lemmas.Whole.{keeps_state, shaped_of}
use Rattle.sync_base.specs.Merged.{path_cmp}
use Rattle.sync_base.specs.States.{State, IsState, has, object_cmp}
use Rattle.sync_app.specs.Sizes.{size_at}
use Rattle.sync_app.specs.declared.sketch.Sketch.{Sketch}
use Rattle.sync_app.specs.declared.sketch.Length.{Length}
use Rattle.sync_app.specs.Notes.{Note}
use Rattle.sync_app.specs.Notes as notes
use Rattle.sync_app.specs.Sketches.{IsSketchOf, ShowsSame, Takes, base_of, first_size, length_in, life_by, life_in, note_of, size_by, standing_in, stands_by, stands_in, tables_in}
use Rattle.sync_app.proofs.Resizing.{none_here, resized, size_changed, size_stays}

-- ---- what two sketches that show the same are sketches of
pub same_sketch : (old new : Sketch) (s : State) (n : ℕ) → ShowsSame old new → IsSketchOf old s n → IsSketchOf new s n
same_sketch old new s n h k = record {
  state = k.state;
  tables = h.tables ∙ k.tables;
  standing = λ o. (λ i. stands_by (has (h.base i) o) (h.standing o i)) ∙ k.standing o;
  sizes = λ p. (λ i. size_by (h.base i) p (life_by (h.standing p.0 i)) (h.lengths p i)) ∙ k.sizes p;
  lives = λ o. subst (λ x. life_by x ≤ n) (sym (h.standing o)) (k.lives o);
  noted = λ p e f. k.noted p e (sym (h.lengths p) ∙ f);
}

-- ---- a state that shows the same objects and lists, over tables that were noted
pub with_tables : (old new : Sketch) (s t : State) (n : ℕ) → IsSketchOf old s n → IsState t
    → base_of new ≡ base_of old → tables_in new ≡ t.tables → ((o : ObjectName) → standing_in new o ≡ standing_in old o) → ((p : CellPath) → length_in new p ≡ length_in old p)
    → ((o : ObjectName) → has t o ≡ has s o) → ((p : CellPath) → size_at t p ≡ size_at s p) → IsSketchOf new t (n + 1)
with_tables old new s t n k ok base tables standing lengths same_has same_size = record {
  state = ok;
  tables = tables;
  standing = λ o. (λ i. stands_by (has (base i) o) (standing o i)) ∙ k.standing o ∙ sym (same_has o);
  sizes = λ p. (λ i. size_by (base i) p (life_by (standing p.0 i)) (lengths p i)) ∙ k.sizes p ∙ sym (same_size p);
  lives = λ o. let f = k.lives o in let g = ap life_by (standing o) in omega (f, g, arith);
  noted = λ p e f. let g = k.noted p e (sym (lengths p) ∙ f) in omega (g, arith);
}

-- ---- an object begins a life
turned : (o q : ObjectName) → eq_by_cmp object_cmp o q ≡ eq_by_cmp object_cmp q o
turned o q = (eq_by_cmp_equiv object_total).symm o q

no_length : (s : State) (q : CellPath) (n : ℕ) (x : Option Length) → ((e : Length) → x ≡ Some e → e.life ≤ n) → size_by s q (n + 1) x ≡ 0
no_length s q n None h = let e = ne_eqb (n + 1) 0 (λ f. omega (f, arith)) in ap (λ b. cond b (size_at s q) 0) e
no_length s q n (Some e) h =
    let old : (e.life == (n + 1)) ≡ false = ne_eqb e.life (n + 1) (λ f. let g = h e refl in omega (f, g, arith)) in
    let new = ne_eqb (n + 1) 0 (λ f. omega (f, arith)) in
    ap (λ b. cond b e.len (first_size s q (n + 1))) old ∙ ap (λ b. cond b (size_at s q) 0) new

pub reborn : (old new : Sketch) (s t : State) (n : ℕ) (o : ObjectName) (b : Bool) → IsSketchOf old s n → IsState t
    → base_of new ≡ base_of old → tables_in new ≡ tables_in old → ((p : CellPath) → length_in new p ≡ length_in old p)
    → ((q : ObjectName) → standing_in new q ≡ cond (tree.is_at (object_cmp o) q) (Some (record { stands = b; life = n + 1 })) (standing_in old q))
    → t.tables ≡ s.tables → ((q : ObjectName) → has t q ≡ cond (eq_by_cmp object_cmp o q) b (has s q)) → ((p : CellPath) → size_at t p ≡ cond (eq_by_cmp object_cmp o p.0) 0 (size_at s p))
    → IsSketchOf new t (n + 1)
reborn old new s t n o b k ok base tables lengths standing same_tables new_has new_size = record {
  state = ok;
  tables = tables ∙ k.tables ∙ sym same_tables;
  standing = λ q.
      (λ i. stands_by (has (base i) q) (standing q i))
      ∙ elim (eq_by_cmp object_cmp o q) as (λ c. stands_by (has (base_of old) q) (cond c (Some (record { stands = b; life = n + 1 })) (standing_in old q)) ≡ cond c b (has s q)) [
        | true ↦ refl
        | false ↦ k.standing q
      ]
      ∙ sym (new_has q);
  sizes = λ p.
      (λ i. size_by (base i) p (life_by (standing p.0 i)) (lengths p i))
      ∙ elim (eq_by_cmp object_cmp o p.0) as (λ c. size_by (base_of old) p (life_by (cond c (Some (record { stands = b; life = n + 1 })) (standing_in old p.0))) (length_in old p) ≡ cond c 0 (size_at s p)) [
        | true ↦ no_length (base_of old) p n (length_in old p) (k.noted p)
        | false ↦ k.sizes p
      ]
      ∙ sym (new_size p);
  lives = λ q.
      let g : life_in new q ≡ life_by (cond (eq_by_cmp object_cmp o q) (Some (record { stands = b; life = n + 1 })) (standing_in old q)) = ap life_by (standing q) in
      let f : life_by (cond (eq_by_cmp object_cmp o q) (Some (record { stands = b; life = n + 1 })) (standing_in old q)) ≤ n + 1 =
      elim (eq_by_cmp object_cmp o q) as (λ c. life_by (cond c (Some (record { stands = b; life = n + 1 })) (standing_in old q)) ≤ n + 1) [
        | true ↦ omega arith
        | false ↦ (let h = k.lives q in omega (h, arith))
      ] in
      omega (f, g, arith);
  noted = λ p e f. let g = k.noted p e (sym (lengths p) ∙ f) in omega (g, arith);
}

-- ---- a list gets a length
some_is : {A : Type 0} {x y : A} → Some x ≡ Some y → x ≡ y
some_is e = cc

itself : (n : ℕ) → (n == n) ≡ true
itself n = eq-eqb n n refl

pub relong : (old new : Sketch) (s t : State) (n : ℕ) (p : CellPath) (len : ℕ) → IsSketchOf old s n → IsState t
    → base_of new ≡ base_of old → tables_in new ≡ tables_in old → ((o : ObjectName) → standing_in new o ≡ standing_in old o)
    → ((q : CellPath) → length_in new q ≡ cond (tree.is_at (path_cmp p) q) (Some (record { life = life_in old p.0; len = len })) (length_in old q))
    → t.tables ≡ s.tables → ((o : ObjectName) → has t o ≡ has s o) → ((q : CellPath) → size_at t q ≡ cond (eq_by_cmp path_cmp p q) len (size_at s q))
    → IsSketchOf new t (n + 1)
relong old new s t n p len k ok base tables standing lengths same_tables same_has new_size = record {
  state = ok;
  tables = tables ∙ k.tables ∙ sym same_tables;
  standing = λ o. (λ i. stands_by (has (base i) o) (standing o i)) ∙ k.standing o ∙ sym (same_has o);
  sizes = λ q.
      (λ i. size_by (base i) q (life_by (standing q.0 i)) (lengths q i))
      ∙ elim (eq_by_cmp path_cmp p q) as (λ c. eq_by_cmp path_cmp p q ≡ c → size_by (base_of old) q (life_in old q.0) (cond c (Some (record { life = life_in old p.0; len = len })) (length_in old q)) ≡ cond c len (size_at s q)) [
        | true ↦ λ e. ap (λ r. cond (life_in old p.0 == life_in old r.0) len (first_size (base_of old) q (life_in old q.0))) (sym (tied_is path_exact p q e)) ∙ ap (λ b. cond b len (first_size (base_of old) q (life_in old q.0))) (itself (life_in old p.0))
        | false ↦ λ _. k.sizes q
      ] refl
      ∙ sym (new_size q);
  lives = λ o. let f = k.lives o in let g = ap life_by (standing o) in omega (f, g, arith);
  noted = λ q e f.
      let g : cond (eq_by_cmp path_cmp p q) (Some (record { life = life_in old p.0; len = len })) (length_in old q) ≡ Some e = sym (lengths q) ∙ f in
      let h : e.life ≤ n =
      elim (eq_by_cmp path_cmp p q) as (λ c. cond c (Some (record { life = life_in old p.0; len = len })) (length_in old q) ≡ Some e → e.life ≤ n) [
        | true ↦ λ i. subst (λ (x : Length). x.life ≤ n) (some_is i) (k.lives p.0)
        | false ↦ λ i. k.noted q e i
      ] g in
      omega (h, arith);
}

-- ---- the instructions, by their effects
cond_stands : (s : State) (q : CellPath) → cond (has s q.0) (size_at s q) 0 ≡ size_at s q
cond_stands s q =
    elim (has s q.0) as (λ b. has s q.0 ≡ b → cond b (size_at s q) 0 ≡ size_at s q) [
      | true ↦ λ _. refl
      | false ↦ λ h. sym (none_here s q.0 q.1 h)
    ] refl

either : (b c : Bool) → (b || c) ≡ cond b true c
either true c = refl
either false c = refl

neither : (b c : Bool) → (not b && c) ≡ cond b false c
neither true c = refl
neither false c = refl

born_size : (s : State) (o : ObjectName) (q : CellPath) (b : Bool) → (b ≡ true → has s o ≡ false) → cond (cond (eq_by_cmp object_cmp o q.0) b (has s q.0)) (size_at s q) 0 ≡ cond (eq_by_cmp object_cmp o q.0) 0 (size_at s q)
born_size s o q b h =
    elim (eq_by_cmp object_cmp o q.0) as (λ c. eq_by_cmp object_cmp o q.0 ≡ c → cond (cond c b (has s q.0)) (size_at s q) 0 ≡ cond c 0 (size_at s q)) [
      | true ↦ λ e.
          elim b as (λ c. (c ≡ true → has s o ≡ false) → cond c (size_at s q) 0 ≡ 0) [
            | true ↦ λ g. none_here s q.0 q.1 (ap (has s) (sym (tied_is object_exact o q.0 e)) ∙ g refl)
            | false ↦ λ _. refl
          ] h
      | false ↦ λ _. cond_stands s q
    ] refl

stays_as_it_is : (s : State) (o : ObjectName) → has s o ≡ true → after s (Create o) ≡ s
stays_as_it_is s o h = λ i. record { tables = s.tables; objects = cond (h i) s.objects (map.insert s.objects o (new_cells (map.get s.tables o.0))) }

same_length : (s : State) (p q : CellPath) → cond (eq_by_cmp path_cmp q p) (size_at s p) (size_at s q) ≡ size_at s q
same_length s p q =
    elim (eq_by_cmp path_cmp q p) as (λ b. eq_by_cmp path_cmp q p ≡ b → cond b (size_at s p) (size_at s q) ≡ size_at s q) [
      | true ↦ λ e. ap (size_at s) (sym (tied_is path_exact q p e))
      | false ↦ λ _. refl
    ] refl

abbrev Follows : Effect → Type 0
Follows d = (old new : Sketch) (s : State) (n : ℕ) → IsSketchOf old s n → Found s d → IsState (after s d) → Takes (note_of old n d) old new → IsSketchOf new (after s d) (n + 1)

-- an edit that leaves the length
leaves : (p : CellPath) (e : Edit) (old new : Sketch) (s : State) (n : ℕ) → IsSketchOf old s n → FoundCell s p e → IsEdit e → IsState (after s (Change p e)) → resized e (size_at s p) ≡ size_at s p → new ≡ old → IsSketchOf new (after s (Change p e)) (n + 1)
leaves p e old new s n k f fine ok same h =
    with_tables old new s (after s (Change p e)) n k ok (ap base_of h) (ap tables_in h ∙ k.tables) (λ o. ap (λ x. standing_in x o) h) (λ q. ap (λ x. length_in x q) h)
    (has-after s (Change p e)) (λ q. size_changed s (shaped_of s k.state) p e f fine q ∙ ap (λ m. cond (eq_by_cmp path_cmp q p) m (size_at s q)) same ∙ same_length s p q)

-- an edit that sets it
sets : (p : CellPath) (e : Edit) (len : ℕ) (old new : Sketch) (s : State) (n : ℕ) → IsSketchOf old s n → FoundCell s p e → IsEdit e → IsState (after s (Change p e)) → resized e (size_at s p) ≡ len
    → ((q : CellPath) → length_in new q ≡ cond (tree.is_at (path_cmp p) q) (Some (record { life = life_in old p.0; len = len })) (length_in old q)) → new ≡ record old { lengths = new.lengths } → IsSketchOf new (after s (Change p e)) (n + 1)
sets p e len old new s n k f fine ok same noted h =
    relong old new s (after s (Change p e)) n p len k ok (ap base_of h) (ap tables_in h) (λ o. ap (λ x. standing_in x o) h) noted refl (has-after s (Change p e))
    (λ q. size_changed s (shaped_of s k.state) p e f fine q ∙ (λ i. cond ((eq_by_cmp_equiv path_total).symm q p i) (same i) (size_at s q)))

follow_edit : (p : CellPath) (e : Edit) → IsEdit e → Follows (Change p e)
follow_edit p (Set v) fine old new s n k f ok h = leaves p (Set v) old new s n k f fine ok refl h
follow_edit p (Add m) fine old new s n k f ok h = leaves p (Add m) old new s n k f fine ok refl h
follow_edit p (Replace t v) fine old new s n k f ok h = leaves p (Replace t v) old new s n k f fine ok refl h
follow_edit p (Insert t v) fine old new s n k f ok h = sets p (Insert t v) (t.prior + 1) old new s n k f fine ok refl h.0 h.1
follow_edit p (Remove t) fine old new s n k f ok h = sets p (Remove t) (t.prior - 1) old new s n k f fine ok refl h.0 h.1
follow_edit p (Include v) fine old new s n k f ok h = leaves p (Include v) old new s n k f fine ok refl h
follow_edit p (Exclude v) fine old new s n k f ok h = leaves p (Exclude v) old new s n k f fine ok refl h
follow_edit p (Bind c v) fine old new s n k f ok h = leaves p (Bind c v) old new s n k f fine ok refl h
follow_edit p Empty fine old new s n k f ok h = sets p Empty 0 old new s n k f fine ok refl h.0 h.1

follow_object : (d : Effect) (o : ObjectName) (b : Bool) (old new : Sketch) (s : State) (n : ℕ) → IsSketchOf old s n → IsState (after s d) → (after s d).tables ≡ s.tables
    → ((q : CellPath) → size_at (after s d) q ≡ cond (has (after s d) q.0) (size_at s q) 0) → ((q : ObjectName) → has (after s d) q ≡ cond (eq_by_cmp object_cmp o q) b (has s q)) → (b ≡ true → has s o ≡ false)
    → ((q : ObjectName) → standing_in new q ≡ cond (tree.is_at (object_cmp o) q) (Some (record { stands = b; life = n + 1 })) (standing_in old q)) → new ≡ record old { standings = new.standings } → IsSketchOf new (after s d) (n + 1)
follow_object d o b old new s n k ok tables sizes new_has none noted h =
    reborn old new s (after s d) n o b k ok (ap base_of h) (ap tables_in h) (λ p. ap (λ x. length_in x p) h) noted tables new_has
    (λ q. sizes q ∙ ap (λ c. cond c (size_at s q) 0) (new_has q.0) ∙ born_size s o q b none)

pub follow : (d : Effect) → IsEffect d → Follows d
follow (NewTable t key) e old new s n k f ok h =
    with_tables old new s (after s (NewTable t key)) n k ok (ap base_of h) (ap tables_in h ∙ ap (tables_after (NewTable t key)) k.tables) (λ o. ap (λ x. standing_in x o) h) (λ q. ap (λ x. length_in x q) h) (λ o. refl) (λ q. refl)
follow (NewColumn t c def) e old new s n k f ok h =
    with_tables old new s (after s (NewColumn t c def)) n k ok (ap base_of h) (ap tables_in h ∙ ap (tables_after (NewColumn t c def)) k.tables) (λ o. ap (λ x. standing_in x o) h) (λ q. ap (λ x. length_in x q) h)
    (has-after s (NewColumn t c def)) (λ q. size_stays s (shaped_of s k.state) (NewColumn t c def) f refl q ∙ ap (λ b. cond b (size_at s q) 0) (has-after s (NewColumn t c def) q.0) ∙ cond_stands s q)
follow (Create o) e old new s n k f ok h =
    elim (stands_in old o) as (λ b. stands_in old o ≡ b → Takes (cond b notes.Nothing (notes.Object o (record { stands = true; life = n + 1 }))) old new → IsSketchOf new (after s (Create o)) (n + 1)) [
      | true ↦ λ there same.
          let as_it_is = stays_as_it_is s o (sym (k.standing o) ∙ there) in
          with_tables old new s (after s (Create o)) n k ok (ap base_of same) (ap tables_in same ∙ k.tables) (λ q. ap (λ x. standing_in x q) same) (λ q. ap (λ x. length_in x q) same) (λ q. ap (λ t. has t q) as_it_is) (λ q. ap (λ t. size_at t q) as_it_is)
      | false ↦ λ absent taken.
          follow_object (Create o) o true old new s n k ok refl (size_stays s (shaped_of s k.state) (Create o) f refl)
          (λ q. has-after s (Create o) q ∙ either (eq_by_cmp object_cmp q o) (has s q) ∙ ap (λ b. cond b true (has s q)) (turned q o)) (λ _. sym (k.standing o) ∙ absent) taken.0 taken.1
    ] refl h
follow (Erase o) e old new s n k f ok h =
    follow_object (Erase o) o false old new s n k ok refl (size_stays s (shaped_of s k.state) (Erase o) f refl)
    (λ q. has-after s (Erase o) q ∙ neither (eq_by_cmp object_cmp q o) (has s q) ∙ ap (λ b. cond b false (has s q)) (turned q o)) (λ is. cc) h.0 h.1
follow (Change p c) e old new s n k f ok h = follow_edit p c e old new s n k f ok h

-- an instruction that acts, once its note is taken
pub followed : (old new : Sketch) (i : Instr) (s : State) (n : ℕ) → IsSketchOf old s n → act i s ≡ Some (after s (effect_of i)) → Takes (note_of old n (effect_of i)) old new → IsSketchOf new (after s (effect_of i)) (n + 1)
followed old new i s n k h taken =
    let a = acted (effect_of i) s (after s (effect_of i)) h in
    follow (effect_of i) a.fine old new s n k (found s (effect_of i) a.acts) (keeps_state i s (after s (effect_of i)) k.state h) taken
