-- An instruction that acts leaves the elements beside its place.
use Rattle.std.proofs.Common.{◌≡◌, ℕ, ◌-◌, ◌≤◌, Bool, true, false, not, ◌&&◌, ◌||◌, List, [], ◌∷◌, ◌++◌, Option, None, Some, refl, sym, ◌∙◌, ap, subst, suc, take, drop, length, arith}
use Rattle.std.specs.Prelude.{cond, nat_le, reverse}
use Rattle.std.specs.Option.{option_map, option_map_or}
use Rattle.std.specs.Ordering.{eq_by_cmp}
use Rattle.std.proofs.lemmas.Bool.{eqb-true, leb-true}
use Rattle.std.proofs.lemmas.List.{append_assoc, length-drop, length-reverse, length-take-le, reverse-append, set_split, take-append-drop, take-append-le, take-take}
use Rattle.sync_data.specs.declared.value.Value.{Value}
use Rattle.sync_data.specs.declared.instr.Instr.{Instr}
use Rattle.sync_base.specs.After.{after, edited}
use Rattle.sync_base.specs.Checks.{act, is_prior}
use Rattle.sync_base.specs.Effects.{CellPath, Edit, Effect, Set, Add, Replace, Insert, Remove, Include, Exclude, Bind, Empty, NewTable, NewColumn, Create, Erase, Change, effect_of}
use Rattle.sync_base.specs.Footprints.{CellAt, changes}
use Rattle.sync_base.specs.Lemmas.Cells.{got_edited, touched}
use Rattle.sync_base.specs.Lemmas.Frame.{cell_there}
use Rattle.sync_base.specs.Lemmas.Looks.{path_exact}
use Rattle.sync_base.specs.Lemmas.Maps.{tied_is}
use Rattle.sync_base.specs.Lemmas.Places.{acted}
use Rattle.sync_base.specs.Lemmas.Reads.{framed}
use Rattle.sync_base.specs.Lemmas.Shaped.{IsEdit, IsEffect}
use Rattle.sync_base.specs.Lemmas.Steps.{Found, found}
use Rattle.sync_base.specs.Merged.{path_cmp}
use Rattle.sync_base.specs.States.{State, Cell, One, Many, Members, Dict, cell_at}
use Rattle.sync_changed.specs.Ends.{SameEnds, SameEndsAt, elements, spares}
use Rattle.sync_changed.specs.Places.{edit_place, told_place}

-- ---- lists
pub same_ends : (f b : ℕ) (xs : List Value) → SameEnds f b xs xs
same_ends f b xs = record { beginning = refl; end = refl }

pub ends_then : (f b : ℕ) (xs ys zs : List Value) → SameEnds f b xs ys → SameEnds f b ys zs → SameEnds f b xs zs
ends_then f b xs ys zs h k = record { beginning = h.beginning ∙ k.beginning; end = h.end ∙ k.end }

-- the last elements are those of the rear
rear : (b : ℕ) (front back : List Value) → b ≤ length back → take b (reverse (front ++ back)) ≡ take b (reverse back)
rear b front back h =
    let k : b ≤ length (reverse back) = subst (λ n. b ≤ n) (sym (length-reverse back)) h in
    ap (take b) (reverse-append front back) ∙ take-append-le b (reverse back) (reverse front) k

-- what stands between the place and the gap m is other
beside : (f b p m : ℕ) (xs ms : List Value) → f ≤ p → p ≤ m → m ≤ length xs → b ≤ length xs - m → SameEnds f b (take p xs ++ (ms ++ drop m xs)) xs
beside f b p m xs ms early order inside late =
    let h : f ≤ length (take p xs) = subst (λ n. f ≤ n) (sym (length-take-le p xs (omega arith))) early in
    let k : b ≤ length (drop m xs) = subst (λ n. b ≤ n) (sym (length-drop m xs)) late in
    record {
      beginning = take-append-le f (take p xs) (ms ++ drop m xs) h ∙ take-take f p xs early;
      end =
          ap (λ ys. take b (reverse ys)) (sym (append_assoc (take p xs) ms (drop m xs))) ∙ rear b (take p xs ++ ms) (drop m xs) k
          ∙ sym (rear b (take m xs) (drop m xs) k) ∙ ap (λ ys. take b (reverse ys)) (take-append-drop m xs);
    }

-- ---- an edit of the cell itself
both : (a b : Bool) → (a && b) ≡ true → (a ≡ true) × (b ≡ true)
both true b h = (refl, h)
both false b h = cc

within : (here : Bool) (f b front back : ℕ) → here ≡ true → (not here || (nat_le f front && nat_le b back)) ≡ true → (f ≤ front) × (b ≤ back)
within true f b front back h k = let r = both (nat_le f front) (nat_le b back) k in (leb-true f front r.0, leb-true b back r.1)
within false f b front back h k = cc

not_here : {A : Type 0} (here : Bool) → here ≡ true → not here ≡ true → A
not_here true h k = cc
not_here false h k = cc

edit_ends : (f b : ℕ) (q p : CellPath) (e : Edit) (x : Cell) → IsEdit e → is_prior e x ≡ true → eq_by_cmp path_cmp q p ≡ true → spares f b q (edit_place p e) ≡ true
    → SameEnds f b (elements (Some (edited e x))) (elements (Some x))
edit_ends f b q p (Replace s v) (Many xs) placed prior here h =
    let n : s.prior ≡ length xs = eqb-true s.prior (length xs) prior in
    let w = within (eq_by_cmp path_cmp q p) f b s.place (s.prior - s.place - 1) here h in
    subst (λ ys. SameEnds f b ys xs) (sym (set_split xs s.place v (omega arith))) (beside f b s.place (suc s.place) xs (v ∷ []) w.0 (omega arith) (omega arith) (omega arith))
edit_ends f b q p (Insert s v) (Many xs) placed prior here h =
    let n : s.prior ≡ length xs = eqb-true s.prior (length xs) prior in
    let w = within (eq_by_cmp path_cmp q p) f b s.place (s.prior - s.place) here h in
    beside f b s.place s.place xs (v ∷ []) w.0 (omega arith) (omega arith) (omega arith)
edit_ends f b q p (Remove s) (Many xs) placed prior here h =
    let n : s.prior ≡ length xs = eqb-true s.prior (length xs) prior in
    let w = within (eq_by_cmp path_cmp q p) f b s.place (s.prior - s.place - 1) here h in
    beside f b s.place (suc s.place) xs [] w.0 (omega arith) (omega arith) (omega arith)
edit_ends f b q p (Replace s v) (One w) placed prior here h = same_ends f b []
edit_ends f b q p (Replace s v) (Members m) placed prior here h = same_ends f b []
edit_ends f b q p (Replace s v) (Dict m) placed prior here h = same_ends f b []
edit_ends f b q p (Insert s v) (One w) placed prior here h = same_ends f b []
edit_ends f b q p (Insert s v) (Members m) placed prior here h = same_ends f b []
edit_ends f b q p (Insert s v) (Dict m) placed prior here h = same_ends f b []
edit_ends f b q p (Remove s) (One w) placed prior here h = same_ends f b []
edit_ends f b q p (Remove s) (Members m) placed prior here h = same_ends f b []
edit_ends f b q p (Remove s) (Dict m) placed prior here h = same_ends f b []
edit_ends f b q p (Set v) x placed prior here h = not_here (eq_by_cmp path_cmp q p) here h
edit_ends f b q p (Add n) x placed prior here h = not_here (eq_by_cmp path_cmp q p) here h
edit_ends f b q p (Include v) x placed prior here h = not_here (eq_by_cmp path_cmp q p) here h
edit_ends f b q p (Exclude v) x placed prior here h = not_here (eq_by_cmp path_cmp q p) here h
edit_ends f b q p (Bind k v) x placed prior here h = not_here (eq_by_cmp path_cmp q p) here h
edit_ends f b q p Empty x placed prior here h = not_here (eq_by_cmp path_cmp q p) here h

cell_ends : (f b : ℕ) (q p : CellPath) (e : Edit) (x : Option Cell) → IsEdit e → option_map_or (is_prior e) x false ≡ true → eq_by_cmp path_cmp q p ≡ true → spares f b q (edit_place p e) ≡ true
    → SameEnds f b (elements (option_map (touched (Some e)) x)) (elements x)
cell_ends f b q p e None placed prior here h = cc
cell_ends f b q p e (Some x) placed prior here h = edit_ends f b q p e x placed prior here h

-- ---- an instruction
change_ends : (f b : ℕ) (q p : CellPath) (e : Edit) (s : State) → IsEdit e → option_map_or (is_prior e) (cell_at s p.0 p.1) false ≡ true → eq_by_cmp path_cmp q p ≡ true → spares f b q (edit_place p e) ≡ true
    → SameEndsAt f b q (after s (Change p e)) s
change_ends f b q p e s placed prior here h =
    let same : q ≡ p = tied_is path_exact q p here in
    let there : cell_at s q.0 q.1 ≡ cell_at s p.0 p.1 = ap (λ (r : CellPath). cell_at s r.0 r.1) same in
    let is : cell_at (after s (Change p e)) q.0 q.1 ≡ option_map (touched (Some e)) (cell_at s q.0 q.1) =
    got_edited s p e q.0 q.1 (cell_there (cell_at s p.0 p.1) e prior) ∙ ap (λ c. option_map (touched (cond c (Some e) None)) (cell_at s q.0 q.1)) here in
    subst (λ x. SameEnds f b (elements x) (elements (cell_at s q.0 q.1))) (sym is)
    (cell_ends f b q p e (cell_at s q.0 q.1) placed (ap (λ x. option_map_or (is_prior e) x false) there ∙ prior) here h)

effect_ends : (f b : ℕ) (q : CellPath) (d : Effect) (s : State) → IsEffect d → Found s d → changes d (CellAt q) ≡ true → spares f b q (told_place true d) ≡ true → SameEndsAt f b q (after s d) s
effect_ends f b q (Change p e) s placed g c h = change_ends f b q p e s placed g.prior c h
effect_ends f b q (NewTable t k) s placed g c h = cc
effect_ends f b q (NewColumn t k def) s placed g c h = not_here (changes (NewColumn t k def) (CellAt q)) c h
effect_ends f b q (Create o) s placed g c h = not_here (changes (Create o) (CellAt q)) c h
effect_ends f b q (Erase o) s placed g c h = not_here (changes (Erase o) (CellAt q)) c h

pub instr_ends : (f b : ℕ) (q : CellPath) (i : Instr) (s t : State) → act i s ≡ Some t → spares f b q (told_place true (effect_of i)) ≡ true → SameEndsAt f b q t s
instr_ends f b q i s t e h =
    let a = acted (effect_of i) s t e in
    elim (changes (effect_of i) (CellAt q)) as (λ c. changes (effect_of i) (CellAt q) ≡ c → SameEndsAt f b q t s) [
      | true ↦ λ c. subst (λ u. SameEndsAt f b q u s) a.gives (effect_ends f b q (effect_of i) s a.fine (found s (effect_of i) a.acts) c h)
      | false ↦ λ c. subst (λ x. SameEnds f b (elements x) (elements (cell_at s q.0 q.1))) (sym ((framed i).changes_alone s t e (CellAt q) c)) (same_ends f b (elements (cell_at s q.0 q.1)))
    ] refl
