-- Unsent changesets as they are shown, where there is a stretch of them or none.
use Rattle.std.specs.Prelude.{IfOk}
use Rattle.std.proofs.Common.{◌≡◌, inl, inr, ℕ, zero, suc, ◌-◌, ◌<◌, ◌≤◌, List, [], ◌∷◌, ◌++◌, Option, Some, None, Result, Ok, Err, IfSome, refl, sym, ap, ◌∙◌, subst, length, drop, set, get_or, map, arith}
use Rattle.std.proofs.lemmas.List.{get_or_default, get_or-drop, length-append, length-set}
use Rattle.sync_data.specs.declared.instr.Instr.{Instr}
use Rattle.sync_data.specs.declared.entry.Entry.{Entry}
use Rattle.sync_data.specs.Payload.{Changes}
use Rattle.sync_base.specs.Effects.{CellPath}
use Rattle.sync_theory.specs.Grid.{tail}
use Rattle.sync_model.specs.Clients.{Unsent, changeset_of}
use Rattle.sync_rivals.specs.Lists.{StandsAt, StaysListed}
use Rattle.sync_theory.specs.Changesets.{cross_sets}
use Rattle.sync_law.specs.Instrs.{meet}
use Rattle.list_places.specs.Moves.{first_cell, kind_in, kind_of, moved_changes, moved_first}
use Rattle.sync_transform.specs.Sets.{made_by}
use Rattle.list_places.specs.declared.moves.Moves.{Moves}
use Rattle.sync_rebase.specs.Acrossing.{BothMove}
use Rattle.list_places.specs.declared.moves.ListAction.{ListAction}
use Rattle.list_lane.specs.Lanes.{LaneOf, length_after, slot_at}
use Rattle.list_lane.specs.Told.{action, told}
use Rattle.sync_rebase.specs.Settling.{currents}
use Rattle.sync_rebase.specs.Stretches.{told_unsent, overlaid, laid, shown_by, Holds, AllHold, Stands, Outside, IsToldAt, StepsBack}
use Rattle.sync_rebase.specs.Taking.{IsEntryOf, IsHead}
use Rattle.list_lane.specs.declared.op.Op.{Op}
use Rattle.sync_rebase.specs.declared.stretch.Stretch.{Stretch}
use Rattle.list_lane.proofs.Acting.{kind_action}
use Rattle.sync_rebase.proofs.Listed.{told_listed}
use Rattle.sync_rebase.proofs.Laid.{originals_of, laid_originals, length_laid, get_before, get_behind, get_at, set_before, set_behind, holds_before, holds_behind, holds_push, laid_push, drop_push}

pub length_shown : (o : Option Stretch) (us : List (Unsent Instr)) → length (shown_by o us) ≡ length us
length_shown None us = refl
length_shown (Some s) us = length_laid s.start s.lane us

-- ---- outside of the stretch
out_get : (o : Option Stretch) (us : List (Unsent Instr)) (k : ℕ) (d : Unsent Instr) → IfSome o (Outside k) → get_or (shown_by o us) k d ≡ get_or us k d
out_get None us k d h = refl
out_get (Some s) us k d (inl l) = get_before s.start k (overlaid s.lane.first s.lane.slots) us d l
out_get (Some s) us k d (inr l) = get_behind s.start k s.lane us d l

pub plain_at : (o : Option Stretch) (us : List (Unsent Instr)) (k : ℕ) (r : Unsent Instr) → IfSome o (Outside k) → r ≡ get_or us k r → r ≡ get_or (shown_by o us) k r
plain_at o us k r h e = e ∙ sym (out_get o us k r h)

pub at_plain : (o : Option Stretch) (us : List (Unsent Instr)) (k : ℕ) (u r : Unsent Instr) → IfSome o (Outside k) → k < length us → u ≡ get_or (shown_by o us) k u → r ≡ get_or us k r → u ≡ r
at_plain o us k u r h l at e = at ∙ out_get o us k u h ∙ get_or_default us k u r l ∙ sym e

pub shown_set : (o : Option Stretch) (us : List (Unsent Instr)) (k : ℕ) (v : Unsent Instr) → IfSome o (Outside k) → shown_by o (set us k v) ≡ set (shown_by o us) k v
shown_set None us k v h = refl
shown_set (Some s) us k v (inl l) = set_before s.start k (overlaid s.lane.first s.lane.slots) us v l
shown_set (Some s) us k v (inr l) = set_behind s.start k s.lane us v l

held_set : (cell : Option CellPath) (s : Stretch) (us : List (Unsent Instr)) (k : ℕ) (v : Unsent Instr) → Outside k s → AllHold cell s.own s.lane.slots (drop s.start us) → AllHold cell s.own s.lane.slots (drop s.start (set us k v))
held_set cell s us k v (inl l) h = holds_before cell s.own s.start k s.lane.slots us v l h
held_set cell s us k v (inr l) h = holds_behind cell s.own s.start k s.lane.slots us v l h

pub stands_set : (o : Option Stretch) (us : List (Unsent Instr)) (k : ℕ) (v : Unsent Instr) → IfSome o (Outside k) → IfSome o (Stands us) → IfSome o (Stands (set us k v))
stands_set None us k v h st = tt
stands_set (Some s) us k v h st =
    let size = length-set us k v in
    let within = st.within in
    record { within = omega (arith, size, within); held = held_set (first_cell s.sample.instrs) s us k v h st.held }

-- ---- one more at the end
pushed_stands : (s : Stretch) (us vs : List (Unsent Instr)) → Stands us s → Stands (us ++ vs) s
pushed_stands s us vs st =
    let within = st.within in
    let size = length-append us vs in
    let start : s.start ≤ length us = omega (arith, within) in
    record {
      within = omega (arith, within, size);
      held = subst (AllHold (first_cell s.sample.instrs) s.own s.lane.slots) (sym (drop_push s.start us vs start)) (holds_push (first_cell s.sample.instrs) s.own s.lane.slots (drop s.start us) vs st.held);
    }

pub stands_push : (o : Option Stretch) (us vs : List (Unsent Instr)) (u : Unsent Instr) → vs ≡ us ++ u ∷ [] → IfSome o (Stands us) → IfSome o (Stands vs)
stands_push None us vs u is h = tt
stands_push (Some s) us vs u is h = subst (λ l. Stands l s) (sym is) (pushed_stands s us (u ∷ []) h)

pushed_shown : (o : Option Stretch) (us vs : List (Unsent Instr)) → IfSome o (Stands us) → shown_by o (us ++ vs) ≡ shown_by o us ++ vs
pushed_shown None us vs h = refl
pushed_shown (Some s) us vs h = let within = h.within in laid_push (first_cell s.sample.instrs) s.own s.start s.lane us vs (omega (arith, within)) h.held

pub shown_push : (o : Option Stretch) (us vs now : List (Unsent Instr)) (u : Unsent Instr) → vs ≡ us ++ u ∷ [] → IfSome o (Stands us) → shown_by o us ≡ now → shown_by o vs ≡ now ++ u ∷ []
shown_push o us vs now u is h e = ap (shown_by o) is ∙ pushed_shown o us (u ∷ []) h ∙ ap (λ l. l ++ u ∷ []) e

-- ---- as they were made
shown_originals : (o : Option Stretch) (us : List (Unsent Instr)) → originals_of (shown_by o us) ≡ originals_of us
shown_originals None us = refl
shown_originals (Some s) us = laid_originals s.start s.lane us

map_get : {A B : Type 0} (f : A → B) (xs : List A) (i : ℕ) (d : A) → get_or (map f xs) i (f d) ≡ f (get_or xs i d)
map_get f [] i d = refl
map_get f (x ∷ xs) zero d = refl
map_get f (x ∷ xs) (suc i) d = map_get f xs i d

pub original_at : (o : Option Stretch) (us : List (Unsent Instr)) (k : ℕ) (u r : Unsent Instr) → k < length us → u ≡ get_or (shown_by o us) k u → r ≡ get_or us k r → u.original ≡ r.original
original_at o us k u r l at e =
    ap (λ (w : Unsent Instr). w.original) at
    ∙ sym (map_get (λ (w : Unsent Instr). w.original) (shown_by o us) k u)
    ∙ ap (λ x. get_or x k u.original) (shown_originals o us)
    ∙ map_get (λ (w : Unsent Instr). w.original) us k u
    ∙ ap (λ (w : Unsent Instr). w.original) (get_or_default us k u r l ∙ sym e)

-- ---- a slot of the stretch
holds_at : (cell : Option CellPath) (own : ℕ) (ss : List (Option Op)) (us : List (Unsent Instr)) (j : ℕ) (r : Unsent Instr) → AllHold cell own ss us → j < length ss → r ≡ get_or us j r → Holds cell own (slot_at j ss) r
holds_at cell own [] us j r h l e = absurd (omega (arith, l))
holds_at cell own (s ∷ ss) [] j r h l e = absurd h
holds_at cell own (s ∷ ss) (u ∷ us) zero r h l e = subst (Holds cell own s) (sym e) h.0
holds_at cell own (s ∷ ss) (u ∷ us) (suc j) r h l e = holds_at cell own ss us j r h.1 (omega (arith, l)) e

pub told_shown : (o : Option Stretch) (us : List (Unsent Instr)) (k : ℕ) (u r : Unsent Instr) (p : Option Op × ℕ) → IsToldAt k o (Some p) → k < length us → u ≡ get_or (shown_by o us) k u → r ≡ get_or us k r → u ≡ told_unsent p.1 p.0 r
told_shown None us k u r p t l at e = let bad : ◌≡◌ {A = Option (Option Op × ℕ)} (Some p) None = t in cc
told_shown (Some s) us k u r p t l at e = at ∙ get_at s.start t.0 k s.lane us r u t.1 t.2 l e ∙ (λ i. told_unsent (sym t.4 i) (sym t.3 i) r)

pub told_kind : (o : Option Stretch) (us : List (Unsent Instr)) (k : ℕ) (r : Unsent Instr) (p : Option Op × ℕ) → IsToldAt k o (Some p) → IfSome o (Stands us) → r ≡ get_or us k r → IfSome p.0 (λ a. kind_in r.current ≡ Some a.does)
told_kind None us k r p t st e = let bad : ◌≡◌ {A = Option (Option Op × ℕ)} (Some p) None = t in cc
told_kind (Some s) us k r p t st e =
    let here : r ≡ get_or (drop s.start us) t.0 r = e ∙ ap (λ n. get_or us n r) t.1 ∙ sym (get_or-drop s.start us t.0 r) in
    subst (λ x. IfSome x (λ a. kind_in r.current ≡ Some a.does)) (sym t.3) (holds_at (first_cell s.sample.instrs) s.own s.lane.slots (drop s.start us) t.0 r st.held t.2 here).kind

pub told_out : (o : Option Stretch) (k : ℕ) → IsToldAt k o None → IfSome o (Outside k)
told_out None k t = tt
told_out (Some s) k t = t

-- ---- what holds of a changeset as it was written, of its instruction elsewhere, and of none
module _ (P : List Instr → Type 0) (cell : Option CellPath) (own : ℕ) (u r : Unsent Instr) (none : P []) (same : P r.current) (elsewhere : (a : ListAction) → kind_in r.current ≡ Some (kind_of a) → P (moved_first a r.current)) where
  slot_case : (n : ℕ) (s : Option Op) (v : Unsent Instr) → Holds cell own s v → u ≡ told_unsent n s v → r ≡ v → P u.current
  slot_case n None v h at e = subst P (sym (ap (λ (w : Unsent Instr). w.current) at)) none
  slot_case n (Some a) v h at e =
      let kind = ap (λ (w : Unsent Instr). kind_in w.current) e ∙ h.kind ∙ ap Some (sym (kind_action a.does a.place n)) in
      subst P (ap (λ (w : Unsent Instr). moved_first (action a.does a.place n) w.current) e ∙ sym (ap (λ (w : Unsent Instr). w.current) at)) (elsewhere (action a.does a.place n) kind)

  overlaid_case : (ss : List (Option Op)) (n k : ℕ) (us : List (Unsent Instr)) → AllHold cell own ss us → k < length us → u ≡ get_or (overlaid n ss us) k u → r ≡ get_or us k r → P u.current
  overlaid_case [] n k us h l at e = subst (λ (w : Unsent Instr). P w.current) (sym (at ∙ get_or_default us k u r l ∙ sym e)) same
  overlaid_case (s ∷ ss) n k [] h l at e = absurd h
  overlaid_case (s ∷ ss) n zero (v ∷ us) h l at e = slot_case n s v h.0 at e
  overlaid_case (s ∷ ss) n (suc k) (v ∷ us) h l at e = overlaid_case ss (length_after s n) k us h.1 (omega (arith, l)) at e

  laid_case : (i n : ℕ) (ss : List (Option Op)) (k : ℕ) (us : List (Unsent Instr)) → AllHold cell own ss (drop i us) → k < length us → u ≡ get_or (laid i (record { first = n; slots = ss }) us) k u → r ≡ get_or us k r → P u.current
  laid_case zero n ss k us h l at e = overlaid_case ss n k us h l at e
  laid_case (suc i) n ss k [] h l at e = absurd (omega (arith, l))
  laid_case (suc i) n ss zero (v ∷ us) h l at e = subst (λ (w : Unsent Instr). P w.current) (e ∙ sym at) same
  laid_case (suc i) n ss (suc k) (v ∷ us) h l at e = laid_case i n ss k us h (omega (arith, l)) at e

pub shown_case : (P : List Instr → Type 0) (o : Option Stretch) (us : List (Unsent Instr)) (k : ℕ) (u r : Unsent Instr) → IfSome o (Stands us) → k < length us → u ≡ get_or (shown_by o us) k u → r ≡ get_or us k r
    → P [] → P r.current → ((a : ListAction) → kind_in r.current ≡ Some (kind_of a) → P (moved_first a r.current)) → P u.current
shown_case P None us k u r st l at e none same elsewhere = subst (λ (w : Unsent Instr). P w.current) (sym (at ∙ get_or_default us k u r l ∙ sym e)) same
shown_case P (Some s) us k u r st l at e none same elsewhere = laid_case P (first_cell s.sample.instrs) s.own u r none same elsewhere s.start s.lane.first s.lane.slots k us st.held l at e

-- ---- the index
stands_listed : (us : List (Unsent Instr)) (k : ℕ) (l : List Instr) (r : Unsent Instr) → StandsAt k l (currents us) → r ≡ get_or us k r → StaysListed r.current l
stands_listed [] k l r h e = absurd h
stands_listed (v ∷ us) zero l r h e = subst (StaysListed r.current) (ap (λ (w : Unsent Instr). w.current) e ∙ h) (λ m n x. x)
stands_listed (v ∷ us) (suc k) l r h e = stands_listed us k l r h e

overlaid_listed : (ss : List (Option Op)) (n k : ℕ) (us : List (Unsent Instr)) (l : List Instr) (r : Unsent Instr) → StandsAt k l (currents (overlaid n ss us)) → r ≡ get_or us k r → StaysListed r.current l
overlaid_listed [] n k us l r h e = stands_listed us k l r h e
overlaid_listed (s ∷ ss) n k [] l r h e = absurd h
overlaid_listed (s ∷ ss) n zero (v ∷ us) l r h e = subst (StaysListed r.current) (ap (λ (w : Unsent Instr). told n s w.current) e ∙ h) (told_listed n s r.current)
overlaid_listed (s ∷ ss) n (suc k) (v ∷ us) l r h e = overlaid_listed ss (length_after s n) k us l r h e

laid_listed : (i n : ℕ) (ss : List (Option Op)) (k : ℕ) (us : List (Unsent Instr)) (l : List Instr) (r : Unsent Instr) → StandsAt k l (currents (laid i (record { first = n; slots = ss }) us)) → r ≡ get_or us k r → StaysListed r.current l
laid_listed zero n ss k us l r h e = overlaid_listed ss n k us l r h e
laid_listed (suc i) n ss k [] l r h e = absurd h
laid_listed (suc i) n ss zero (v ∷ us) l r h e = subst (StaysListed r.current) (ap (λ (w : Unsent Instr). w.current) e ∙ h) (λ m n x. x)
laid_listed (suc i) n ss (suc k) (v ∷ us) l r h e = laid_listed i n ss k us l r h e

pub shown_listed : (o : Option Stretch) (us : List (Unsent Instr)) (k : ℕ) (l : List Instr) (r : Unsent Instr) → StandsAt k l (currents (shown_by o us)) → r ≡ get_or us k r → StaysListed r.current l
shown_listed None us k l r h e = stands_listed us k l r h e
shown_listed (Some s) us k l r h e = laid_listed s.start s.lane.first s.lane.slots k us l r h e

-- ---- as they stand
abbrev pub changes_of : Unsent Instr → Changes
changes_of u = record { ms = u.original.ms; instrs = u.current }

pub ok_map : {A E : Type 0} {P Q : A → Type 0} (r : Result A E) → ((a : A) → P a → Q a) → IfOk r P → IfOk r Q
ok_map (Ok a) f h = f a h
ok_map (Err e) f h = tt

pub head_told : (e : Entry) (us : List (Unsent Instr)) (r : Unsent Instr) → 0 < length us → r ≡ get_or us 0 r → (IsEntryOf e r → IsHead e us) × (IsHead e us → IsEntryOf e r)
head_told e [] r l h = absurd (omega (arith, l))
head_told e (u ∷ us) r l h = (subst (IsEntryOf e) h, subst (IsEntryOf e) (sym h))

pub no_head : (e : Entry) (us : List (Unsent Instr)) → length us ≡ 0 → IsHead e us → ⊥
no_head e [] l h = h
no_head e (u ∷ us) l h = omega (arith, l)

pub set_same : (us : List (Unsent Instr)) (r v : Unsent Instr) → r ≡ get_or us 0 r → v ≡ r → set us 0 v ≡ us
set_same [] r v h e = refl
set_same (w ∷ us) r v h e = ap (λ x. x ∷ us) (e ∙ h)

pub stands_same : (o : Option Stretch) (us : List (Unsent Instr)) (r v : Unsent Instr) → r ≡ get_or us 0 r → v ≡ r → IfSome o (Stands us) → IfSome o (Stands (set us 0 v))
stands_same o us r v h e st = subst (λ l. IfSome o (Stands l)) (sym (set_same us r v h e)) st

-- ---- without the first
stands_back : (s t : Stretch) (us : List (Unsent Instr)) → 0 < s.start → t ≡ record s { start = s.start - 1 } → Stands us s → Stands (tail us) t
stands_back s t us l e st = subst (Stands (tail us)) (sym e) (back s.start s.own s.sample s.lane us l st)
  where
    back : (i own : ℕ) (c : Changes) (a : LaneOf) (us : List (Unsent Instr)) → 0 < i → Stands us (record { start = i; own = own; sample = c; lane = a }) → Stands (tail us) (record { start = i - 1; own = own; sample = c; lane = a })
    back zero own c a us l st = absurd (omega (arith, l))
    back (suc i) own c a [] l st = let w = st.within in absurd (omega (arith, w))
    back (suc i) own c a (u ∷ us) l st =
        let n : suc i - 1 ≡ i = omega arith in
        let w = st.within in
        rw n (record { within = omega (arith, w); held = st.held })

shown_back : (s t : Stretch) (us : List (Unsent Instr)) → 0 < s.start → t ≡ record s { start = s.start - 1 } → laid t.start t.lane (tail us) ≡ tail (laid s.start s.lane us)
shown_back s t us l e = ap (λ (x : Stretch). laid x.start x.lane (tail us)) e ∙ back s.start s.lane us l
  where
    back : (i : ℕ) (a : LaneOf) (us : List (Unsent Instr)) → 0 < i → laid (i - 1) a (tail us) ≡ tail (laid i a us)
    back zero a us l = absurd (omega (arith, l))
    back (suc i) a [] l = let n : suc i - 1 ≡ i = omega arith in rw n (laid_nil i a)
      where
        laid_nil : (i : ℕ) (a : LaneOf) → laid i a [] ≡ []
        laid_nil zero a = overlaid_nil a.first a.slots
          where
            overlaid_nil : (n : ℕ) (ss : List (Option Op)) → overlaid n ss [] ≡ []
            overlaid_nil n [] = refl
            overlaid_nil n (s ∷ ss) = refl
        laid_nil (suc i) a = refl
    back (suc i) a (u ∷ us) l = let n : suc i - 1 ≡ i = omega arith in rw n refl

pub dropped_stands : (o p : Option Stretch) (us vs : List (Unsent Instr)) → IfSome o (λ s. 0 < s.start) → StepsBack o p → vs ≡ tail us → IfSome o (Stands us) → IfSome p (Stands vs)
dropped_stands None p us vs l e h st = subst (λ x. IfSome x (Stands vs)) (sym e) tt
dropped_stands (Some s) p us vs l e h st = subst (λ x. IfSome x (Stands vs)) (sym e) (subst (λ x. Stands x (record s { start = s.start - 1 })) (sym h) (stands_back s (record s { start = s.start - 1 }) us l refl st))

pub dropped_shown : (o p : Option Stretch) (us vs : List (Unsent Instr)) → IfSome o (λ s. 0 < s.start) → StepsBack o p → vs ≡ tail us → shown_by p vs ≡ tail (shown_by o us)
dropped_shown None p us vs l e h = (λ i. shown_by (e i) (h i))
dropped_shown (Some s) p us vs l e h = (λ i. shown_by (e i) (h i)) ∙ shown_back s (record s { start = s.start - 1 }) us l refl

pub behind_out : (o : Option Stretch) → IfSome o (λ s. 0 < s.start) → IfSome o (Outside 0)
behind_out None h = tt
behind_out (Some s) h = inl h

pub both_moves : (own origin : ℕ) (u : Unsent Instr) (c : Changes) (r : Option Moves)
    → IfSome r (λ m. (n : ℕ) → cross_sets meet (changeset_of own u) (made_by origin n c) ≡ Ok (changeset_of own (record u { current = moved_first m.left u.current }), made_by origin n (moved_changes m.right c)))
    → IfSome r (λ m. kind_in u.current ≡ Some (kind_of m.left)) → IfSome r (λ m. kind_in c.instrs ≡ Some (kind_of m.right)) → IfSome r (BothMove own u origin c)
both_moves own origin u c None a b d = tt
both_moves own origin u c (Some m) a b d = record { crosses = a; left = b; right = d }
