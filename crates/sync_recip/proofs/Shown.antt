-- Entries as they are shown, where there is a stretch of them or none.
use Rattle.std.specs.Prelude.{IfOk, All, take}
use Rattle.std.proofs.Common.{◌≡◌, inl, inr, ℕ, zero, suc, ◌<◌, ◌≤◌, List, [], ◌∷◌, ◌++◌, Option, Some, None, Result, Ok, Err, IfSome, refl, sym, ap, ◌∙◌, subst, length, drop, set, get_or, map, arith}
use Rattle.std.proofs.lemmas.List.{get_or_default, get_or-drop, length-append, length-set, take-map, drop-map}
use Rattle.std.proofs.lemmas.List.Elements.{All-nil, All-cons, All-head, All-tail}
use Rattle.sync_data.specs.declared.instr.Instr.{Instr}
use Rattle.sync_data.specs.Payload.{Changes}
use Rattle.sync_base.specs.Effects.{CellPath}
use Rattle.sync_recip.specs.declared.kept.Kept.{Kept}
use Rattle.sync_recip.specs.Lists.{kept_entry, lists_in, versions}
use Rattle.sync_rivals.specs.Lists.{StandsAt, StaysListed}
use Rattle.sync_theory.specs.Changesets.{cross_sets}
use Rattle.sync_law.specs.Instrs.{meet}
use Rattle.list_places.specs.Moves.{first_cell, kind_in, kind_of, moved_changes, moved_first}
use Rattle.sync_transform.specs.Sets.{made_by}
use Rattle.list_places.specs.declared.moves.Moves.{Moves}
use Rattle.sync_recip.specs.Acrossing.{BothMove}
use Rattle.list_places.specs.declared.moves.ListAction.{ListAction}
use Rattle.list_lane.specs.Lanes.{length_after, slot_at}
use Rattle.list_lane.specs.Told.{action, told}
use Rattle.sync_recip.specs.Stretches.{instrs_in, told_kept, overlaid, laid, shown_by, Holds, AllHold, Stands, Outside, IsToldAt}
use Rattle.list_lane.specs.declared.op.Op.{Op}
use Rattle.sync_recip.specs.declared.stretch.Stretch.{Stretch}
use Rattle.sync_recip.specs.Carrying.{moved_entry}
use Rattle.sync_recip.proofs.Crossings.{versions_laid}
use Rattle.list_lane.proofs.Acting.{kind_action}
use Rattle.sync_recip.proofs.Listed.{told_listed}
use Rattle.sync_recip.proofs.Laid.{bare, bare_of, laid_bare, length_laid, get_before, get_behind, get_at, set_before, set_behind, holds_before, holds_behind, holds_push, laid_push, drop_push}

abbrev pub currents : List Kept → List (List Instr)
currents us = lists_in (map kept_entry us)

pub length_shown : (o : Option Stretch) (us : List Kept) → length (shown_by o us) ≡ length us
length_shown None us = refl
length_shown (Some s) us = length_laid s.start s.lane us

-- ---- outside of the stretch
out_get : (o : Option Stretch) (us : List Kept) (k : ℕ) (d : Kept) → IfSome o (Outside k) → get_or (shown_by o us) k d ≡ get_or us k d
out_get None us k d h = refl
out_get (Some s) us k d (inl l) = get_before s.start k (overlaid s.lane.first s.lane.slots) us d l
out_get (Some s) us k d (inr l) = get_behind s.start k s.lane us d l

pub plain_at : (o : Option Stretch) (us : List Kept) (k : ℕ) (r : Kept) → IfSome o (Outside k) → r ≡ get_or us k r → r ≡ get_or (shown_by o us) k r
plain_at o us k r h e = e ∙ sym (out_get o us k r h)

pub at_plain : (o : Option Stretch) (us : List Kept) (k : ℕ) (u r : Kept) → IfSome o (Outside k) → k < length us → u ≡ get_or (shown_by o us) k u → r ≡ get_or us k r → u ≡ r
at_plain o us k u r h l at e = at ∙ out_get o us k u h ∙ get_or_default us k u r l ∙ sym e

pub shown_set : (o : Option Stretch) (us : List Kept) (k : ℕ) (v : Kept) → IfSome o (Outside k) → shown_by o (set us k v) ≡ set (shown_by o us) k v
shown_set None us k v h = refl
shown_set (Some s) us k v (inl l) = set_before s.start k (overlaid s.lane.first s.lane.slots) us v l
shown_set (Some s) us k v (inr l) = set_behind s.start k s.lane us v l

held_set : (cell : Option CellPath) (s : Stretch) (us : List Kept) (k : ℕ) (v : Kept) → Outside k s → AllHold cell s.lane.slots (drop s.start us) → AllHold cell s.lane.slots (drop s.start (set us k v))
held_set cell s us k v (inl l) h = holds_before cell s.start k s.lane.slots us v l h
held_set cell s us k v (inr l) h = holds_behind cell s.start k s.lane.slots us v l h

pub stands_set : (o : Option Stretch) (us : List Kept) (k : ℕ) (v : Kept) → IfSome o (Outside k) → IfSome o (Stands us) → IfSome o (Stands (set us k v))
stands_set None us k v h st = tt
stands_set (Some s) us k v h st =
    let size = length-set us k v in
    let within = st.within in
    record { within = omega (arith, size, within); held = held_set (first_cell s.sample.changes.instrs) s us k v h st.held }

-- ---- one more at the end
pushed_stands : (s : Stretch) (us vs : List Kept) → Stands us s → Stands (us ++ vs) s
pushed_stands s us vs st =
    let within = st.within in
    let size = length-append us vs in
    let start : s.start ≤ length us = omega (arith, within) in
    record {
      within = omega (arith, within, size);
      held = subst (AllHold (first_cell s.sample.changes.instrs) s.lane.slots) (sym (drop_push s.start us vs start)) (holds_push (first_cell s.sample.changes.instrs) s.lane.slots (drop s.start us) vs st.held);
    }

pub stands_push : (o : Option Stretch) (us vs : List Kept) (u : Kept) → vs ≡ us ++ u ∷ [] → IfSome o (Stands us) → IfSome o (Stands vs)
stands_push None us vs u e h = tt
stands_push (Some s) us vs u e h = subst (λ l. Stands l s) (sym e) (pushed_stands s us (u ∷ []) h)

pushed_shown : (o : Option Stretch) (us vs : List Kept) → IfSome o (Stands us) → shown_by o (us ++ vs) ≡ shown_by o us ++ vs
pushed_shown None us vs h = refl
pushed_shown (Some s) us vs h = let within = h.within in laid_push (first_cell s.sample.changes.instrs) s.start s.lane us vs (omega (arith, within)) h.held

pub shown_push : (o : Option Stretch) (us vs : List Kept) (u : Kept) → vs ≡ us ++ u ∷ [] → IfSome o (Stands us) → shown_by o vs ≡ shown_by o us ++ u ∷ []
shown_push o us vs u e h = ap (shown_by o) e ∙ pushed_shown o us (u ∷ []) h

-- ---- as they were made
shown_bare : (o : Option Stretch) (us : List Kept) → bare_of (shown_by o us) ≡ bare_of us
shown_bare None us = refl
shown_bare (Some s) us = laid_bare s.start s.lane us

map_get : {A B : Type 0} (f : A → B) (xs : List A) (i : ℕ) (d : A) → get_or (map f xs) i (f d) ≡ f (get_or xs i d)
map_get f [] i d = refl
map_get f (x ∷ xs) zero d = refl
map_get f (x ∷ xs) (suc i) d = map_get f xs i d

pub bare_at : (o : Option Stretch) (us : List Kept) (k : ℕ) (u r : Kept) → k < length us → u ≡ get_or (shown_by o us) k u → r ≡ get_or us k r → bare u ≡ bare r
bare_at o us k u r l at e =
    ap (λ (w : Kept). bare w) at
    ∙ sym (map_get (λ (w : Kept). bare w) (shown_by o us) k u)
    ∙ ap (λ x. get_or x k (bare u)) (shown_bare o us)
    ∙ map_get (λ (w : Kept). bare w) us k u
    ∙ ap (λ (w : Kept). bare w) (get_or_default us k u r l ∙ sym e)

-- ---- a slot of the stretch
holds_at : (cell : Option CellPath) (ss : List (Option Op)) (us : List Kept) (j : ℕ) (r : Kept) → AllHold cell ss us → j < length ss → r ≡ get_or us j r → Holds cell (slot_at j ss) r
holds_at cell [] us j r h l e = absurd (omega (arith, l))
holds_at cell (s ∷ ss) [] j r h l e = absurd h
holds_at cell (s ∷ ss) (u ∷ us) zero r h l e = subst (Holds cell s) (sym e) h.0
holds_at cell (s ∷ ss) (u ∷ us) (suc j) r h l e = holds_at cell ss us j r h.1 (omega (arith, l)) e

pub told_shown : (o : Option Stretch) (us : List Kept) (k : ℕ) (u r : Kept) (p : Option Op × ℕ) → IsToldAt k o (Some p) → k < length us → u ≡ get_or (shown_by o us) k u → r ≡ get_or us k r → u ≡ told_kept p.1 p.0 r
told_shown None us k u r p t l at e = let bad : ◌≡◌ {A = Option (Option Op × ℕ)} (Some p) None = t in cc
told_shown (Some s) us k u r p t l at e = at ∙ get_at s.start t.0 k s.lane us r u t.1 t.2 l e ∙ (λ i. told_kept (sym t.4 i) (sym t.3 i) r)

pub told_kind : (o : Option Stretch) (us : List Kept) (k : ℕ) (r : Kept) (p : Option Op × ℕ) → IsToldAt k o (Some p) → IfSome o (Stands us) → r ≡ get_or us k r → IfSome p.0 (λ a. kind_in (instrs_in r) ≡ Some a.does)
told_kind None us k r p t st e = let bad : ◌≡◌ {A = Option (Option Op × ℕ)} (Some p) None = t in cc
told_kind (Some s) us k r p t st e =
    let here : r ≡ get_or (drop s.start us) t.0 r = e ∙ ap (λ n. get_or us n r) t.1 ∙ sym (get_or-drop s.start us t.0 r) in
    subst (λ x. IfSome x (λ a. kind_in (instrs_in r) ≡ Some a.does)) (sym t.3) (holds_at (first_cell s.sample.changes.instrs) s.lane.slots (drop s.start us) t.0 r st.held t.2 here).kind

pub told_out : (o : Option Stretch) (k : ℕ) → IsToldAt k o None → IfSome o (Outside k)
told_out None k t = tt
told_out (Some s) k t = t

-- ---- what holds of a changeset as it was written, of its instruction elsewhere, and of none
module _ (P : List Instr → Type 0) (cell : Option CellPath) (u r : Kept) (none : P []) (same : P (instrs_in r)) (elsewhere : (a : ListAction) → kind_in (instrs_in r) ≡ Some (kind_of a) → P (moved_first a (instrs_in r))) where
  slot_case : (n : ℕ) (s : Option Op) (v : Kept) → Holds cell s v → u ≡ told_kept n s v → r ≡ v → P (instrs_in u)
  slot_case n None v h at e = subst P (sym (ap (λ (w : Kept). instrs_in w) at)) none
  slot_case n (Some a) v h at e =
      let kind = ap (λ (w : Kept). kind_in (instrs_in w)) e ∙ h.kind ∙ ap Some (sym (kind_action a.does a.place n)) in
      subst P (ap (λ (w : Kept). moved_first (action a.does a.place n) (instrs_in w)) e ∙ sym (ap (λ (w : Kept). instrs_in w) at)) (elsewhere (action a.does a.place n) kind)

  overlaid_case : (ss : List (Option Op)) (n k : ℕ) (us : List Kept) → AllHold cell ss us → k < length us → u ≡ get_or (overlaid n ss us) k u → r ≡ get_or us k r → P (instrs_in u)
  overlaid_case [] n k us h l at e = subst (λ (w : Kept). P (instrs_in w)) (sym (at ∙ get_or_default us k u r l ∙ sym e)) same
  overlaid_case (s ∷ ss) n k [] h l at e = absurd h
  overlaid_case (s ∷ ss) n zero (v ∷ us) h l at e = slot_case n s v h.0 at e
  overlaid_case (s ∷ ss) n (suc k) (v ∷ us) h l at e = overlaid_case ss (length_after s n) k us h.1 (omega (arith, l)) at e

  laid_case : (i n : ℕ) (ss : List (Option Op)) (k : ℕ) (us : List Kept) → AllHold cell ss (drop i us) → k < length us → u ≡ get_or (laid i (record { first = n; slots = ss }) us) k u → r ≡ get_or us k r → P (instrs_in u)
  laid_case zero n ss k us h l at e = overlaid_case ss n k us h l at e
  laid_case (suc i) n ss k [] h l at e = absurd (omega (arith, l))
  laid_case (suc i) n ss zero (v ∷ us) h l at e = subst (λ (w : Kept). P (instrs_in w)) (e ∙ sym at) same
  laid_case (suc i) n ss (suc k) (v ∷ us) h l at e = laid_case i n ss k us h (omega (arith, l)) at e

pub shown_case : (P : List Instr → Type 0) (o : Option Stretch) (us : List Kept) (k : ℕ) (u r : Kept) → IfSome o (Stands us) → k < length us → u ≡ get_or (shown_by o us) k u → r ≡ get_or us k r
    → P [] → P (instrs_in r) → ((a : ListAction) → kind_in (instrs_in r) ≡ Some (kind_of a) → P (moved_first a (instrs_in r))) → P (instrs_in u)
shown_case P None us k u r st l at e none same elsewhere = subst (λ (w : Kept). P (instrs_in w)) (sym (at ∙ get_or_default us k u r l ∙ sym e)) same
shown_case P (Some s) us k u r st l at e none same elsewhere = laid_case P (first_cell s.sample.changes.instrs) u r none same elsewhere s.start s.lane.first s.lane.slots k us st.held l at e

-- ---- the index
stands_listed : (us : List Kept) (k : ℕ) (l : List Instr) (r : Kept) → StandsAt k l (currents us) → r ≡ get_or us k r → StaysListed (instrs_in r) l
stands_listed [] k l r h e = absurd h
stands_listed (v ∷ us) zero l r h e = subst (StaysListed (instrs_in r)) (ap (λ (w : Kept). instrs_in w) e ∙ h) (λ m n x. x)
stands_listed (v ∷ us) (suc k) l r h e = stands_listed us k l r h e

overlaid_listed : (ss : List (Option Op)) (n k : ℕ) (us : List Kept) (l : List Instr) (r : Kept) → StandsAt k l (currents (overlaid n ss us)) → r ≡ get_or us k r → StaysListed (instrs_in r) l
overlaid_listed [] n k us l r h e = stands_listed us k l r h e
overlaid_listed (s ∷ ss) n k [] l r h e = absurd h
overlaid_listed (s ∷ ss) n zero (v ∷ us) l r h e = subst (StaysListed (instrs_in r)) (ap (λ (w : Kept). told n s (instrs_in w)) e ∙ h) (told_listed n s (instrs_in r))
overlaid_listed (s ∷ ss) n (suc k) (v ∷ us) l r h e = overlaid_listed ss (length_after s n) k us l r h e

laid_listed : (i n : ℕ) (ss : List (Option Op)) (k : ℕ) (us : List Kept) (l : List Instr) (r : Kept) → StandsAt k l (currents (laid i (record { first = n; slots = ss }) us)) → r ≡ get_or us k r → StaysListed (instrs_in r) l
laid_listed zero n ss k us l r h e = overlaid_listed ss n k us l r h e
laid_listed (suc i) n ss k [] l r h e = absurd h
laid_listed (suc i) n ss zero (v ∷ us) l r h e = subst (StaysListed (instrs_in r)) (ap (λ (w : Kept). instrs_in w) e ∙ h) (λ m n x. x)
laid_listed (suc i) n ss (suc k) (v ∷ us) l r h e = laid_listed i n ss k us l r h e

pub shown_listed : (o : Option Stretch) (us : List Kept) (k : ℕ) (l : List Instr) (r : Kept) → StandsAt k l (currents (shown_by o us)) → r ≡ get_or us k r → StaysListed (instrs_in r) l
shown_listed None us k l r h e = stands_listed us k l r h e
shown_listed (Some s) us k l r h e = laid_listed s.start s.lane.first s.lane.slots k us l r h e

-- ---- by their versions
pub versions_shown : (o : Option Stretch) (us : List Kept) → versions (shown_by o us) ≡ versions us
versions_shown None us = refl
versions_shown (Some s) us = versions_laid s.start s.lane us

all_versions : (P : ℕ → Type 0) (ks : List Kept) → All (λ k. P k.version) ks → All P (versions ks)
all_versions P [] a = All-nil P
all_versions P (k ∷ ks) a = All-cons P k.version (versions ks) (All-head (λ k. P k.version) k ks a) (all_versions P ks (All-tail (λ k. P k.version) k ks a))

of_versions : (P : ℕ → Type 0) (ks : List Kept) → All P (versions ks) → All (λ k. P k.version) ks
of_versions P [] a = All-nil (λ k. P k.version)
of_versions P (k ∷ ks) a = All-cons (λ k. P k.version) k ks (All-head P k.version (versions ks) a) (of_versions P ks (All-tail P k.version (versions ks) a))

pub taken_shown : (P : ℕ → Type 0) (n : ℕ) (o : Option Stretch) (us : List Kept) → All (λ k. P k.version) (take n us) → All (λ k. P k.version) (take n (shown_by o us))
taken_shown P n o us a =
    of_versions P (take n (shown_by o us))
    (subst (All P) (sym (take-map (λ k. k.version) n us) ∙ ap (take n) (sym (versions_shown o us)) ∙ take-map (λ k. k.version) n (shown_by o us)) (all_versions P (take n us) a))

pub dropped_shown : (P : ℕ → Type 0) (n : ℕ) (o : Option Stretch) (us : List Kept) → All (λ k. P k.version) (drop n us) → All (λ k. P k.version) (drop n (shown_by o us))
dropped_shown P n o us a =
    of_versions P (drop n (shown_by o us))
    (subst (All P) (sym (drop-map (λ k. k.version) n us) ∙ ap (drop n) (sym (versions_shown o us)) ∙ drop-map (λ k. k.version) n (shown_by o us)) (all_versions P (drop n us) a))

-- ---- one that moves
pub both_moves : (own : ℕ) (c : Changes) (u : Kept) (r : Option Moves)
    → IfSome r (λ m. (number : ℕ) → cross_sets meet (made_by own number c) (kept_entry u) ≡ Ok (made_by own number (moved_changes m.left c), moved_entry m.right (kept_entry u)))
    → IfSome r (λ m. kind_in c.instrs ≡ Some (kind_of m.left)) → IfSome r (λ m. kind_in (instrs_in u) ≡ Some (kind_of m.right)) → IfSome r (BothMove own c u)
both_moves own c u None a b d = tt
both_moves own c u (Some m) a b d = record { crosses = a; left = b; right = d }

pub ok_map : {A E : Type 0} {P Q : A → Type 0} (r : Result A E) → ((a : A) → P a → Q a) → IfOk r P → IfOk r Q
ok_map (Ok a) f h = f a h
ok_map (Err e) f h = tt
