-- An action crosses a lane as it crosses the entries that the lane shows.
use Rattle.std.proofs.Common.{◌≡◌, ℕ, zero, suc, ◌+◌, ◌<◌, ◌≤◌, Bool, false, not, List, [], ◌∷◌, ◌++◌, Option, Some, None, Ok, IfSome, refl, sym, ap, ◌∙◌, subst, length, take, drop, map, arith}
use Rattle.std.proofs.lemmas.List.{take-append-drop, take-map}
use Rattle.sync_data.specs.declared.instr.CellName.{CellName}
use Rattle.sync_data.specs.declared.instr.Instr.{Instr}
use Rattle.sync_data.specs.declared.entry.Stamp.{Stamp}
use Rattle.sync_base.specs.Effects.{CellPath, path_of}
use Rattle.sync_base.specs.Rules.{top}
use Rattle.sync_theory.specs.Changesets.{Changeset, cross_sets, later_stamp}
use Rattle.sync_theory.specs.Grid.{carry}
use Rattle.sync_law.specs.Instrs.{meet}
use Rattle.sync_recip.specs.declared.kept.Kept.{Kept}
use Rattle.sync_recip.specs.Lists.{kept_entry}
use Rattle.list_lane.proofs.Chain.{crossed_none, not_not}
use Rattle.list_places.specs.Places.{longer, Within, place_after}
use Rattle.list_places.specs.Moves.{action_in, kind_in, moved_first}
use Rattle.list_places.specs.declared.places.Does.{Does}
use Rattle.list_places.specs.declared.places.Does.TheVariants.{Inserts, Erases, Updates}
use Rattle.list_places.specs.declared.moves.ListAction.{ListAction}
use Rattle.list_places.proofs.Stands.{WithinIf, within_after}
use Rattle.list_lane.specs.Ops.{lane_later, moved}
use Rattle.list_lane.specs.Lanes.{LaneOf, crossed, length_after, length_at_end, lane_after, Chains}
use Rattle.list_lane.specs.Told.{action, prior_in, told, told_set, told_sets, IsTold, AreTold}
use Rattle.list_lane.specs.Laws.{CrossesRight}
use Rattle.sync_recip.specs.Acrossing.{left_action}
use Rattle.sync_recip.specs.Stretches.{instrs_in, told_kept, overlaid, Holds, AllHold}
use Rattle.list_lane.specs.Actions.{action_there, own_left, other_left, instrs_left}
use Rattle.sync_recip.specs.Passing.{change_later, passed, CanPass}
use Rattle.list_lane.specs.declared.op.Op.{Op}
use Rattle.list_lane.proofs.Acting.{prior_action, after_is, told_action, told_over, one_of}
use Rattle.list_lane.proofs.Lengths.{Lengths, lengths}

-- ---- the lane stands as what it shows
abbrev Passes : ℕ → List (Option Op) → ℕ → Op → List Kept → Type 0
Passes k ss n b us = map kept_entry (overlaid (longer b.does n) (crossed (lane_later false) ss (Some b)).slots us) ≡ passed b.stamp k (Some (action b.does b.place n)) (map kept_entry (overlaid n ss us))

abbrev was_told : ℕ → Op → Kept → List Instr
was_told n a u = moved_first (action a.does a.place n) (instrs_in u)

-- an entry with these instructions
abbrev with_set : Kept → List Instr → Changeset Instr
with_set u is = record (kept_entry u) { instrs = is }

after_one : (k n : ℕ) (a b : Op) (ss : List (Option Op)) (u : Kept) (us : List Kept) → kind_in (instrs_in u) ≡ Some a.does
    → (x y : Option ℕ) → Lengths a.does b.does n x y → WithinIf b.does (longer a.does n) y
    → ((q : ℕ) → Within b.does q (longer a.does n) → Passes k ss (longer a.does n) (record b { place = q }) us)
    → map kept_entry (overlaid (longer b.does n) (moved a x ∷ (crossed (lane_later false) ss (moved b y)).slots) (u ∷ us))
    ≡ with_set u (instrs_left (action_there a.does (longer b.does n) x) (was_told n a u)) ∷ passed b.stamp k (action_there b.does (longer a.does n) y) (map kept_entry (overlaid (longer a.does n) ss us))
after_one k n a b ss u us kind (Some p) (Some q) e w ih =
    (λ i. with_set u (sym (told_over (instrs_in u) a.does a.place n p (longer b.does n) kind) i) ∷ map kept_entry (overlaid (e i) (crossed (lane_later false) ss (Some (record b { place = q }))).slots us))
    ∙ ap (λ t. with_set u (moved_first (action a.does p (longer b.does n)) (was_told n a u)) ∷ t) (ih q w)
after_one k n a b ss u us kind None (Some q) e w ih =
    (λ i. with_set u [] ∷ map kept_entry (overlaid (sym e i) (crossed (lane_later false) ss (Some (record b { place = q }))).slots us))
    ∙ ap (λ t. with_set u [] ∷ t) (ih q w)
after_one k n a b ss u us kind (Some p) None e w ih =
    λ i. with_set u (sym (told_over (instrs_in u) a.does a.place n p (longer b.does n) kind) i) ∷ map kept_entry (overlaid (e i) (crossed_none (lane_later false) ss i).slots us)
after_one k n a b ss u us kind None None e w ih =
    λ i. with_set u [] ∷ map kept_entry (overlaid (sym e i) (crossed_none (lane_later false) ss i).slots us)

pub lane_passes : (cell : Option CellPath) (ss : List (Option Op)) (k n : ℕ) (b : Op) (us : List Kept) → k ≡ length ss → AllHold cell ss us → Chains n ss → Within b.does b.place n → Passes k ss n b us
lane_passes cell [] zero n b us c h ch w = refl
lane_passes cell [] (suc k) n b us c h ch w = absurd (omega (arith, c))
lane_passes cell (s ∷ ss) zero n b us c h ch w = absurd (omega (arith, c))
lane_passes cell (s ∷ ss) (suc k) n b [] c h ch w = absurd h
lane_passes cell (None ∷ ss) (suc k) n b (u ∷ us) c h ch w = ap (λ t. with_set u [] ∷ t) (lane_passes cell ss k n b us (omega (arith, c)) h.1 ch.1 w)
lane_passes cell (Some a ∷ ss) (suc k) n b (u ∷ us) c h ch w =
    let la : Bool = lane_later false a.stamp b.stamp in
    let lu : Bool = change_later b.stamp (kept_entry u) in
    let flag : la ≡ not lu = ap (λ (t : Stamp). not (later_stamp b.stamp.ms b.stamp.ident t.ms t.ident)) h.0.stamp in
    let turned : not la ≡ lu = ap not flag ∙ not_not lu in
    let acts = told_action (instrs_in u) a.does a.place n h.0.kind in
    let rest : List (Changeset Instr) = map kept_entry (overlaid (longer a.does n) ss us) in
    after_one k n a b ss u us h.0.kind (place_after la a.does a.place b.does b.place) (place_after (not la) b.does b.place a.does a.place)
    (lengths la a.does b.does a.place b.place n ch.0 w) (within_after (not la) b.does a.does b.place a.place n w ch.0)
    (λ q v. lane_passes cell ss k (longer a.does n) (record b { place = q }) us (omega (arith, c)) h.1 ch.1 v)
    ∙ (λ i. with_set u (instrs_left (sym (after_is la a.does b.does a.place b.place n) i) (was_told n a u)) ∷ passed b.stamp k (sym (after_is (not la) b.does a.does b.place a.place n) i) rest)
    ∙ (λ i. with_set u (own_left (flag i) (sym acts i) (action b.does b.place n) (was_told n a u)) ∷ passed b.stamp k (other_left (turned i) (sym acts i) (action b.does b.place n)) rest)

-- ---- and they can meet it
longer_le : (d : Does) (n : ℕ) → longer d n ≤ n + 1
longer_le Inserts n = omega arith
longer_le Erases n = omega arith
longer_le Updates n = omega arith

can_left : (s : Stamp) (k : ℕ) (d : Does) (n : ℕ) (es : List (Changeset Instr)) (y : Option ℕ) → WithinIf d n y → ((q : ℕ) → Within d q n → CanPass s k (Some (action d q n)) es) → CanPass s k (action_there d n y) es
can_left s k d n es None w ih = tt
can_left s k d n es (Some q) w ih = ih q w

pub lane_can_pass : (cell : Option CellPath) (ss : List (Option Op)) (k n : ℕ) (b : Op) (us : List Kept) → k ≡ length ss → AllHold cell ss us → Chains n ss → Within b.does b.place n → n + length ss < top
    → CanPass b.stamp k (Some (action b.does b.place n)) (map kept_entry (overlaid n ss us))
lane_can_pass cell [] zero n b us c h ch w r = tt
lane_can_pass cell [] (suc k) n b us c h ch w r = absurd (omega (arith, c))
lane_can_pass cell (s ∷ ss) zero n b us c h ch w r = absurd (omega (arith, c))
lane_can_pass cell (s ∷ ss) (suc k) n b [] c h ch w r = absurd h
lane_can_pass cell (None ∷ ss) (suc k) n b (u ∷ us) c h ch w r =
    let m = prior_action b.does b.place n in
    (record { room = subst (λ p. p < top) (sym m) (omega (arith, r)); sizes = tt }, lane_can_pass cell ss k n b us (omega (arith, c)) h.1 ch.1 w (omega (arith, r)))
lane_can_pass cell (Some a ∷ ss) (suc k) n b (u ∷ us) c h ch w r =
    let la : Bool = lane_later false a.stamp b.stamp in
    let lu : Bool = change_later b.stamp (kept_entry u) in
    let flag : la ≡ not lu = ap (λ (t : Stamp). not (later_stamp b.stamp.ms b.stamp.ident t.ms t.ident)) h.0.stamp in
    let turned : not la ≡ lu = ap not flag ∙ not_not lu in
    let acts = told_action (instrs_in u) a.does a.place n h.0.kind in
    let m = prior_action b.does b.place n in
    let more = longer_le a.does n in
    let rest : List (Changeset Instr) = map kept_entry (overlaid (longer a.does n) ss us) in (
      record {
        room = subst (λ p. p < top) (sym m) (omega (arith, r));
        sizes = subst (λ o. IfSome o (λ x. prior_in x ≡ prior_in (action b.does b.place n))) (sym acts) (prior_action a.does a.place n ∙ sym m);
      },
      subst (λ o. CanPass b.stamp k o rest) (sym (after_is (not la) b.does a.does b.place a.place n) ∙ (λ i. other_left (turned i) (sym acts i) (action b.does b.place n)))
          (can_left b.stamp k b.does (longer a.does n) rest (place_after (not la) b.does b.place a.does a.place) (within_after (not la) b.does a.does b.place a.place n w ch.0)
          (λ q v. lane_can_pass cell ss k (longer a.does n) (record b { place = q }) us (omega (arith, c)) h.1 ch.1 v (omega (arith, r, more)))),
    )

-- ---- so many of them
pub overlaid_take : (ss : List (Option Op)) (k n : ℕ) (us : List Kept) → k ≡ length ss → take k (overlaid n ss us) ≡ overlaid n ss (take k us)
overlaid_take [] zero n us c = refl
overlaid_take [] (suc k) n us c = absurd (omega (arith, c))
overlaid_take (s ∷ ss) zero n us c = absurd (omega (arith, c))
overlaid_take (s ∷ ss) (suc k) n [] c = refl
overlaid_take (s ∷ ss) (suc k) n (u ∷ us) c = ap (λ t. told_kept n s u ∷ t) (overlaid_take ss k (length_after s n) us (omega (arith, c)))

pub passed_split : (s : Stamp) (k : ℕ) (b : Option ListAction) (es : List (Changeset Instr)) → passed s k b es ≡ passed s k b (take k es) ++ drop k es
passed_split s k None es = sym (take-append-drop k es)
passed_split s zero (Some b) es = refl
passed_split s (suc k) (Some b) [] = refl
passed_split s (suc k) (Some b) (e ∷ es) =
    ap (λ t. record e { instrs = own_left (not (change_later s e)) (action_in e.instrs) b e.instrs } ∷ t)
    (passed_split s k (other_left (change_later s e) (action_in e.instrs) b) es)

holds_take : (cell : Option CellPath) (ss : List (Option Op)) (k : ℕ) (us : List Kept) → k ≡ length ss → AllHold cell ss us → AllHold cell ss (take k us)
holds_take cell [] k us c h = tt
holds_take cell (s ∷ ss) zero us c h = absurd (omega (arith, c))
holds_take cell (s ∷ ss) (suc k) [] c h = absurd h
holds_take cell (s ∷ ss) (suc k) (u ∷ us) c h = (h.0, holds_take cell ss k us (omega (arith, c)) h.1)

-- ---- the law of lanes
pub shown_sets : (ss : List (Option Op)) (n : ℕ) (us : List Kept) → map kept_entry (overlaid n ss us) ≡ told_sets n ss (map kept_entry us)
shown_sets [] n [] = refl
shown_sets [] n (u ∷ us) = refl
shown_sets (s ∷ ss) n [] = refl
shown_sets (s ∷ ss) n (u ∷ us) = ap (λ t. told_set n s (kept_entry u) ∷ t) (shown_sets ss (length_after s n) us)

told_one : (c : CellName) (s : Option Op) (u : Kept) → Holds (Some (path_of c)) s u → IsTold c s (kept_entry u)
told_one c None u h = tt
told_one c (Some a) u h = (sym h.stamp, one_of (instrs_in u) c a.does h.cell_is h.kind)

are_told : (c : CellName) (ss : List (Option Op)) (k : ℕ) (us : List Kept) → k ≡ length ss → AllHold (Some (path_of c)) ss us → AreTold c ss (map kept_entry (take k us))
are_told c [] zero us e h = tt
are_told c [] (suc k) us e h = absurd (omega (arith, e))
are_told c (s ∷ ss) zero us e h = absurd (omega (arith, e))
are_told c (s ∷ ss) (suc k) [] e h = absurd h
are_told c (s ∷ ss) (suc k) (u ∷ us) e h = (told_one c s u h.0, are_told c ss k us (omega (arith, e)) h.1)

told_left : (n : ℕ) (s : Option Op) (is : List Instr) → told n s is ≡ instrs_left (left_action n s) is
told_left n None is = refl
told_left n (Some b) is = refl

-- an action is carried over what a lane shows as over the entries
pub lane_carries : (c : CellName) (a : LaneOf) (k : ℕ) (b : Op) (left : Option Op) (raw : List Kept) (e : Changeset Instr)
    → k ≡ length a.slots → AllHold (Some (path_of c)) a.slots raw → Chains a.first a.slots → Within b.does b.place a.first
    → CrossesRight a b left (lane_after (lane_later false) a b) → IsTold c (Some b) e → moved_first (action b.does b.place a.first) e.instrs ≡ e.instrs
    → carry (cross_sets meet) e (take k (map kept_entry (overlaid a.first a.slots raw)))
    ≡ Ok (record e { instrs = instrs_left (left_action (length_at_end a.first a.slots) left) e.instrs }, passed b.stamp k (Some (action b.does b.place a.first)) (take k (map kept_entry (overlaid a.first a.slots raw))))
lane_carries c a k b left raw e size held chains within law told_e itself =
    let part : List Kept = take k raw in
    let shown = take-map kept_entry k (overlaid a.first a.slots raw) ∙ ap (map kept_entry) (overlaid_take a.slots k a.first raw size) in
    let after : LaneOf = lane_after (lane_later false) a b in
    (λ i. carry (cross_sets meet) (record e { instrs = sym itself i }) (shown i))
    ∙ ap (λ t. carry (cross_sets meet) (told_set a.first (Some b) e) t) (shown_sets a.slots a.first part)
    ∙ law c (map kept_entry part) e (are_told c a.slots k raw size held) told_e
    ∙ (λ i. Ok (record e { instrs = told_left (length_at_end a.first a.slots) left e.instrs i }, sym (shown_sets after.slots after.first part) i))
    ∙ (λ i. Ok (record e { instrs = instrs_left (left_action (length_at_end a.first a.slots) left) e.instrs }, lane_passes (Some (path_of c)) a.slots k a.first b part size (holds_take (Some (path_of c)) a.slots k raw size held) chains within i))
    ∙ (λ i. Ok (record e { instrs = instrs_left (left_action (length_at_end a.first a.slots) left) e.instrs }, passed b.stamp k (Some (action b.does b.place a.first)) (sym shown i)))
