-- An action crosses a lane as it crosses the unsent changesets that the lane shows.
use Rattle.std.proofs.Common.{◌≡◌, ℕ, zero, suc, ◌+◌, ◌<◌, ◌≤◌, Bool, true, not, List, [], ◌∷◌, ◌++◌, Option, Some, None, Ok, IfSome, refl, sym, ap, ◌∙◌, subst, length, take, drop, map, arith}
use Rattle.std.proofs.lemmas.List.{take-append-drop}
use Rattle.sync_data.specs.declared.instr.CellName.{CellName}
use Rattle.sync_data.specs.declared.instr.Instr.{Instr}
use Rattle.sync_data.specs.declared.entry.Stamp.{Stamp}
use Rattle.sync_base.specs.Effects.{CellPath, path_of}
use Rattle.sync_base.specs.Rules.{top}
use Rattle.sync_theory.specs.Changesets.{Changeset, cross_sets, later_stamp}
use Rattle.sync_theory.specs.Grid.{rebase}
use Rattle.sync_law.specs.Instrs.{meet}
use Rattle.sync_model.specs.Clients.{Unsent, changeset_of}
use Rattle.list_places.specs.Places.{longer, Within, place_after}
use Rattle.list_places.specs.Moves.{action_in, kind_in, moved_first}
use Rattle.list_places.specs.declared.places.Does.{Does}
use Rattle.list_places.specs.declared.places.Does.TheVariants.{Inserts, Erases, Updates}
use Rattle.list_places.specs.declared.moves.ListAction.{ListAction}
use Rattle.list_places.proofs.Stands.{WithinIf, within_after}
use Rattle.list_lane.specs.Ops.{lane_later, moved}
use Rattle.list_lane.specs.Lanes.{LaneOf, crossed, length_after, length_at_end, lane_after, Chains}
use Rattle.list_lane.specs.Told.{action, prior_in, told, told_set, told_sets, IsTold, AreTold}
use Rattle.list_lane.specs.Laws.{CrossesLeft}
use Rattle.sync_rebase.specs.Acrossing.{left_action}
use Rattle.sync_rebase.specs.Stretches.{told_unsent, overlaid, Holds, AllHold}
use Rattle.list_lane.specs.Actions.{action_there, own_left, other_left, instrs_left}
use Rattle.sync_rebase.specs.Settling.{passed, CanPass}
use Rattle.list_lane.specs.declared.op.Op.{Op}
use Rattle.list_lane.proofs.Chain.{crossed_none}
use Rattle.list_lane.proofs.Acting.{prior_action, after_is, told_action, told_over, one_of}
use Rattle.list_lane.proofs.Lengths.{Lengths, lengths}

-- ---- the lane stands as what it shows
abbrev Passes : ℕ → ℕ → List (Option Op) → ℕ → Op → List (Unsent Instr) → Type 0
Passes own k ss n b us = overlaid (longer b.does n) (crossed (lane_later true) ss (Some b)).slots us ≡ passed own b.stamp k (Some (action b.does b.place n)) (overlaid n ss us)

abbrev was_told : ℕ → Op → Unsent Instr → List Instr
was_told n a u = moved_first (action a.does a.place n) u.current

after_one : (own k n : ℕ) (a b : Op) (ss : List (Option Op)) (u : Unsent Instr) (us : List (Unsent Instr)) → kind_in u.current ≡ Some a.does
    → (x y : Option ℕ) → Lengths a.does b.does n x y → WithinIf b.does (longer a.does n) y
    → ((q : ℕ) → Within b.does q (longer a.does n) → Passes own k ss (longer a.does n) (record b { place = q }) us)
    → overlaid (longer b.does n) (moved a x ∷ (crossed (lane_later true) ss (moved b y)).slots) (u ∷ us)
    ≡ record u { current = instrs_left (action_there a.does (longer b.does n) x) (was_told n a u) } ∷ passed own b.stamp k (action_there b.does (longer a.does n) y) (overlaid (longer a.does n) ss us)
after_one own k n a b ss u us kind (Some p) (Some q) e w ih =
    (λ i. record u { current = sym (told_over u.current a.does a.place n p (longer b.does n) kind) i } ∷ overlaid (e i) (crossed (lane_later true) ss (Some (record b { place = q }))).slots us)
    ∙ ap (λ t. record u { current = moved_first (action a.does p (longer b.does n)) (was_told n a u) } ∷ t) (ih q w)
after_one own k n a b ss u us kind None (Some q) e w ih =
    (λ i. record u { current = [] } ∷ overlaid (sym e i) (crossed (lane_later true) ss (Some (record b { place = q }))).slots us)
    ∙ ap (λ t. record u { current = [] } ∷ t) (ih q w)
after_one own k n a b ss u us kind (Some p) None e w ih =
    λ i. record u { current = sym (told_over u.current a.does a.place n p (longer b.does n) kind) i } ∷ overlaid (e i) (crossed_none (lane_later true) ss i).slots us
after_one own k n a b ss u us kind None None e w ih =
    λ i. record u { current = [] } ∷ overlaid (sym e i) (crossed_none (lane_later true) ss i).slots us

pub lane_passes : (cell : Option CellPath) (own : ℕ) (ss : List (Option Op)) (k n : ℕ) (b : Op) (us : List (Unsent Instr)) → k ≡ length ss → AllHold cell own ss us → Chains n ss → Within b.does b.place n → Passes own k ss n b us
lane_passes cell own [] zero n b us c h ch w = refl
lane_passes cell own [] (suc k) n b us c h ch w = absurd (omega (arith, c))
lane_passes cell own (s ∷ ss) zero n b us c h ch w = absurd (omega (arith, c))
lane_passes cell own (s ∷ ss) (suc k) n b [] c h ch w = absurd h
lane_passes cell own (None ∷ ss) (suc k) n b (u ∷ us) c h ch w = ap (λ t. told_unsent n None u ∷ t) (lane_passes cell own ss k n b us (omega (arith, c)) h.1 ch.1 w)
lane_passes cell own (Some a ∷ ss) (suc k) n b (u ∷ us) c h ch w =
    let la : Bool = lane_later true a.stamp b.stamp in
    let lu : Bool = later_stamp u.original.ms own b.stamp.ms b.stamp.ident in
    let flag : la ≡ lu = ap (λ (t : Stamp). later_stamp t.ms t.ident b.stamp.ms b.stamp.ident) h.0.stamp in
    let acts = told_action u.current a.does a.place n h.0.kind in
    let rest : List (Unsent Instr) = overlaid (longer a.does n) ss us in
    after_one own k n a b ss u us h.0.kind (place_after la a.does a.place b.does b.place) (place_after (not la) b.does b.place a.does a.place)
    (lengths la a.does b.does a.place b.place n ch.0 w) (within_after (not la) b.does a.does b.place a.place n w ch.0)
    (λ q v. lane_passes cell own ss k (longer a.does n) (record b { place = q }) us (omega (arith, c)) h.1 ch.1 v)
    ∙ (λ i. record u { current = instrs_left (sym (after_is la a.does b.does a.place b.place n) i) (was_told n a u) } ∷ passed own b.stamp k (sym (after_is (not la) b.does a.does b.place a.place n) i) rest)
    ∙ (λ i. record u { current = own_left (flag i) (sym acts i) (action b.does b.place n) (was_told n a u) } ∷ passed own b.stamp k (other_left (not (flag i)) (sym acts i) (action b.does b.place n)) rest)

-- ---- and they can meet it
longer_le : (d : Does) (n : ℕ) → longer d n ≤ n + 1
longer_le Inserts n = omega arith
longer_le Erases n = omega arith
longer_le Updates n = omega arith

can_left : (own : ℕ) (s : Stamp) (k : ℕ) (d : Does) (n : ℕ) (us : List (Unsent Instr)) (y : Option ℕ) → WithinIf d n y → ((q : ℕ) → Within d q n → CanPass own s k (Some (action d q n)) us) → CanPass own s k (action_there d n y) us
can_left own s k d n us None w ih = tt
can_left own s k d n us (Some q) w ih = ih q w

pub lane_can_pass : (cell : Option CellPath) (own : ℕ) (ss : List (Option Op)) (k n : ℕ) (b : Op) (us : List (Unsent Instr)) → k ≡ length ss → AllHold cell own ss us → Chains n ss → Within b.does b.place n → n + length ss < top
    → CanPass own b.stamp k (Some (action b.does b.place n)) (overlaid n ss us)
lane_can_pass cell own [] zero n b us c h ch w r = tt
lane_can_pass cell own [] (suc k) n b us c h ch w r = absurd (omega (arith, c))
lane_can_pass cell own (s ∷ ss) zero n b us c h ch w r = absurd (omega (arith, c))
lane_can_pass cell own (s ∷ ss) (suc k) n b [] c h ch w r = absurd h
lane_can_pass cell own (None ∷ ss) (suc k) n b (u ∷ us) c h ch w r =
    let m = prior_action b.does b.place n in
    (record { room = subst (λ p. p < top) (sym m) (omega (arith, r)); sizes = tt }, lane_can_pass cell own ss k n b us (omega (arith, c)) h.1 ch.1 w (omega (arith, r)))
lane_can_pass cell own (Some a ∷ ss) (suc k) n b (u ∷ us) c h ch w r =
    let la : Bool = lane_later true a.stamp b.stamp in
    let lu : Bool = later_stamp u.original.ms own b.stamp.ms b.stamp.ident in
    let flag : la ≡ lu = ap (λ (t : Stamp). later_stamp t.ms t.ident b.stamp.ms b.stamp.ident) h.0.stamp in
    let acts = told_action u.current a.does a.place n h.0.kind in
    let m = prior_action b.does b.place n in
    let more = longer_le a.does n in (
      record {
        room = subst (λ p. p < top) (sym m) (omega (arith, r));
        sizes = subst (λ o. IfSome o (λ x. prior_in x ≡ prior_in (action b.does b.place n))) (sym acts) (prior_action a.does a.place n ∙ sym m);
      },
      subst (λ o. CanPass own b.stamp k o (overlaid (longer a.does n) ss us)) (sym (after_is (not la) b.does a.does b.place a.place n) ∙ (λ i. other_left (not (flag i)) (sym acts i) (action b.does b.place n)))
          (can_left own b.stamp k b.does (longer a.does n) (overlaid (longer a.does n) ss us) (place_after (not la) b.does b.place a.does a.place) (within_after (not la) b.does a.does b.place a.place n w ch.0)
          (λ q v. lane_can_pass cell own ss k (longer a.does n) (record b { place = q }) us (omega (arith, c)) h.1 ch.1 v (omega (arith, r, more)))),
    )

-- ---- so many of them
pub overlaid_take : (ss : List (Option Op)) (k n : ℕ) (us : List (Unsent Instr)) → k ≡ length ss → take k (overlaid n ss us) ≡ overlaid n ss (take k us)
overlaid_take [] zero n us c = refl
overlaid_take [] (suc k) n us c = absurd (omega (arith, c))
overlaid_take (s ∷ ss) zero n us c = absurd (omega (arith, c))
overlaid_take (s ∷ ss) (suc k) n [] c = refl
overlaid_take (s ∷ ss) (suc k) n (u ∷ us) c = ap (λ t. told_unsent n s u ∷ t) (overlaid_take ss k (length_after s n) us (omega (arith, c)))

pub passed_split : (own : ℕ) (s : Stamp) (k : ℕ) (b : Option ListAction) (us : List (Unsent Instr)) → passed own s k b us ≡ passed own s k b (take k us) ++ drop k us
passed_split own s k None us = sym (take-append-drop k us)
passed_split own s zero (Some b) us = refl
passed_split own s (suc k) (Some b) [] = refl
passed_split own s (suc k) (Some b) (u ∷ us) =
    ap (λ t. record u { current = own_left (later_stamp u.original.ms own s.ms s.ident) (action_in u.current) b u.current } ∷ t)
    (passed_split own s k (other_left (not (later_stamp u.original.ms own s.ms s.ident)) (action_in u.current) b) us)

holds_take : (cell : Option CellPath) (own : ℕ) (ss : List (Option Op)) (k : ℕ) (us : List (Unsent Instr)) → k ≡ length ss → AllHold cell own ss us → AllHold cell own ss (take k us)
holds_take cell own [] k us c h = tt
holds_take cell own (s ∷ ss) zero us c h = absurd (omega (arith, c))
holds_take cell own (s ∷ ss) (suc k) [] c h = absurd h
holds_take cell own (s ∷ ss) (suc k) (u ∷ us) c h = (h.0, holds_take cell own ss k us (omega (arith, c)) h.1)

-- ---- the law of lanes
shown_sets : (own : ℕ) (ss : List (Option Op)) (n : ℕ) (us : List (Unsent Instr)) → map (changeset_of own) (overlaid n ss us) ≡ told_sets n ss (map (changeset_of own) us)
shown_sets own [] n [] = refl
shown_sets own [] n (u ∷ us) = refl
shown_sets own (s ∷ ss) n [] = refl
shown_sets own (s ∷ ss) n (u ∷ us) = ap (λ t. told_set n s (changeset_of own u) ∷ t) (shown_sets own ss (length_after s n) us)

told_one : (own : ℕ) (c : CellName) (s : Option Op) (u : Unsent Instr) → Holds (Some (path_of c)) own s u → IsTold c s (changeset_of own u)
told_one own c None u h = tt
told_one own c (Some a) u h = (sym h.stamp, one_of u.current c a.does h.cell_is h.kind)

are_told : (own : ℕ) (c : CellName) (ss : List (Option Op)) (k : ℕ) (us : List (Unsent Instr)) → k ≡ length ss → AllHold (Some (path_of c)) own ss us → AreTold c ss (map (changeset_of own) (take k us))
are_told own c [] zero us e h = tt
are_told own c [] (suc k) us e h = absurd (omega (arith, e))
are_told own c (s ∷ ss) zero us e h = absurd (omega (arith, e))
are_told own c (s ∷ ss) (suc k) [] e h = absurd h
are_told own c (s ∷ ss) (suc k) (u ∷ us) e h = (told_one own c s u h.0, are_told own c ss k us (omega (arith, e)) h.1)

told_left : (n : ℕ) (s : Option Op) (is : List Instr) → told n s is ≡ instrs_left (left_action n s) is
told_left n None is = refl
told_left n (Some b) is = refl

-- what a lane shows is rebased over an action as they are
pub lane_rebases : (own : ℕ) (c : CellName) (a : LaneOf) (k : ℕ) (b : Op) (left : Option Op) (raw : List (Unsent Instr)) (e : Changeset Instr)
    → k ≡ length a.slots → AllHold (Some (path_of c)) own a.slots raw → Chains a.first a.slots → Within b.does b.place a.first
    → CrossesLeft a b left (lane_after (lane_later true) a b) → IsTold c (Some b) e → moved_first (action b.does b.place a.first) e.instrs ≡ e.instrs
    → rebase (cross_sets meet) (map (changeset_of own) (take k (overlaid a.first a.slots raw))) e
    ≡ Ok (map (changeset_of own) (passed own b.stamp k (Some (action b.does b.place a.first)) (take k (overlaid a.first a.slots raw))), record e { instrs = instrs_left (left_action (length_at_end a.first a.slots) left) e.instrs })
lane_rebases own c a k b left raw e size held chains within law told_e itself =
    let part : List (Unsent Instr) = take k raw in
    let shown = overlaid_take a.slots k a.first raw size in
    let after : LaneOf = lane_after (lane_later true) a b in
    (λ i. rebase (cross_sets meet) (map (changeset_of own) (shown i)) (record e { instrs = sym itself i }))
    ∙ ap (λ t. rebase (cross_sets meet) t (told_set a.first (Some b) e)) (shown_sets own a.slots a.first part)
    ∙ law c (map (changeset_of own) part) e (are_told own c a.slots k raw size held) told_e
    ∙ (λ i. Ok (sym (shown_sets own after.slots after.first part) i, record e { instrs = told_left (length_at_end a.first a.slots) left e.instrs i }))
    ∙ (λ i. Ok (map (changeset_of own) (lane_passes (Some (path_of c)) own a.slots k a.first b part size (holds_take (Some (path_of c)) own a.slots k raw size held) chains within i), record e { instrs = instrs_left (left_action (length_at_end a.first a.slots) left) e.instrs }))
    ∙ (λ i. Ok (map (changeset_of own) (passed own b.stamp k (Some (action b.does b.place a.first)) (sym shown i)), record e { instrs = instrs_left (left_action (length_at_end a.first a.slots) left) e.instrs }))
