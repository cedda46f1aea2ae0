-- What an index knows of a list it knows of what is left of it on the left side.
use Rattle.std.proofs.Common.{◌≡◌, Bool, true, List, ◌++◌, Option, Some, None, Result, Ok, Err, IfOk, refl, ap, ◌∙◌, subst}
use Rattle.sync_data.specs.declared.instr.Instr.{Instr}
use Rattle.sync_base.specs.declared.answers.Mismatch.{Mismatch}
use Rattle.sync_base.specs.declared.answers.Outcome.{Outcome}
use Rattle.sync_base.specs.Effects.{ObjectName, effect_of}
use Rattle.sync_base.specs.Objects.{object_of, IsAbout}
use Rattle.sync_base.specs.Rules.{meeting}
use Rattle.sync_base.specs.Lemmas.Objects.{objects_stay}
use Rattle.sync_theory.specs.Lists.{kept}
use Rattle.sync_theory.specs.Changesets.{Changeset, with_lists, cross_sets, is_later}
use Rattle.sync_theory.proofs.Lists.{Row, gone, end, next, Rows, done, more}
use Rattle.sync_theory.proofs.Cross.{rows_of}
use Rattle.sync_theory.proofs.Recip.{ok_first, ok_second}
use Rattle.sync_law.specs.Instrs.{meet}
use Rattle.sync_index.specs.Touched.{Touched, touches, may_touch, Covers}
use Rattle.sync_transform.proofs.Covered.{sides}

-- what passes a row is about its object
row_about : (later : Bool) (o : Option ObjectName) {x z : Option Instr} {bs cs : List Instr} → Row (λ a b. meet a b later) x bs z cs → IsAbout o x → IsAbout o z
row_about later o gone h = h
row_about later o end h = h
row_about later o (next {a = a} {b = b} {x = x} {y = y} m r) h =
    row_about later o r (subst (λ p. IsAbout p x) h (sides (λ l q. IsAbout (object_of (effect_of a)) l) (meeting a b later) x y m (left_of (meeting a b later) (objects_stay a b later))))
  where
    left_of : (s : Result Outcome Mismatch) → IfOk s (λ p. IsAbout (object_of (effect_of a)) p.left × IsAbout (object_of (effect_of b)) p.right) → IfOk s (λ p. IsAbout (object_of (effect_of a)) p.left)
    left_of (Ok p) g = g.0
    left_of (Err e) g = tt

front_covered : (t : Touched) (a : Instr) (x : Option Instr) (cs : List Instr) → IsAbout (object_of (effect_of a)) x → may_touch t a ≡ true → Covers t cs → Covers t (kept x ++ cs)
front_covered t a None cs h e c = c
front_covered t a (Some i) cs h e c = (ap (touches t) h ∙ e, c)

rows_covered : (later : Bool) (t : Touched) {as_ bs cs ds : List Instr} → Rows (λ a b. meet a b later) as_ bs cs ds → Covers t as_ → Covers t cs
rows_covered later t done c = c
rows_covered later t (more {a = a} {as1 = as1} {x = x} r q) c = front_covered t a x as1 (row_about later (object_of (effect_of a)) r refl) c.0 (rows_covered later t q c.1)

-- the lists of changesets that crossed
lists_of : {M : Type 0} (a b x y : Changeset Instr) (r : Result (List Instr × List Instr) M) → with_lists a b r ≡ Ok (x, y) → r ≡ Ok (x.instrs, y.instrs)
lists_of a b x y (Err m) e = cc
lists_of a b x y (Ok p) e =
    let first = ap (λ (c : Changeset Instr). c.instrs) (ok_first (record a { instrs = p.0 }, record b { instrs = p.1 }) x y e) in
    let second = ap (λ (c : Changeset Instr). c.instrs) (ok_second (record a { instrs = p.0 }, record b { instrs = p.1 }) x y e) in
    λ i. Ok (first i, second i)

pub left_covered : (t : Touched) (a b x y : Changeset Instr) → cross_sets meet a b ≡ Ok (x, y) → Covers t a.instrs → Covers t x.instrs
left_covered t a b x y e c = rows_covered (is_later a b) t (rows_of (λ p q. meet p q (is_later a b)) {as_ = a.instrs} {cs = x.instrs} {bs = b.instrs} {ds = y.instrs} (lists_of a b x y _ e)) c
