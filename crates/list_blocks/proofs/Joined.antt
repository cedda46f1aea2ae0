-- Carrying a changeset over changesets of one stamp is crossing all their instructions, one list after another.
use Rattle.std.proofs.Common.{◌≡◌, ℕ, Bool, List, [], ◌∷◌, ◌++◌, Option, Result, Ok, Err, refl, sym, ap, ◌∙◌, subst}
use Rattle.sync_theory.specs.Lists.{cross, Crossing, no_left, no_right, one, beside, below}
use Rattle.sync_theory.specs.Changesets.{Changeset, cross_sets, with_lists, later_stamp}
use Rattle.sync_theory.specs.Grid.{carry, carry_one, carry_put}
use Rattle.sync_theory.proofs.Cross.{cross_of}
use Rattle.list_blocks.specs.Blocks.{all_instrs}

ok_is : {A E : Type 0} {x y : A} → ◌≡◌ {A = Result A E} (Ok x) (Ok y) → x ≡ y
ok_is e = cc

-- each has that stamp
abbrev pub Stamped : {I : Type 0} → (ms ident : ℕ) → List (Changeset I) → Type 0
Stamped ms ident [] = Unit {0}
Stamped ms ident (p ∷ ps) = (p.ms ≡ ms) × (p.origin ≡ ident) × Stamped ms ident ps

module _ {I M : Type 0} (meet : I → I → Bool → Result (Option I × Option I) M) (ms ident : ℕ) where
  -- all of them cross, as the changeset is later than them or not
  abbrev All : Changeset I → List (Changeset I) → Changeset I → List (Changeset I) → Type 0
  All e ps f qs = Crossing (λ x y. meet x y (later_stamp e.ms e.origin ms ident)) e.instrs (all_instrs ps) f.instrs (all_instrs qs)

  abbrev Goes : List (Changeset I) → Type 0
  Goes ps = (e f : Changeset I) (qs : List (Changeset I)) → carry (cross_sets meet) e ps ≡ Ok (f, qs) → All e ps f qs

  with_rest : (e p : Changeset I) (ps : List (Changeset I)) (as_ bs : List I) (f : Changeset I) (qs : List (Changeset I)) → Goes ps
      → Crossing (λ x y. meet x y (later_stamp e.ms e.origin ms ident)) e.instrs p.instrs as_ bs
      → (r : Result (Changeset I × List (Changeset I)) (ℕ × ℕ × M)) → carry (cross_sets meet) (record e { instrs = as_ }) ps ≡ r → carry_put (record p { instrs = bs }) r ≡ Ok (f, qs) → All e (p ∷ ps) f qs
  with_rest e p ps as_ bs f qs go here (Err m) c h = cc
  with_rest e p ps as_ bs f qs go here (Ok z) c h =
      let rest = beside here (go (record e { instrs = as_ }) z.0 z.1 c) in
      let same = ok_is h in
      subst (λ (w : Changeset I × List (Changeset I)). All e (p ∷ ps) w.0 w.1) same rest

  with_first : (e p : Changeset I) (ps : List (Changeset I)) (f : Changeset I) (qs : List (Changeset I)) → Goes ps
      → (r : Result (List I × List I) (ℕ × ℕ × M)) → cross (λ x y. meet x y (later_stamp e.ms e.origin ms ident)) e.instrs p.instrs ≡ r
      → carry_one (with_lists e p r) (λ y. carry (cross_sets meet) y ps) ≡ Ok (f, qs) → All e (p ∷ ps) f qs
  with_first e p ps f qs go (Err m) c h = cc
  with_first e p ps f qs go (Ok q) c h = with_rest e p ps q.0 q.1 f qs go (cross_of (λ x y. meet x y (later_stamp e.ms e.origin ms ident)) c) (carry (cross_sets meet) (record e { instrs = q.0 }) ps) refl h

  pub all_cross : (ps : List (Changeset I)) → Stamped ms ident ps → Goes ps
  all_cross [] s e f qs h =
      subst (λ (w : Changeset I × List (Changeset I)). All e [] w.0 w.1) (ok_is h) no_right
  all_cross (p ∷ ps) s e f qs h =
      with_first e p ps f qs (all_cross ps s.2) (cross (λ x y. meet x y (later_stamp e.ms e.origin p.ms p.origin)) e.instrs p.instrs)
      (λ i. cross (λ x y. meet x y (later_stamp e.ms e.origin (sym s.0 i) (sym s.1 i))) e.instrs p.instrs) h
