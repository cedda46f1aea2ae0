-- Lists whose objects all lie at one spot.
use Rattle.std.proofs.Common.{◌≡◌, ℕ, zero, suc, ◌<◌, Bool, true, false, not, nat_eq, List, [], ◌∷◌, ◌++◌, Option, None, Some, length, get_or, refl, sym, ap, ◌∙◌, arith}
use Rattle.std.specs.Option.{option_map, option_eq}
use Rattle.std.proofs.lemmas.Bool.{eqb-true, eq-eqb, not-false}
use Rattle.sync_data.specs.declared.instr.Instr.{Instr}
use Rattle.sync_base.specs.Effects.{ObjectName, effect_of}
use Rattle.sync_base.specs.Objects.{object_of}
use Rattle.sync_index.specs.Touched.{Touched, touches}
use Rattle.sync_index.specs.Filters.{is_marked, spot_of, PassesAll}
use Rattle.sync_index.specs.Spots.{spot_in, AllAt, Misses}
use Rattle.sync_index.proofs.Filtered.{absent}

-- what isn't marked isn't touched
missed : (marks : List Bool) (t : Touched) (spot : ℕ) (o : Option ObjectName) → PassesAll marks t.objects → is_marked marks spot ≡ false → option_map (λ p. spot_of p.1) o ≡ Some spot → touches t o ≡ false
missed marks t spot None all e is = cc
missed marks t spot (Some o) all e is =
    let same : spot_of o.1 ≡ spot = cc in
    absent marks t.objects o all (ap (is_marked marks) same ∙ e)

pub misses_all : (marks : List Bool) (t : Touched) (spot : ℕ) (is : List Instr) → PassesAll marks t.objects → is_marked marks spot ≡ false → AllAt spot is → Misses t is
misses_all marks t spot [] all e h = tt
misses_all marks t spot (i ∷ is) all e h = (missed marks t spot (object_of (effect_of i)) all e h.0, misses_all marks t spot is all e h.1)

pub one_more_at : (spot : ℕ) (is : List Instr) (i : Instr) → AllAt spot is → spot_in i ≡ Some spot → AllAt spot (is ++ i ∷ [])
one_more_at spot [] i h e = (e, tt)
one_more_at spot (j ∷ is) i h e = (h.0, one_more_at spot is i h.1 e)

pub at_place : (spot : ℕ) (is : List Instr) (n : ℕ) (d : Instr) → n < length is → AllAt spot is → spot_in (get_or is n d) ≡ Some spot
at_place spot [] n d h a = absurd (omega arith)
at_place spot (i ∷ is) zero d h a = a.0
at_place spot (i ∷ is) (suc n) d h a = at_place spot is n d (omega arith) a.1

-- ---- one spot beside another
pub is_spot : (o : Option ℕ) (spot : ℕ) → false ≡ not (option_eq nat_eq o (Some spot)) → o ≡ Some spot
is_spot None spot e = cc
is_spot (Some n) spot e = ap Some (eqb-true n spot (not-false (nat_eq n spot) (sym e)))

pub no_spot : (o : Option ℕ) (spot : ℕ) → true ≡ not (option_eq nat_eq o (Some spot)) → ¬ (o ≡ Some spot)
no_spot o spot e is =
    let no : true ≡ false = e ∙ ap (λ p. not (option_eq nat_eq p (Some spot))) is ∙ ap not (eq-eqb spot spot refl) in
    cc
