-- What no mark names, from a place on, crosses as it is.
use Rattle.std.specs.List.{All}
use Rattle.std.proofs.Common.{◌≡◌, ◌≤◌, ◌<◌, ◌+◌, ℕ, List, [], Option, refl, sym, subst, arith}
use Rattle.sync_data.specs.declared.instr.Instr.{Instr}
use Rattle.sync_rivals.specs.Marks.{Knows, IsReached, Reaches}
use Rattle.sync_rivals.specs.Lists.{Indexed, Lists, Pass}
use Rattle.sync_rivals.specs.Lemmas.Skips.{skip_left, skip_right, unnamed, nothing_right}
use Rattle.sync_rivals.proofs.Listed.{listed_at}

pub nothing_passes : (from to : ℕ) (lists : List (List Instr)) (instrs : List Instr) → instrs ≡ [] → Pass from to lists instrs
nothing_passes from to lists instrs e = subst (Pass from to lists) (sym e) (λ place others a b at later. (nothing_right later others, refl))

pub found_passes : (x : Indexed) (codes : List ℕ) (from to : ℕ) (lists : List (List Instr)) (instrs : List Instr) (found : Option ℕ) → Lists x lists → Knows codes instrs → All (Reaches x.marks (x.first + from) found) codes → to ≤ x.listed
    → ((place : ℕ) → place < to → IsReached (x.first + place) found → ⊥) → Pass from to lists instrs
found_passes x codes from to lists instrs found h known reaches within below = λ place others a b at later.
    let there = listed_at x.marks x.first x.listed lists place others h (omega (arith, b, within)) at in
    let none = unnamed x.marks codes (x.first + from) (x.first + place) found reaches (omega (arith, a)) (below place b) in
    (skip_left x.marks (x.first + place) codes none others instrs there known later, skip_right x.marks (x.first + place) codes none others instrs there known later)
