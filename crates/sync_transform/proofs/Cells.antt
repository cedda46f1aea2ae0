-- Two instructions that change two cells stay as they are when they meet.
use Rattle.std.proofs.Common.{◌≡◌, Bool, true, false, not, ◌&&◌, cond, Option, Some, Ok, refl, ap, ◌∙◌}
use Rattle.std.specs.Ordering.{eq_by_cmp}
use Rattle.sync_data.specs.declared.instr.Instr.{Instr}
use Rattle.sync_base.specs.Effects.{CellPath, Effect, NewTable, NewColumn, Create, Erase, Change, effect_of}
use Rattle.sync_base.specs.Objects.{cell_in}
use Rattle.sync_base.specs.Merged.{path_cmp}
use Rattle.sync_base.specs.Rules.{rule, meeting, outcome_of, kept, has_row, lifted, rule_of_edits}
use Rattle.sync_base.specs.Lemmas.Whole.{instr-effect}

and_false : (b c : Bool) → c ≡ false → (b && c) ≡ false
and_false true c h = h
and_false false c h = refl

untrue : (b : Bool) → not b ≡ true → b ≡ false
untrue true h = cc
untrue false h = refl

same_cell : {p q : CellPath} → ◌≡◌ {A = Option CellPath} (Some p) (Some q) → p ≡ q
same_cell e = cc

apart : (l : Bool) (a b : Effect) (p q : CellPath) → cell_in a ≡ Some p → cell_in b ≡ Some q → eq_by_cmp path_cmp p q ≡ false → rule l a b ≡ kept a b
apart l (Change u e) (Change v f) p q h g n =
    let m : eq_by_cmp path_cmp u v ≡ false = ap (λ x. eq_by_cmp path_cmp x v) (same_cell h) ∙ ap (eq_by_cmp path_cmp p) (same_cell g) ∙ n in
    ap (λ b. cond b (lifted u (rule_of_edits l e f)) (kept (Change u e) (Change v f))) (and_false (has_row e f) (eq_by_cmp path_cmp u v) m)
apart l (Change u e) (NewTable t k) p q h g n = cc
apart l (Change u e) (NewColumn t c d) p q h g n = cc
apart l (Change u e) (Create o) p q h g n = cc
apart l (Change u e) (Erase o) p q h g n = cc
apart l (NewTable t k) b p q h g n = cc
apart l (NewColumn t c d) b p q h g n = cc
apart l (Create o) b p q h g n = cc
apart l (Erase o) b p q h g n = cc

pub two_cells : (a b : Instr) (p q : CellPath) → cell_in (effect_of a) ≡ Some p → cell_in (effect_of b) ≡ Some q → not (eq_by_cmp path_cmp p q) ≡ true → (later : Bool) → meeting a b later ≡ Ok (record { left = Some a; right = Some b })
two_cells a b p q h g n later =
    ap outcome_of (apart later (effect_of a) (effect_of b) p q h g (untrue (eq_by_cmp path_cmp p q) n)) ∙ (λ i. Ok (record { left = Some (instr-effect a i); right = Some (instr-effect b i) }))
