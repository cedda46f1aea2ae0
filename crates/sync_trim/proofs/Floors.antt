-- The next floor, found ident by ident.
use Rattle.std.proofs.Common.{◌≡◌, ℕ, ◌≤◌, Bool, true, false, [], ◌∷◌, sym, ap, ◌∙◌, subst, arith}
use Rattle.std.specs.Prelude.{min, max, if◌then◌else◌}
use Rattle.sync_data.specs.declared.instr.Instr.{Instr}
use Rattle.sync_model.specs.Parts.{Given}
use Rattle.sync_model.specs.Trims.{is_live, least_settled}
use Rattle.sync_trim.proofs.Given.{Idents}

-- the floor of the idents so far, and that of the rest, are that of all; it isn't above the length, and not below the floor
pub record Lowered (floor len next : ℕ) (rest all : Idents) : Type 0 where
  pub least : min next (least_settled floor len rest) ≡ least_settled floor len all
  pub within : next ≤ len
  pub above : floor ≤ next

pub at_most : (floor len : ℕ) (gs : Idents) → least_settled floor len gs ≤ len
at_most floor len [] = omega arith
at_most floor len (g ∷ gs) = on (is_live g) (at_most floor len gs)
  where
    on : (b : Bool) → least_settled floor len gs ≤ len → (if b then min (max g.mark floor) (least_settled floor len gs) else least_settled floor len gs) ≤ len
    on true h = omega (arith, h)
    on false h = h

pub lowered_first : (floor len : ℕ) (gs : Idents) → floor ≤ len → Lowered floor len len gs gs
lowered_first floor len gs h = let most = at_most floor len gs in record { least = omega (arith, most); within = omega arith; above = h }

lowered_by : (floor len next : ℕ) (g : Given Instr) (gs all : Idents) (b : Bool)
    → min next (if b then min (max g.mark floor) (least_settled floor len gs) else least_settled floor len gs) ≡ least_settled floor len all → next ≤ len → floor ≤ next
    → Lowered floor len (if b then min (max g.mark floor) next else next) gs all
lowered_by floor len next g gs all true e h f = record { least = omega (arith, e); within = omega (arith, h); above = omega (arith, f) }
lowered_by floor len next g gs all false e h f = record { least = e; within = h; above = f }

-- an ident more
pub lowered_more : (floor len next : ℕ) (g : Given Instr) (rest gs all : Idents) (n : ℕ) → rest ≡ g ∷ gs → n ≡ (if is_live g then min (max g.mark floor) next else next) → Lowered floor len next rest all → Lowered floor len n gs all
lowered_more floor len next g rest gs all n e f h =
    subst (λ m. Lowered floor len m gs all) (sym f) (lowered_by floor len next g gs all (is_live g) (ap (λ l. min next (least_settled floor len l)) (sym e) ∙ h.least) h.within h.above)

-- all idents
pub lowered_last : (floor len next : ℕ) (rest all : Idents) → rest ≡ [] → Lowered floor len next rest all → next ≡ least_settled floor len all
lowered_last floor len next rest all e h = let f : min next len ≡ least_settled floor len all = ap (λ l. min next (least_settled floor len l)) (sym e) ∙ h.least in let g = h.within in omega (arith, f, g)
