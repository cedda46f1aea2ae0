-- What is read of the idents, from a place on.
use Rattle.std.proofs.Common.{◌≡◌, ℕ, zero, suc, ◌+◌, ◌<◌, arith, length, List, [], ◌∷◌, drop, Option, Some, None, refl, sym, ap, ◌∙◌, add-one}
use Rattle.std.specs.Option.{option_map}
use Rattle.sync_data.specs.declared.instr.Instr.{Instr}
use Rattle.sync_model.specs.Parts.{Given, at_ident}
use Rattle.sync_model.specs.Worlds.{at}
use Rattle.sync_trim.proofs.Pieces.{at_some, at_none, read_some, read_none}

abbrev pub Idents : Type 0
Idents = List (Given Instr)

by_place : (gs : Idents) (place : ℕ) (o : Option (Given Instr)) → at_ident (place + 1) gs ≡ o → at_ident (suc place) gs ≡ o
by_place gs place o e = ap (λ n. at_ident n gs) (sym (add-one place)) ∙ e

pub ident_some : (gs : Idents) (place : ℕ) (g : Given Instr) → at_ident (place + 1) gs ≡ Some g → drop place gs ≡ g ∷ drop (place + 1) gs
ident_some gs place g e = at_some gs place g (by_place gs place (Some g) e)

pub ident_none : (gs : Idents) (place : ℕ) → at_ident (place + 1) gs ≡ None → drop place gs ≡ []
ident_none gs place e = at_none gs place (by_place gs place None e)

-- something is read of the ident
pub is_read : {B : Type 0} (f : Given Instr → B) (gs : Idents) (place : ℕ) (o : Option B) (y : B) → o ≡ option_map f (at_ident (place + 1) gs) → o ≡ Some y → (g : Given Instr) × (drop place gs ≡ g ∷ drop (place + 1) gs) × (f g ≡ y)
is_read f gs place o y e h =
    let r = read_some f (at_ident (place + 1) gs) y (sym h ∙ e) in
    (r.0, ident_some gs place r.0 r.1, r.2)

pub is_not_read : {B : Type 0} (f : Given Instr → B) (gs : Idents) (place : ℕ) (o : Option B) → o ≡ option_map f (at_ident (place + 1) gs) → o ≡ None → drop place gs ≡ []
is_not_read f gs place o e h = ident_none gs place (read_none f (at_ident (place + 1) gs) (sym h ∙ e))

-- each place below their number has one
pub is_given : (gs : Idents) (place : ℕ) → place < length gs → (g : Given Instr) × (at_ident (place + 1) gs ≡ Some g)
is_given gs place h = let w = on gs place h in (w.0, ap (λ n. at_ident n gs) (add-one place) ∙ w.1)
  where
    on : (gs : Idents) (place : ℕ) → place < length gs → (g : Given Instr) × (at gs place ≡ Some g)
    on [] place h = absurd (omega (arith, h))
    on (g ∷ gs) zero h = (g, refl)
    on (g ∷ gs) (suc place) h = on gs place (omega (arith, h))
