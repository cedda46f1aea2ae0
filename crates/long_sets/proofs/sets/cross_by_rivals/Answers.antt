use Rattle.std.proofs.Common.{◌≡◌, ℕ, Option, Some, None, IfSome, Ok, sym, ◌∙◌, subst}
use Rattle.sync_data.specs.Payload.{Changes}
use Rattle.sync_theory.specs.Lists.{cross}
use Rattle.sync_theory.specs.Changesets.{cross_sets, later_stamp}
use Rattle.sync_law.specs.Instrs.{meet}
use Rattle.sync_transform.specs.Sets.{made_by}
use Rattle.slot_law.specs.Slots.{alive}
use Rattle.long_sets.proofs.Whole.{all_cross, sets_cross}
use Rattle.long_sets.proofs.sets.cross_by_rivals.Goals as goal

both_made : (Q : Changes → Changes → Type 0) (r : Option (Changes × Changes)) (f g x y : Changes) → IfSome r (λ p. p.0 ≡ x) → IfSome r (λ p. p.1 ≡ y) → x ≡ f → y ≡ g → Q f g → IfSome r (λ p. Q p.0 p.1)
both_made Q None f g x y h k e d q = tt
both_made Q (Some p) f g x y h k e d q = subst (λ (w : Changes). Q w p.1) (sym (h ∙ e)) (subst (Q f) (sym (k ∙ d)) q)

pub returns : goal.returns
returns c =
    let i = c.args.left_ident in
    let j = c.args.right_ident in
    let left = c.args.left.now in
    let right = c.args.right.now in
    let cs = alive c.in_ok-lefts.lefts.items in
    let ds = alive c.in_ok-lefts.rights.items in
    let later = later_stamp c.ms.result i c.ms-2.result j in
    let crossed : cross (λ a b. meet a b later) left.instrs right.instrs ≡ Ok (cs, ds) =
    (λ k. cross (λ a b. meet a b later) (sym c.instrs-lefts.ensures.listed k) (sym c.instrs-rights.ensures.listed k))
    ∙ all_cross (record { ms = c.ms.result; ident = i }) (record { ms = c.ms-2.result; ident = j }) c.instrs-lefts.result.now c.instrs-rights.result.now c.in_ok-lefts.lefts.items c.in_ok-lefts.rights.items c.in_ok-lefts.ensures in
    let told : later ≡ later_stamp left.ms i right.ms j = (λ k. later_stamp (c.ms.ensures k) i (c.ms-2.ensures k) j) in
    both_made (λ f g. (m n : ℕ) → cross_sets meet (made_by i m left) (made_by j n right) ≡ Ok (made_by i m f, made_by j n g)) c.made.result
    (record { ms = left.ms; instrs = cs }) (record { ms = right.ms; instrs = ds })
    (record { ms = c.ms-3.result; instrs = c.in_ok-lefts-2.lefts.items }) (record { ms = c.ms-4.result; instrs = c.in_ok-rights.rights.items })
    c.made.ensures.left c.made.ensures.right
    (λ k. record { ms = c.ms-3.ensures k; instrs = c.in_ok-lefts-2.ensures k }) (λ k. record { ms = c.ms-4.ensures k; instrs = c.in_ok-rights.ensures k })
    (sets_cross later i j left right cs ds told crossed)
