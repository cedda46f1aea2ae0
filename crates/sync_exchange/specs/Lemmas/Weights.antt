-- An instruction that a changeset can bear is whole, and its weight is its payload.
use Rattle.std.specs.Prelude.{◌≡◌, ℕ, ◌≤◌, Bool, true, false, if◌then◌else◌, refl}
use Rattle.std.proofs.Common.{ap, arith}
use Rattle.sync_data.specs.Payload.{payload}
use Rattle.sync_data.specs.declared.instr.Instr.{Instr}
use Rattle.sync_exchange.specs.Whole.{is_whole}
use Rattle.sync_exchange.specs.Profile.{weight}
use Rattle.sync_exchange.specs.Lemmas.Whole.{IsWhole, whole_tells}

light_if : (b : Bool) (n : ℕ) → (if b then n else 4194305) ≤ 4194304 → b ≡ true
light_if true n h = refl
light_if false n h = absurd (omega (arith, h))

pub light_whole : (i : Instr) → weight i ≤ 4194304 → IsWhole i
light_whole i h = (whole_tells i).yes (light_if (is_whole i) (payload i) h)

pub carried : (i : Instr) → IsWhole i → weight i ≡ payload i
carried i h = ap (λ b. if b then payload i else 4194305) ((whole_tells i).back h)
