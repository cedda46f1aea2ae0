-- What leaves the origin of a gathered disk as it is leaves the disk below, the gate and the loan as they are.
use Rattle.std.proofs.Common.{◌≡◌, ℕ, ◌+◌, ◌*◌, ◌^◌, ◌<◌, Bool, true, false, List, length, Option, None, Some, refl, ◌∙◌, ap, arith}
use Rattle.sync_disk.specs.declared.disk.Disk.{Ghosts}
use Rattle.sync_disk.specs.Origin.{Origin}
use Rattle.gathered_disk.specs.declared.gathered.GatheredDisk.{GatheredDisk}
use Rattle.gathered_disk.specs.Below.{below, gate_of, is_closed}
use Rattle.gathered_disk.specs.Gathered.{base_of, leaves_of, origin_of}

same_base : (o : Option (List ℕ)) (b : List ℕ) → 0 < length b → base_of o ≡ b → o ≡ Some b
same_base None b some is = absurd (omega (arith, some, ap length is))
same_base (Some x) b some is = ap Some is

same_leaves : (x y : Bool) → leaves_of x ≡ leaves_of y → x ≡ y
same_leaves true true is = refl
same_leaves true false is = absurd (cc is)
same_leaves false true is = absurd (cc is)
same_leaves false false is = refl

split : (a b i j : ℕ) → i < 2 ^ 63 → j < 2 ^ 63 → a * 2 ^ 63 + i ≡ b * 2 ^ 63 + j → (a ≡ b) × (i ≡ j)
split a b i j low high is = (omega (arith, low, high, is), omega (arith, low, high, is))

-- of two gathered disks with one origin
pub record IsSame {D : Type 0} {G : Ghosts D} (b : List ℕ) (old new : GatheredDisk D G) : Type 0 where
  pub is_open : is_closed new ≡ false
  pub told : G.content (below new) ≡ Some b
  pub gate : gate_of new ≡ gate_of old
  pub listed : (G.origin (below new)).listed ≡ (G.origin (below old)).listed

module _ {D : Type 0} {G : Ghosts D} where
  abbrev origin_is : GatheredDisk D G → Origin
  origin_is g = origin_of g.closed (G.content g.disk) (G.origin g.disk).listed g.gate

  pub same_below : (b : List ℕ) (old new : GatheredDisk D G) → origin_is new ≡ origin_is old → is_closed old ≡ false → G.content (below old) ≡ Some b → 0 < length b → IsSame b old new
  same_below b old new same still told some =
      let parts = split (G.origin new.disk).listed (G.origin old.disk).listed new.gate old.gate (omega (arith, new.fits)) (omega (arith, old.fits)) (ap (λ (o : Origin). o.listed) same) in
      record {
        is_open = same_leaves new.closed old.closed (ap (λ (o : Origin). o.leaves) same) ∙ still;
        told = same_base (G.content new.disk) b some (ap (λ (o : Origin). o.start) same ∙ ap base_of told);
        gate = parts.1;
        listed = parts.0;
      }
