-- A loop takes its steps one after the other.
use Rattle.std.proofs.Common.{◌≡◌, ℕ, suc, ◌+◌, ◌-◌, ◌<◌, ◌≤◌, Result, Ok, Err, refl, sym, ◌∙◌, arith}
use Rattle.sync_codec.specs.declared.refusal.Fault.{Fault}
use Rattle.sync_codec.specs.declared.refusal.ReadRefusal.{ReadRefusal}
use Rattle.sync_codec.specs.declared.refusal.ReadRefusal.TheVariants as refusals
use Rattle.sync_codec.specs.Fields.{Fails}
use Rattle.sync_codec.specs.Decoding.{repeated}

module _ {S : Type 0} (step : S → Result S Fault) where
  pub goes_on : (count i : ℕ) (s t : S) (all : Result S Fault) → i < count → step s ≡ Ok t → repeated step (count - i) s ≡ all → repeated step (count - (i + 1)) t ≡ all
  unfolding repeated
  goes_on count i s t all lt e so_far =
      let k : count - i ≡ suc (count - (i + 1)) = omega arith in
      let one : repeated step (count - i) s ≡ repeated step (count - (i + 1)) t = rw (k, e) refl in
      sym one ∙ so_far

  pub ends : (refusal : ReadRefusal) (count i : ℕ) (s : S) (all : Result S Fault) → i < count → Fails refusal (step s) → repeated step (count - i) s ≡ all → Fails refusal all
  unfolding repeated
  ends refusals.NoMemory count i s all lt e so_far = tt
  ends (refusals.Bad fault) count i s all lt e so_far =
      let k : count - i ≡ suc (count - (i + 1)) = omega arith in
      let one : repeated step (count - i) s ≡ Err fault = rw (k, e) refl in
      sym so_far ∙ one

  pub is_done : (count i : ℕ) (s : S) (all : Result S Fault) → count ≤ i → repeated step (count - i) s ≡ all → all ≡ Ok s
  unfolding repeated
  is_done count i s all le so_far =
      let k : count - i ≡ 0 = omega arith in
      let one : repeated step (count - i) s ≡ Ok s = rw k refl in
      sym so_far ∙ one
