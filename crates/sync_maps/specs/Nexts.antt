-- The next key of an ordered map of the code is the next one of the finite map that it stands for.
use Rattle.std.specs.Prelude.{◌≡◌, Bool, true, false, Option, None, is_some}
use Rattle.std.specs.declared.cmp.Ordering.{Ordering}
use Rattle.std.specs.Cmp.{IsTotalOrder}
use Rattle.std.specs.FinMap as map
use Rattle.std.specs.FinMap.{FinMap}
use Rattle.std.specs.BTreeMap as tree
use Rattle.std.specs.BTreeMap.{BTreeMap}
use Rattle.std.proofs.Common.{sym, ◌∙◌, ap, subst}
use Rattle.sync_maps.specs.Seen.{got}
use Rattle.sync_maps.specs.Next.{IsNext}

-- what is none is not some
pub no_other : {X : Type 0} {x : Option X} → x ≡ None → is_some x ≡ true → (b : Bool) → b ≡ false
no_other {x = x} e h b = cc (ap is_some e)

module _ {K X : Type 0} {R : K → K → Ordering} (o : IsTotalOrder R) where
  stands : (m : BTreeMap K X) (s : FinMap R X) → map.from_entries {R = R} m.entries ≡ s → (q : K) → is_some (tree.get R m q) ≡ is_some (map.get s q)
  stands m s e q = sym (ap is_some (got o m q)) ∙ ap (λ s. is_some (map.get s q)) e

  pub next_seen : (m : BTreeMap K X) (s : FinMap R X) → map.from_entries {R = R} m.entries ≡ s → (after x : Option K) → IsNext R (λ q. is_some (tree.get R m q)) after x → IsNext R (λ q. is_some (map.get s q)) after x
  next_seen m s e after x h = subst (λ has. IsNext R has after x) (λ i q. stands m s e q i) h
