-- A change through a reference that a map lends, on the finite map that it stands for.
use Rattle.std.specs.Prelude.{◌≡◌, Some}
use Rattle.std.specs.declared.cmp.Ordering.{Ordering}
use Rattle.std.specs.Cmp.{IsTotalOrder}
use Rattle.std.specs.FinMap as map
use Rattle.std.specs.FinMap.{FinMap, IsAntisymmetric}
use Rattle.std.specs.BTreeMap as tree
use Rattle.std.specs.BTreeMap.{BTreeMap}
use Rattle.std.proofs.Common.{sym, ◌∙◌, ap}
use Rattle.sync_maps.specs.Seen.{seen_at, written, insert_same, insert_again, at_key, at_found, get-put}

module _ {K X : Type 0} {R : K → K → Ordering} (o : IsTotalOrder R) (exact : IsAntisymmetric R)
    (m : BTreeMap K X) (k : K) {x : X} {s : FinMap R X} (e : map.from_entries {R = R} m.entries ≡ s) (found : Some x ≡ tree.get R m k)
    (n : BTreeMap K X) (y : X) (w : tree.WritesThrough R (R k) m y n) where
  put_through : map.from_entries {R = R} n.entries ≡ map.insert s k y
  put_through = written o exact m k found n y w ∙ ap (λ s. map.insert s k y) e

  pub through_done : (f : X → X) → y ≡ f x → map.from_entries {R = R} n.entries ≡ at_key k f s
  through_done f h = put_through ∙ ap (map.insert s k) h ∙ sym (at_found k f s (seen_at o m k e found))

  pub through_back : (g : X → X) → g y ≡ x → at_key k g (map.from_entries {R = R} n.entries) ≡ s
  through_back g h =
      ap (at_key k g) put_through ∙ at_found k g (map.insert s k y) (get-put o exact s k y) ∙ insert_again o exact s k y (g y)
      ∙ ap (map.insert s k) h ∙ insert_same o exact s k x (seen_at o m k e found)

  pub through_same : y ≡ x → map.from_entries {R = R} n.entries ≡ s
  through_same h = put_through ∙ ap (map.insert s k) h ∙ insert_same o exact s k x (seen_at o m k e found)
