-- A map that is filled from the entries of another is the other with its values changed.
use Rattle.std.specs.Prelude.{◌≡◌, List, Option, None, Some, refl}
use Rattle.std.specs.declared.cmp.Ordering.{Ordering}
use Rattle.std.specs.Cmp.{IsTotalOrder}
use Rattle.std.specs.Option.{option_map}
use Rattle.std.specs.FinMap as map
use Rattle.std.specs.FinMap.{FinMap, IsAntisymmetric, find}
use Rattle.std.specs.List.Sorted.{IsStrictlySortedBy}
use Rattle.std.specs.Map.{keys_of}
use Rattle.std.proofs.Common.{sym, ◌∙◌, ap}
use Rattle.sync_base.specs.Lemmas.Maps.{get-map_with}
use Rattle.sync_base.specs.Maps.{map_with}
use Rattle.sync_maps.specs.Filled.{filled, found_or, get-filled}

found_in : {X Y : Type 0} (f : X → Y) (x : Option X) → found_or f None x ≡ option_map f x
found_in f None = refl
found_in f (Some x) = refl

module _ {K X Y : Type 0} {R : K → K → Ordering} (f : X → Y) where
  pub filled_same : {m n : FinMap R Y} {es fs : List (K × X)} → m ≡ n → es ≡ fs → filled f m es ≡ filled f n fs
  filled_same p q = λ i. filled f (p i) (q i)

module _ {K X Y : Type 0} {R : K → K → Ordering} (o : IsTotalOrder R) (exact : IsAntisymmetric R) (f : X → Y) where
  pub filled_with : (es : List (K × X)) → IsStrictlySortedBy R (keys_of es) → filled {R = R} f map.empty es ≡ map_with (λ k x. f x) (map.from_entries {R = R} es)
  filled_with es h = map.same_map o exact _ _ (λ q.
      get-filled o exact f map.empty es h q ∙ ap (λ y. found_or f y (find R q es)) (map.get-empty R q) ∙ found_in f (find R q es)
      ∙ sym (get-map_with (λ k x. f x) exact (map.from_entries es) q ∙ ap (option_map f) (map.get-from_entries o es q)))
