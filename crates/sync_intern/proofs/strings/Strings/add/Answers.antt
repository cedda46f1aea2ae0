use Rattle.std.proofs.Common.{◌≡◌, ◌∙◌, sym, ap, subst, List, ℕ, [], ◌∷◌, ◌++◌, map, false, Bor}
use Rattle.std.specs.Prelude.{IfSome}
use Rattle.std.specs.List.{IsDistinct}
use Rattle.std.specs.Str.{bytes_eq}
use Rattle.sync_intern.specs.FirstUses.{has_string, AreShort}
use Rattle.sync_intern.specs.Indexes.{Indexes}
use Rattle.sync_intern.proofs.Texts.{append_bytes, short_more}
use Rattle.sync_intern.proofs.Fresh.{distinct_more}
use Rattle.sync_intern.proofs.strings.Strings.add.Goals as goal

abbrev texts : List (Bor (List ℕ)) → List (List ℕ)
texts xs = map (λ s. s.now) xs

pub places_with-requires-clause-distinct : goal.places_with-requires-clause-distinct
places_with-requires-clause-distinct c =
    let more : texts c.as_slice.result.now ≡ texts c.self.inside.texts.items ++ c.args.text.now ∷ [] = ap texts (c.as_slice.ensures.value ∙ c.in-Ok.ensures.items) ∙ append_bytes (λ (s : Bor (List ℕ)). s.now) c.self.inside.texts.items c.args.text in
    let fresh : has_string (texts c.self.inside.texts.items) c.args.text.now ≡ false = subst (λ (ss : List (List ℕ)). has_string ss c.args.text.now ≡ false) (sym c.self.view_is) c.requires.new_ in
    subst (IsDistinct bytes_eq) (sym more) (distinct_more _ c.args.text.now c.self.invariant.1 fresh)

pub invariant_of-self-then-is_indexed-2 : goal.invariant_of-self-then-is_indexed-2
invariant_of-self-then-is_indexed-2 c =
    let more : texts c.push.new.self.items ≡ texts c.self.inside.texts.items ++ c.args.text.now ∷ [] = ap texts c.in-Ok.ensures.items ∙ append_bytes (λ (s : Bor (List ℕ)). s.now) c.self.inside.texts.items c.args.text in
    let fresh : has_string (texts c.self.inside.texts.items) c.args.text.now ≡ false = subst (λ (ss : List (List ℕ)). has_string ss c.args.text.now ≡ false) (sym c.self.view_is) c.requires.new_ in (
      subst AreShort (sym more) (short_more _ c.args.text.now c.self.invariant.0 c.requires.short),
      subst (IsDistinct bytes_eq) (sym more) (distinct_more _ c.args.text.now c.self.invariant.1 fresh),
      subst (λ (xs : List (Bor (List ℕ))). IfSome c.places_with.result (λ p. Indexes p (texts xs))) c.as_slice.ensures.value c.places_with.ensures,
    )

pub invariant_of-self-else-is_indexed : goal.invariant_of-self-else-is_indexed
invariant_of-self-else-is_indexed c =
    let more : texts c.push.new.self.items ≡ texts c.self.inside.texts.items ++ c.args.text.now ∷ [] = ap texts c.in-Ok.ensures.items ∙ append_bytes (λ (s : Bor (List ℕ)). s.now) c.self.inside.texts.items c.args.text in
    let fresh : has_string (texts c.self.inside.texts.items) c.args.text.now ≡ false = subst (λ (ss : List (List ℕ)). has_string ss c.args.text.now ≡ false) (sym c.self.view_is) c.requires.new_ in (
      subst AreShort (sym more) (short_more _ c.args.text.now c.self.invariant.0 c.requires.short),
      subst (IsDistinct bytes_eq) (sym more) (distinct_more _ c.args.text.now c.self.invariant.1 fresh),
      rw (c.is_indexed.ensures c.if-is_indexed.false) tt,
    )
