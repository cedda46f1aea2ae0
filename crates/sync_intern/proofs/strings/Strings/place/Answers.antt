use Rattle.std.proofs.Common.{◌∙◌, ap, subst, map, Option, List, ℕ, Bor, BTreeMap, String, Global}
use Rattle.std.specs.Prelude.{is_some, IfSome}
use Rattle.sync_intern.specs.FirstUses.{place_in}
use Rattle.sync_intern.specs.Indexes.{Indexes}
use Rattle.sync_intern.proofs.Fresh.{has_place}
use Rattle.sync_intern.proofs.strings.Strings.place.Goals as goal

pub returns-in-Some-clause-place : goal.returns-in-Some-clause-place
returns-in-Some-clause-place c = rw (← c.self.view_is) (c.copied.ensures ∙ c.get.ensures.value ∙ subst (λ (o : Option (BTreeMap (String Global) ℕ)). IfSome o (λ p. Indexes p (map (λ s. s.now) c.self.inside.texts.items))) c.in-Some.is c.self.invariant.2 c.args.text.now)

pub returns-in-Some-clause-found : goal.returns-in-Some-clause-found
returns-in-Some-clause-found c = ap is_some (returns-in-Some-clause-place c) ∙ has_place c.args.self.now c.args.text.now

pub returns-in-None-clause-place : goal.returns-in-None-clause-place
returns-in-None-clause-place c = rw (← c.self.view_is) (c.place_among.ensures ∙ ap (λ (xs : List (Bor (List ℕ))). place_in (map (λ s. s.now) xs) c.args.text.now) c.as_slice.ensures.value)

pub returns-in-None-clause-found : goal.returns-in-None-clause-found
returns-in-None-clause-found c = ap is_some (returns-in-None-clause-place c) ∙ has_place c.args.self.now c.args.text.now
