use Rattle.std.proofs.Common.{◌∙◌, ◌<◌, ◌≤◌, ap, sym, subst, List, ℕ, map, length, get_or, Bor}
use Rattle.std.proofs.lemmas.Option.{slice_get_past}
use Rattle.std.proofs.lemmas.List.{length-map}
use Rattle.sync_intern.proofs.Fresh.{short_found}
use Rattle.sync_intern.proofs.strings.Strings.get.Goals as goal

pub returns-in-Some-clause-short : goal.returns-in-Some-clause-short
returns-in-Some-clause-short c =
    let within : c.args.number < length c.self.inside.texts.items = subst (λ (xs : List (Bor (List ℕ))). c.args.number < length xs) c.deref.ensures.value c.in-Some.ensures.lookup.3.0 in
    short_found c.self.inside.texts.items c.args.number c.in-Some.text.now c.self.invariant.0 within (c.in-Some.ensures.lookup.1 ∙ ap (λ (xs : List (Bor (List ℕ))). get_or xs c.args.number c.in-Some.text.now) c.deref.ensures.value)

pub returns-in-None-clause-string : goal.returns-in-None-clause-string
returns-in-None-clause-string c =
    let past : length (map (λ (s : Bor (List ℕ)). s.now) c.self.inside.texts.items) ≤ c.args.number = rw (length-map c.self.inside.texts.items (λ (s : Bor (List ℕ)). s.now)) (subst (λ (xs : List (Bor (List ℕ))). length xs ≤ c.args.number) c.deref.ensures.value c.in-None.ensures.lookup.3) in
    rw (← c.self.view_is) (sym (slice_get_past (map (λ (s : Bor (List ℕ)). s.now) c.self.inside.texts.items) c.args.number past))
