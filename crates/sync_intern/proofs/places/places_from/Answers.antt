use Rattle.std.proofs.Common.{◌∙◌, string_bytes, ℕ, [], List, map, Bor, sym, subst}
use Rattle.std.proofs.lemmas.Map.Text.{btree_map_updates_text}
use Rattle.std.proofs.lemmas.List.{length-map, get_or-map, take_all}
use Rattle.sync_intern.specs.Indexes.{Indexes}
use Rattle.sync_intern.proofs.Indexing.{indexed_more}
use Rattle.sync_intern.proofs.places.places_from.Goals as goal

pub loop-place-preserved : goal.loop-place-preserved
loop-place-preserved c =
    let texts : List (List ℕ) = map (λ s. s.now) c.args.texts.now in
    indexed_more c.loop-place.places c.insert.new.self texts c.loop-place.place c.in-Ok.own c.requires.distinct (rw (length-map c.args.texts.now (λ (s : Bor (List ℕ)). s.now)) c.loop-place-test.true) (c.in-Ok.ensures.ok ∙ sym (get_or-map (λ (s : Bor (List ℕ)). s.now) c.args.texts.now c.loop-place.place _ [] c.loop-place-test.true)) c.loop-place.invariant (btree_map_updates_text (string_bytes c.in-Ok.own) c.loop-place.places c.insert.new.self _ c.in-Ok-insert.ensures.updates)

pub returns : goal.returns
returns c =
    let texts : List (List ℕ) = map (λ s. s.now) c.args.texts.now in
    subst (λ (ss : List (List ℕ)). Indexes c.loop-place.places ss) (take_all c.loop-place.place texts (rw (length-map c.args.texts.now (λ (s : Bor (List ℕ)). s.now)) c.loop-place-test.false)) c.loop-place.invariant
