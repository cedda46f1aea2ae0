-- The events of rounds among others, in order.
use Rattle.std.proofs.Common.{◌≡◌, List, [], ◌∷◌, ◌++◌, refl, ap, ◌∙◌}
use Rattle.sync_model.specs.Bytes.{Name}
use Rattle.sync_model.specs.Profile.{Profile}
use Rattle.sync_model.specs.Worlds.{World, Event, Uploads, Asks, Delivers, server_name, happens, world_after}
use Rattle.sync_model.proofs.Progress.Interrupted.{after_append}
use Rattle.progress_law.specs.Among.{Beside, next, at_upload, at_store, at_ask, at_answer, after_round, round_among, after_all_rounds, rounds_among}

module _ {I S : Type 0} (p : Profile I S) where
  and_more : (es : List (Event I)) (e : Event I) (fs : List (Event I)) (w : World) → world_after p w (es ++ (e ∷ fs)) ≡ world_after p (happens p (world_after p w es) e).world fs
  and_more es e fs w = after_append p es (e ∷ fs) w

  round_is : (name : Name) (w : World) (b : Beside I) → world_after p w (round_among p name w b) ≡ after_round p name w b
  round_is name w b =
      let e2 : Event I = Delivers (next p (at_upload p name w b)) server_name in
      let e3 : Event I = Asks name in
      let e4 : Event I = Delivers (next p (at_ask p name w b)) server_name in
      let e5 : Event I = Delivers (next p (at_answer p name w b)) name in
      and_more b.uploads (Uploads name) (b.stores ++ (e2 ∷ (b.asks ++ (e3 ∷ (b.answers ++ (e4 ∷ (b.takes ++ (e5 ∷ [])))))))) w
      ∙ and_more b.stores e2 (b.asks ++ (e3 ∷ (b.answers ++ (e4 ∷ (b.takes ++ (e5 ∷ [])))))) (happens p (at_upload p name w b) (Uploads name)).world
      ∙ and_more b.asks e3 (b.answers ++ (e4 ∷ (b.takes ++ (e5 ∷ [])))) (happens p (at_store p name w b) (Delivers (next p (at_upload p name w b)) server_name)).world
      ∙ and_more b.answers e4 (b.takes ++ (e5 ∷ [])) (happens p (at_ask p name w b) (Asks name)).world
      ∙ and_more b.takes e5 [] (happens p (at_answer p name w b) (Delivers (next p (at_ask p name w b)) server_name)).world

  pub rounds_are : (name : Name) (bs : List (Beside I)) (w : World) → world_after p w (rounds_among p name w bs) ≡ after_all_rounds p name w bs
  rounds_are name [] w = refl
  rounds_are name (b ∷ bs) w =
      after_append p (round_among p name w b) (rounds_among p name (after_round p name w b) bs) w
      ∙ ap (λ v. world_after p v (rounds_among p name (after_round p name w b) bs)) (round_is name w b)
      ∙ rounds_are name bs (after_round p name w b)
