use Rattle.std.proofs.Common.{⊎_elim, inl, inr, ◌∙◌, ◌≡◌, ◌<◌, false, true, refl, subst, sym}
use Rattle.sync_model.specs.Worlds.{Node}
use Rattle.sync_model.proofs.Progress.Valid.{reached_valid}
use Rattle.progress_law.specs.Among.{after_round, reach}
use Rattle.progress_law.proofs.Since.{one_node}
use Rattle.progress_law.proofs.Round.{round}
use Rattle.progress_law.proofs.Gains.{gains, gets_among}
use Rattle.progress_law.proofs.Brings.{brings, has_both}
use Rattle.sync_model.specs.Progress.{IsException}
use Rattle.progress_law.proofs.Bearing.{bears}
use Rattle.progress_law.proofs.Alone.{alone_current}
use Rattle.progress_law.proofs.Binding.{named_among}
use Rattle.progress_law.proofs.Whole.{rounds_are}
use Rattle.progress_law.proofs.laws.rounds_among_events_make_progress.Goals as goal

pub returns : goal.returns
returns g c =
    let p = g.E.Exchange.profile in
    let law = g.E.Exchange.lawful in
    let built = g.E.Exchange.buildable in
    record {
      named = λ w r i nd h before between after. named_among p law built w (reached_valid p law built w r) nd.name i nd h refl before between after;
      brings = λ w r i nd h ne second b. ⊎_elim (λ q. inl q) (λ x. inr (brings p law built nd.name w (reached_valid p law built w r) i nd h refl ne b x second)) (round p law built ⊥ ⊥ w (reached_valid p law built w r) nd.name i nd h refl b ne (λ e. never second e));
      enough = λ w r i nd h ne second b all. ⊎_elim (λ q. inl q) (λ x. inr (has_both p law built nd.name w (reached_valid p law built w r) i nd h refl ne b x second all)) (round p law built ⊥ ⊥ w (reached_valid p law built w r) nd.name i nd h refl b ne (λ e. never second e));
      gains = λ roomy w r i nd h ne b. ⊎_elim
          (λ q. inl q)
          (λ x. inr (⊎_elim
          (λ lt. inl (λ end here. subst (λ (z : Node). reach p w nd < reach p (after_round p nd.name w b) z) (one_node x.end.node end (sym x.end.here ∙ here)) lt))
          (λ was. inr was)
          (gains p law built nd.name w (reached_valid p law built w r) i nd h refl ne b x roomy)))
          (round p law built ⊥ ((Rattle.sync_model.specs.Clients.client_of p nd.records).second ≡ false) w (reached_valid p law built w r) nd.name i nd h refl b ne (λ e. e));
      gets = λ roomy w r i nd h ne bs more. gets_among p law built ((Rattle.sync_model.specs.Clients.client_of p nd.records).second ≡ false) roomy nd.name bs w (reached_valid p law built w r) i nd h refl ne (λ e. e) more;
      carries = λ w r i nd h ne second bs up down sent lacked lt. bears p law built nd.name bs w (reached_valid p law built w r) i nd h refl ne second up down sent lacked lt;
      alone = λ w r i nd h ne second bs up down sent lacked lt. alone_current p law built (IsException (Unit {0}) ⊥ ⊥) nd.name i bs w (reached_valid p law built w r) nd h refl ne (λ y there. (sent y there).0)
          (bears p law built nd.name bs w (reached_valid p law built w r) i nd h refl ne second up down (λ y there. (sent y there).1) lacked lt);
      events = λ name w bs. rounds_are p name bs w;
    }
  where
    never : {b : Rattle.std.proofs.Common.Bool} → b ≡ true → b ≡ false → ⊥
    never e f = cc
