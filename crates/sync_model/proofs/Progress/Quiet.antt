-- In a quiet world each named client has its part of the server's objects.
use Rattle.std.proofs.Common.{◌≡◌, ◌≢◌, ⊎_elim, ℕ, [], Some, sym, ap, ◌∙◌, map}
use Rattle.sync_theory.specs.Lists.{run}
use Rattle.sync_model.specs.Profile.{Profile, act_changeset, only_by}
use Rattle.sync_model.specs.Clients.{changeset_of, client_of}
use Rattle.sync_model.specs.Servers.{server_of, server_objects}
use Rattle.sync_model.specs.Worlds.{Node, World, at}
use Rattle.sync_model.specs.Log.{ident_of, pending_in, state_in, subset_of, NamedFacts, WorldFacts}
use Rattle.sync_model.specs.Progress.{IsCurrent, IsQuiet}

module _ {I S : Type 0} (p : Profile I S) {Fits : S → Type 0} (w : World) (facts : WorldFacts p Fits w) where
  -- a client at the end of the history with nothing unsent
  pub current_objects : (i : ℕ) (nd : Node) → at w.clients i ≡ Some nd → ident_of p w nd ≢ 0 → IsCurrent p w nd → (client_of p nd.records).objects ≡ only_by p (subset_of p nd) (server_objects p (server_of p w.server))
  current_objects i nd here ne cur = ⊎_elim (λ f. from f.1) (λ f. absurd (ne f.0)) (facts.clients i nd here)
    where
      from : NamedFacts p w nd → (client_of p nd.records).objects ≡ only_by p (subset_of p nd) (server_objects p (server_of p w.server))
      from f =
          let none : pending_in p w (ident_of p w nd) (client_of p nd.records).cursor ≡ [] = sym f.unsent ∙ ap (map (changeset_of (ident_of p w nd))) cur.unsent in
          let mine : Some (only_by p (subset_of p nd) f.base) ≡ Some (client_of p nd.records).objects = sym (ap (λ l. run (act_changeset p) l (only_by p (subset_of p nd) f.base)) none) ∙ f.objects in
          let theirs : Some f.base ≡ Some (server_objects p (server_of p w.server)) = sym f.state ∙ ap (state_in p w) cur.cursor ∙ facts.objects in
          let same : f.base ≡ server_objects p (server_of p w.server) = some f.base (server_objects p (server_of p w.server)) theirs in
          sym (some (only_by p (subset_of p nd) f.base) (client_of p nd.records).objects mine) ∙ ap (only_by p (subset_of p nd)) same
        where
          some : (a b : S) → Some a ≡ Some b → a ≡ b
          some a b e = cc

  pub quiet_objects : IsQuiet p w → (i : ℕ) (nd : Node) → at w.clients i ≡ Some nd → ident_of p w nd ≢ 0 → (client_of p nd.records).objects ≡ only_by p (subset_of p nd) (server_objects p (server_of p w.server))
  quiet_objects quiet i nd here ne = current_objects i nd here ne (quiet i nd here ne)

  -- so any two of the same tables agree
  pub quiet_agree : IsQuiet p w → (i j : ℕ) (a b : Node) → at w.clients i ≡ Some a → at w.clients j ≡ Some b → ident_of p w a ≢ 0 → ident_of p w b ≢ 0 → subset_of p a ≡ subset_of p b → (client_of p a.records).objects ≡ (client_of p b.records).objects
  quiet_agree quiet i j a b here there ne nf same = quiet_objects quiet i a here ne ∙ ap (λ o. only_by p o (server_objects p (server_of p w.server))) same ∙ sym (quiet_objects quiet j b there nf)
