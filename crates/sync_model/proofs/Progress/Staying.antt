-- A client that is current stays so, whatever happens, as long as neither the history nor what it made grows.
use Rattle.std.proofs.Common.{◌≡◌, ◌≢◌, ⊎_elim, ℕ, zero, suc, ◌≤◌, List, [], ◌∷◌, Some, refl, sym, ap, ap₂, ◌∙◌, subst, arith, length, map, take, drop}
use Rattle.sync_theory.specs.Logs.{of_origin}
use Rattle.sync_model.specs.Profile.{Profile, Lawful}
use Rattle.sync_model.specs.Snapshots.{Buildable}
use Rattle.sync_model.specs.Clients.{Unsent, client_of}
use Rattle.sync_model.specs.Worlds.{Node, World, Event, at, world_after}
use Rattle.sync_model.specs.Log.{ident_of, log, NamedFacts}
use Rattle.sync_model.specs.Progress.{IsCurrent}
use Rattle.sync_model.proofs.Lists.{take_all}
use Rattle.sync_model.proofs.Progress.Valid.{Valid, valid_after, valid_facts}
use Rattle.sync_model.proofs.Progress.Growing.{node_later, count_longer, ident_later}

drop_all : {A : Type 0} (n : ℕ) (xs : List A) → length xs ≤ n → drop n xs ≡ []
drop_all zero [] le = refl
drop_all zero (x ∷ xs) le = absurd (omega arith)
drop_all (suc n) [] le = refl
drop_all (suc n) (x ∷ xs) le = drop_all n xs (omega arith)

pub all_dropped : {A : Type 0} (n : ℕ) (xs : List A) → drop n xs ≡ [] → length xs ≤ n
all_dropped n [] e = omega arith
all_dropped zero (x ∷ xs) e = cc
all_dropped (suc n) (x ∷ xs) e = let le = all_dropped n xs e in omega arith

no_map : {A B : Type 0} (f : A → B) (xs : List A) → map f xs ≡ [] → xs ≡ []
no_map f [] e = refl
no_map f (x ∷ xs) e = cc

module _ {I S : Type 0} (p : Profile I S) {Fits Bounded Old : S → Type 0} (law : Lawful p Fits) (built : Buildable p Fits Bounded Old) where
  pub named : (w : World) → Valid p w → (i : ℕ) (nd : Node) → at w.clients i ≡ Some nd → ident_of p w nd ≢ 0 → NamedFacts p w nd
  named w r i nd h ne = ⊎_elim (λ f. f.1) (λ f. absurd (ne f.0)) ((valid_facts p law built w r).clients i nd h)

  pub stays_current : (w : World) (r : Valid p w) (es : List (Event I)) (i : ℕ) (nd : Node) (h : at w.clients i ≡ Some nd) → ident_of p w nd ≢ 0 → IsCurrent p w nd
      → length (log p (world_after p w es)) ≡ length (log p w) → length (client_of p (node_later p law built es w r i nd h).node.records).made ≡ length (client_of p nd.records).made
      → IsCurrent p (world_after p w es) (node_later p law built es w r i nd h).node
  stays_current w r es i nd h ne cur same_log same_made =
      let l = node_later p law built es w r i nd h in
      let is = ident_later p law built es w r i nd h ne in
      let f = named w r i nd h ne in
      let g = named (world_after p w es) (valid_after p law built es w r) i l.node l.here (λ z. ne (sym is ∙ z)) in
      let within = g.within in
      let onward = l.client.cursor in
      let was = cur.cursor in
      let at_end : (client_of p l.node.records).cursor ≡ length (log p (world_after p w es)) = omega arith in
      let counted : length (of_origin (ident_of p w nd) (take (client_of p nd.records).cursor (log p w))) ≡ length (of_origin (ident_of p w nd) (log p w)) = ap (λ k. length (of_origin (ident_of p w nd) (take k (log p w)))) was ∙ ap (λ x. length (of_origin (ident_of p w nd) x)) (take_all (log p w)) in
      let counted_now : length (of_origin (ident_of p (world_after p w es) l.node) (take (client_of p l.node.records).cursor (log p (world_after p w es)))) ≡ length (of_origin (ident_of p w nd) (log p (world_after p w es))) =
      ap₂ (λ c k. length (of_origin c (take k (log p (world_after p w es))))) is at_end ∙ ap (λ x. length (of_origin (ident_of p w nd) x)) (take_all (log p (world_after p w es))) in
      let all = all_dropped (length (of_origin (ident_of p w nd) (take (client_of p nd.records).cursor (log p w)))) (client_of p nd.records).made (sym f.rebased ∙ ap (map (λ (u : Unsent I). u.original)) cur.unsent) in
      let longer = count_longer p law built es w r (ident_of p w nd) in
      record {
        cursor = at_end;
        unsent = no_map (λ (u : Unsent I). u.original) (client_of p l.node.records).unsent (g.rebased ∙ drop_all (length (of_origin (ident_of p (world_after p w es) l.node) (take (client_of p l.node.records).cursor (log p (world_after p w es))))) (client_of p l.node.records).made (omega arith));
      }

  -- the same of the node that stands there
  pub stays_at : (w : World) (r : Valid p w) (es : List (Event I)) (i : ℕ) (nd end : Node) (h : at w.clients i ≡ Some nd) → at (world_after p w es).clients i ≡ Some end → ident_of p w nd ≢ 0 → IsCurrent p w nd
      → length (log p (world_after p w es)) ≡ length (log p w) → length (client_of p end.records).made ≡ length (client_of p nd.records).made → IsCurrent p (world_after p w es) end
  stays_at w r es i nd end h there ne cur same_log same_made =
      let l = node_later p law built es w r i nd h in
      let one : l.node ≡ end = same l.node end (sym l.here ∙ there) in
      subst (IsCurrent p (world_after p w es)) one (stays_current w r es i nd h ne cur same_log (ap (λ (x : Node). length (client_of p x.records).made) one ∙ same_made))
    where
      same : (a b : Node) → Some a ≡ Some b → a ≡ b
      same a b e = cc
