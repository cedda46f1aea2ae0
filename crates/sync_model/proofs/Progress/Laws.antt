-- The laws of progress.
use Rattle.std.proofs.Common.{◌≡◌, ◌⊎◌, ⊎_elim, ℕ, ◌+◌, ◌<◌, ◌≤◌, false, List, Some, refl, sym, ap, ◌∙◌, subst, arith, length}
use Rattle.sync_model.specs.Profile.{Profile, Lawful}
use Rattle.sync_model.specs.Snapshots.{Buildable}
use Rattle.sync_model.specs.Clients.{client_of}
use Rattle.sync_model.specs.Servers.{server_of}
use Rattle.sync_model.specs.Worlds.{Node, World, Event, at, outcomes, world_after}
use Rattle.sync_model.specs.Log.{ident_of, log}
use Rattle.sync_model.specs.Progress.{Comes, IsException, IsArmed, IsRoomy, HasCaughtUp, enough, catches_up, sweep, after_sweep, all_catch_up, enough_for_all, AnyArmed, AnyUnnamed, AnyOld, AllCurrent, after_turns, Gets}
use Rattle.sync_model.proofs.Lists.{at_map, length_map}
use Rattle.sync_model.proofs.Progress.Catching.{Goes}
use Rattle.sync_model.proofs.Progress.CatchUp.{one_catches_up}
use Rattle.sync_model.proofs.Progress.Interrupted.{gets}
use Rattle.sync_model.proofs.Progress.Sweeps.{goes_append, goes_map, Swept, SameNode, Flushed, Ended, StandsFor, dues, dues_made, dues_none, adds_made, adds_none, owes_none, flushed_stays, flushed_now, ended_stays, ident_at, sweeps}
use Rattle.sync_model.proofs.Progress.Valid.{Valid}

module _ {I S : Type 0} (p : Profile I S) {Fits Bounded Old : S → Type 0} (law : Lawful p Fits) (built : Buildable p Fits Bounded Old) (roomy : IsRoomy p) (w : World) (reached : Valid p w) where
  -- one client catches up, or a named exception comes
  pub catches_up_law : (i : ℕ) (nd : Node) → at w.clients i ≡ Some nd → (k : ℕ) → enough p w nd ≤ k
      → Comes (IsException (IsArmed p w nd) (ident_of p w nd ≡ 0) ((client_of p nd.records).second ≡ false)) (outcomes p w (catches_up nd.name (length w.messages) k)) ⊎ HasCaughtUp p (world_after p w (catches_up nd.name (length w.messages) k)) nd.name
  catches_up_law i nd here k le = let a = reached.apart i nd here in one_catches_up p law built roomy w reached nd.name a.1 i nd a.0 k le

  -- ---- all of them

  abbrev AllFlushed : World → Type 0
  AllFlushed v = (j : ℕ) (y : Node) → at v.clients j ≡ Some y → Flushed p law built roomy v y

  from_zero : (v : World) (j : ℕ) (x : Node) → StandsFor p law built roomy (AnyUnnamed p w) (AnyOld p w) v j x → StandsFor p law built roomy (AnyUnnamed p w) (AnyOld p w) v (0 + j) x
  from_zero v j x s = let e : j ≡ 0 + j = omega arith in subst (λ i. StandsFor p law built roomy (AnyUnnamed p w) (AnyOld p w) v i x) e s

  -- each owes what it made, or nothing
  abbrev due : Node → ℕ
  due x = length (client_of p x.records).made

  -- what the first sweep leaves
  first : (k : ℕ) → enough_for_all p w ≤ k → Goes p (IsException (AnyArmed p w) (AnyUnnamed p w) (AnyOld p w)) w (sweep w.clients (length w.messages) k) (λ v. Swept p law built roomy (λ v. Unit {0}) (Flushed p law built roomy) w v (after_sweep w.clients (length w.messages) k) (dues due w.clients))
  first k le =
      sweeps p law built roomy (AnyArmed p w) (AnyUnnamed p w) (AnyOld p w) (λ v. Unit {0}) (Flushed p law built roomy)
      (λ v v2 i nd nd2 inv here t. tt)
      (λ v v2 i nd nd2 inv here t j x ne h f. flushed_stays p law built roomy v v2 i nd nd2 t j x ne h f)
      (λ v v2 i nd nd2 t. flushed_now p law built roomy v v2 i nd nd2 t)
      due
      (λ v r i nd x inv here same. omega arith)
      (λ v v2 i nd nd2 x inv here same t. let le = adds_made p law built roomy v v2 i nd nd2 t in omega arith)
      k w.clients 0 w (length w.messages) reached refl (λ x ne. (x, ne)) tt
      (λ j x h. from_zero w j x (record { node = x; here = h; name = refl; made = refl; naming = λ z. (j, x, h, z); olding = λ z. (j, x, h, z) }))
      (omega arith) (let e = dues_made p w.clients in omega arith) (λ j y lt h. absurd (omega arith))

  flushed_again : (v v2 : World) (i : ℕ) (nd nd2 : Node) → AllFlushed v → at v.clients i ≡ Some nd → Rattle.sync_model.proofs.Progress.Sweeps.Stepped p v v2 i nd nd2 → AllFlushed v2
  flushed_again v v2 i nd nd2 all here t j y h = ⊎_elim
      (λ is.
      let at_i : at v2.clients i ≡ Some y = ap (at v2.clients) (sym is) ∙ h in
      let there = t.here in
      let one : nd2 ≡ y = cc in
      subst (Flushed p law built roomy v2) one (flushed_now p law built roomy v v2 i nd nd2 t))
      (λ ne. let old = sym (t.others j ne) ∙ h in flushed_stays p law built roomy v v2 i nd nd2 t j y ne old (all j y old))
      (Rattle.sync_theory.proofs.World.same_or_not j i)

  -- a client after the first sweep
  stands : (v : World) (n extra : ℕ) → Swept p law built roomy (λ v. Unit {0}) (Flushed p law built roomy) w v n extra → (j : ℕ) (x : Node) → at w.clients j ≡ Some x → StandsFor p law built roomy (AnyUnnamed p w) (AnyOld p w) v j x
  stands v n extra s j x h =
      let y = s.same j x h in
      let names : Some y.node.name ≡ Some x.name = sym (at_map (λ (z : Node). z.name) v.clients j y.node y.here) ∙ ap (λ l. at l j) s.names ∙ at_map (λ (z : Node). z.name) w.clients j x h in
      let f = s.all j y.node y.here in
      record {
        node = y.node;
        here = y.here;
        name = cc;
        made = y.made;
        naming = λ z. absurd (f.0 (sym (ident_at p law built roomy v s.reached j y.node y.here f.0) ∙ z));
        olding = λ z. (j, x, h, sym y.second ∙ z);
      }

  second : (k : ℕ) → enough_for_all p w ≤ k → (v : World) → Swept p law built roomy (λ v. Unit {0}) (Flushed p law built roomy) w v (after_sweep w.clients (length w.messages) k) (dues due w.clients)
      → Goes p (IsException (AnyArmed p w) (AnyUnnamed p w) (AnyOld p w)) v (sweep w.clients (after_sweep w.clients (length w.messages) k) k) (λ v2. AllCurrent p v2)
  second k le v s =
      goes_map p law built roomy (IsException (AnyArmed p w) (AnyUnnamed p w) (AnyOld p w)) v (sweep w.clients (after_sweep w.clients (length w.messages) k) k) (λ v2. Swept p law built roomy (λ u. (j : ℕ) (y : Node) → at u.clients j ≡ Some y → Flushed p law built roomy u y) (Ended p law built roomy) v v2 (after_sweep w.clients (after_sweep w.clients (length w.messages) k) k) (dues (λ x. 0) w.clients)) (λ v2. AllCurrent p v2)
      (λ v2 t i nd h. let d = t.all i nd h in (λ z. d.named (sym (ident_at p law built roomy v2 t.reached i nd h d.named) ∙ z), record { cursor = d.cursor; unsent = d.unsent }))
      (sweeps p law built roomy (AnyArmed p w) (AnyUnnamed p w) (AnyOld p w) (λ u. (j : ℕ) (y : Node) → at u.clients j ≡ Some y → Flushed p law built roomy u y) (Ended p law built roomy)
      flushed_again
      (λ u u2 i nd nd2 inv here t j x ne h d. ended_stays p law built roomy u u2 i nd nd2 (inv i nd here) t j x ne h d)
      (λ u u2 i nd nd2 t. t.done)
      (λ x. 0)
      (λ u r i nd x inv here same. owes_none p law built roomy u r i nd here (inv i nd here))
      (λ u u2 i nd nd2 x inv here same t. adds_none p law built roomy u u2 i nd nd2 (inv i nd here) t)
      k w.clients 0 v (after_sweep w.clients (length w.messages) k) s.reached s.messages (λ x ne. (x, λ z. ne (s.stops x z))) s.all
      (λ j x h. from_zero v j x (stands v (after_sweep w.clients (length w.messages) k) (dues due w.clients) s j x h))
      long budget (λ j y lt h. absurd (omega arith)))
    where
      long : length v.clients ≡ 0 + length w.clients
      long =
          let e = ap length s.names in
          let f = length_map (λ (y : Node). y.name) v.clients in
          let g = length_map (λ (y : Node). y.name) w.clients in
          omega arith

      budget : length (server_of p v.server).log + dues (λ x. 0) w.clients ≤ k
      budget = let l = s.log in let e = dues_made p w.clients in let z = dues_none w.clients in omega arith

  -- all clients catch up, or a named exception comes
  pub all_catch_up_law : (k : ℕ) → enough_for_all p w ≤ k → Comes (IsException (AnyArmed p w) (AnyUnnamed p w) (AnyOld p w)) (outcomes p w (all_catch_up w k)) ⊎ AllCurrent p (world_after p w (all_catch_up w k))
  all_catch_up_law k le = goes_append p (IsException (AnyArmed p w) (AnyUnnamed p w) (AnyOld p w)) (sweep w.clients (length w.messages) k) (sweep w.clients (after_sweep w.clients (length w.messages) k) k) w
      (λ v. Swept p law built roomy (λ v. Unit {0}) (Flushed p law built roomy) w v (after_sweep w.clients (length w.messages) k) (dues due w.clients)) (λ v2. AllCurrent p v2) (first k le) (second k le)

  -- a client that takes more turns than there are entries and own changes in the end
  pub gets_there : (i : ℕ) (nd : Node) → at w.clients i ≡ Some nd → (ess : List (List (Event I))) (most : ℕ)
      → ((y : Node) → at (after_turns p nd.name w ess).clients i ≡ Some y → length (log p (after_turns p nd.name w ess)) + length (client_of p y.records).made ≤ most) → most < length ess
      → Gets p (IsException (Unit {0}) (Unit {0}) ((client_of p nd.records).second ≡ false)) nd.name w ess
  gets_there i nd here ess most bounded lt = gets p law built roomy ((client_of p nd.records).second ≡ false) nd.name i most ess w reached nd here refl (λ z. z) bounded (omega arith)
