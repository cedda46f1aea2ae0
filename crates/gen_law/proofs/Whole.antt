-- The whole exchange of a seed: all catch up.
use Rattle.std.proofs.Common.{◌≡◌, ◌≢◌, ℕ, ◌+◌, ◌*◌, ◌<◌, ◌≤◌, Bool, true, List, [], ◌∷◌, ◌++◌, Some, sym, ap, ◌∙◌, subst, arith, length, map}
use Rattle.sync_data.specs.declared.instr.Instr.{Instr}
use Rattle.sync_model.specs.Clients.{client_of}
use Rattle.sync_model.specs.Harmless.{AreHarmless, IsHarmless, in_turn}
use Rattle.sync_model.specs.Log.{ident_of, subset_of}
use Rattle.sync_model.specs.Profile.{only_by}
use Rattle.sync_model.specs.Progress.{AllCurrent, IsCurrent}
use Rattle.sync_model.specs.Servers.{server_objects, server_of}
use Rattle.sync_model.specs.Worlds.{IsReached, Node, World, at, empty_world, world_after}
use Rattle.sync_exchange.specs.Profile.{the_profile}
use Rattle.gen_law.specs.declared.plan.Move.{Move}
use Rattle.gen_law.specs.declared.plan.Move.TheVariants as moves
use Rattle.gen_law.specs.Ends.{AllCaughtUp}
use Rattle.gen_law.specs.Generated.{events_of, world_by}
use Rattle.gen_law.specs.Plans.{AreClients, clients, plan, rounds, turns}
use Rattle.gen_law.proofs.Eight.{Good, Lasts, good_less}
use Rattle.gen_law.proofs.First.{good_found, join_steps}
use Rattle.gen_law.proofs.Harmless.{drawn_harmless, is_drawn}
use Rattle.gen_law.proofs.Joined.{with_clients}
use Rattle.gen_law.proofs.Parts.{Circled, circled, good_pulls, good_push, good_turns, step, steps, steps_append, steps_are}

-- what the laws say: harmless clients catch up in turn, and one that is current has its part of the server's objects
abbrev pub CatchUp : Type 0
CatchUp = (test : ℕ → ℕ → List Instr → Bool) (most size : ℕ) → AreHarmless the_profile (λ c n is. test c n is ≡ true) most size → most ≤ the_profile.full
    → (w : World) → IsReached the_profile w → IsHarmless the_profile (λ c n is. test c n is ≡ true) most w
    → (batch : ℕ) → batch ≤ the_profile.most → batch * size ≤ the_profile.room → (turns : ℕ) → most < turns * batch → (rounds : ℕ) → turns + turns ≤ rounds
    → AllCurrent the_profile (world_after the_profile w (in_turn (map (λ nd. nd.name) w.clients) (length w.messages) rounds))

abbrev pub HaveObjects : Type 0
HaveObjects = (w : World) → IsReached the_profile w → (i : ℕ) (nd : Node) → at w.clients i ≡ Some nd → ident_of the_profile w nd ≢ 0 → IsCurrent the_profile w nd
    → (client_of the_profile nd.records).objects ≡ only_by the_profile (subset_of the_profile nd) (server_objects the_profile (server_of the_profile w.server))

pub all_clients : AreClients clients
all_clients =
    ((omega arith, omega arith), ((omega arith, omega arith), ((omega arith, omega arith), ((omega arith, omega arith), ((omega arith, omega arith), ((omega arith, omega arith), ((omega arith, omega arith), ((omega arith, omega arith), tt))))))))

-- before the turns
abbrev pub first_parts : List Move
first_parts = map moves.Join clients ++ moves.Found ∷ [] ++ moves.Push 1 ∷ [] ++ map moves.Pull clients

module _ (lasts : Lasts) (catch_up : CatchUp) (have : HaveObjects) where
  pub good_first : (x : ℕ) → Good 1 (steps first_parts (empty_world, x)).0
  good_first x =
      let a : List Move = map moves.Join clients in
      let to : steps first_parts (empty_world, x) ≡ steps (map moves.Pull clients) (step (moves.Push 1) (step moves.Found (with_clients clients, x))) =
      steps_append (a ++ moves.Found ∷ [] ++ moves.Push 1 ∷ []) (map moves.Pull clients) (empty_world, x)
      ∙ ap (steps (map moves.Pull clients)) (steps_append (a ++ moves.Found ∷ []) (moves.Push 1 ∷ []) (empty_world, x) ∙ ap (step (moves.Push 1)) (steps_append a (moves.Found ∷ []) (empty_world, x) ∙ ap (step moves.Found) (join_steps x))) in
      subst (λ (r : World × ℕ). Good 1 r.0) (sym to)
      (good_pulls lasts 1 clients all_clients (step (moves.Push 1) (step moves.Found (with_clients clients, x)))
      (good_push lasts 1 (step moves.Found (with_clients clients, x)) (good_found lasts all_clients x) 1 (omega arith, omega arith)))

  caught_up : (q r : World × ℕ) → Good 100001 q.0 → Circled lasts 100001 64 q r → AllCaughtUp r.0
  caught_up q r g c = record {
    clients = c.good.names;
    current = current;
    objects = λ i nd here.
        let x = current i nd here in
        have r.0 c.good.reached i nd here x.0 x.1 ∙ ap (λ t. only_by the_profile t (server_objects the_profile (server_of the_profile r.0.server))) (c.good.harmless.clients i nd here).tables;
  }
    where
      current : AllCurrent the_profile r.0
      current =
          let all = catch_up is_drawn 100001 851 drawn_harmless (omega arith) q.0 g.reached g.harmless 4096 (omega arith) (omega arith) 25 (omega arith) 64 (omega arith) in
          subst (AllCurrent the_profile) (ap (λ names. world_after the_profile q.0 (in_turn names (length q.0.messages) 64)) g.names ∙ sym c.world) all

  pub all_catch_up : (seed count : ℕ) → count ≤ 100000 → AllCaughtUp (world_by empty_world (events_of seed count))
  unfolding events_of plan
  all_catch_up seed count le =
      let q : World × ℕ = steps (turns count) (steps first_parts (empty_world, seed)) in
      let to : steps (first_parts ++ turns count ++ rounds 64) (empty_world, seed) ≡ steps (rounds 64) (steps (turns count) (steps first_parts (empty_world, seed))) =
      steps_append (first_parts ++ turns count) (rounds 64) (empty_world, seed) ∙ ap (steps (rounds 64)) (steps_append first_parts (turns count) (empty_world, seed)) in
      let g = good_less (1 + count) 100001 q.0 (omega arith) (good_turns lasts 1 count (steps first_parts (empty_world, seed)) (good_first seed)) in
      subst AllCaughtUp (sym (steps_are (plan count) empty_world seed ∙ ap (λ (r : World × ℕ). r.0) to)) (caught_up q (steps (rounds 64) q) g (circled lasts 100001 64 all_clients q g))
