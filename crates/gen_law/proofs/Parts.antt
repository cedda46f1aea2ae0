-- What the parts of a plan make of such a world, one after another.
use Rattle.std.proofs.Common.{◌≡◌, ℕ, zero, suc, ◌+◌, List, [], ◌∷◌, ◌++◌, refl, sym, ap, ap₂, ◌∙◌, subst, arith, append_assoc, append-nil, length, map}
use Rattle.sync_data.specs.declared.instr.Instr.{Instr}
use Rattle.sync_model.specs.Bytes.{Name}
use Rattle.sync_model.specs.Harmless.{after_once, in_turn, once}
use Rattle.sync_model.specs.Progress.{asks_at, uploads_at}
use Rattle.sync_model.specs.Clients.{client_of}
use Rattle.sync_model.specs.Worlds.{Event, World, world_after}
use Rattle.sync_model.proofs.Progress.Interrupted.{after_append}
use Rattle.sync_exchange.specs.Profile.{the_profile}
use Rattle.sync_gen.specs.Clients.{name_of}
use Rattle.sync_gen.specs.Edits.{edit_of}
use Rattle.sync_gen.specs.Turns.{turn_of}
use Rattle.sync_gen.specs.declared.turns.TurnKind.{TurnKind}
use Rattle.sync_gen.specs.declared.turns.TurnKind.TheVariants as kinds
use Rattle.gen_law.specs.declared.plan.Move.{Move}
use Rattle.gen_law.specs.declared.plan.Move.TheVariants as moves
use Rattle.gen_law.specs.Generated.{after, done_by, events_by, exchanged, move_events, objects_of, world_by}
use Rattle.gen_law.specs.Plans.{AreClients, IsClient, clients, round, rounds, turns}
use Rattle.gen_law.proofs.Edits.{below, drawn_edit}
use Rattle.gen_law.proofs.Eight.{Exchanged, Good, Lasts, asks_once, eight, exchange, good_after, good_less, good_made, there, uploads_once}
use Rattle.gen_law.proofs.Harmless.{one_drawn}

-- ---- a world and the state of the draws, after parts of a plan

abbrev pub step : Move → World × ℕ → World × ℕ
step m q = (world_by q.0 (move_events m q.0 q.1).0, (move_events m q.0 q.1).1)

abbrev pub steps : List Move → World × ℕ → World × ℕ
steps [] q = q
steps (m ∷ ms) q = steps ms (step m q)

pub world_append : (w : World) (es fs : List (Event Instr)) → world_by w (es ++ fs) ≡ world_by (world_by w es) fs
world_append w [] fs = refl
world_append w (e ∷ es) fs = world_append (after w e) es fs

pub steps_are : (ms : List Move) (w : World) (x : ℕ) → world_by w (events_by ms w x) ≡ (steps ms (w, x)).0
steps_are [] w x = refl
steps_are (m ∷ ms) w x = world_append w (move_events m w x).0 (events_by ms (world_by w (move_events m w x).0) (move_events m w x).1) ∙ steps_are ms (world_by w (move_events m w x).0) (move_events m w x).1

pub steps_append : (ms ns : List Move) (q : World × ℕ) → steps (ms ++ ns) q ≡ steps ns (steps ms q)
steps_append [] ns q = refl
steps_append (m ∷ ms) ns q = steps_append ms ns (step m q)

pub world_is : (es : List (Event Instr)) (w : World) → world_by w es ≡ world_after the_profile w es
unfolding after
world_is [] w = refl
world_is (e ∷ es) w = world_is es (after w e)

-- ---- a client pushes or pulls

-- a client exchanged messages with the server by these events
record Went (most : ℕ) (es : List (Event Instr)) (q r : World × ℕ) : Type 0 where
  good : Good most r.0
  world : r.0 ≡ world_after the_profile q.0 es
  messages : length r.0.messages ≡ suc (suc (length q.0.messages))

module _ (lasts : Lasts) where
  uploads : (most : ℕ) (w : World) → Good most w → (c : ℕ) → IsClient c → Exchanged most w (name_of c) (Event.Uploads (name_of c))
  uploads most w g c is = let t = there most w g c is in exchange lasts most w g (name_of c) t.apart (Event.Uploads (name_of c)) tt refl (uploads_once most w g (name_of c) t)

  asks : (most : ℕ) (w : World) → Good most w → (c : ℕ) → IsClient c → Exchanged most w (name_of c) (Event.Asks (name_of c))
  asks most w g c is = let t = there most w g c is in exchange lasts most w g (name_of c) t.apart (Event.Asks (name_of c)) tt refl (asks_once most w g (name_of c) t)

  pushes : (most : ℕ) (q : World × ℕ) → Good most q.0 → (c : ℕ) → IsClient c → Went most (uploads_at (name_of c) (length q.0.messages)) q (step (moves.Push c) q)
  pushes most q g c is =
      let x = uploads most q.0 g c is in
      record { good = x.good; world = world_is (exchanged (name_of c) (Event.Uploads (name_of c)) q.0) q.0 ∙ ap (world_after the_profile q.0) x.events; messages = x.messages }

  pulls : (most : ℕ) (q : World × ℕ) → Good most q.0 → (c : ℕ) → IsClient c → Went most (asks_at (name_of c) (length q.0.messages)) q (step (moves.Pull c) q)
  pulls most q g c is =
      let x = asks most q.0 g c is in
      record { good = x.good; world = world_is (exchanged (name_of c) (Event.Asks (name_of c)) q.0) q.0 ∙ ap (world_after the_profile q.0) x.events; messages = x.messages }

  pub good_push : (most : ℕ) (q : World × ℕ) → Good most q.0 → (c : ℕ) → IsClient c → Good most (step (moves.Push c) q).0
  good_push most q g c is = (pushes most q g c is).good

  pub good_pulls : (most : ℕ) (cs : List ℕ) → AreClients cs → (q : World × ℕ) → Good most q.0 → Good most (steps (map moves.Pull cs) q).0
  good_pulls most [] are q g = g
  good_pulls most (c ∷ cs) are q g = good_pulls most cs are.1 (step (moves.Pull c) q) (pulls most q g c are.0).good

  -- ---- turns

  pub good_turn : (n : ℕ) (w : World) → Good n w → (c : ℕ) → IsClient c → (kind : TurnKind) (x : ℕ) → Good (suc n) (world_by w (done_by (name_of c) kind w x).0)
  good_turn n w g c is kinds.Restart x = good_less n (suc n) (after w (Event.Restarts (name_of c))) (omega arith) (good_after lasts n w (Event.Restarts (name_of c)) g tt refl)
  good_turn n w g c is (kinds.Edit ms) x =
      let e = (edit_of (objects_of w (name_of c)) x).0 in
      let fits = drawn_edit (objects_of w (name_of c)) x in
      subst (λ k. Good k (after w (Event.Edits (name_of c) ms (e ∷ [])))) (omega arith)
      (good_made lasts n w (Event.Edits (name_of c) ms (e ∷ [])) g (λ i nd here named. one_drawn (client_of the_profile nd.records).ident e fits.0 fits.1))
  good_turn n w g c is kinds.Push x = let e = uploads n w g c is in good_less n (suc n) (world_by w (exchanged (name_of c) (Event.Uploads (name_of c)) w)) (omega arith) e.good
  good_turn n w g c is kinds.Pull x = let e = asks n w g c is in good_less n (suc n) (world_by w (exchanged (name_of c) (Event.Asks (name_of c)) w)) (omega arith) e.good

  pub turn_is : (number : ℕ) (n : ℕ) (q : World × ℕ) → Good n q.0 → Good (suc n) (step (moves.Turn number) q).0
  turn_is number n q g = let lt = below 8 q.1 (omega arith) in good_turn n q.0 g (turn_of number q.1).0.client (omega arith, omega arith) (turn_of number q.1).0.kind (turn_of number q.1).1

  pub good_turns : (n k : ℕ) (q : World × ℕ) → Good n q.0 → Good (n + k) (steps (turns k) q).0
  good_turns n zero q g = subst (λ m. Good m q.0) (omega arith) g
  good_turns n (suc k) q g =
      subst (λ (r : World × ℕ). Good (n + suc k) r.0) (sym (steps_append (turns k) (moves.Turn (suc k) ∷ []) q))
      (subst (λ m. Good m (step (moves.Turn (suc k)) (steps (turns k) q)).0) (omega arith) (turn_is (suc k) (n + k) (steps (turns k) q) (good_turns n k q g)))

  -- ---- rounds

  -- clients of these names uploaded and asked
  record Rounded (most : ℕ) (names : List Name) (q r : World × ℕ) : Type 0 where
    good : Good most r.0
    world : r.0 ≡ world_after the_profile q.0 (once names (length q.0.messages))
    messages : length r.0.messages ≡ after_once names (length q.0.messages)

  rounded : (most : ℕ) (cs : List ℕ) → AreClients cs → (q : World × ℕ) → Good most q.0 → Rounded most (map name_of cs) q (steps (round cs) q)
  rounded most [] are q g = record { good = g; world = refl; messages = refl }
  rounded most (c ∷ cs) are q g = on a b (rounded most cs are.1 (step (moves.Pull c) (step (moves.Push c) q)) b.good)
    where
      a : Went most (uploads_at (name_of c) (length q.0.messages)) q (step (moves.Push c) q)
      a = pushes most q g c are.0

      b : Went most (asks_at (name_of c) (length (step (moves.Push c) q).0.messages)) (step (moves.Push c) q) (step (moves.Pull c) (step (moves.Push c) q))
      b = pulls most (step (moves.Push c) q) a.good c are.0

      on : {q1 q2 r : World × ℕ} → Went most (uploads_at (name_of c) (length q.0.messages)) q q1 → Went most (asks_at (name_of c) (length q1.0.messages)) q1 q2 → Rounded most (map name_of cs) q2 r → Rounded most (name_of c ∷ map name_of cs) q r
      on {q1} {q2} {r} a b f =
          let n : length q2.0.messages ≡ suc (suc (suc (suc (length q.0.messages)))) = b.messages ∙ ap (λ k. suc (suc k)) a.messages in
          let w2 : q2.0 ≡ world_after the_profile (world_after the_profile q.0 (uploads_at (name_of c) (length q.0.messages))) (asks_at (name_of c) (suc (suc (length q.0.messages)))) =
          b.world ∙ ap₂ (λ v k. world_after the_profile v (asks_at (name_of c) k)) a.world a.messages in
          record {
            good = f.good;
            world = f.world ∙ ap₂ (λ v k. world_after the_profile v (once (map name_of cs) k)) w2 n;
            messages = f.messages ∙ ap (after_once (map name_of cs)) n;
          }

  -- a round more is one more in front
  rounds_front : (k : ℕ) → rounds (suc k) ≡ round clients ++ rounds k
  unfolding rounds
  rounds_front zero = sym (append-nil (round clients))
  rounds_front (suc k) = ap (λ ms. ms ++ round clients) (rounds_front k) ∙ append_assoc (round clients) (rounds k) (round clients)

  rounds_none : rounds zero ≡ []
  unfolding rounds
  rounds_none = refl

  -- so many rounds of all
  pub record Circled (most k : ℕ) (q r : World × ℕ) : Type 0 where
    pub good : Good most r.0
    pub world : r.0 ≡ world_after the_profile q.0 (in_turn eight (length q.0.messages) k)

  pub circled : (most k : ℕ) → AreClients clients → (q : World × ℕ) → Good most q.0 → Circled most k q (steps (rounds k) q)
  circled most zero are q g = subst (λ ms. Circled most zero q (steps ms q)) (sym rounds_none) (record { good = g; world = refl })
  circled most (suc k) are q g =
      let a = rounded most clients are q g in
      let b = circled most k are (steps (round clients) q) a.good in
      let to : steps (rounds (suc k)) q ≡ steps (rounds k) (steps (round clients) q) = ap (λ ms. steps ms q) (rounds_front k) ∙ steps_append (round clients) (rounds k) q in
      subst (Circled most (suc k) q) (sym to)
      (record { good = b.good; world = b.world ∙ ap₂ (λ v n. world_after the_profile v (in_turn eight n k)) a.world a.messages ∙ sym (after_append the_profile (once eight (length q.0.messages)) (in_turn eight (after_once eight (length q.0.messages)) k) q.0) })
