-- The whole exchange of a seed: nothing of it is refused.
use Rattle.std.proofs.Common.{◌≡◌, ◌⊎◌, inl, inr, ⊎_elim, ℕ, zero, suc, ◌+◌, ◌<◌, ◌≤◌, Bool, true, false, ◌||◌, List, [], ◌∷◌, ◌++◌, Some, refl, sym, ap, ◌∙◌, subst, arith, cond, if◌then◌else◌, map}
use Rattle.std.proofs.lemmas.List.Sums.{sum_by-cons}
use Rattle.std.specs.Prelude.{bytes_eq, count_by}
use Rattle.sync_data.specs.declared.instr.Instr.{Instr}
use Rattle.sync_model.specs.Worlds.{Event, World, at, empty_world, has_name, is_node, is_there, says, seek, server_name, world_after, NoNode, Opened}
use Rattle.sync_exchange.specs.Profile.{the_profile}
use Rattle.sync_gen.specs.Clients.{id_of, name_of}
use Rattle.sync_gen.specs.Turns.{turn_of}
use Rattle.sync_gen.specs.declared.turns.TurnKind.{TurnKind}
use Rattle.sync_gen.specs.declared.turns.TurnKind.TheVariants as kinds
use Rattle.gen_law.specs.declared.plan.Move.{Move}
use Rattle.gen_law.specs.declared.plan.Move.TheVariants as moves
use Rattle.gen_law.specs.Generated.{after, done_by, events_by, events_of, exchanged, joined, move_events, told, words_by, world_by}
use Rattle.gen_law.specs.Plans.{AreClients, IsClient, clients, plan, round, rounds, turns}
use Rattle.gen_law.specs.Refusals.{is_refused}
use Rattle.gen_law.proofs.Answered.{AllTaken, Taken, asks_taken, taken_by, uploads_taken}
use Rattle.gen_law.proofs.Editing.{drawn_taken}
use Rattle.gen_law.proofs.Edits.{below}
use Rattle.gen_law.proofs.Eight.{Good, Lasts, There, asks_once, exchange, good_less, place_of_client, there}
use Rattle.gen_law.proofs.First.{good_found, join_step, join_steps}
use Rattle.gen_law.proofs.Founded.{found_taken, made_is, pushed_begins}
use Rattle.gen_law.proofs.Lasting.{Begins, Far, begins_after, far_after, pulled, tabled_client}
use Rattle.gen_law.proofs.Joined.{join, join1, join2, join3, join4, join5, join6, join7, join8, name_at, name_is, with_clients}
use Rattle.gen_law.proofs.Parts.{good_pulls, good_push, step, steps, steps_append, turn_is, world_is}
use Rattle.gen_law.proofs.Whole.{all_clients, first_parts}

-- ---- events one after another

pub none_refused : (es : List (Event Instr)) (w : World) → AllTaken w es → count_by is_refused (words_by w es) ≡ 0
none_refused [] w f = refl
none_refused (e ∷ es) w f = sum_by-cons (λ words. cond (is_refused words) 1 0) (told w e) (words_by (after w e) es) ∙ counted (is_refused (told w e)) (count_by is_refused (words_by (after w e) es)) f.0 (none_refused es (after w e) f.1)
  where
    counted : (b : Bool) (n : ℕ) → b ≡ false → n ≡ 0 → cond b 1 0 + n ≡ 0
    counted true n e z = cc
    counted false n e z = omega (arith, z)

taken_append : (es fs : List (Event Instr)) (w : World) → AllTaken w es → AllTaken (world_by w es) fs → AllTaken w (es ++ fs)
taken_append [] fs w f h = h
taken_append (e ∷ es) fs w f h = (f.0, taken_append es fs (after w e) f.1 h)

-- the parts of a plan, one after another
abbrev Runs : List Move → World × ℕ → Type 0
Runs [] q = Unit {0}
Runs (m ∷ ms) q = AllTaken q.0 (move_events m q.0 q.1).0 × Runs ms (step m q)

runs_taken : (ms : List Move) (w : World) (x : ℕ) → Runs ms (w, x) → AllTaken w (events_by ms w x)
runs_taken [] w x r = tt
runs_taken (m ∷ ms) w x r =
    taken_append (move_events m w x).0 (events_by ms (world_by w (move_events m w x).0) (move_events m w x).1) w r.0
    (runs_taken ms (world_by w (move_events m w x).0) (move_events m w x).1 r.1)

runs_append : (ms ns : List Move) (q : World × ℕ) → Runs ms q → Runs ns (steps ms q) → Runs (ms ++ ns) q
runs_append [] ns q r s = s
runs_append (m ∷ ms) ns q r s = (r.0, runs_append ms ns (step m q) r.1 s)

-- ---- all join

runs_next : (c : ℕ) → c < 10 → (cs : List ℕ) (w v : World) → join c w ≡ v → AllTaken w (joined (name_at c) (Event.Joins (name_at c) (id_of c)) w) → (x : ℕ) → Runs (map moves.Join cs) (v, x) → Runs (map moves.Join (c ∷ cs)) (w, x)
runs_next c lt cs w v e taken x r = (subst (λ n. AllTaken w (joined n (Event.Joins n (id_of c)) w)) (sym (name_is c lt)) taken, subst (Runs (map moves.Join cs)) (sym (join_step c lt w v e x)) r)

taken1 : AllTaken empty_world (joined (name_at 1) (Event.Joins (name_at 1) (id_of 1)) empty_world)
unfolding after told
taken1 = (refl, (refl, (refl, (refl, tt))))

taken2 : AllTaken (with_clients (1 ∷ [])) (joined (name_at 2) (Event.Joins (name_at 2) (id_of 2)) (with_clients (1 ∷ [])))
unfolding after told
taken2 = (refl, (refl, (refl, (refl, tt))))

taken3 : AllTaken (with_clients (1 ∷ 2 ∷ [])) (joined (name_at 3) (Event.Joins (name_at 3) (id_of 3)) (with_clients (1 ∷ 2 ∷ [])))
unfolding after told
taken3 = (refl, (refl, (refl, (refl, tt))))

taken4 : AllTaken (with_clients (1 ∷ 2 ∷ 3 ∷ [])) (joined (name_at 4) (Event.Joins (name_at 4) (id_of 4)) (with_clients (1 ∷ 2 ∷ 3 ∷ [])))
unfolding after told
taken4 = (refl, (refl, (refl, (refl, tt))))

taken5 : AllTaken (with_clients (1 ∷ 2 ∷ 3 ∷ 4 ∷ [])) (joined (name_at 5) (Event.Joins (name_at 5) (id_of 5)) (with_clients (1 ∷ 2 ∷ 3 ∷ 4 ∷ [])))
unfolding after told
taken5 = (refl, (refl, (refl, (refl, tt))))

taken6 : AllTaken (with_clients (1 ∷ 2 ∷ 3 ∷ 4 ∷ 5 ∷ [])) (joined (name_at 6) (Event.Joins (name_at 6) (id_of 6)) (with_clients (1 ∷ 2 ∷ 3 ∷ 4 ∷ 5 ∷ [])))
unfolding after told
taken6 = (refl, (refl, (refl, (refl, tt))))

taken7 : AllTaken (with_clients (1 ∷ 2 ∷ 3 ∷ 4 ∷ 5 ∷ 6 ∷ [])) (joined (name_at 7) (Event.Joins (name_at 7) (id_of 7)) (with_clients (1 ∷ 2 ∷ 3 ∷ 4 ∷ 5 ∷ 6 ∷ [])))
unfolding after told
taken7 = (refl, (refl, (refl, (refl, tt))))

taken8 : AllTaken (with_clients (1 ∷ 2 ∷ 3 ∷ 4 ∷ 5 ∷ 6 ∷ 7 ∷ [])) (joined (name_at 8) (Event.Joins (name_at 8) (id_of 8)) (with_clients (1 ∷ 2 ∷ 3 ∷ 4 ∷ 5 ∷ 6 ∷ 7 ∷ [])))
unfolding after told
taken8 = (refl, (refl, (refl, (refl, tt))))

runs_joins : (x : ℕ) → Runs (map moves.Join clients) (empty_world, x)
runs_joins x =
    runs_next 1 (omega arith) (2 ∷ 3 ∷ 4 ∷ 5 ∷ 6 ∷ 7 ∷ 8 ∷ []) empty_world (with_clients (1 ∷ [])) join1 taken1 x (
    runs_next 2 (omega arith) (3 ∷ 4 ∷ 5 ∷ 6 ∷ 7 ∷ 8 ∷ []) (with_clients (1 ∷ [])) (with_clients (1 ∷ 2 ∷ [])) join2 taken2 x (
    runs_next 3 (omega arith) (4 ∷ 5 ∷ 6 ∷ 7 ∷ 8 ∷ []) (with_clients (1 ∷ 2 ∷ [])) (with_clients (1 ∷ 2 ∷ 3 ∷ [])) join3 taken3 x (
    runs_next 4 (omega arith) (5 ∷ 6 ∷ 7 ∷ 8 ∷ []) (with_clients (1 ∷ 2 ∷ 3 ∷ [])) (with_clients (1 ∷ 2 ∷ 3 ∷ 4 ∷ [])) join4 taken4 x (
    runs_next 5 (omega arith) (6 ∷ 7 ∷ 8 ∷ []) (with_clients (1 ∷ 2 ∷ 3 ∷ 4 ∷ [])) (with_clients (1 ∷ 2 ∷ 3 ∷ 4 ∷ 5 ∷ [])) join5 taken5 x (
    runs_next 6 (omega arith) (7 ∷ 8 ∷ []) (with_clients (1 ∷ 2 ∷ 3 ∷ 4 ∷ 5 ∷ [])) (with_clients (1 ∷ 2 ∷ 3 ∷ 4 ∷ 5 ∷ 6 ∷ [])) join6 taken6 x (
    runs_next 7 (omega arith) (8 ∷ []) (with_clients (1 ∷ 2 ∷ 3 ∷ 4 ∷ 5 ∷ 6 ∷ [])) (with_clients (1 ∷ 2 ∷ 3 ∷ 4 ∷ 5 ∷ 6 ∷ 7 ∷ [])) join7 taken7 x (
    runs_next 8 (omega arith) [] (with_clients (1 ∷ 2 ∷ 3 ∷ 4 ∷ 5 ∷ 6 ∷ 7 ∷ [])) (with_clients (1 ∷ 2 ∷ 3 ∷ 4 ∷ 5 ∷ 6 ∷ 7 ∷ 8 ∷ [])) join8 taken8 x (
    tt))))))))

-- ---- worlds in which every client has the table

record Sound (n : ℕ) (w : World) : Type 0 where
  good : Good n w
  begins : Begins w
  far : (c : ℕ) → IsClient c → Far w (name_of c)

module _ (lasts : Lasts) where
  big : {n : ℕ} {w : World} → n ≤ 100001 → Good n w → Good 100001 w
  big {n} {w} le g = good_less n 100001 w le g

  sound_after : {n m : ℕ} {w : World} (es : List (Event Instr)) → n ≤ 100001 → m ≤ 100001 → Sound n w → Good m (world_by w es) → Sound m (world_by w es)
  sound_after {n} {m} {w} es le le2 s g =
      let is = world_is es w in
      let g2 : Good 100001 (world_after the_profile w es) = subst (Good 100001) is (big le2 g) in
      record {
        good = g;
        begins = subst Begins (sym is) (begins_after w (big le s.good) es s.begins);
        far = λ c client. subst (λ v. Far v (name_of c)) (sym is) (far_after w (big le s.good) es g2 c client (s.far c client));
      }

  push_taken : {n : ℕ} {w : World} → n ≤ 100001 → Good n w → (c : ℕ) → IsClient c → AllTaken w (exchanged (name_of c) (Event.Uploads (name_of c)) w)
  push_taken {n} {w} le g c is = uploads_taken lasts w (big le g) (name_of c) (there n w g c is)

  pull_taken : {n : ℕ} {w : World} → n ≤ 100001 → Good n w → (c : ℕ) → IsClient c → AllTaken w (exchanged (name_of c) (Event.Asks (name_of c)) w)
  pull_taken {n} {w} le g c is = asks_taken lasts w (big le g) (name_of c) (there n w g c is)

  -- ---- the first pulls

  -- these clients pulled
  record Pulled (cs : List ℕ) (w v : World) : Type 0 where
    begins : Begins v
    far : (c : ℕ) → IsClient c → Far w (name_of c) ⊎ ((i : ℕ) × (at cs i ≡ Some c)) → Far v (name_of c)

  pulls_run : (cs : List ℕ) → AreClients cs → (q : World × ℕ) → Good 1 q.0 → Begins q.0 → Runs (map moves.Pull cs) q × Pulled cs q.0 (steps (map moves.Pull cs) q).0
  pulls_run [] are q g b = (tt, record { begins = b; far = λ c is h. ⊎_elim (λ f. f) (λ x. none_at c x.0 x.1) h })
    where
      none_at : {A : Type 0} (c i : ℕ) → at {A = ℕ} [] i ≡ Some c → A
      none_at c i e = cc
  pulls_run (d ∷ cs) are q g b = on (pulls_run cs are.1 (step (moves.Pull d) q) good begins)
    where
      es : List (Event Instr)
      es = exchanged (name_of d) (Event.Asks (name_of d)) q.0

      good : Good 1 (step (moves.Pull d) q).0
      good = good_pulls lasts 1 (d ∷ []) (are.0, tt) q g

      t : There q.0 (name_of d)
      t = there 1 q.0 g d are.0

      taken : AllTaken q.0 (exchanged (name_of d) (Event.Asks (name_of d)) q.0)
      taken = pull_taken (omega arith) g d are.0

      is : world_by q.0 (exchanged (name_of d) (Event.Asks (name_of d)) q.0) ≡ world_after the_profile q.0 (exchanged (name_of d) (Event.Asks (name_of d)) q.0)
      is = world_is (exchanged (name_of d) (Event.Asks (name_of d)) q.0) q.0

      begins : Begins (step (moves.Pull d) q).0
      begins = subst Begins (sym is) (begins_after q.0 (big (omega arith) g) (exchanged (name_of d) (Event.Asks (name_of d)) q.0) b)

      old_far : (c : ℕ) → IsClient c → Far q.0 (name_of c) → Far (step (moves.Pull d) q).0 (name_of c)
      old_far c client far = subst (λ v. Far v (name_of c)) (sym is) (far_after q.0 (big (omega arith) g) (exchanged (name_of d) (Event.Asks (name_of d)) q.0) (subst (Good 100001) is (big (omega arith) good)) c client far)

      new_far : Far (step (moves.Pull d) q).0 (name_of d)
      new_far =
          let x = exchange lasts 100001 q.0 (big (omega arith) g) (name_of d) t.apart (Event.Asks (name_of d)) tt refl (asks_once 100001 q.0 (big (omega arith) g) (name_of d) t) in
          let far = pulled q.0 (big (omega arith) g) (name_of d) t b (subst (AllTaken q.0) x.events taken) in
          subst (λ v. Far v (name_of d)) (sym (is ∙ ap (world_after the_profile q.0) x.events)) far

      on : {v : World} {r : Type 0} → r × Pulled cs (step (moves.Pull d) q).0 v → (AllTaken q.0 (exchanged (name_of d) (Event.Asks (name_of d)) q.0) × r) × Pulled (d ∷ cs) q.0 v
      on {v} {r} rest = ((taken, rest.0), record { begins = rest.1.begins; far = far })
        where
          far : (c : ℕ) → IsClient c → Far q.0 (name_of c) ⊎ ((i : ℕ) × (at (d ∷ cs) i ≡ Some c)) → Far v (name_of c)
          far c client (inl f) = rest.1.far c client (inl (old_far c client f))
          far c client (inr (zero, e)) = let same : d ≡ c = cc in rest.1.far c client (inl (subst (λ k. Far (step (moves.Pull d) q).0 (name_of k)) same new_far))
          far c client (inr (suc i, e)) = rest.1.far c client (inr (i, e))

  -- ---- turns and rounds

  restarts : {n : ℕ} {w : World} → Good n w → (c : ℕ) → IsClient c → Taken w (Event.Restarts (name_of c))
  restarts {n} {w} g c is = let t = there n w g c is in taken_by w (Event.Restarts (name_of c)) (says w (if is_node w (name_of c) then Opened else NoNode)) refl (on (bytes_eq (name_of c) server_name) (is_there (seek (has_name (name_of c)) w.clients)) (ap is_there t.found))
    where
      on : (a b : Bool) → b ≡ true → is_refused (if a || b then Opened else NoNode) ≡ false
      on true b e = refl
      on false true e = refl
      on false false e = cc

  turn_taken : {n : ℕ} {w : World} → n ≤ 100001 → Sound n w → (c : ℕ) → IsClient c → (kind : TurnKind) (x : ℕ) → AllTaken w (done_by (name_of c) kind w x).0
  turn_taken le s c is kinds.Restart x = (restarts s.good c is, tt)
  turn_taken {n} {w} le s c is (kinds.Edit ms) x =
      let t = there n w s.good c is in
      (drawn_taken w (big le s.good) (name_of c) t (tabled_client w (big le s.good) s.begins (name_of c) t (s.far c is)) ms x, tt)
  turn_taken le s c is kinds.Push x = push_taken le s.good c is
  turn_taken le s c is kinds.Pull x = pull_taken le s.good c is

  turns_run : (k n : ℕ) (q : World × ℕ) → n + k ≤ 100001 → Sound n q.0 → Runs (turns k) q × Sound (n + k) (steps (turns k) q).0
  turns_run zero n q le s = (tt, subst (λ m. Sound m q.0) (omega arith) s)
  turns_run (suc k) n q le s =
      let before = turns_run k n q (omega arith) s in
      let r : World × ℕ = steps (turns k) q in
      let lt = below 8 r.1 (omega arith) in
      let is : IsClient (turn_of (suc k) r.1).0.client = (omega arith, omega arith) in
      let taken = turn_taken (omega arith) before.1 (turn_of (suc k) r.1).0.client is (turn_of (suc k) r.1).0.kind (turn_of (suc k) r.1).1 in
      let good : Good (n + suc k) (step (moves.Turn (suc k)) r).0 = subst (λ m. Good m (step (moves.Turn (suc k)) r).0) (omega arith) (turn_is lasts (suc k) (n + k) r before.1.good) in (
        runs_append (turns k) (moves.Turn (suc k) ∷ []) q before.0 (taken, tt),
        subst (λ (v : World × ℕ). Sound (n + suc k) v.0) (sym (steps_append (turns k) (moves.Turn (suc k) ∷ []) q)) (sound_after (move_events (moves.Turn (suc k)) r.0 r.1).0 (omega arith) (omega arith) before.1 good),
      )

  round_run : {n : ℕ} → n ≤ 100001 → (cs : List ℕ) → AreClients cs → (q : World × ℕ) → Good n q.0 → Runs (round cs) q × Good n (steps (round cs) q).0
  round_run le [] are q g = (tt, g)
  round_run {n} le (c ∷ cs) are q g =
      let first = good_push lasts n q g c are.0 in
      let second = good_pulls lasts n (c ∷ []) (are.0, tt) (step (moves.Push c) q) first in
      let rest = round_run le cs are.1 (step (moves.Pull c) (step (moves.Push c) q)) second in
      ((push_taken le g c are.0, (pull_taken le first c are.0, rest.0)), rest.1)

  rounds_run : {n : ℕ} → n ≤ 100001 → (k : ℕ) (q : World × ℕ) → Good n q.0 → Runs (rounds k) q × Good n (steps (rounds k) q).0
  unfolding rounds
  rounds_run le zero q g = (tt, g)
  rounds_run {n} le (suc k) q g =
      let before = rounds_run le k q g in
      let last = round_run le clients all_clients (steps (rounds k) q) before.1 in
      (runs_append (rounds k) (round clients) q before.0 last.0, subst (λ (v : World × ℕ). Good n v.0) (sym (steps_append (rounds k) (round clients) q)) last.1)

  -- ---- the whole exchange

  first_run : (x : ℕ) → Runs first_parts (empty_world, x) × Sound 1 (steps first_parts (empty_world, x)).0
  first_run x = (runs, sound)
    where
      a : List Move
      a = map moves.Join clients

      q0 : World × ℕ
      q0 = (with_clients clients, x)

      q1 : World × ℕ
      q1 = step moves.Found (with_clients clients, x)

      q2 : World × ℕ
      q2 = step (moves.Push 1) (step moves.Found (with_clients clients, x))

      is1 : IsClient 1
      is1 = (omega arith, omega arith)

      good1 : Good 1 (step moves.Found (with_clients clients, x)).0
      good1 = good_found lasts all_clients x

      good2 : Good 1 (step (moves.Push 1) (step moves.Found (with_clients clients, x))).0
      good2 = good_push lasts 1 (step moves.Found (with_clients clients, x)) (good_found lasts all_clients x) 1 (omega arith, omega arith)

      begins2 : Begins (step (moves.Push 1) (step moves.Found (with_clients clients, x))).0
      begins2 =
          subst (λ v. Begins (world_by v (exchanged (name_of 1) (Event.Uploads (name_of 1)) v))) (sym (made_is lasts all_clients))
          (pushed_begins lasts all_clients (subst (Good 100001) (made_is lasts all_clients) (big (omega arith) (good_found lasts all_clients x))))

      pulls : Runs (map moves.Pull clients) (step (moves.Push 1) (step moves.Found (with_clients clients, x))) × Pulled clients (step (moves.Push 1) (step moves.Found (with_clients clients, x))).0 (steps (map moves.Pull clients) (step (moves.Push 1) (step moves.Found (with_clients clients, x)))).0
      pulls = pulls_run clients all_clients (step (moves.Push 1) (step moves.Found (with_clients clients, x))) good2 begins2

      to1 : steps (map moves.Join clients ++ moves.Found ∷ []) (empty_world, x) ≡ step moves.Found (with_clients clients, x)
      to1 = steps_append (map moves.Join clients) (moves.Found ∷ []) (empty_world, x) ∙ ap (step moves.Found) (join_steps x)

      to2 : steps (map moves.Join clients ++ moves.Found ∷ [] ++ moves.Push 1 ∷ []) (empty_world, x) ≡ step (moves.Push 1) (step moves.Found (with_clients clients, x))
      to2 = steps_append (map moves.Join clients ++ moves.Found ∷ []) (moves.Push 1 ∷ []) (empty_world, x) ∙ ap (step (moves.Push 1)) to1

      runs : Runs first_parts (empty_world, x)
      runs =
          runs_append (map moves.Join clients ++ moves.Found ∷ [] ++ moves.Push 1 ∷ []) (map moves.Pull clients) (empty_world, x)
          (runs_append (map moves.Join clients ++ moves.Found ∷ []) (moves.Push 1 ∷ []) (empty_world, x)
          (runs_append (map moves.Join clients) (moves.Found ∷ []) (empty_world, x) (runs_joins x) (subst (Runs (moves.Found ∷ [])) (sym (join_steps x)) ((found_taken lasts all_clients, tt), tt)))
          (subst (Runs (moves.Push 1 ∷ [])) (sym to1) (push_taken (omega arith) good1 1 is1, tt)))
          (subst (Runs (map moves.Pull clients)) (sym to2) pulls.0)

      sound : Sound 1 (steps first_parts (empty_world, x)).0
      sound = subst (λ (v : World × ℕ). Sound 1 v.0) (sym (steps_append (map moves.Join clients ++ moves.Found ∷ [] ++ moves.Push 1 ∷ []) (map moves.Pull clients) (empty_world, x) ∙ ap (steps (map moves.Pull clients)) to2)) (record {
        good = good_pulls lasts 1 clients all_clients (step (moves.Push 1) (step moves.Found (with_clients clients, x))) good2;
        begins = pulls.1.begins;
        far = λ c is. pulls.1.far c is (inr (place_of_client c is));
      })

  pub all_accepted : (seed count : ℕ) → count ≤ 100000 → count_by is_refused (words_by empty_world (events_of seed count)) ≡ 0
  unfolding events_of plan
  all_accepted seed count le =
      let first = first_run seed in
      let q1 : World × ℕ = steps first_parts (empty_world, seed) in
      let middle = turns_run count 1 q1 (omega arith) first.1 in
      let q2 : World × ℕ = steps (turns count) q1 in
      let last = rounds_run (omega arith) 64 q2 middle.1.good in
      let runs1 = runs_append first_parts (turns count) (empty_world, seed) first.0 middle.0 in
      let runs2 = runs_append (first_parts ++ turns count) (rounds 64) (empty_world, seed) runs1 (subst (Runs (rounds 64)) (sym (steps_append first_parts (turns count) (empty_world, seed))) last.0) in
      none_refused (events_by (first_parts ++ turns count ++ rounds 64) empty_world seed) empty_world (runs_taken (first_parts ++ turns count ++ rounds 64) empty_world seed runs2)
