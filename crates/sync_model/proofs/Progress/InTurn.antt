-- Clients that upload and ask in turn are all current in the end, where what they make is harmless and messages bear it.
use Rattle.std.proofs.Common.{◌≡◌, ◌≢◌, ◌⊎◌, inl, inr, ⊎_elim, ℕ, zero, suc, ◌+◌, ◌-◌, ◌*◌, ◌<◌, ◌≤◌, Bool, true, false, List, [], ◌∷◌, ◌++◌, Option, Some, None, refl, sym, ap, ap₂, ◌∙◌, subst, subst₂, arith, append_assoc, append-nil, length, length-append, map}
use Rattle.std.specs.Prelude.{bytes_eq}
use Rattle.sync_theory.specs.Logs.{of_origin}
use Rattle.sync_theory.proofs.World.{same_or_not, le_or_lt}
use Rattle.sync_model.specs.Bytes.{Name}
use Rattle.sync_model.specs.Profile.{Profile, Lawful}
use Rattle.sync_model.specs.Snapshots.{Buildable}
use Rattle.sync_model.specs.Clients.{Client, Unsent, client_of}
use Rattle.sync_model.specs.Servers.{Server, server_of, count}
use Rattle.sync_model.specs.Worlds.{Node, World, Words, at, ident_is, server_name, outcomes, world_after}
use Rattle.sync_model.specs.Log.{ident_by}
use Rattle.sync_model.specs.Harmless.{AreHarmless, IsHarmless, once, after_once, in_turn}
use Rattle.sync_model.specs.Progress.{Comes, comes_now, comes_later, AllCurrent, uploads_at, asks_at}
use Rattle.sync_model.proofs.Lists.{at_of_map, seek_map, take_all}
use Rattle.sync_model.proofs.Sim.{uuid_of}
use Rattle.sync_model.proofs.Progress.Serves.{SameClient, same_refl}
use Rattle.sync_model.proofs.Progress.Catching.{Goes, Here, at_node, facts}
use Rattle.sync_model.proofs.Progress.Names.{names_of}
use Rattle.sync_model.proofs.Progress.Sweeps.{goes_append}
use Rattle.sync_model.proofs.Progress.Turns.{Undisturbed, Onto, Gains, log_within, undisturbed, round}
use Rattle.sync_model.proofs.Progress.Valid.{Valid}

at_mid : {A : Type 0} (xs ys : List A) (y : A) → at (xs ++ y ∷ ys) (length xs) ≡ Some y
at_mid [] ys y = refl
at_mid (x ∷ xs) ys y = at_mid xs ys y

at_length : {A : Type 0} (xs : List A) (k : ℕ) (x : A) → at xs k ≡ Some x → k < length xs
at_length [] k x e = cc
at_length (y ∷ xs) zero x e = omega arith
at_length (y ∷ xs) (suc k) x e = let h = at_length xs k x e in omega arith

times_le : (a b c : ℕ) → a ≤ b → a * c ≤ b * c
times_le zero b c le = omega arith
times_le (suc a) zero c le = absurd (omega arith)
times_le (suc a) (suc b) c le = let h = times_le a b c (omega arith) in omega arith

none_left : {A B : Type 0} (f : A → B) (xs : List A) → length (map f xs) ≡ 0 → xs ≡ []
none_left f [] e = refl
none_left f (x ∷ xs) e = absurd (omega arith)

never_comes : (ws : List Words) → Comes (λ x. ⊥) ws → ⊥
never_comes [] c = elim c [ ]
never_comes (x ∷ xs) (comes_now h) = h
never_comes (x ∷ xs) (comes_later c) = never_comes xs c

module _ {I S : Type 0} (p : Profile I S) (of : ℕ → ℕ → List I → Type 0) (most size : ℕ) (harmless : AreHarmless p of most size) {Fits Bounded Old : S → Type 0} (law : Lawful p Fits) (built : Buildable p Fits Bounded Old) (within : most ≤ p.full) where
  abbrev Ready : World → Type 0
  Ready v = Undisturbed p of most size harmless (server_of p v.server).ids v.clients

  -- ---- one client's round

  -- what it makes of a world
  record Turned (b : ℕ) (v v2 : World) (i : ℕ) (nd nd2 : Node) : Type 0 where
    reached : Valid p v2
    stops : (x : Name) → v2.stops x ≡ None
    names : names_of v2.clients ≡ names_of v.clients
    others : (j : ℕ) → j ≢ i → at v2.clients j ≡ at v.clients j
    here : at v2.clients i ≡ Some nd2
    ready : Ready v2
    same : SameClient p (client_of p nd.records) (client_of p nd2.records)
    onto : Onto p of most size harmless law built within (server_of p v.server) (server_of p v2.server) (client_of p nd.records).ident
    gains : Gains p of most size harmless law built within b (server_of p v2.server) (client_of p nd.records) (client_of p nd2.records)
    cursor : (client_of p nd.records).cursor ≤ (client_of p nd2.records).cursor
    owned : count (server_of p v2.server) (client_of p nd.records).ident ≤ length (client_of p nd.records).made
    log_few : length (server_of p v2.server).log ≤ most
    was_within : (client_of p nd.records).cursor ≤ length (server_of p v.server).log
    was_few : length (server_of p v.server).log ≤ most

  record After (b : ℕ) (v v2 : World) (i : ℕ) (nd : Node) (n : ℕ) : Type 0 where
    node : Node
    messages : length v2.messages ≡ n
    turned : Turned b v v2 i nd node

  module _ (b : ℕ) (few : b ≤ p.most) (fits : b * size ≤ p.room) where
    turn : (v : World) → Valid p v → ((x : Name) → v.stops x ≡ None) → Ready v → (i : ℕ) (nd : Node) → at v.clients i ≡ Some nd → (n : ℕ) → length v.messages ≡ n
        → Goes p (λ x. ⊥) v (uploads_at nd.name n ++ (asks_at nd.name (suc (suc n)) ++ [])) (λ v2. After b v v2 i nd (suc (suc (suc (suc n)))))
    turn v reached unarmed ready i nd here n n_is =
        round p of most size harmless law built within b few fits v ready nd.name i nd here not_server arms arms_server start (same_refl p (client_of p nd.records)) refl [] (λ v2. After b v v2 i nd (suc (suc (suc (suc n))))) (λ v2 s2 st2 h2 same onto gains.
        inr (to_after h2 same onto gains))
      where
        not_server : bytes_eq nd.name server_name ≡ false
        not_server = (reached.apart i nd here).1

        arms : v.stops nd.name ≢ None → ⊥
        arms ne = ne (unarmed nd.name)

        arms_server : v.stops server_name ≢ None → ⊥
        arms_server ne = ne (unarmed server_name)

        start : Here p law built (λ x. ⊥) ⊥ (λ a. a) v nd.name i nd not_server arms arms_server v (server_of p v.server) (client_of p nd.records) n
        start = record { reached = reached; node = nd; found = (reached.apart i nd here).0; name_is = refl; stops = λ x e. e; others = λ j ne. refl; names = refl; client = refl; server = refl; messages = n_is }

        to_after : {v2 : World} {s2 : Server I} {st2 : Client I S} {m : ℕ} (h : Here p law built (λ x. ⊥) ⊥ (λ a. a) v nd.name i nd not_server arms arms_server v2 s2 st2 m) → SameClient p (client_of p nd.records) st2 → Onto p of most size harmless law built within (server_of p v.server) s2 (client_of p nd.records).ident → Gains p of most size harmless law built within b s2 (client_of p nd.records) st2 → After b v v2 i nd m
        to_after {v2} {s2} {st2} h same onto gains =
            let it = at_node p law built (λ x. ⊥) ⊥ (λ a. a) v nd.name i nd not_server arms arms_server h in
            let ready2 : Ready v2 = undisturbed p of most size harmless law built within b few fits v ready nd.name i nd here not_server arms arms_server h same onto.ids in
            let named : st2.ident ≢ 0 = λ z. (ready.clients i nd here).named (sym same.ident ∙ z) in
            let f = facts p law built (λ x. ⊥) ⊥ (λ a. a) v nd.name i nd not_server arms arms_server h named in
            let owned_ : count s2 (client_of p nd.records).ident ≤ length (client_of p nd.records).made = subst₂ (λ c l. count s2 c ≤ length l) same.ident same.made f.owned in
            let up = gains.uploads in
            let more = gains.takes in
            let before = in_log v reached ready i nd here in
            record {
              node = h.node;
              messages = h.messages;
              turned = record {
                reached = h.reached;
                stops = λ x. h.stops x (unarmed x);
                names = h.names;
                others = h.others;
                here = it;
                ready = ready2;
                same = subst (SameClient p (client_of p nd.records)) (sym h.client) same;
                onto = subst (λ x. Onto p of most size harmless law built within (server_of p v.server) x (client_of p nd.records).ident) (sym h.server) onto;
                gains = subst₂ (λ x c. Gains p of most size harmless law built within b x (client_of p nd.records) c) (sym h.server) (sym h.client) gains;
                cursor = subst (λ (c : Client I S). (client_of p nd.records).cursor ≤ c.cursor) (sym h.client) (risen st2.cursor s2 onto.more onto.log before more);
                owned = subst (λ x. count x (client_of p nd.records).ident ≤ length (client_of p nd.records).made) (sym h.server) owned_;
                log_few = log_within p of most size harmless law built within v2 h.reached.holds ready2;
                was_within = before;
                was_few = log_within p of most size harmless law built within v reached.holds ready;
              };
            }
          where
            in_log : (v : World) (reached : Valid p v) → Ready v → (i : ℕ) (nd : Node) → at v.clients i ≡ Some nd → (client_of p nd.records).cursor ≤ length (server_of p v.server).log
            in_log v reached ready i nd here =
                let x = Rattle.sync_model.proofs.Calling.named_as p law (server_of p v.server) v.injected v.clients reached.holds.n reached.holds.sim i nd here (ready.clients i nd here).named in
                subst (λ l. (client_of p nd.records).cursor ≤ length l) reached.holds.sim.log_is x.given.reach

            risen : (k : ℕ) (s3 : Server I) (more : ℕ) → length s3.log ≡ length (server_of p v.server).log + more → (client_of p nd.records).cursor ≤ length (server_of p v.server).log → ((client_of p nd.records).cursor + b ≤ k) ⊎ (length s3.log ≤ k) → (client_of p nd.records).cursor ≤ k
            risen k s3 more log le (inl up) = omega arith
            risen k s3 more log le (inr up) = omega arith

    -- ---- each once

    module _ (Pre Post : World → Node → Type 0)
        (moves : (v v2 : World) (i : ℕ) (nd nd2 : Node) → Turned b v v2 i nd nd2 → Pre v nd → Post v2 nd2)
        (pre_stays : (v v2 : World) (i : ℕ) (nd nd2 : Node) → Turned b v v2 i nd nd2 → Pre v nd → (j : ℕ) (x : Node) → j ≢ i → at v.clients j ≡ Some x → Pre v x → Pre v2 x)
        (post_stays : (v v2 : World) (i : ℕ) (nd nd2 : Node) → Turned b v v2 i nd nd2 → Pre v nd → (j : ℕ) (x : Node) → j ≢ i → at v.clients j ≡ Some x → Post v x → Post v2 x)
      where
        record Swept (v2 : World) (names : List Name) (n : ℕ) : Type 0 where
          reached : Valid p v2
          stops : (x : Name) → v2.stops x ≡ None
          ready : Ready v2
          names_are : names_of v2.clients ≡ names
          messages : length v2.messages ≡ n
          all : (j : ℕ) (x : Node) → at v2.clients j ≡ Some x → Post v2 x

        sweep : (before names : List Name) (v : World) (n : ℕ) → Valid p v → ((x : Name) → v.stops x ≡ None) → Ready v → names_of v.clients ≡ before ++ names → length v.messages ≡ n
            → ((j : ℕ) (x : Node) → j < length before → at v.clients j ≡ Some x → Post v x) → ((j : ℕ) (x : Node) → length before ≤ j → at v.clients j ≡ Some x → Pre v x)
            → Goes p (λ x. ⊥) v (once names n) (λ v2. Swept v2 (before ++ names) (after_once names n))
        sweep before [] v n reached unarmed ready names_are n_is done left = inr (record {
          reached = reached;
          stops = unarmed;
          ready = ready;
          names_are = names_are;
          messages = n_is;
          all = λ j x here.
              let a = at_length v.clients j x here in
              let c = ap length names_are ∙ length-append before [] in
              let d = Rattle.sync_model.proofs.Lists.length_map (λ (y : Node). y.name) v.clients in
              done j x (omega arith) here;
        })
        sweep before (name ∷ names) v n reached unarmed ready names_are n_is done left =
            let spot : at (names_of v.clients) (length before) ≡ Some name = ap (λ l. at l (length before)) names_are ∙ at_mid before names name in
            let x = at_of_map (λ (y : Node). y.name) v.clients (length before) name spot in
            subst (λ m. Goes p (λ z. ⊥) v (uploads_at m n ++ (asks_at m (suc (suc n)) ++ once names (suc (suc (suc (suc n)))))) (λ v2. Swept v2 (before ++ name ∷ names) (after_once names (suc (suc (suc (suc n))))))) x.2
            (goes_append p (λ z. ⊥) (uploads_at x.0.name n ++ (asks_at x.0.name (suc (suc n)) ++ [])) (once names (suc (suc (suc (suc n))))) v (λ v2. After b v v2 (length before) x.0 (suc (suc (suc (suc n))))) (λ v2. Swept v2 (before ++ name ∷ names) (after_once names (suc (suc (suc (suc n))))))
            (turn v reached unarmed ready (length before) x.0 x.1 n n_is)
            (λ v2 a. go x.0 x.1 v2 a (sweep (before ++ name ∷ []) names v2 (suc (suc (suc (suc n)))))))
          where
            longer : length (before ++ name ∷ []) ≡ suc (length before)
            longer = let l = length-append before (name ∷ []) in omega arith

            apart : (before ++ name ∷ []) ++ names ≡ before ++ name ∷ names
            apart = append_assoc before (name ∷ []) names

            go : (x : Node) → at v.clients (length before) ≡ Some x → (v2 : World) (a : After b v v2 (length before) x (suc (suc (suc (suc n)))))
                → (Valid p v2 → ((y : Name) → v2.stops y ≡ None) → Ready v2 → names_of v2.clients ≡ (before ++ name ∷ []) ++ names → length v2.messages ≡ suc (suc (suc (suc n)))
                → ((j : ℕ) (y : Node) → j < length (before ++ name ∷ []) → at v2.clients j ≡ Some y → Post v2 y) → ((j : ℕ) (y : Node) → length (before ++ name ∷ []) ≤ j → at v2.clients j ≡ Some y → Pre v2 y)
                → Goes p (λ z. ⊥) v2 (once names (suc (suc (suc (suc n))))) (λ v3. Swept v3 ((before ++ name ∷ []) ++ names) (after_once names (suc (suc (suc (suc n)))))))
                → Goes p (λ z. ⊥) v2 (once names (suc (suc (suc (suc n))))) (λ v3. Swept v3 (before ++ name ∷ names) (after_once names (suc (suc (suc (suc n))))))
            go x here v2 a rec =
                let t = a.turned in
                let mine = left (length before) x (omega arith) here in
                subst (λ l. Goes p (λ z. ⊥) v2 (once names (suc (suc (suc (suc n))))) (λ v3. Swept v3 l (after_once names (suc (suc (suc (suc n))))))) apart
                (rec t.reached t.stops t.ready (t.names ∙ names_are ∙ sym apart) a.messages
                (λ j y lt there. ⊎_elim
                (λ is. subst (Post v2) (some_same a.node y (sym t.here ∙ ap (at v2.clients) (sym is) ∙ there)) (moves v v2 (length before) x a.node t mine))
                (λ ne. let l = longer in let old = sym (t.others j ne) ∙ there in post_stays v v2 (length before) x a.node t mine j y ne old (done j y (let f = apart_from j (length before) ne in omega arith) old))
                (same_or_not j (length before)))
                (λ j y le there. let l = longer in let ne : j ≢ length before = λ z. absurd (omega arith) in let old = sym (t.others j ne) ∙ there in pre_stays v v2 (length before) x a.node t mine j y ne old (left j y (omega arith) old)))
              where
                some_same : {A : Type 0} (x y : A) → Some x ≡ Some y → x ≡ y
                some_same x y e = cc

                apart_from : (a b : ℕ) → a ≢ b → (a < b) ⊎ (b < a)
                apart_from a b ne = ⊎_elim (λ le. ⊎_elim (λ ge. absurd (ne (omega arith))) (λ lt. inl lt) (le_or_lt b a)) (λ gt. inr gt) (le_or_lt a b)

    -- ---- again and again

    module _ (turns : ℕ) (enough : most < turns * b) where
      -- after so many rounds a client took so many messages, or it has uploaded all; and once all have, it lacks no more than
      -- the rounds that are left bear
      abbrev Gone : ℕ → World → Node → Type 0
      Gone t v nd = ((t * b ≤ (client_of p nd.records).cursor) ⊎ (length (client_of p nd.records).made ≤ count (server_of p v.server) (client_of p nd.records).ident))
          × (turns ≤ t → length (server_of p v.server).log ≤ (client_of p nd.records).cursor + (turns + turns - t) * b)

      uploaded_all : (t : ℕ) (v : World) (nd : Node) → turns ≤ t → (client_of p nd.records).cursor ≤ length (server_of p v.server).log → length (server_of p v.server).log ≤ most → Gone t v nd → length (client_of p nd.records).made ≤ count (server_of p v.server) (client_of p nd.records).ident
      uploaded_all t v nd le within_ few_ g = ⊎_elim (λ far. let m = times_le turns t b le in absurd (omega arith)) (λ all. all) g.0

      log_same : (t : ℕ) (v v2 : World) (i : ℕ) (nd nd2 : Node) → turns ≤ t → Turned b v v2 i nd nd2 → Gone t v nd → length (server_of p v2.server).log ≡ length (server_of p v.server).log
      log_same t v v2 i nd nd2 le x g =
          let all = uploaded_all t v nd le x.was_within x.was_few g in
          let a = x.onto.counts in
          let d = x.onto.log in
          let e = x.owned in
          omega arith

      grown_count : (v v2 : World) (i : ℕ) (nd nd2 : Node) → Turned b v v2 i nd nd2 → (c : ℕ) → count (server_of p v.server) c ≤ count (server_of p v2.server) c
      grown_count v v2 i nd nd2 x c = ⊎_elim
          (λ is. let a = x.onto.counts in let e = ap (count (server_of p v.server)) is in let f = ap (count (server_of p v2.server)) is in omega arith)
          (λ ne. let a = ap length (x.onto.others c ne) in omega arith)
          (same_or_not c (client_of p nd.records).ident)

      -- where the rounds begin in which all is uploaded
      half : (t k c : ℕ) → suc t ≡ turns → k ≤ most → k ≤ c + (turns + turns - suc t) * b
      half t k c is le = let r : turns + turns - suc t ≡ turns = omega arith in let m = ap (λ z. z * b) r in omega arith

      moves : (t : ℕ) (v v2 : World) (i : ℕ) (nd nd2 : Node) → Turned b v v2 i nd nd2 → Gone t v nd → Gone (suc t) v2 nd2
      moves t v v2 i nd nd2 x g = (first g.0, second)
        where
          kept_all : length (client_of p nd.records).made ≤ count (server_of p v2.server) (client_of p nd.records).ident → length (client_of p nd2.records).made ≤ count (server_of p v2.server) (client_of p nd2.records).ident
          kept_all le = subst₂ (λ l c. length l ≤ count (server_of p v2.server) c) (sym x.same.made) (sym x.same.ident) le

          first : (t * b ≤ (client_of p nd.records).cursor) ⊎ (length (client_of p nd.records).made ≤ count (server_of p v.server) (client_of p nd.records).ident) → (suc t * b ≤ (client_of p nd2.records).cursor) ⊎ (length (client_of p nd2.records).made ≤ count (server_of p v2.server) (client_of p nd2.records).ident)
          first (inr all) = inr (kept_all (let m = grown_count v v2 i nd nd2 x (client_of p nd.records).ident in omega arith))
          first (inl far) = ⊎_elim (λ up. inl (omega arith)) (λ all. inr (kept_all all)) x.gains.uploads

          second : turns ≤ suc t → length (server_of p v2.server).log ≤ (client_of p nd2.records).cursor + (turns + turns - suc t) * b
          second le = ⊎_elim
              (λ le0. on (turns + turns - suc t) refl le0 (g.1 le0) (log_same t v v2 i nd nd2 le0 x g) x.cursor x.gains.takes)
              (λ lt. half t (length (server_of p v2.server).log) (client_of p nd2.records).cursor (omega arith) x.log_few)
              (le_or_lt turns t)
            where
              on : (k : ℕ) → turns + turns - suc t ≡ k → turns ≤ t → length (server_of p v.server).log ≤ (client_of p nd.records).cursor + (turns + turns - t) * b → length (server_of p v2.server).log ≡ length (server_of p v.server).log → (client_of p nd.records).cursor ≤ (client_of p nd2.records).cursor
                  → ((client_of p nd.records).cursor + b ≤ (client_of p nd2.records).cursor) ⊎ (length (server_of p v2.server).log ≤ (client_of p nd2.records).cursor) → length (server_of p v2.server).log ≤ (client_of p nd2.records).cursor + (turns + turns - suc t) * b
              on k k_is le0 was log_is up (inr end) = omega arith
              on k k_is le0 was log_is up (inl far) = ⊎_elim
                  (λ none. let z : turns + turns - t ≡ 0 = omega arith in let m = ap (λ y. y * b) z in omega arith)
                  (λ some. let z : turns + turns - t ≡ suc (turns + turns - suc t) = omega arith in let m = ap (λ y. y * b) z in omega arith)
                  (le_or_lt (turns + turns) t)

      pre_stays : (t : ℕ) (v v2 : World) (i : ℕ) (nd nd2 : Node) → Turned b v v2 i nd nd2 → Gone t v nd → (j : ℕ) (x : Node) → j ≢ i → at v.clients j ≡ Some x → Gone t v x → Gone t v2 x
      pre_stays t v v2 i nd nd2 turned g j x ne here h =
          let m = grown_count v v2 i nd nd2 turned (client_of p x.records).ident in (
            ⊎_elim (λ far. inl far) (λ all. inr (omega arith)) h.0,
            λ le. let a = h.1 le in let e = log_same t v v2 i nd nd2 le turned g in omega arith,
          )

      post_stays : (t : ℕ) (v v2 : World) (i : ℕ) (nd nd2 : Node) → Turned b v v2 i nd nd2 → Gone t v nd → (j : ℕ) (x : Node) → j ≢ i → at v.clients j ≡ Some x → Gone (suc t) v x → Gone (suc t) v2 x
      post_stays t v v2 i nd nd2 turned g j x ne here h =
          let m = grown_count v v2 i nd nd2 turned (client_of p x.records).ident in (
            ⊎_elim (λ far. inl far) (λ all. inr (omega arith)) h.0,
            λ le. ⊎_elim
                (λ le0. let a = h.1 le in let e = log_same t v v2 i nd nd2 le0 turned g in omega arith)
                (λ lt. half t (length (server_of p v2.server).log) (client_of p x.records).cursor (omega arith) turned.log_few)
                (le_or_lt turns t),
          )

      -- all of them, after so many rounds
      record Went (v : World) (t : ℕ) : Type 0 where
        reached : Valid p v
        ready : Ready v
        all : (j : ℕ) (x : Node) → at v.clients j ≡ Some x → Gone t v x

      going : (k t : ℕ) (names : List Name) (v : World) (n : ℕ) → Valid p v → ((x : Name) → v.stops x ≡ None) → Ready v → names_of v.clients ≡ names → length v.messages ≡ n → ((j : ℕ) (x : Node) → at v.clients j ≡ Some x → Gone t v x) → Goes p (λ x. ⊥) v (in_turn names n k) (λ v2. Went v2 (t + k))
      going zero t names v n reached unarmed ready names_are n_is all = let e : t + 0 ≡ t = omega arith in inr (record { reached = reached; ready = ready; all = subst (λ m. (j : ℕ) (x : Node) → at v.clients j ≡ Some x → Gone m v x) (sym e) all })
      going (suc k) t names v n reached unarmed ready names_are n_is all =
          let e : t + suc k ≡ suc t + k = omega arith in
          subst (λ m. Goes p (λ x. ⊥) v (once names n ++ in_turn names (after_once names n) k) (λ v2. Went v2 m)) (sym e)
          (goes_append p (λ x. ⊥) (once names n) (in_turn names (after_once names n) k) v (λ v2. Swept (Gone t) (Gone (suc t)) (moves t) (pre_stays t) (post_stays t) v2 names (after_once names n)) (λ v2. Went v2 (suc t + k))
          (sweep (Gone t) (Gone (suc t)) (moves t) (pre_stays t) (post_stays t) [] names v n reached unarmed ready names_are n_is (λ j x lt here. absurd (omega arith)) (λ j x le here. all j x here))
          (λ v2 s. going k (suc t) names v2 (after_once names n) s.reached s.stops s.ready s.names_are s.messages s.all))

      -- then each is current
      current_of : (v : World) (t : ℕ) → turns + turns ≤ t → Went v t → AllCurrent p v
      current_of v t le w i nd here =
          let x = Rattle.sync_model.proofs.Calling.named_as p law (server_of p v.server) v.injected v.clients w.reached.holds.n w.reached.holds.sim i nd here (w.ready.clients i nd here).named in
          let log_is = w.reached.holds.sim.log_is in
          let reach : (client_of p nd.records).cursor ≤ length (server_of p v.server).log = subst (λ l. (client_of p nd.records).cursor ≤ length l) log_is x.given.reach in
          let few_ = log_within p of most size harmless law built within v w.reached.holds w.ready in
          let g = w.all i nd here in
          let all = uploaded_all t v nd (omega arith) reach few_ g in
          let r : turns + turns - t ≡ 0 = omega arith in
          let m = ap (λ z. z * b) r in
          let a = g.1 (omega arith) in
          let cursor : (client_of p nd.records).cursor ≡ length (server_of p v.server).log = omega arith in
          let sent = x.given.sent_count ∙ ap (λ l. length (of_origin (client_of p nd.records).ident (Rattle.std.proofs.Common.take (client_of p nd.records).cursor l))) log_is ∙ ap (λ k. length (of_origin (client_of p nd.records).ident (Rattle.std.proofs.Common.take k (server_of p v.server).log))) cursor ∙ ap (λ l. length (of_origin (client_of p nd.records).ident l)) (take_all (server_of p v.server).log) in
          let split = ap length x.given.split ∙ length-append x.given.sent (map (λ (u : Unsent I). u.original) (client_of p nd.records).unsent) in (
            λ z. (w.ready.clients i nd here).named (sym (ap (ident_by (server_of p v.server).ids) x.born ∙ x.place) ∙ z),
            record { cursor = cursor; unsent = none_left (λ (u : Unsent I). u.original) (client_of p nd.records).unsent (omega arith) },
          )

      pub all_current : (v : World) → Valid p v → ((x : Name) → v.stops x ≡ None) → Ready v → (rounds : ℕ) → turns + turns ≤ rounds → AllCurrent p (world_after p v (in_turn (names_of v.clients) (length v.messages) rounds))
      all_current v reached unarmed ready rounds le = ⊎_elim
          (λ c. absurd (never_comes (outcomes p v (in_turn (names_of v.clients) (length v.messages) rounds)) c))
          (λ w. current_of (world_after p v (in_turn (names_of v.clients) (length v.messages) rounds)) (0 + rounds) (omega arith) w)
          (going rounds 0 (names_of v.clients) v (length v.messages) reached unarmed ready refl refl (λ j x here. (inl (omega arith), λ z. let none : turns ≡ 0 = omega arith in let m = ap (λ y. y * b) none in absurd (omega arith))))

      -- the same, of a world as the laws say it
      pub harmless_catch_up : (v : World) → Valid p v → IsHarmless p of most v → (rounds : ℕ) → turns + turns ≤ rounds → AllCurrent p (world_after p v (in_turn (names_of v.clients) (length v.messages) rounds))
      harmless_catch_up v reached h rounds le = all_current v reached h.unarmed (record {
        own = λ c ne small. seek_map (uuid_of p) (ident_is (server_of p v.server).ids c) v.clients ∙ h.own c ne small;
        clients = λ i nd here. let x = h.clients i nd here in record { named = x.named; all_tables = x.tables; made = x.made };
        few = h.few;
      }) rounds le
