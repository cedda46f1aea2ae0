-- A client makes a change that acts on its objects: that is not refused.
use Rattle.std.proofs.Common.{◌≡◌, ℕ, zero, suc, ◌+◌, ◌<◌, ◌≤◌, Bool, true, false, ◌&&◌, not, List, [], ◌∷◌, Some, None, Ok, refl, sym, ap, ◌∙◌, subst, arith, if◌then◌else◌, ◌==◌, length, nat_le, sum_by}
use Rattle.std.proofs.lemmas.Bool.{le-leb}
use Rattle.std.proofs.lemmas.List.Sums.{sum_by-cons}
use Rattle.sync_data.specs.declared.instr.Instr.{Instr}
use Rattle.sync_base.specs.After.{after as after_effect}
use Rattle.sync_base.specs.Effects.{effect_of}
use Rattle.sync_base.specs.States.{State}
use Rattle.sync_theory.proofs.Server.{test_false}
use Rattle.sync_model.specs.Bytes.{Name, Uuid}
use Rattle.sync_model.specs.Clients.{Client, ClientRecord, ClientStep, Made, NotSubscribed, NumbersFull, OldForm, TooLarge, appends, client_of, commit, commit_applied, commit_born, if_born, refuse}
use Rattle.sync_model.specs.Profile.{all_admitted, apply_all, first_need, first_outside, is_small, needs}
use Rattle.sync_model.specs.Progress.{made_by_all}
use Rattle.sync_model.specs.Servers.{server_of}
use Rattle.sync_model.specs.Worlds.{Event, Node, World, at, client_called, client_ends, client_moved, happens, made_words, stopped}
use Rattle.sync_model.proofs.Calling.{named_as}
use Rattle.sync_model.proofs.Progress.Valid.{valid_facts}
use Rattle.sync_exchange.specs.Lemmas.Buildable.{real_buildable}
use Rattle.sync_exchange.specs.Lemmas.Lawful.{real_lawful}
use Rattle.sync_exchange.specs.Profile.{the_profile, weight}
use Rattle.sync_gen.specs.Edits.{edit_of}
use Rattle.gen_law.specs.Generated.{node_objects, objects_of}
use Rattle.gen_law.proofs.Answered.{Taken, taken_by, valid}
use Rattle.gen_law.proofs.Edits.{Fits, and_true, drawn_edit}
use Rattle.gen_law.proofs.Eight.{Good, There}
use Rattle.gen_law.proofs.Founding.{goes_ok, one_acts}
use Rattle.gen_law.proofs.Harmless.{drawn_harmless, one_drawn}
use Rattle.gen_law.proofs.Tables.{Tabled, edit_goes}

-- ---- the tests of a transaction

admitted : (is : List Instr) → all_admitted the_profile None is ≡ true
admitted [] = refl
admitted (i ∷ is) = admitted is

pub commits : (c : Client Instr State) (ms : ℕ) (id : Uuid) → c.id ≡ Some id → (is : List Instr) → is_small the_profile is ≡ true → length c.made < the_profile.full → needs the_profile is ≡ false → c.subset ≡ None → (u : State) → apply_all the_profile is c.objects ≡ Ok u
    → commit the_profile c ms is ≡ appends (Made (suc (length c.made)) ms (the_profile.spell is)) (suc (length c.made))
commits c ms id born is small few old tables u acts =
    ap (λ o. if_born o (λ id. commit_born the_profile c ms is)) born
    ∙ tests (is_small the_profile is) small (length c.made == the_profile.full) (test_false (length c.made) the_profile.full (λ e. absurd (omega (arith, few, e)))) (needs the_profile is && not c.second) (ap (λ b. b && not c.second) old)
    (all_admitted the_profile c.subset is) (ap (λ o. all_admitted the_profile o is) tables ∙ admitted is)
    ∙ ap (commit_applied (suc (length c.made)) (Made (suc (length c.made)) ms (the_profile.spell is))) acts
  where
    did : ClientStep ℕ
    did = commit_applied (suc (length c.made)) (Made (suc (length c.made)) ms (the_profile.spell is)) (apply_all the_profile is c.objects)

    tests : (a : Bool) → a ≡ true → (b : Bool) → b ≡ false → (d : Bool) → d ≡ false → (f : Bool) → f ≡ true
        → (if not a then refuse TooLarge else (if b then refuse NumbersFull else (if d then refuse (OldForm (first_need the_profile is)) else (if not f then refuse (NotSubscribed (first_outside the_profile c.subset is)) else did)))) ≡ did
    tests true a_is false b_is false d_is true f_is = refl
    tests false a_is b b_is d d_is f f_is = cc
    tests true a_is true b_is d d_is f f_is = cc
    tests true a_is false b_is true d_is f f_is = cc
    tests true a_is false b_is false d_is false f_is = cc

-- ---- an event

made_one : (nds : List Node) (i : ℕ) (nd : Node) → at nds i ≡ Some nd → length (client_of the_profile nd.records).made ≤ made_by_all the_profile nds
made_one [] i nd here = cc
made_one (x ∷ nds) zero nd here = let same : x ≡ nd = cc in subst (λ (z : Node). length (client_of the_profile z.records).made ≤ length (client_of the_profile x.records).made + made_by_all the_profile nds) same (omega arith)
made_one (x ∷ nds) (suc i) nd here = let le = made_one nds i nd here in omega arith

module _ (w : World) (g : Good 100001 w) (name : Name) (t : There w name) where
  -- what the client makes
  pub edit_is : (ms : ℕ) (is : List Instr) → is_small the_profile is ≡ true → needs the_profile is ≡ false → (u : State) → apply_all the_profile is (client_of the_profile t.node.records).objects ≡ Ok u
      → happens the_profile w (Event.Edits name ms is) ≡ made_words (client_moved w t.place t.node (Made (suc (length (client_of the_profile t.node.records).made)) ms (the_profile.spell is) ∷ [])) (Ok (suc (length (client_of the_profile t.node.records).made)))
  edit_is ms is small old u acts =
      let c = client_of the_profile t.node.records in
      let h = g.harmless.clients t.place t.node t.here in
      let x = named_as the_profile real_lawful (server_of the_profile w.server) w.injected w.clients (valid w g).holds.n (valid w g).holds.sim t.place t.node t.here h.named in
      let le = made_one w.clients t.place t.node t.here in
      let few = g.harmless.few in
      ap (client_called the_profile w (λ c. commit the_profile c ms is) made_words) t.found
      ∙ ap (λ d. client_ends w t.place t.node d made_words (stopped (w.stops t.node.name) d.records)) (commits c ms x.id x.born is small (omega arith) old h.tables u acts)
      ∙ ap (λ o. client_ends w t.place t.node (appends (Made (suc (length c.made)) ms (the_profile.spell is)) (suc (length c.made))) made_words (stopped {R = ClientRecord} o (Made (suc (length c.made)) ms (the_profile.spell is) ∷ []))) (g.harmless.unarmed t.node.name)

  -- what is drawn for its turn
  pub drawn_taken : Tabled (client_of the_profile t.node.records).objects → (ms x : ℕ) → Taken w (Event.Edits name ms ((edit_of (objects_of w name) x).0 ∷ []))
  unfolding objects_of
  drawn_taken tabled ms x = subst (λ s. Taken w (Event.Edits name ms ((edit_of s x).0 ∷ []))) (sym objects) (taken_by w (Event.Edits name ms (i ∷ [])) _ (edit_is ms (i ∷ []) small old (after_effect s (effect_of i)) acts) refl)
    where
      s : State
      s = (client_of the_profile t.node.records).objects

      i : Instr
      i = (edit_of (client_of the_profile t.node.records).objects x).0

      objects : objects_of w name ≡ (client_of the_profile t.node.records).objects
      objects = ap node_objects t.found

      fits : Fits (edit_of (client_of the_profile t.node.records).objects x).0
      fits = drawn_edit (client_of the_profile t.node.records).objects x

      small : is_small the_profile ((edit_of (client_of the_profile t.node.records).objects x).0 ∷ []) ≡ true
      small =
          let light = fits.0 in
          let sum = sum_by-cons weight i [] in
          and_true (nat_le 1 65536) (nat_le (sum_by weight (i ∷ [])) 4194304) refl (le-leb (sum_by weight (i ∷ [])) 4194304 (omega arith))

      old : needs the_profile ((edit_of (client_of the_profile t.node.records).objects x).0 ∷ []) ≡ false
      old = drawn_harmless.form 1 0 (i ∷ []) (one_drawn 1 i fits.0 fits.1)

      acts : apply_all the_profile ((edit_of (client_of the_profile t.node.records).objects x).0 ∷ []) (client_of the_profile t.node.records).objects ≡ Ok (after_effect (client_of the_profile t.node.records).objects (effect_of (edit_of (client_of the_profile t.node.records).objects x).0))
      acts =
          let ok = (valid_facts the_profile real_lawful real_buildable w (valid w g)).clients_fit t.place t.node t.here in
          one_acts i [] s (after_effect s (effect_of i)) (after_effect s (effect_of i)) (goes_ok s i (edit_goes s ok tabled x)) refl
