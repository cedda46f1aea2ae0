-- Where the first changes stand first in the history, each client that took them has the table.
use Rattle.std.proofs.Common.{◌≡◌, ◌≢◌, ⊎_elim, ℕ, zero, suc, ◌<◌, ◌≤◌, List, [], ◌∷◌, Option, Some, None, refl, sym, ap, ◌∙◌, subst, arith, length}
use Rattle.sync_data.specs.declared.instr.Instr.{Instr}
use Rattle.sync_base.specs.States.{State, no_state}
use Rattle.sync_theory.specs.Changesets.{Changeset}
use Rattle.sync_theory.specs.Lists.{and_then, run}
use Rattle.sync_theory.specs.Logs.{Entry as LogEntry}
use Rattle.sync_model.specs.Clients.{client_of}
use Rattle.sync_model.specs.Log.{NamedFacts, WorldFacts, ident_of, log, pending_in, state_in, subset_of}
use Rattle.sync_model.specs.Profile.{act, act_changeset, only_by}
use Rattle.sync_model.specs.Servers.{history_of}
use Rattle.sync_model.specs.Worlds.{Node, World, at}
use Rattle.sync_base.specs.States.{IsState}
use Rattle.sync_exchange.specs.Profile.{the_profile}
use Rattle.sync_gen.specs.Clients.{first_edits_of}
use Rattle.gen_law.proofs.Tables.{Tabled, tabled_run}

-- the first changes, as the history has them
abbrev pub first_entry : LogEntry (Changeset Instr)
first_entry = record { origin = 1; base = 0; change = record { origin = 1; number = 1; ms = 1; instrs = first_edits_of } }

some_same : {A : Type 0} (x y : A) → Some x ≡ Some y → x ≡ y
some_same x y e = cc

tabled_set : (x : Changeset Instr) (s u : State) → act_changeset the_profile x s ≡ Some u → Tabled s → Tabled u
tabled_set x s u e t = tabled_run x.instrs s u e t

tabled_sets : (xs : List (Changeset Instr)) (s u : State) → run (act_changeset the_profile) xs s ≡ Some u → Tabled s → Tabled u
tabled_sets [] s u e t = subst Tabled (some_same s u e) t
tabled_sets (x ∷ xs) s u e t = on (act_changeset the_profile x s) refl e (λ v v_is rest. tabled_sets xs v u rest (tabled_set x s v v_is t))
  where
    on : (o : Option State) → act_changeset the_profile x s ≡ o → and_then o (run (act_changeset the_profile) xs) ≡ Some u → ((v : State) → act_changeset the_profile x s ≡ Some v → run (act_changeset the_profile) xs v ≡ Some u → Tabled u) → Tabled u
    on None o_is e rec = cc
    on (Some v) o_is e rec = rec v o_is e

module _ (first : State) (founded : run (act the_profile) first_edits_of no_state ≡ Some first) (tabled : Tabled first) (w : World) (f : WorldFacts the_profile IsState w) (rest : List (LogEntry (Changeset Instr))) (log_is : log the_profile w ≡ first_entry ∷ rest) where
  -- the state after any entry
  tabled_at : (k : ℕ) → k < length (log the_profile w) → (s : State) → state_in the_profile w (suc k) ≡ Some s → Tabled s
  tabled_at zero lt s e =
      let x = f.entries 0 lt in
      let entry : first_entry.change ≡ x.entry = some_same first_entry.change x.entry (sym (ap (λ l. history_of the_profile l 0) log_is) ∙ x.carried) in
      let before : no_state ≡ x.before = some_same no_state x.before x.state in
      let acts : run (act the_profile) first_edits_of no_state ≡ Some x.after = ap (λ (c : Changeset Instr). run (act the_profile) c.instrs no_state) entry ∙ ap (act_changeset the_profile x.entry) before ∙ x.acts in
      subst Tabled (some_same first s (sym founded ∙ acts ∙ sym x.next ∙ e)) tabled
  tabled_at (suc k) lt s e =
      let x = f.entries (suc k) lt in
      subst Tabled (some_same x.after s (sym x.next ∙ e)) (tabled_set x.entry x.before x.after x.acts (tabled_at k (omega arith) x.before x.state))

  pub tabled_there : (i : ℕ) (nd : Node) → at w.clients i ≡ Some nd → ident_of the_profile w nd ≢ 0 → subset_of the_profile nd ≡ None → 1 ≤ (client_of the_profile nd.records).cursor → Tabled (client_of the_profile nd.records).objects
  tabled_there i nd here named tables far = ⊎_elim (λ x. by_cursor (client_of the_profile nd.records).cursor refl x.1) (λ x. absurd (named x.0)) (f.clients i nd here)
    where
      by_cursor : (k : ℕ) → (client_of the_profile nd.records).cursor ≡ k → NamedFacts the_profile w nd → Tabled (client_of the_profile nd.records).objects
      by_cursor zero k_is x = absurd (omega arith)
      by_cursor (suc k) k_is x =
          let within = x.within in
          let base = tabled_at k (omega arith) x.base (ap (state_in the_profile w) (sym k_is) ∙ x.state) in
          let part : only_by the_profile (subset_of the_profile nd) x.base ≡ x.base = ap (λ o. only_by the_profile o x.base) tables in
          tabled_sets (pending_in the_profile w (ident_of the_profile w nd) (client_of the_profile nd.records).cursor) x.base (client_of the_profile nd.records).objects (ap (run (act_changeset the_profile) (pending_in the_profile w (ident_of the_profile w nd) (client_of the_profile nd.records).cursor)) (sym part) ∙ x.objects) base
