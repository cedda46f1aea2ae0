-- A client's file that begins with the objects of a server, in whatever form.
use Rattle.std.proofs.Common.{◌≡◌, Bool, List, [], Some, refl, sym, ap, ◌∙◌, subst, arith, length}
use Rattle.sync_theory.specs.Changesets.{Changeset}
use Rattle.sync_theory.specs.Lists.{run}
use Rattle.sync_theory.specs.Logs.{Nodes}
use Rattle.sync_theory.proofs.Logs.{none_rises}
use Rattle.sync_model.specs.Bytes.{Uuid}
use Rattle.sync_model.specs.Profile.{Profile, Lawful, act_changeset}
use Rattle.sync_model.specs.Snapshots.{Buildable}
use Rattle.sync_model.specs.Each.{no_more}
use Rattle.sync_model.specs.Clients.{client_of, tooks_of}
use Rattle.sync_model.specs.Servers.{Server, server_objects}
use Rattle.sync_model.specs.Starts.{started, started_client}
use Rattle.sync_model.proofs.Lists.{listed, all_none}
use Rattle.sync_model.proofs.Sim.{Sim, Fresh, Admits, no_numbers}
use Rattle.sync_model.proofs.Starting.{started_is, started_tooks, objects_listed, objects_are, objects_fit, objects_bounded}

module _ {I S : Type 0} (p : Profile I S) {Fits Bounded Old : S → Type 0} (law : Lawful p Fits) (built : Buildable p Fits Bounded Old) where
  pub record Starting (s : Server I) (n : Nodes (Changeset I) S) (id : Uuid) (second : Bool) : Type 0 where
    pub is : client_of p (started p id second (length s.log) (server_objects p s)) ≡ started_client p id second (length s.log) (server_objects p s)
    pub fresh : Fresh p n (client_of p (started p id second (length s.log) (server_objects p s)))
    pub admits : Admits p (client_of p (started p id second (length s.log) (server_objects p s)))
    pub tooks : tooks_of (started p id second (length s.log) (server_objects p s)) ≡ []

  pub starting : (s : Server I) (inj : List Uuid) (n : Nodes (Changeset I) S) → Sim p s [] inj n → (id : Uuid) (second : Bool) → Starting s n id second
  starting s inj n sim id second =
      let fit = objects_fit p law built s [] inj n sim in
      let bounded = objects_bounded p law built s [] inj n sim in
      let objects = objects_are p law built s [] inj n sim in
      let all = objects_listed p law built s [] inj n sim in
      let is = started_is p law built id second (length s.log) (server_objects p s) fit bounded in
      record {
        is = is;
        fresh = subst (Fresh p n) (sym is) (record {
          unnamed = refl;
          at_start = refl;
          within = let l = ap length sim.log_is in omega arith;
          unsent = refl;
          numbered = λ c. no_numbers;
          bases = λ c. all_none;
          rising = λ c. none_rises;
          first = n.objects;
          own = refl;
          began = ap (λ k. run (act_changeset p) (listed n.entries k 0) p.empty) (ap length (sym sim.log_is)) ∙ all;
          acts = λ c. ap (λ x. Some x) (sym objects);
        });
        admits = subst (Admits p) (sym is) (record { made = no_more; unsent = no_more });
        tooks = started_tooks p law built id second (length s.log) (server_objects p s);
      }
