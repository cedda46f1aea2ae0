-- An Upload that a client of the exchange made is refused by a mismatch of the schema or a full history alone.
use Rattle.std.proofs.Common.{◌≡◌, inl, inr, ℕ, Bool, true, false, List, length, Some, if◌then◌else◌, refl, sym, subst}
use Rattle.sync_exchange.specs.Lemmas.Lawful.{real_lawful}
use Rattle.sync_exchange.specs.Profile.{the_profile}
use Rattle.sync_model.specs.Log.{MayRefuse}
use Rattle.sync_model.specs.Messages.{Change, Message, Bind, Ident, Upload, Ask, Download, Refused, Stored, Ask2, Retire, Retired, AskTables}
use Rattle.sync_model.specs.Servers as servers
use Rattle.sync_model.specs.Servers.{ServerRefusal, code_of, is_given, refuses, serve, serve_changes, server_of}
use Rattle.sync_model.specs.Worlds.{World, at}
use Rattle.sync_model.proofs.Fair.{IsOfMerge, IsUploadFair, given_so, own_answers}
use Rattle.sync_model.proofs.Holding.{Holds}
use Rattle.sync_top.specs.Named.{IsOfChange, RefusesBy}

-- what refuses a change of the exchange has such a code
of_change : (why : ServerRefusal) → MayRefuse why → IsOfMerge why → IsOfChange (code_of why)
of_change (servers.NumberGap n) may of = absurd may
of_change (servers.BaseBack n) may of = absurd may
of_change (servers.AheadOfHistory n) may of = absurd may
of_change (servers.HistoryFull n) may of = inr refl
of_change (servers.BadBytes offset rule) may of = absurd may
of_change (servers.Mismatch place kind) may of = inl may
of_change (servers.Break place code) may of = absurd may
of_change (servers.NoSuchIdent n) may of = absurd may
of_change (servers.IdentsFull n) may of = absurd of
of_change servers.NotForServer may of = absurd of
of_change (servers.NeedsForm2 n) may of = absurd of
of_change (servers.IdentRetired n) may of = absurd may
of_change (servers.SelfRetire c) may of = absurd may
of_change (servers.RetiredBy c) may of = absurd may
of_change (servers.Trimmed n) may of = absurd may

refuses_by : (m : Message) → IsUploadFair m → RefusesBy IsOfChange m
refuses_by (Refused ident number code place) f = subst IsOfChange (sym f.1) (of_change f.0 f.3.0 f.3.1)
refuses_by (Bind u) f = tt
refuses_by (Ident u c) f = tt
refuses_by (Upload c hs) f = tt
refuses_by (Ask c cursor settled) f = tt
refuses_by (Ask2 c cursor settled) f = tt
refuses_by (AskTables c cursor settled second tables) f = tt
refuses_by (Download c from es) f = tt
refuses_by (Stored c number) f = tt
refuses_by (Retire c by) f = tt
refuses_by (Retired c by number) f = tt

module _ (w : World) (holds : Holds the_profile w) where
  pub upload_named : (n c : ℕ) (changes : List Change) → at w.messages n ≡ Some (Upload c changes) → RefusesBy IsOfChange (serve the_profile (server_of the_profile w.server) (Upload c changes)).answer
  upload_named n c changes here =
      let told = holds.tells n (Upload c changes) here in
      go (given_so the_profile real_lawful w.clients w.injected (server_of the_profile w.server) holds.n holds.sim c told.0)
      (own_answers the_profile real_lawful w.clients w.injected changes (server_of the_profile w.server) holds.n holds.sim c told.1.from told.0.given told.0.there told.0.own told.1.known told.1.changes)
    where
      go : is_given (server_of the_profile w.server) c ≡ true → IsUploadFair (serve_changes the_profile (server_of the_profile w.server) c changes).answer
          → RefusesBy IsOfChange (serve the_profile (server_of the_profile w.server) (Upload c changes)).answer
      go is fair = on (is_given (server_of the_profile w.server) c) is
        where
          on : (a : Bool) → a ≡ true
              → RefusesBy IsOfChange (if a then serve_changes the_profile (server_of the_profile w.server) c changes else refuses c 0 (servers.NoSuchIdent (length (server_of the_profile w.server).ids))).answer
          on true is_true = refuses_by (serve_changes the_profile (server_of the_profile w.server) c changes).answer fair
          on false is_true = cc
