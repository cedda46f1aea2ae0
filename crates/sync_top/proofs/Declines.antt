-- A client of the exchange declines a message by a rule of that kind of message.
use Rattle.std.proofs.Common.{◌≡◌, inl, inr, ℕ, Bool, true, false, not, ◌&&◌, if◌then◌else◌, nat_lt, List, [], ◌∷◌, Option, None, Some, Result, Ok, Err, refl, sym, ap, ◌∙◌, subst}
use Rattle.std.specs.Prelude.{bytes_eq, ◌==◌, ◌-◌, drop, map}
use Rattle.sync_theory.specs.Changesets.{Changeset}
use Rattle.sync_theory.specs.Grid.{rebase}
use Rattle.sync_model.specs.Bytes.{Uuid}
use Rattle.sync_model.specs.Clients as clients
use Rattle.sync_model.specs.Clients.{Client, ClientRefusal, ClientStep, Unsent, after_record, answers, appends, applied_refusal, changeset_of, crossed_refusal, entry_refusal, if_born, number_at, own_refusal, read_refusal, refuse, sent_changeset, take, take_born, take_entries, take_one, took}
use Rattle.sync_model.specs.Log.{MayDecline}
use Rattle.sync_model.specs.Messages.{Message, Sent, Bind, Ident, Upload, Ask, Download, Refused, Stored, Ask2, Retire, Retired, AskTables}
use Rattle.sync_model.specs.Profile.{Profile, Stuck, apply_all, cross_changesets, needs}
use Rattle.sync_top.specs.Named.{IsMismatch, MayNotTake}

module _ {I S : Type 0} (p : Profile I S) where
  -- ---- the entries of a Download
  own_named : (us : List (Unsent I)) (e : Sent) (why : ClientRefusal) → MayDecline why → own_refusal p us e ≡ Some why → IsMismatch why
  own_named [] e why may is = let same : clients.Forked e.number ≡ why = cc in absurd (subst MayDecline (sym same) may)
  own_named (u ∷ us) e why may is = on ((u.original.number == e.number) && ((u.original.ms == e.ms) && bytes_eq (p.spell u.current) e.body)) is
    where
      on : (b : Bool) → (if b then None else Some (clients.Forked e.number)) ≡ Some why → IsMismatch why
      on true f = cc
      on false f = let same : clients.Forked e.number ≡ why = cc in absurd (subst MayDecline (sym same) may)

  crossed_named : (c : Client I S) (r : Result (List (Changeset I) × Changeset I) (ℕ × Stuck)) (why : ClientRefusal) → MayDecline why → crossed_refusal p c r ≡ Some why → IsMismatch why
  crossed_named c (Ok q) why may is = applied (apply_all p q.1.instrs c.objects) is
    where
      applied : (r : Result S (ℕ × ℕ)) → applied_refusal c.cursor r ≡ Some why → IsMismatch why
      applied (Ok s) f = cc
      applied (Err b) f = let same : clients.NotApplicable c.cursor b.0 b.1 ≡ why = cc in absurd (subst MayDecline (sym same) may)
  crossed_named c (Err f) why may is =
      let same : clients.Mismatch c.cursor (number_at f.0 c.unsent) f.1.2 ≡ why = cc in
      subst IsMismatch same (subst MayDecline (sym same) may)

  entry_named : (c : Client I S) (e : Sent) (why : ClientRefusal) → MayDecline why → entry_refusal p c e ≡ Some why → IsMismatch why
  entry_named c e why may is = read (p.unspell e.body) is
    where
      tests : (edits : List I) (a b : Bool)
          → (if a then Some (clients.OldEntry c.cursor) else if b then own_refusal p c.unsent e else crossed_refusal p c (rebase (cross_changesets p) (map (changeset_of c.ident) c.unsent) (sent_changeset e edits))) ≡ Some why → IsMismatch why
      tests edits true b g = let same : clients.OldEntry c.cursor ≡ why = cc in absurd (subst MayDecline (sym same) may)
      tests edits false true g = own_named c.unsent e why may g
      tests edits false false g = crossed_named c (rebase (cross_changesets p) (map (changeset_of c.ident) c.unsent) (sent_changeset e edits)) why may g

      read : (r : Result (List I) (ℕ × ℕ)) → read_refusal p c e r ≡ Some why → IsMismatch why
      read (Err f) g = let same : clients.BadBody c.cursor f.0 f.1 ≡ why = cc in absurd (subst MayDecline (sym same) may)
      read (Ok edits) g = tests edits (needs p edits && not c.second) (e.origin == c.ident) g

  entries_named : (es : List Sent) (c : Client I S) (why : ClientRefusal) → MayDecline why → (take_entries p c es).answer ≡ Err why → IsMismatch why
  entries_named [] c why may is = cc
  entries_named (e ∷ es) c why may is = on (entry_refusal p c e) refl is (entries_named es (after_record p c (took e)) why may)
    where
      on : (o : Option ClientRefusal) → entry_refusal p c e ≡ o → (take_one o (took e) (take_entries p (after_record p c (took e)) es)).answer ≡ Err why
          → ((take_entries p (after_record p c (took e)) es).answer ≡ Err why → IsMismatch why) → IsMismatch why
      on (Some r) o_is f rest = let same : r ≡ why = cc in entry_named c e why may (o_is ∙ ap (λ z. Some z) same)
      on None o_is f rest = rest f

  -- ---- a message
  message_named : (c : Client I S) (m : Message) (id : Uuid) (why : ClientRefusal) → MayDecline why → (take_born p c m id).answer ≡ Err why → MayNotTake m why
  message_named c (Bind u) id why may is = let same : clients.NotMine ≡ why = cc in sym same
  message_named c (Upload ident changes) id why may is = let same : clients.NotMine ≡ why = cc in sym same
  message_named c (Ask ident cursor settled) id why may is = let same : clients.NotMine ≡ why = cc in sym same
  message_named c (Ask2 ident cursor settled) id why may is = let same : clients.NotMine ≡ why = cc in sym same
  message_named c (Retire ident by) id why may is = let same : clients.NotMine ≡ why = cc in sym same
  message_named c (Retired ident by number) id why may is = let same : clients.NotMine ≡ why = cc in sym same
  message_named c (AskTables ident cursor settled second tables) id why may is = let same : clients.NotMine ≡ why = cc in sym same
  message_named c (Ident u ident) id why may is = on (bytes_eq u id) (c.ident == 0) (c.ident == ident) is
    where
      on : (a b d : Bool) → (if a then (if b then appends (clients.Named ident) c.cursor else if d then answers c.cursor else refuse (clients.IdentDiffers c.ident ident)) else refuse clients.NotMine).answer ≡ Err why
          → why ≡ clients.NotMine
      on true true d f = cc
      on true false true f = cc
      on true false false f = let same : clients.IdentDiffers c.ident ident ≡ why = cc in absurd (subst MayDecline (sym same) may)
      on false b d f = let same : clients.NotMine ≡ why = cc in sym same
  message_named c (Stored ident number) id why may is = on (ident == c.ident) is
    where
      on : (a : Bool) → (if a then answers c.cursor else refuse clients.NotMine).answer ≡ Err why → why ≡ clients.NotMine
      on true f = cc
      on false f = let same : clients.NotMine ≡ why = cc in sym same
  message_named c (Refused ident number code place) id why may is = on (ident == c.ident) is
    where
      on : (a : Bool) → (if a then refuse {A = ℕ} (clients.WasRefused number code) else refuse clients.NotMine).answer ≡ Err why → MayNotTake (Refused ident number code place) why
      on true f = let same : clients.WasRefused number code ≡ why = cc in inr (sym same)
      on false f = let same : clients.NotMine ≡ why = cc in inl (sym same)
  message_named c (Download ident from entries) id why may is = on (ident == c.ident) (nat_lt c.cursor from) is
    where
      on : (a b : Bool) → (if a then (if b then refuse (clients.Gap c.cursor from) else take_entries p c (drop (c.cursor - from) entries)) else refuse clients.NotMine).answer ≡ Err why
          → MayNotTake (Download ident from entries) why
      on true true f = let same : clients.Gap c.cursor from ≡ why = cc in absurd (subst MayDecline (sym same) may)
      on true false f = inr (entries_named (drop (c.cursor - from) entries) c why may f)
      on false b f = let same : clients.NotMine ≡ why = cc in inl (sym same)

  pub take_named : (c : Client I S) (u : Uuid) → c.id ≡ Some u → (m : Message) (why : ClientRefusal) → (take p c m).answer ≡ Err why → MayDecline why → MayNotTake m why
  take_named c u born m why is may = on c.id born is
    where
      on : (o : Option Uuid) → o ≡ Some u → (if_born o (take_born p c m)).answer ≡ Err why → MayNotTake m why
      on None born_is f = cc
      on (Some id) born_is f = message_named c m id why may f
