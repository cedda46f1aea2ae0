-- Replies of an heir, from what its step answers.
use Rattle.std.proofs.Common.{◌≡◌, ◌∷◌, ℕ, List, ◌++◌, map, Option, None, Some, Ok, Err, sym, ◌∙◌, ap, subst}
use Rattle.std.specs.Option.{option_map}
use Rattle.sync_disk.specs.declared.disk.Disk.{Ghosts}
use Rattle.sync_io.specs.Formats.{◌>>=◌, both_in}
use Rattle.sync_journal.specs.Several.{Asks}
use Rattle.sync_exchange.specs.Seen.{client_bytes}
use Rattle.sync_model.specs.Clients.{ClientRecord, ClientRefusal}
use Rattle.sync_model.specs.Resets.{ByClient, HeirAnswer, HeirStep, ResetRefusal}
use Rattle.sync_client.specs.Clients.{IsStored, journal_of}
use Rattle.sync_client.specs.Refusals.{IfSeen, refusal_seen}
use Rattle.sync_client.specs.declared.client.Client.{Client}
use Rattle.sync_heir.specs.Heirs.{HeirAsked, HeirDid, IfReset, reset_seen}
use Rattle.sync_heir.specs.declared.refusal.ResetRefusal.{ResetRefusal as CodeReset}
use Rattle.sync_heir.specs.declared.refusal.ResetRefusal.TheVariants as resets
use Rattle.sync_host.specs.Heirs.{Resets, heir_bytes, heir_reply, heir_said}
use Rattle.sync_host.specs.Replies.{reply_bytes}
use Rattle.sync_host.specs.Steps.{Answers, Declines, IfTold}
use Rattle.sync_host.specs.declared.reply.Reply.{Reply}
use Rattle.sync_host.proofs.Said.{asked_where, told_then, untold}

-- two fields, one behind the other
pub both_given : {A B : Type 0} (a : List ℕ → Option (A × List ℕ)) (b : List ℕ → Option (B × List ℕ)) (bytes rest left : List ℕ) (x : A) (y : B) → a bytes ≡ Some (x, rest) → b rest ≡ Some (y, left) → both_in a b bytes ≡ Some ((x, y), left)
both_given a b bytes rest left x y p q =
    ap (λ o. o >>= λ u. b u.1 >>= λ v. Some ((u.0, v.0), v.1)) p ∙ ap (λ o. o >>= λ v. Some ((x, v.0), v.1)) q

-- the refusal of the heir's transaction
pub by_client : (o : Option ClientRefusal) (reply : Reply) → Declines o reply → Resets (option_map (λ w. ByClient w) o) reply
by_client None reply h = h
by_client (Some w) reply h = h

seen_so : (o : Option ClientRefusal) (P : Type 0) → IfSeen o (λ w. P) → IfReset (option_map (λ w. ByClient w) o) (λ w. P)
seen_so None P h = tt
seen_so (Some w) P h = h

module _ {D : Type 0} {G : Ghosts D} (did : HeirStep) (records : List ClientRecord) (old new : Client D G) where
  abbrev AsksAll : Type 0
  AsksAll = Asks (map client_bytes did.records) (journal_of old) (journal_of new)

  abbrev Saying : Reply → Type 0
  Saying reply = Answers (Some (heir_said did)) records reply old new

  pub reset_asked : (why : CodeReset) → HeirAsked did old new (Err why) → IfReset (reset_seen why) (λ w. AsksAll)
  reset_asked resets.NotMine h = h
  reset_asked (resets.Skips expected got) h = h
  reset_asked (resets.BadChange number offset rule) h = h
  reset_asked (resets.Client why) h = seen_so (refusal_seen why) AsksAll (asked_where did.records (journal_of old) (journal_of new) why h)
  reset_asked resets.NoMemory h = tt

  pub heir_ok : (a : HeirAnswer) (reply : Reply) → HeirDid did (Ok a) records new → IsStored (records ++ did.records) new → AsksAll → IfTold reply (reply_bytes reply ≡ 0 ∷ heir_bytes a) → IfTold reply (Saying reply)
  heir_ok a reply step stored asked is = told_then reply (reply_bytes reply ≡ 0 ∷ heir_bytes a) (Saying reply)
      (λ e. record { replied = e ∙ ap heir_reply (sym step.answer_is); stands = record { client = step.client; stored = stored }; asked = asked }) is

  pub heir_err : (why : Option ResetRefusal) (reply : Reply) → IfReset why (λ w. HeirDid did (Err w) records new) → IfReset why (λ w. IsStored (records ++ did.records) new) → IfReset why (λ w. AsksAll) → Resets why reply → IfTold reply (Saying reply)
  heir_err None reply step stored asked resets = untold reply (Saying reply) resets
  heir_err (Some why) reply step stored asked resets =
      subst (λ (r : Reply). IfTold r (Saying r)) (sym resets)
      (record { replied = ap heir_reply (sym step.answer_is); stands = record { client = step.client; stored = stored }; asked = asked })
