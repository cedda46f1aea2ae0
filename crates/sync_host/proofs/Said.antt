-- Replies of a client's calls, from what the calls answer.
use Rattle.std.proofs.Common.{◌≡◌, ◌==◌, if◌then◌else◌, inl, inr, ℕ, Bool, false, List, ◌∷◌, ◌++◌, Option, None, Some, Ok, Err, map, refl, sym, ◌∙◌, ap, subst, arith}
use Rattle.std.proofs.lemmas.Bool.Decides.{nat_tests}
use Rattle.sync_disk.specs.declared.disk.Disk.{Ghosts}
use Rattle.sync_journal.specs.declared.journal.Journal.{Journal}
use Rattle.sync_journal.specs.Several.{Asks}
use Rattle.sync_model.specs.Clients.{ClientRecord, ClientRefusal, ClientStep}
use Rattle.sync_model.specs.Messages.{Message}
use Rattle.sync_exchange.specs.Seen.{client_bytes}
use Rattle.sync_client.specs.Clients.{AskedFor, Did, IsStored, journal_of}
use Rattle.sync_client.specs.Refusals.{IfSeen, refusal_seen}
use Rattle.sync_client.specs.declared.refusal.ClientRefusal.{ClientRefusal as CodeRefusal}
use Rattle.sync_client.specs.declared.refusal.ClientRefusal.TheVariants as codes
use Rattle.sync_client.specs.declared.client.Client.{Client}
use Rattle.sync_host.specs.Refusals.{declined}
use Rattle.sync_host.specs.Replies.{reply_bytes}
use Rattle.sync_host.specs.Steps.{Answers, Declines, IfTold, SentSo, answer_bytes, said}
use Rattle.sync_host.specs.declared.reply.Reply.{Reply}
use Rattle.sync_host.specs.declared.reply.Reply.TheVariants as replies

-- what holds is told of any reply
pub if_told : (reply : Reply) (P : Type 0) → P → IfTold reply P
if_told replies.Closed P h = tt
if_told replies.NoMemory P h = tt
if_told reply P h = h

-- and what follows from what is told
pub told_then : (reply : Reply) (P Q : Type 0) → (P → Q) → IfTold reply P → IfTold reply Q
told_then replies.Closed P Q f h = tt
told_then replies.NoMemory P Q f h = tt
told_then reply P Q f h = f h

pub untold : (reply : Reply) (P : Type 0) → Declines None reply → IfTold reply P
untold reply P (inl closed) = subst (λ (r : Reply). IfTold r P) (sym closed) tt
untold reply P (inr none) = subst (λ (r : Reply). IfTold r P) (sym none) tt

told : (reply : Reply) (why : ClientRefusal) (P : Reply → Type 0) → reply ≡ replies.Declined (declined why) → P (replies.Declined (declined why)) → IfTold reply (P reply)
told reply why P is holds = subst (λ (r : Reply). IfTold r (P r)) (sym is) holds

not_equal : (n : ℕ) → (n ≡ 0 → ⊥) → (n == 0) ≡ false
not_equal n not = grind (arith, nat_tests)

module _ {D : Type 0} {G : Ghosts D} (next : List ClientRecord) (old new : Journal D G) where
  -- what a refusal that is told asked of the disk
  pub asked_where : (why : CodeRefusal) → AskedFor next old new (Some why) → IfSeen (refusal_seen why) (λ w. Asks (map client_bytes next) old new)
  asked_where codes.Closed h = tt
  asked_where codes.DiskFault h = tt
  asked_where codes.NoMemory h = tt
  asked_where why h = h

module _ {D : Type 0} {G : Ghosts D} {A : Type 0} (tell : A → List ℕ) (did : ClientStep A) (records : List ClientRecord) (old new : Client D G) where
  abbrev AsksAll : Type 0
  AsksAll = Asks (map client_bytes did.records) (journal_of old) (journal_of new)

  pub said_ok : (a : A) (reply : Reply) → Did did (Ok a) records new → IsStored (records ++ did.records) new → AsksAll → reply_bytes reply ≡ 0 ∷ tell a → Answers (Some (said tell did)) records reply old new
  said_ok a reply step stored asked is = record { replied = is ∙ ap (answer_bytes tell) (sym step.answer_is); stands = record { client = step.client; stored = stored }; asked = asked }

  pub said_err : (why : Option ClientRefusal) (reply : Reply) → IfSeen why (λ w. Did did (Err w) records new) → IfSeen why (λ w. IsStored (records ++ did.records) new) → IfSeen why (λ w. AsksAll) → Declines why reply
      → IfTold reply (Answers (Some (said tell did)) records reply old new)
  said_err None reply step stored asked declines = untold reply (Answers (Some (said tell did)) records reply old new) declines
  said_err (Some why) reply step stored asked declines =
      told reply why (λ r. Answers (Some (said tell did)) records r old new) declines
      (record { replied = ap (answer_bytes tell) (sym step.answer_is); stands = record { client = step.client; stored = stored }; asked = asked })

pub unsent : (did : ClientStep Message) (why : Option ClientRefusal) (reply : Reply) → IfSeen why (λ w. did.answer ≡ Err w) → Declines why reply → IfTold reply (SentSo did.answer reply)
unsent did None reply step declines = untold reply (SentSo did.answer reply) declines
unsent did (Some why) reply step declines = told reply why (SentSo did.answer) declines (subst (λ a. SentSo a (replies.Declined (declined why))) (sym step) refl)

-- where a number isn't 0
pub not_zero : {A : Type 0} (n : ℕ) (P : Option A → Type 0) (o : Option A) → (n ≡ 0 → ⊥) → P o → P (if n == 0 then None else o)
not_zero n P o not holds = subst (λ (b : Bool). P (if b then None else o)) (sym (not_equal n not)) holds
