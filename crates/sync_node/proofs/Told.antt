-- The calls of a node over a disk as the answers of a run.
use Rattle.std.proofs.Common.{◌≡◌, ℕ, List, ◌++◌, Option, None, Some, Result, Ok, Err, Vec, Global, refl, sym, ap, subst, ◌∙◌}
use Rattle.std.specs.Prelude.{IfOk, IfSome, ⊤}
use Rattle.std.specs.Option.{option_map}
use Rattle.sync_disk.specs.declared.disk.Disk.{Ghosts}
use Rattle.sync_model.specs.Clients.{ClientRecord, ClientRefusal, ClientStep}
use Rattle.sync_base.specs.States.{State}
use Rattle.sync_data.specs.declared.instr.Instr.{Instr}
use Rattle.sync_model.specs.Parts.{Served}
use Rattle.sync_model.specs.Servers.{ServerRecord}
use Rattle.sync_exchange.specs.Seen.{message_seen}
use Rattle.sync_client.specs.Clients as clients
use Rattle.sync_client.specs.Refusals.{IfSeen, refusal_seen}
use Rattle.sync_client.specs.declared.refusal.ClientRefusal.{ClientRefusal as CodeRefusal}
use Rattle.sync_client.specs.declared.refusal.ClientRefusal.TheVariants as codes
use Rattle.sync_model.specs.Worlds.{Words}
use Rattle.sync_words.specs.Words.{outcome_line, words_text}
use Rattle.sync_client.specs.declared.client.Client.{Client}
use Rattle.sync_server.specs.Serving as servers
use Rattle.sync_server.specs.declared.server.Server.{Server}
use Rattle.sync_messages.specs.declared.message.Message.{Message as CodeMessage}
use Rattle.sync_node.specs.Frames.{frame}
use Rattle.sync_node.specs.Holding.{ClientStands, ServerStands}
use Rattle.sync_node.specs.Runs.{Answer, AnswersSo}
use Rattle.sync_node.specs.Steps.{Declined, answer_words, replied, said}
use Rattle.sync_node.specs.declared.command.ItemEnd.{ItemEnd}

-- of a client that keeps no notes
pub noteless : {R : Type 0} (meant : Option (Answer R)) (records : List R) (Stands : List R → Type 0) (r : Result (Vec ℕ Global) ItemEnd) → IfOk r (λ text. AnswersSo meant records text.items Stands) → IfOk r (λ text. AnswersSo meant records text.items (λ rs. ⊤ × Stands rs))
noteless meant records Stands (Ok text) a = record { answer = a.answer; is = a.is; text_is = a.text_is; stands = (tt, a.stands) }
noteless meant records Stands (Err end) a = tt

-- ---- a client's call is answered, or refused
module _ {A D : Type 0} {G : Ghosts D} (words : A → List ℕ) (number : ℕ) (did : ClientStep A) (records : List ClientRecord) (new : Client D G) where
  pub said_ok : (a : A) (result : Result (Vec ℕ Global) ItemEnd) → clients.Did did (Ok a) records new → clients.IsStored (records ++ did.records) new → IfOk result (λ text. text.items ≡ outcome_line number (words a))
      → IfOk result (λ text. AnswersSo (Some (said number words did)) records text.items (λ rs. ClientStands rs new))
  said_ok a (Ok text) step stored says = record {
    answer = said number words did;
    is = refl;
    text_is = says ∙ ap (λ r. outcome_line number (answer_words words r)) (sym step.answer_is);
    stands = record { client = step.client; stored = stored };
  }
  said_ok a (Err end) step stored says = tt

  pub said_err : (why : Option ClientRefusal) (result : Result (Vec ℕ Global) ItemEnd) → IfSeen why (λ w. clients.Did did (Err w) records new) → IfSeen why (λ w. clients.IsStored (records ++ did.records) new) → IfOk result (λ text. Declined number text.items why)
      → IfOk result (λ text. AnswersSo (Some (said number words did)) records text.items (λ rs. ClientStands rs new))
  said_err why (Err end) step stored declined = tt
  said_err None (Ok text) step stored declined = absurd declined
  said_err (Some w) (Ok text) step stored declined = record {
    answer = said number words did;
    is = refl;
    text_is = declined ∙ ap (λ r. outcome_line number (answer_words words r)) (sym step.answer_is);
    stands = record { client = step.client; stored = stored };
  }

-- a refusal that is told
pub declined_some : (number : ℕ) (why : Option ClientRefusal) (result : Result (Vec ℕ Global) ItemEnd) → (why ≡ None → ⊥)
    → IfSome (option_map words_text (option_map Words.Declined why)) (λ said. IfOk result (λ text. text.items ≡ outcome_line number said)) → IfOk result (λ text. Declined number text.items why)
declined_some number None result known says = absurd (known refl)
declined_some number (Some w) result known says = says

-- what is said of a text is said of the outcome's
pub of_text : (P : List ℕ → Type 0) (o : Option (List ℕ)) (text : List ℕ) → o ≡ Some text → IfSome o P → P text
of_text P o text is all = subst (λ (x : Option (List ℕ)). IfSome x P) is all

pub plain_seen : (why : CodeRefusal) → (why ≡ codes.DiskFault → ⊥) → (why ≡ codes.NoMemory → ⊥) → (why ≡ codes.Closed → ⊥) → refusal_seen why ≡ None → ⊥
plain_seen codes.Closed a b c e = c refl
plain_seen codes.DiskFault a b c e = a refl
plain_seen codes.NoMemory a b c e = b refl
plain_seen codes.NotBorn a b c e = cc
plain_seen codes.AlreadyBorn a b c e = cc
plain_seen codes.NotNamed a b c e = cc
plain_seen codes.TooLarge a b c e = cc
plain_seen codes.NumbersFull a b c e = cc
plain_seen (codes.OldForm place) a b c e = cc
plain_seen (codes.NotSubscribed place) a b c e = cc
plain_seen (codes.Break place code) a b c e = cc
plain_seen codes.NotMine a b c e = cc
plain_seen (codes.IdentDiffers kept got) a b c e = cc
plain_seen (codes.Gap cursor from) a b c e = cc
plain_seen (codes.BadBody version offset rule) a b c e = cc
plain_seen (codes.OldEntry version) a b c e = cc
plain_seen (codes.Mismatch version number kind) a b c e = cc
plain_seen (codes.Forked number) a b c e = cc
plain_seen (codes.NotApplicable version place code) a b c e = cc
plain_seen (codes.WasRefused number code) a b c e = cc
plain_seen codes.Subscribed a b c e = cc
plain_seen codes.TooLate a b c e = cc

-- ---- a server's call is answered
module _ {D : Type 0} {G : Ghosts D} where
  pub replied_ok : (did : Served Instr State) (records : List ServerRecord) (new : Server D G) (reply : CodeMessage) (text : List ℕ) → servers.Did did reply records new → servers.IsStored (records ++ did.records) new → text ≡ frame (message_seen reply)
      → AnswersSo (Some (replied did)) records text (λ rs. ServerStands rs new)
  replied_ok did records new reply text step stored framed = record {
    answer = replied did;
    is = refl;
    text_is = framed ∙ ap frame step.reply_is;
    stands = record { server = step.server; stored = stored };
  }
