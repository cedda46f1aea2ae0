-- A host's place.
use Rattle.std.specs.Prelude.{◌≡◌, ◌⊎◌, List, ℕ, true, [], ◌∷◌, length}
use Rattle.outbox_disk.specs.Outbox.{outbox_bytes}
use Rattle.sync_host.specs.Nodes.{Answered}
use Rattle.sync_host.specs.Outboxes.{FileStands, strokes_in}
use Rattle.sync_host.specs.Replies.{over, reply_bytes}
use Rattle.sync_host.specs.Verbs.{Asks, AsksNothingNew, is_new}
use Rattle.sync_host.specs.declared.host.Host.{Host}
use Rattle.sync_host.specs.declared.node.Node.{Node}
use Rattle.sync_host.specs.declared.reply.Reply.{Reply}
use Rattle.sync_host.specs.declared.reply.Reply.TheVariants as replies
use Rattle.sync_host.specs.declared.verb.Verb.{Verb}

abbrev pub node_of : Host → Node
node_of host = host.node

abbrev pub reply_of : Host → Reply
reply_of host = host.reply

-- the request for the last reply
abbrev pub again : List ℕ
again = 82 ∷ []

-- the request for the outbox
abbrev pub outbox : List ℕ
outbox = 87 ∷ []

-- a request was answered over a buffer
pub record Turned (old : Host) (request before : List ℕ) (count : ℕ) (after : List ℕ) (new : Host) : Type 0 where
  -- what it asks for is done, and its reply is kept
  pub answered : (verb : Verb) (body : List ℕ) → Asks verb body request → is_new verb ≡ true → Answered verb body (node_of old) (reply_of new) (node_of new)
  -- what is no request is told so, and changes nothing
  pub no_request : AsksNothingNew request → (request ≡ again → ⊥) → (request ≡ outbox → ⊥) → (reply_of new ≡ replies.BadRequest) × (node_of new ≡ node_of old)
  pub same : (request ≡ again) ⊎ (request ≡ outbox) → new ≡ old
  -- the reply that is kept is written over the buffer, as far as there is room, and its whole length is told
  pub told : (request ≡ outbox → ⊥) → count ≡ length (reply_bytes (reply_of new))
  pub written : (request ≡ outbox → ⊥) → after ≡ over (reply_bytes (reply_of new)) before
  -- or the outbox is: what the node's disk was asked for since it was emptied, in order
  pub outbox_told : request ≡ outbox → count ≡ length (outbox_bytes (strokes_in (node_of old)))
  pub outbox_written : request ≡ outbox → after ≡ over (outbox_bytes (strokes_in (node_of old))) before
  pub room : length after ≡ length before
  -- a host that has done all that stands in the outbox has a file that stands for the node's records
  pub file : FileStands (node_of new)
