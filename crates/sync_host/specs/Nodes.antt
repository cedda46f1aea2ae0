-- What a host's place answers, and what stands there afterwards.
use Rattle.std.specs.Prelude.{◌≡◌, ◌⊎◌, ℕ, List, [], true, false}
use Rattle.sync_client.specs.Clients as clients
use Rattle.sync_client.specs.Files as client_files
use Rattle.sync_server.specs.Files as server_files
use Rattle.sync_server.specs.Serving as servers
use Rattle.sync_messages.specs.Reading.{message_in}
use Rattle.sync_host.specs.Heads.{BorneTold, HeadTold}
use Rattle.sync_host.specs.Steps.{IfTold}
use Rattle.sync_host.specs.Hosting.{ClientAnswers, ServerAnswers}
use Rattle.sync_host.specs.Outboxes.{Emptied}
use Rattle.sync_host.specs.Opening.{Begins, ClientOpens, ServerOpens}
use Rattle.sync_host.specs.Verbs.{is_new, is_to_node}
use Rattle.sync_host.specs.declared.hosted.HostedClient.{HostedClient}
use Rattle.sync_host.specs.declared.hosted.HostedServer.{HostedServer}
use Rattle.sync_host.specs.declared.node.Node.{Node}
use Rattle.sync_host.specs.declared.node.Node.TheVariants as nodes
use Rattle.sync_host.specs.declared.reply.Reply.{Reply}
use Rattle.sync_host.specs.declared.reply.Reply.TheVariants as replies
use Rattle.sync_host.specs.declared.verb.Verb.{Verb}
use Rattle.sync_host.specs.declared.verb.Verb.TheVariants as verbs

-- the same client answers, or the same server, or none
pub record NodeAnswers (verb : Verb) (body : List ℕ) (old : Node) (reply : Reply) (new : Node) : Type 0 where
  pub client : (h : HostedClient) → old ≡ nodes.Client h → (h' : HostedClient) × (new ≡ nodes.Client h') × ClientAnswers verb body h reply h'
  pub server : (h : HostedServer) → old ≡ nodes.Server h → (h' : HostedServer) × (new ≡ nodes.Server h') × ServerAnswers verb body h reply h'
  pub none : old ≡ nodes.None → (reply ≡ replies.Closed) × (new ≡ nodes.None)

-- the client of the records for which the bytes stand, of which the server said nothing yet, and nothing has changed
abbrev pub OpensClient : List ℕ → Node → Type 0
OpensClient bytes node = (h : HostedClient) × (node ≡ nodes.Client h) × (h.stored ≡ 0) × (h.changed.items ≡ []) × ClientOpens bytes h.client × Begins bytes (clients.journal_of h.client)

abbrev pub OpensServer : List ℕ → Node → Type 0
OpensServer bytes node = (h : HostedServer) × (node ≡ nodes.Server h) × ServerOpens bytes h.server × Begins bytes (servers.journal_of h.server)

-- a node was opened, or the place of what is bad is told, or memory ran out; then no node is open
abbrev pub Opened : (ℕ → Type 0) → (Node → Type 0) → Reply → Node → Type 0
Opened Bad Opens replies.Done there = Opens there
Opened Bad Opens (replies.BadFile place) there = Bad place × (there ≡ nodes.None)
Opened Bad Opens replies.NoMemory there = there ≡ nodes.None
Opened Bad Opens reply there = ⊥

-- a file that is bad at a place is told so
abbrev pub TellsBad : (ℕ → Type 0) → Reply → Type 0
TellsBad Bad reply = (place : ℕ) → Bad place → (reply ≡ replies.BadFile place) ⊎ (reply ≡ replies.NoMemory)

-- an outbox can be emptied where a node is open
abbrev pub emptied_reply : Node → Reply
emptied_reply nodes.None = replies.Closed
emptied_reply (nodes.Client h) = replies.Done
emptied_reply (nodes.Server h) = replies.Done

-- a request goes to the node that is open, or changes which is
pub record Answered (verb : Verb) (body : List ℕ) (old : Node) (reply : Reply) (new : Node) : Type 0 where
  pub by_node : is_to_node verb ≡ true → NodeAnswers verb body old reply new
  pub opens_client : verb ≡ verbs.OpenClient → Opened (client_files.BadPlace body) (OpensClient body) reply new
  pub bad_client : verb ≡ verbs.OpenClient → TellsBad (client_files.BadPlace body) reply
  pub opens_server : verb ≡ verbs.OpenServer → Opened (server_files.BadPlace body) (OpensServer body) reply new
  pub bad_server : verb ≡ verbs.OpenServer → TellsBad (server_files.BadPlace body) reply
  -- a message is looked at without a node
  pub heads : verb ≡ verbs.Head → IfTold reply (HeadTold (message_in body) reply) × (new ≡ old)
  pub bears : verb ≡ verbs.Borne → IfTold reply (BorneTold (message_in body) reply) × (new ≡ old)
  pub closes : verb ≡ verbs.Close → (reply ≡ replies.Done) × (new ≡ nodes.None)
  pub empties : verb ≡ verbs.Done → (reply ≡ emptied_reply old) × Emptied old new
  -- what asks for the last reply or the outbox with bytes behind it is no request
  pub no_request : is_new verb ≡ false → (reply ≡ replies.BadRequest) × (new ≡ old)
