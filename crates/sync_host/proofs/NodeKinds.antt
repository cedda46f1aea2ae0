-- A node is of one kind.
use Rattle.std.proofs.Common.{◌≡◌}
use Rattle.sync_host.specs.declared.hosted.HostedClient.{HostedClient}
use Rattle.sync_host.specs.declared.hosted.HostedServer.{HostedServer}
use Rattle.sync_host.specs.declared.node.Node.{Node}
use Rattle.sync_host.specs.declared.node.Node.TheVariants as nodes

pub same_client : (it : Node) (a b : HostedClient) → it ≡ nodes.Client a → it ≡ nodes.Client b → a ≡ b
same_client it a b e f = cc

pub same_server : (it : Node) (a b : HostedServer) → it ≡ nodes.Server a → it ≡ nodes.Server b → a ≡ b
same_server it a b e f = cc

pub not_both : (it : Node) (a : HostedClient) (b : HostedServer) → it ≡ nodes.Client a → it ≡ nodes.Server b → ⊥
not_both it a b e f = cc

pub client_there : (it : Node) (a : HostedClient) → it ≡ nodes.Client a → it ≡ nodes.None → ⊥
client_there it a e f = cc

pub server_there : (it : Node) (a : HostedServer) → it ≡ nodes.Server a → it ≡ nodes.None → ⊥
server_there it a e f = cc
