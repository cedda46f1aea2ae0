use Rattle.std.proofs.Common.{refl, subst}
use Rattle.sync_host.specs.Outboxes.{EmptiedClient, EmptiedServer}
use Rattle.sync_host.specs.declared.hosted.HostedClient.{HostedClient}
use Rattle.sync_host.specs.declared.hosted.HostedServer.{HostedServer}
use Rattle.sync_host.proofs.NodeKinds.{client_there, not_both, same_client, same_server, server_there}
use Rattle.sync_host.proofs.node.Node.empty_outbox.Goals as goal

pub returns-in-Client-clause-emptied : goal.returns-in-Client-clause-emptied
returns-in-Client-clause-emptied c = record {
  client = λ h is. (c.empty.new.self, refl, subst (λ (old : HostedClient). EmptiedClient old c.empty.new.self) (same_client c.args.self.now c.in-Client.hosted h c.in-Client.is is) c.empty.ensures);
  server = λ h is. absurd (not_both c.args.self.now c.in-Client.hosted h c.in-Client.is is);
  none = λ is. absurd (client_there c.args.self.now c.in-Client.hosted c.in-Client.is is);
}

pub returns-in-Server-clause-emptied : goal.returns-in-Server-clause-emptied
returns-in-Server-clause-emptied c = record {
  client = λ h is. absurd (not_both c.args.self.now h c.in-Server.hosted is c.in-Server.is);
  server = λ h is. (c.empty-in-Server.new.self, refl, subst (λ (old : HostedServer). EmptiedServer old c.empty-in-Server.new.self) (same_server c.args.self.now c.in-Server.hosted h c.in-Server.is is) c.empty-in-Server.ensures);
  none = λ is. absurd (server_there c.args.self.now c.in-Server.hosted c.in-Server.is is);
}
