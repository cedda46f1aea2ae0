use Rattle.std.proofs.Common.{List, ℕ, ◌∷◌, sym, ◌∙◌, ap}
use Rattle.sync_host.specs.Replies.{over, reply_bytes}
use Rattle.sync_host.specs.declared.reply.Reply.{Reply}
use Rattle.sync_host.proofs.reply.Reply.write_to.Goals as goal

pub returns-in-Standing-clause-written : goal.returns-in-Standing-clause-written
returns-in-Standing-clause-written c =
    c.lay-in-Standing.ensures.laid ∙ ap (λ (bytes : List ℕ). over (0 ∷ bytes) c.args.into.now) c.bytes.ensures
    ∙ ap (λ (reply : Reply). over (reply_bytes reply) c.args.into.now) (sym c.in-Standing.is)

pub returns-in-Declined-clause-written : goal.returns-in-Declined-clause-written
returns-in-Declined-clause-written c =
    c.lay-in-Declined.ensures.laid ∙ ap (λ (bytes : List ℕ). over (1 ∷ bytes) c.args.into.now) c.bytes-in-Declined.ensures
    ∙ ap (λ (reply : Reply). over (reply_bytes reply) c.args.into.now) (sym c.in-Declined.is)
