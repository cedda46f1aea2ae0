use Rattle.std.proofs.Common.{Option, refl, sym, subst}
use Rattle.std.specs.Option.{option_map}
use Rattle.sync_exchange.specs.Seen.{message_seen}
use Rattle.sync_messages.specs.declared.message.Message.{Message}
use Rattle.sync_host.specs.Steps.{Lasts, Spares, message_read, take_answer}
use Rattle.sync_host.proofs.Lasting.{client_lasts, client_still}
use Rattle.sync_host.proofs.Said.{if_told}
use Rattle.sync_host.proofs.hosted.HostedClient.take.Goals as goal

pub returns-in-Some-Number-clause-ends : goal.returns-in-Some-Number-clause-ends
returns-in-Some-Number-clause-ends c = λ records stands. let places = c.in-Ok-changed_by_message.places.items in
    if_told c.take-reply.result (Spares places records (option_map (take_answer records) (message_read c.args.bytes.now)))
    (subst (λ (m : Option Message). Spares places records (option_map (take_answer records) (option_map message_seen m))) (sym c.in-Ok.ensures.exact)
    (λ front back list spared. c.in-Ok-changed_by_message.ensures.ends records front back list (sym (c.unsent-unsent.ensures records stands.client)) spared))

pub returns-in-Ok-changed_by_message-clause-ends : goal.returns-in-Ok-changed_by_message-clause-ends
returns-in-Ok-changed_by_message-clause-ends c = λ records stands. let places = c.in-Ok-changed_by_message.places.items in
    if_told c.take-reply.result (Spares places records (option_map (take_answer records) (message_read c.args.bytes.now)))
    (subst (λ (m : Option Message). Spares places records (option_map (take_answer records) (option_map message_seen m))) (sym c.in-Ok.ensures.exact)
    (λ front back list spared. c.in-Ok-changed_by_message.ensures.ends records front back list (sym (c.unsent-unsent.ensures records stands.client)) spared))

pub returns-in-Ok-changed_by_message-2-clause-ends : goal.returns-in-Ok-changed_by_message-2-clause-ends
returns-in-Ok-changed_by_message-2-clause-ends c = λ records stands. let places = c.in-Ok-changed_by_message.places.items in
    if_told c.take-reply.result (Spares places records (option_map (take_answer records) (message_read c.args.bytes.now)))
    (subst (λ (m : Option Message). Spares places records (option_map (take_answer records) (option_map message_seen m))) (sym c.in-Ok.ensures.exact)
    (λ front back list spared. c.in-Ok-changed_by_message.ensures.ends records front back list (sym (c.unsent-unsent.ensures records stands.client)) spared))

pub returns-in-Some-Number-clause-lasts : goal.returns-in-Some-Number-clause-lasts
returns-in-Some-Number-clause-lasts c = λ records stands.
    client_lasts (option_map (take_answer records) (message_read c.args.bytes.now)) records c.args.self.now _
    (subst (λ (m : Option Message). Lasts (option_map (take_answer records) (option_map message_seen m)) records c.args.self.now.client c.take-reply.new.client) (sym c.in-Ok.ensures.exact) (c.take-reply.ensures.lasts records stands))

pub returns-in-Ok-changed_by_message-clause-lasts : goal.returns-in-Ok-changed_by_message-clause-lasts
returns-in-Ok-changed_by_message-clause-lasts c = λ records stands.
    client_lasts (option_map (take_answer records) (message_read c.args.bytes.now)) records c.args.self.now _
    (subst (λ (m : Option Message). Lasts (option_map (take_answer records) (option_map message_seen m)) records c.args.self.now.client c.take-reply.new.client) (sym c.in-Ok.ensures.exact) (c.take-reply.ensures.lasts records stands))

pub returns-in-Ok-changed_by_message-2-clause-lasts : goal.returns-in-Ok-changed_by_message-2-clause-lasts
returns-in-Ok-changed_by_message-2-clause-lasts c = λ records stands.
    client_lasts (option_map (take_answer records) (message_read c.args.bytes.now)) records c.args.self.now _
    (subst (λ (m : Option Message). Lasts (option_map (take_answer records) (option_map message_seen m)) records c.args.self.now.client c.take-reply.new.client) (sym c.in-Ok.ensures.exact) (c.take-reply.ensures.lasts records stands))

pub returns-in-Err-NoMemory-clause-lasts : goal.returns-in-Err-NoMemory-clause-lasts
returns-in-Err-NoMemory-clause-lasts c = λ records stands. client_still (option_map (take_answer records) (message_read c.args.bytes.now)) records c.args.self.now c.args.self.now refl stands

pub returns-in_default-clause-lasts : goal.returns-in_default-clause-lasts
returns-in_default-clause-lasts c = λ records stands. client_still (option_map (take_answer records) (message_read c.args.bytes.now)) records c.args.self.now c.args.self.now refl stands
