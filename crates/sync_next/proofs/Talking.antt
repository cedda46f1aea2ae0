-- What a client sends in turn.
use Rattle.std.proofs.Common.{◌≡◌, ℕ, Bool, true, false, ◌==◌, if◌then◌else◌, Option, Some, None, Result, Err, ap}
use Rattle.std.specs.Option.{is_some}
use Rattle.sync_data.specs.declared.instr.Instr.{Instr}
use Rattle.sync_base.specs.States.{State}
use Rattle.sync_exchange.specs.Profile.{the_profile}
use Rattle.sync_model.specs.Clients.{Client, ask, bind, upload_from}
use Rattle.sync_messages.specs.declared.message.Message.{Message as CodeMessage}
use Rattle.sync_client.specs.Sending.{Sends}
use Rattle.sync_client.specs.declared.refusal.ClientRefusal.{ClientRefusal}
use Rattle.sync_next.specs.Nexts.{next_message}
use Rattle.sync_next.specs.Talks.{TalksBy, next_of}
use Rattle.sync_next.specs.declared.talk.Talk.{Talk}
use Rattle.sync_next.specs.declared.talk.Stale.{Stale}

pub verified_next : (t : Talk) (c : Client Instr State) → t.verified ≡ true → next_of t c ≡ next_message c t.sent
verified_next t c is = ap (λ (b : Bool). if b then next_message c t.sent else if c.ident == 0 then bind c else if t.held_up then upload_from the_profile c 4294967295 else ask c) is

pub refused_next : (o : Option Stale) (t new : Talk) (c : Client Instr State) (why : ClientRefusal) → is_some o ≡ false → Sends (next_of t c) (Err why) → TalksBy o t c new (Err why)
refused_next None t new c why none sends = sends
refused_next (Some s) t new c why none sends = cc
