-- What is told of a message is told of the client that took it.
use Rattle.std.proofs.Common.{◌≡◌, inl, inr, ◌++◌, true, false, List, Result, Ok, Err, refl, sym, ◌∙◌, subst}
use Rattle.sync_base.specs.States.{State}
use Rattle.sync_disk.specs.declared.disk.Disk.{Ghosts}
use Rattle.sync_exchange.specs.Profile.{the_profile}
use Rattle.sync_model.specs.Clients.{ClientRecord, ClientStep, client_of}
use Rattle.sync_client.specs.Clients.{Closes, IsClientOf, Says}
use Rattle.sync_client.specs.declared.client.Client.{Client as Held}
use Rattle.sync_client.specs.declared.refusal.ClientRefusal.{ClientRefusal}
use Rattle.sync_client.specs.declared.refusal.ClientRefusal.TheVariants as refusals

module _ {D : Type 0} {G : Ghosts D} where
  -- a call that leaves the client open leaves the client of its step's records
  now_of : {A : Type 0} (did : ClientStep A) (records after : List ClientRecord) (old new : Held D G) (r : Result A ClientRefusal) → Says did records new r → IsClientOf records old → IsClientOf after new → Closes old new r → IsClientOf (records ++ did.records) new
  now_of did records after old new (Ok a) says was now closes = says.client
  now_of did records after old new (Err refusals.Closed) says was now closes = let e : true ≡ false = sym (closes.closed.0 refl) ∙ was.open_ in cc
  now_of did records after old new (Err refusals.DiskFault) says was now closes = let e : true ≡ false = sym (closes.closes (inl refl)) ∙ now.open_ in cc
  now_of did records after old new (Err refusals.NoMemory) says was now closes = let e : true ≡ false = sym (closes.closes (inr refl)) ∙ now.open_ in cc
  now_of did records after old new (Err why) says was now closes = says.client

  -- and what holds of its objects holds of those of whichever records it stands for
  pub told_so : {A : Type 0} (P : State → Type 0) (did : ClientStep A) (records after : List ClientRecord) (old new : Held D G) (r : Result A ClientRefusal) (s : State) → Says did records new r → IsClientOf records old → IsClientOf after new → Closes old new r
      → ((rs : List ClientRecord) → IsClientOf rs new → s ≡ (client_of the_profile rs).objects)
      → P (client_of the_profile (records ++ did.records)).objects → P (client_of the_profile after).objects
  told_so P did records after old new r s says was now closes objects holds =
      let then = now_of did records after old new r says was now closes in
      subst P (sym (objects (records ++ did.records) then) ∙ objects after now) holds
