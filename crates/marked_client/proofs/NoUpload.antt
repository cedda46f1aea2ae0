-- A message that is no Upload.
use Rattle.std.proofs.Common.{◌≡◌, ℕ, List, Result, Ok, Err, refl, inr}
use Rattle.std.specs.Prelude.{◌⊎◌, IfOk, IfErr}
use Rattle.sync_client.specs.declared.refusal.ClientRefusal.TheVariants as clients
use Rattle.sync_messages.specs.declared.message.Message.{Message}
use Rattle.sync_messages.specs.declared.message.Message.TheVariants as messages
use Rattle.sync_messages.specs.Parts.{UploadParts}
use Rattle.life_bytes.specs.declared.said.Said.TheVariants as said
use Rattle.life_marks.specs.ClientMarks.{Marks}
use Rattle.marked_client.specs.declared.refusal.MarkedRefusal.{MarkedRefusal}
use Rattle.marked_client.specs.declared.refusal.MarkedRefusal.TheVariants as refusals
use Rattle.marked_client.specs.Saying.{plain_says, says_of}

pub on_each : {A B : Type 0} {P Q : A → Type 0} (r : Result A B) → ((a : A) → P a → Q a) → IfOk r P → IfOk r Q
on_each (Ok a) f p = f a p
on_each (Err b) f p = p

pub broken_is : {A : Type 0} (r : Result A MarkedRefusal) → IfErr r (λ why. why ≡ refusals.Broken) → IfErr r (λ why. (why ≡ refusals.Client clients.NoMemory) ⊎ (why ≡ refusals.Broken))
broken_is (Ok a) p = p
broken_is (Err why) p = inr p

pub not_upload : (m : Marks) (uuid : List ℕ) (cursor : ℕ) (message : Message) → ((upload : UploadParts) → message ≡ messages.Upload upload → ⊥) → says_of m uuid cursor message ≡ plain_says m uuid cursor (said.Message message)
not_upload m uuid cursor (messages.Bind id) isnt = refl
not_upload m uuid cursor (messages.Ident given) isnt = refl
not_upload m uuid cursor (messages.Upload upload) isnt = absurd (isnt upload refl)
not_upload m uuid cursor (messages.Ask ask) isnt = refl
not_upload m uuid cursor (messages.Download download) isnt = refl
not_upload m uuid cursor (messages.Refused ident number code place) isnt = refl
not_upload m uuid cursor (messages.Stored stored) isnt = refl
not_upload m uuid cursor (messages.Ask2 ask) isnt = refl
not_upload m uuid cursor (messages.Retire retire) isnt = refl
not_upload m uuid cursor (messages.Retired retired) isnt = refl
not_upload m uuid cursor (messages.AskTables asked) isnt = refl
