-- Instructions that act are committed, or refused for something else than a break.
use Rattle.std.proofs.Common.{◌≡◌, ℕ, Bool, true, false, cond, List, Option, Some, None, Result, Ok, Err, sym, subst}
use Rattle.sync_data.specs.declared.instr.Instr.{Instr}
use Rattle.sync_base.specs.Checks.{act_all}
use Rattle.sync_base.specs.States.{State}
use Rattle.sync_disk.specs.declared.disk.Disk.{Ghosts}
use Rattle.sync_exchange.specs.Lemmas.Coded.{all_act}
use Rattle.sync_exchange.specs.Profile.{the_profile}
use Rattle.sync_model.specs.Clients.{Client, ClientRecord, ClientStep, Break, NotSubscribed, NumbersFull, OldForm, TooLarge, commit, commit_applied, commit_born, if_born, refuse}
use Rattle.sync_client.specs.Clients.{Says}
use Rattle.sync_client.specs.declared.client.Client.{Client as Held}
use Rattle.sync_client.specs.declared.refusal.ClientRefusal.{ClientRefusal as CodeRefusal}
use Rattle.sync_client.specs.declared.refusal.ClientRefusal.TheVariants as refusals
use Rattle.sync_next.specs.Commits.{IsNoBreak}

-- a step that isn't refused for a break
pub record Unbroken (did : ClientStep ℕ) : Type 0 where
  pub never : (place code : ℕ) → ¬ (did.answer ≡ Err (Break place code))

either_so : (b : Bool) (x y : ClientStep ℕ) → Unbroken x → Unbroken y → Unbroken (cond b x y)
either_so true x y h k = h
either_so false x y h k = k

born_so : (id : Option (List ℕ)) (go : ClientStep ℕ) → Unbroken go → Unbroken (if_born id (λ x. go))
born_so None go h = record { never = λ place code e. cc }
born_so (Some id) go h = h

applied_so : (number : ℕ) (made : ClientRecord) (r : Result State (ℕ × ℕ)) (t : State) → r ≡ Ok t → Unbroken (commit_applied number made r)
applied_so number made r t e = subst (λ r. Unbroken (commit_applied number made r)) (sym e) (record { never = λ place code f. cc })

large : Unbroken (refuse TooLarge)
large = record { never = λ place code e. cc }

full : Unbroken (refuse NumbersFull)
full = record { never = λ place code e. cc }

old : (n : ℕ) → Unbroken (refuse (OldForm n))
old n = record { never = λ place code e. cc }

outside : (n : ℕ) → Unbroken (refuse (NotSubscribed n))
outside n = record { never = λ place code e. cc }

pub unbroken : (c : Client Instr State) (ms : ℕ) (is : List Instr) (t : State) → act_all is c.objects ≡ Some t → Unbroken (commit the_profile c ms is)
unbroken c ms is t acts =
    born_so c.id (commit_born the_profile c ms is) (either_so _ _ _ large (either_so _ _ _ full (either_so _ _ _ (old _) (either_so _ _ _ (outside _) (applied_so _ _ _ t (all_act is c.objects t acts))))))

module _ {D : Type 0} {G : Ghosts D} where
  pub never_told : (did : ClientStep ℕ) (records : List ClientRecord) (new : Held D G) (r : Result ℕ CodeRefusal) → Says did records new r → Unbroken did → IsNoBreak r
  never_told did records new (Err (refusals.Break place code)) says h = absurd (h.never place code says.answer_is)
  never_told did records new (Ok n) says h = tt
  never_told did records new (Err why) says h = tt
