-- The refusals of the code as those of the model; in the model no node is closed, no disk fails and memory never runs out.
use Rattle.std.specs.Prelude.{ℕ, Option, Some, None}
use Rattle.sync_base.specs.Codes.{mismatch_code}
use Rattle.sync_model.specs.Clients.{ClientRefusal}
use Rattle.sync_rebase.specs.declared.refusal.RebaseRefusal.{RebaseRefusal}
use Rattle.sync_rebase.specs.declared.refusal.RebaseRefusal.TheVariants as rebases
use Rattle.sync_client.specs.declared.refusal.ClientRefusal.{ClientRefusal as CodeRefusal}
use Rattle.sync_client.specs.declared.refusal.ClientRefusal.TheVariants as codes

abbrev pub refusal_seen : CodeRefusal → Option ClientRefusal
refusal_seen codes.Closed = None
refusal_seen codes.NotBorn = Some ClientRefusal.NotBorn
refusal_seen codes.AlreadyBorn = Some ClientRefusal.AlreadyBorn
refusal_seen codes.NotNamed = Some ClientRefusal.NotNamed
refusal_seen codes.TooLarge = Some ClientRefusal.TooLarge
refusal_seen codes.NumbersFull = Some ClientRefusal.NumbersFull
refusal_seen (codes.OldForm place) = Some (ClientRefusal.OldForm place)
refusal_seen (codes.NotSubscribed place) = Some (ClientRefusal.NotSubscribed place)
refusal_seen (codes.Break place code) = Some (ClientRefusal.Break place code)
refusal_seen codes.NotMine = Some ClientRefusal.NotMine
refusal_seen (codes.IdentDiffers kept got) = Some (ClientRefusal.IdentDiffers kept got)
refusal_seen (codes.Gap cursor from) = Some (ClientRefusal.Gap cursor from)
refusal_seen (codes.BadBody version offset rule) = Some (ClientRefusal.BadBody version offset rule)
refusal_seen (codes.OldEntry version) = Some (ClientRefusal.OldEntry version)
refusal_seen (codes.Mismatch version number kind) = Some (ClientRefusal.Mismatch version number kind)
refusal_seen (codes.Forked number) = Some (ClientRefusal.Forked number)
refusal_seen (codes.NotApplicable version place code) = Some (ClientRefusal.NotApplicable version place code)
refusal_seen (codes.WasRefused number code) = Some (ClientRefusal.WasRefused number code)
refusal_seen codes.Subscribed = Some ClientRefusal.Subscribed
refusal_seen codes.TooLate = Some ClientRefusal.TooLate
refusal_seen codes.DiskFault = None
refusal_seen codes.NoMemory = None

-- a refusal that the model knows has this cause
abbrev pub IfSeen : Option ClientRefusal → (ClientRefusal → Type 0) → Type 0
IfSeen None Cause = Unit {0}
IfSeen (Some why) Cause = Cause why

-- why an entry of this version isn't carried
abbrev pub rebase_refusal : ℕ → RebaseRefusal → CodeRefusal
rebase_refusal version (rebases.Mismatch number kind) = codes.Mismatch version number (mismatch_code kind)
rebase_refusal version rebases.NoMemory = codes.NoMemory

-- a client in memory is neither closed nor meets faults
abbrev pub IsPlain : CodeRefusal → Type 0
IsPlain codes.Closed = ⊥
IsPlain codes.DiskFault = ⊥
IsPlain why = Unit {0}
