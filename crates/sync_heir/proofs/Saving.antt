-- An heir's commit as its step.
use Rattle.std.proofs.Common.{◌≡◌, ℕ, true, List, ◌++◌, Result, Ok, Err, refl, ap, sym, subst, ◌∙◌}
use Rattle.std.specs.Prelude.{IfErr, IsErrOf}
use Rattle.sync_disk.specs.declared.disk.Disk.{Ghosts}
use Rattle.sync_data.specs.declared.instr.Instr.{Instr}
use Rattle.sync_messages.specs.Parts.{ChangeParts, RetiredParts}
use Rattle.sync_model.specs.Clients.{ClientRecord, ClientRefusal, ClientStep, client_of, commit, no_client}
use Rattle.sync_model.specs.Files.{client_opens}
use Rattle.sync_model.specs.Messages.{Change}
use Rattle.sync_model.specs.Recovery.{StopsAt}
use Rattle.sync_model.specs.Resets.{ByClient, SavedAs, heir, heir_answer, heir_commits, heir_read, saved}
use Rattle.sync_exchange.specs.Profile.{the_profile, unspell}
use Rattle.sync_exchange.specs.Seen.{change_seen}
use Rattle.sync_client.specs.Clients.{Did, IsClientOf}
use Rattle.sync_client.specs.declared.client.Client.{Client}
use Rattle.sync_client.specs.declared.refusal.ClientRefusal.{ClientRefusal as CodeRefusal}
use Rattle.sync_client.specs.declared.refusal.ClientRefusal.TheVariants as codes
use Rattle.sync_heir.specs.declared.answer.Heir.{Heir}
use Rattle.sync_heir.specs.declared.refusal.ResetRefusal.{ResetRefusal as CodeReset}
use Rattle.sync_heir.specs.declared.refusal.ResetRefusal.TheVariants as resets
use Rattle.sync_heir.specs.Heirs.{HeirDid, HeirSays, IfReset, IsHeirCause, heir_step, reset_seen, save_step}

-- the step is the commit of what was kept
pub save_is : (records : List ClientRecord) (h : ChangeParts) (is kept : List Instr) (ms : ℕ) → unspell h.body ≡ Ok is → kept ≡ (saved the_profile (client_of the_profile records).objects is).kept → ms ≡ h.ms
    → save_step records h ≡ heir_commits (saved the_profile (client_of the_profile records).objects is).dropped (commit the_profile (client_of the_profile records) ms kept)
save_is records h is kept ms read kept_is ms_is =
    let c = client_of the_profile records in
    ap (heir_read the_profile c (change_seen h)) read
    ∙ ap (λ ks. heir_commits (saved the_profile c.objects is).dropped (commit the_profile c h.ms ks)) (sym kept_is)
    ∙ ap (λ m. heir_commits (saved the_profile c.objects is).dropped (commit the_profile c m kept)) (sym ms_is)

module _ {D : Type 0} {G : Ghosts D} where
  pub did_save : (records : List ClientRecord) (h : ChangeParts) (dropped : List (ℕ × ℕ)) (did : ClientStep ℕ) (ds : List (ℕ × ℕ)) (number : ℕ) (new : Client D G) → save_step records h ≡ heir_commits dropped did → ds ≡ dropped → Did did (Ok number) records new
      → HeirDid (save_step records h) (Ok (SavedAs number ds)) records new
  did_save records h dropped did ds number new is ds_is d = record {
    answer_is = ap (λ s. s.answer) is ∙ ap (heir_answer dropped) d.answer_is ∙ ap (λ l. Ok (SavedAs number l)) (sym ds_is);
    client = subst (λ rs. IsClientOf (records ++ rs) new) (sym (ap (λ s. s.records) is)) d.client;
  }

  module _ (records : List ClientRecord) (retired : RetiredParts) (h : ChangeParts) (new : Client D G)
      (law : (rs : List ClientRecord) (by n : ℕ) (m : Change) (why : ClientRefusal) → client_opens the_profile (no_client the_profile) rs ≡ true → (by ≡ 0 → ⊥) → (heir the_profile (client_of the_profile rs) by n m).answer ≡ Err (ByClient why) → StopsAt the_profile (client_of the_profile rs) m why)
      (opens : client_opens the_profile (no_client the_profile) records ≡ true) (named : retired.by ≡ 0 → ⊥) where
    never : (w : ClientRefusal) → HeirDid (heir_step records retired h) (Err (ByClient w)) records new → StopsAt the_profile (client_of the_profile records) (change_seen h) w
    never w d = law records retired.by retired.number (change_seen h) w opens named d.answer_is

    stopped : (why : CodeRefusal) → (why ≡ codes.Closed → ⊥) → IfReset (reset_seen (resets.Client why)) (λ w. HeirDid (heir_step records retired h) (Err w) records new) → IsHeirCause (resets.Client why)
    stopped codes.Closed o d = o refl
    stopped codes.NotBorn o d = (never ClientRefusal.NotBorn d).may
    stopped codes.AlreadyBorn o d = (never ClientRefusal.AlreadyBorn d).may
    stopped codes.NotNamed o d = (never ClientRefusal.NotNamed d).may
    stopped codes.TooLarge o d = (never ClientRefusal.TooLarge d).may
    stopped codes.NumbersFull o d = tt
    stopped (codes.OldForm place) o d = tt
    stopped (codes.NotSubscribed place) o d = tt
    stopped (codes.Break place code) o d = (never (ClientRefusal.Break place code) d).may
    stopped codes.NotMine o d = (never ClientRefusal.NotMine d).may
    stopped (codes.IdentDiffers kept got) o d = (never (ClientRefusal.IdentDiffers kept got) d).may
    stopped (codes.Gap cursor from) o d = (never (ClientRefusal.Gap cursor from) d).may
    stopped (codes.BadBody version offset rule) o d = (never (ClientRefusal.BadBody version offset rule) d).may
    stopped (codes.OldEntry version) o d = (never (ClientRefusal.OldEntry version) d).may
    stopped (codes.Mismatch version number kind) o d = (never (ClientRefusal.Mismatch version number kind) d).may
    stopped (codes.Forked number) o d = (never (ClientRefusal.Forked number) d).may
    stopped (codes.NotApplicable version place code) o d = (never (ClientRefusal.NotApplicable version place code) d).may
    stopped (codes.WasRefused number code) o d = (never (ClientRefusal.WasRefused number code) d).may
    stopped codes.Subscribed o d = (never ClientRefusal.Subscribed d).may
    stopped codes.TooLate o d = (never ClientRefusal.TooLate d).may
    stopped codes.DiskFault o d = tt
    stopped codes.NoMemory o d = tt

    pub causes : (result : Result Heir CodeReset) → (IsErrOf result (resets.Client codes.Closed) → ⊥) → HeirSays (heir_step records retired h) records new result → IfErr result IsHeirCause
    causes (Ok a) o d = tt
    causes (Err resets.NotMine) o d = tt
    causes (Err (resets.Skips expected got)) o d = tt
    causes (Err (resets.BadChange number offset rule)) o d = tt
    causes (Err (resets.Client why)) o d = stopped why (λ e. o (ap (λ w. Err (resets.Client w)) e)) d
    causes (Err resets.NoMemory) o d = tt
