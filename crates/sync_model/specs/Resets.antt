-- Client reset: what a client, the heir, makes of the changes that an old client had unsent when its ident was retired.
use Rattle.std.specs.Prelude.{ℕ, suc, ◌+◌, not, List, [], ◌∷◌, ◌++◌, Option, Some, None, Result, Ok, Err, nat_lt, nat_le, ◌==◌, if◌then◌else◌}
use Rattle.sync_model.specs.Profile.{Profile}
use Rattle.sync_model.specs.Messages.{Change, Message, Upload, Retired}
use Rattle.sync_model.specs.Clients.{Client, ClientRecord, ClientRefusal, ClientStep, Step, after_records, last, commit}

-- ---- what can be saved of a list of instructions

-- what is kept, what was dropped by its place and the code of its break, and the state after what is kept
pub record Saved (I S : Type 0) : Type 0 where
  pub kept : List I
  pub dropped : List (ℕ × ℕ)
  pub state : S

-- the instruction at a place acts and is kept, or meets a break and is dropped; then the rest is tried
abbrev pub tried : {I S : Type 0} → ℕ → I → S → Result S ℕ → (S → Saved I S) → Saved I S
tried k i s (Ok t) go = record { kept = i ∷ (go t).kept; dropped = (go t).dropped; state = (go t).state }
tried k i s (Err code) go = record { kept = (go s).kept; dropped = (k, code) ∷ (go s).dropped; state = (go s).state }

module _ {I S : Type 0} (p : Profile I S) where
  -- these instructions, the first of which has place k, are tried in order on the state so far, each as adapted to it
  abbrev pub saved_from : ℕ → S → List I → Saved I S
  saved_from k s [] = record { kept = []; dropped = []; state = s }
  saved_from k s (i ∷ is) = tried k (p.adapt s i) s (p.apply (p.adapt s i) s) (λ t. saved_from (suc k) t is)

  -- what can be saved of a list of instructions on a state
  abbrev pub saved : S → List I → Saved I S
  saved s is = saved_from 0 s is

-- ---- one change of the old client

-- the change is integrated as itself, or is saved already, or is saved now: under this number, without what was dropped
pub data HeirAnswer : Type 0 where
  Integrated : HeirAnswer
  Known : HeirAnswer
  SavedAs : (number : ℕ) (dropped : List (ℕ × ℕ)) → HeirAnswer

-- why it isn't
pub data ResetRefusal : Type 0 where
  NotMine : ResetRefusal
  Skips : (expected got : ℕ) → ResetRefusal
  BadChange : (number offset rule : ℕ) → ResetRefusal
  ByClient : (why : ClientRefusal) → ResetRefusal

-- the heir's call appends records and answers, or refuses
abbrev pub HeirStep : Type 0
HeirStep = Step ClientRecord (Result HeirAnswer ResetRefusal)

-- a refusal appends nothing
abbrev pub heir_refuses : ResetRefusal → HeirStep
heir_refuses why = record { records = []; answer = Err why }

-- an answer that appends nothing
abbrev pub heir_says : HeirAnswer → HeirStep
heir_says a = record { records = []; answer = Ok a }

-- the commit's answer, as the heir's
abbrev pub heir_answer : List (ℕ × ℕ) → Result ℕ ClientRefusal → Result HeirAnswer ResetRefusal
heir_answer dropped (Ok number) = Ok (SavedAs number dropped)
heir_answer dropped (Err why) = Err (ByClient why)

-- the commit, as the heir's call
abbrev pub heir_commits : List (ℕ × ℕ) → ClientStep ℕ → HeirStep
heir_commits dropped did = record { records = did.records; answer = heir_answer dropped did.answer }

module _ {I S : Type 0} (p : Profile I S) where
  -- the change, its body once read, is saved and committed
  abbrev pub heir_read : Client I S → Change → Result (List I) (ℕ × ℕ) → HeirStep
  heir_read c h (Ok is) = heir_commits (saved p c.objects is).dropped (commit p c h.ms (saved p c.objects is).kept)
  heir_read c h (Err f) = heir_refuses (BadChange h.number f.0 f.1)

  -- a client takes a change of an ident that was retired for ident `by` when so many of its changes were integrated
  abbrev pub heir : Client I S → ℕ → ℕ → Change → HeirStep
  heir c by count h =
      if not (by == c.ident) then heir_refuses NotMine
      else if nat_lt (suc (count + last c)) h.number then heir_refuses (Skips (suc (count + last c)) h.number)
      else if nat_le h.number count then heir_says Integrated
      else if nat_le h.number (count + last c) then heir_says Known
      else heir_read c h (p.unspell h.body)

-- ---- a run of recovery over frames

-- what is said of a frame
pub data RecoveryLine : Type 0 where
  -- the client is heir of an ident of which so many changes were integrated
  IsHeir : (ident count : ℕ) → RecoveryLine
  -- a change of this number
  Handled : (number : ℕ) (answer : HeirAnswer) → RecoveryLine
  Refuses : (why : ResetRefusal) → RecoveryLine
  NoRetired : RecoveryLine

-- the records of a frame, what is said of it, and each ident of which the run knows the count, the latest first
pub record Recovered : Type 0 where
  pub records : List ClientRecord
  pub lines : List RecoveryLine
  pub known : List (ℕ × ℕ)

-- the records of a run, and what is said of each frame
abbrev pub RecoveryRun : Type 0
RecoveryRun = Step ClientRecord (List (List RecoveryLine))

-- the count of an ident, as far as the run knows it
abbrev pub count_known : ℕ → List (ℕ × ℕ) → Option ℕ
count_known c [] = None
count_known c (q ∷ qs) = if c == q.0 then Some q.1 else count_known c qs

-- a refusal ends the frame; after any other answer its rest goes on
abbrev pub handled : ℕ → List ClientRecord → Result HeirAnswer ResetRefusal → (List ClientRecord → Step ClientRecord (List RecoveryLine)) → Step ClientRecord (List RecoveryLine)
handled number new (Ok a) go = record { records = new ++ (go new).records; answer = Handled number a ∷ (go new).answer }
handled number new (Err why) go = record { records = new; answer = Refuses why ∷ [] }

-- a frame that says one thing and appends nothing
abbrev pub says_only : List (ℕ × ℕ) → RecoveryLine → Recovered
says_only known line = record { records = []; lines = line ∷ []; known = known }

module _ {I S : Type 0} (p : Profile I S) where
  -- the changes of an Upload, one by one
  abbrev pub recover_changes : Client I S → ℕ → List Change → Step ClientRecord (List RecoveryLine)
  recover_changes c count [] = record { records = []; answer = [] }
  recover_changes c count (h ∷ hs) = handled h.number (heir p c c.ident count h).records (heir p c c.ident count h).answer (λ new. recover_changes (after_records p c new) count hs)

  -- an Upload of an ident of which the run knows the count, or doesn't
  abbrev pub recover_upload : Client I S → List (ℕ × ℕ) → Option ℕ → List Change → Recovered
  recover_upload c known None hs = says_only known NoRetired
  recover_upload c known (Some count) hs = record { records = (recover_changes c count hs).records; lines = (recover_changes c count hs).answer; known = known }

  -- one frame
  abbrev pub recover_frame : Client I S → List (ℕ × ℕ) → Message → Recovered
  recover_frame c known (Retired ident by count) = if by == c.ident then says_only ((ident, count) ∷ known) (IsHeir ident count) else says_only known (Refuses NotMine)
  recover_frame c known (Upload ident hs) = recover_upload c known (count_known ident known) hs
  recover_frame c known m = says_only known NoRetired

  -- and all of them
  abbrev pub recover_frames : Client I S → List (ℕ × ℕ) → List Message → RecoveryRun
  recover_frames c known [] = record { records = []; answer = [] }
  recover_frames c known (m ∷ ms) = record {
    records = (recover_frame c known m).records ++ (recover_frames (after_records p c (recover_frame c known m).records) (recover_frame c known m).known ms).records;
    answer = (recover_frame c known m).lines ∷ (recover_frames (after_records p c (recover_frame c known m).records) (recover_frame c known m).known ms).answer;
  }

  -- a run begins with no count known
  abbrev pub recover : Client I S → List Message → RecoveryRun
  recover c ms = recover_frames c [] ms
