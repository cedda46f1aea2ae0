-- How a run over a node's file ends.
use Rattle.std.proofs.Common.{◌≡◌, ℕ, ◌≤◌, Bool, true, false, List, ◌++◌, map, Option, None, Some, refl, sym, subst, ◌∙◌}
use Rattle.std.specs.Prelude.{IfSome}
use Rattle.std.specs.Option.{is_some, option_map}
use Rattle.sync_disk.specs.Disk.{LeavesOnly}
use Rattle.sync_io.specs.declared.status.Status.{Status}
use Rattle.sync_io.specs.declared.status.Status.TheVariants as statuses
use Rattle.sync_journal.specs.Records.{records_of}
use Rattle.sync_journal.specs.Records.Reading.{Good}
use Rattle.sync_node.specs.Items.{Items, Over, Bad, Limit, Next}
use Rattle.sync_node.specs.Opening.{IsOpenStatus}
use Rattle.sync_node.specs.Runs.{Answer, DiskHolds, ExitsTold, FollowsTold, Follows, IsNodeStatus, IsRunStatus, IsTold, Left, Run, added, answered, is_fault, noting_runs, run_from}
use Rattle.sync_node.specs.Steps.{AreAll, IsValid}
use Rattle.sync_node.specs.Texts.{IsDoneOrNoMemory}
use Rattle.sync_node.proofs.Exits.{leaves_old, left_some}
use Rattle.sync_node.proofs.Runs.{follows_fault, run_says}

-- what a crash since a moment leaves, a crash now does
pub leaves_now : {D : Type 0} (moment : D → ℕ) (images : D → List ℕ → Type 0) (images_since : D → ℕ → List ℕ → Type 0) → ((disk : D) (t : ℕ) (c : List ℕ) → t ≤ moment disk → images disk c → images_since disk t c)
    → (old new : D) (P : List ℕ → Type 0) → LeavesOnly moment images_since old new P → (c : List ℕ) → images new c → P c
leaves_now moment images images_since counts_now old new P leaves c now = leaves.each c (counts_now new (moment old) c leaves.later now)

-- ---- the end of a run over a file
module _ {D R : Type 0} (content : D → Option (List ℕ)) (images : D → List ℕ → Type 0) (bytes_of : R → List ℕ) where
  -- The run of a node of these records is at its end, over a disk that may have left only those when it began.
  pub record NodeExits (first : D) (records : List R) (meant : Option (Run R)) (status : Status) (last : D) (old new : Option (List ℕ)) : Type 0 where
    pub follows : FollowsTold status meant old new
    pub stored : is_fault status ≡ false → IfSome meant (λ run. DiskHolds content images bytes_of (records ++ added run.answers) last)
    pub left : ((image : List ℕ) → images first image → records_of image ≡ Good (map bytes_of records))
        → IfSome meant (λ run. (image : List ℕ) → images last image → Left bytes_of records run old new image)

module _ {D R : Type 0} (content : D → Option (List ℕ)) (images : D → List ℕ → Type 0) (bytes_of : R → List ℕ) where
  -- the node was opened
  pub opened_exits : (first last : D) (records : List R) (meant : Option (Run R)) (status : Status) (old new : Option (List ℕ)) (Stands : List R → Type 0) → ((rs : List R) → Stands rs → DiskHolds content images bytes_of rs last)
      → ExitsTold bytes_of Stands (images last) records meant status old new → NodeExits content images bytes_of first records meant status last old new
  opened_exits first last records None status old new Stands holds exits = record { follows = tt; stored = λ fine. tt; left = λ before. tt }
  opened_exits first last records (Some run) status old new Stands holds exits = record {
    follows = exits.follows;
    stored = λ fine. holds (records ++ added run.answers) (exits.stands fine);
    left = λ before. exits.left;
  }

  -- it wasn't
  module _ {N : Type 0} (step : N → List R → ℕ → List ℕ → Option (Answer R)) (noted : N → List R → List ℕ → N) (notes : N) (says : (ns : N) (rs : List R) (number : ℕ) (item : List ℕ) (answer : Answer R) → step ns rs number item ≡ Some answer → IsTold answer) where
    pub unopened_exits : (first last : D) (records : List R) (ahead : Option Items) (status : Status) (sink : Option (List ℕ)) → is_fault status ≡ true
        → (((image : List ℕ) → images first image → records_of image ≡ Good (map bytes_of records)) → (image : List ℕ) → images last image → records_of image ≡ Good (map bytes_of records))
        → NodeExits content images bytes_of first records (noting_runs step noted notes records ahead) status last sink sink
    unopened_exits first last records None status sink fault kept = record { follows = tt; stored = λ fine. tt; left = λ before. tt }
    unopened_exits first last records (Some items) status sink fault kept = record {
      follows = follows_fault status (run_from step noted notes records items) sink fault;
      stored = λ fine. absurd (let e : true ≡ false = sym fault ∙ fine in cc);
      left = λ before image is.
          left_some bytes_of records (run_from step noted notes records items) sink image (run_says step noted says notes records items) (leaves_old bytes_of records (added (run_from step noted notes records items).answers) image (kept before image is));
    }

-- a file that isn't opened and isn't bad
pub open_fault : (status : Status) → IsOpenStatus status → ((place : ℕ) → status ≡ statuses.BadFile place → ⊥) → is_fault status ≡ true
open_fault statuses.DiskFault only good = refl
open_fault statuses.NoMemory only good = refl
open_fault (statuses.BadFile place) only good = absurd (good place refl)
open_fault statuses.Done only good = absurd only
open_fault statuses.BadWords only good = absurd only
open_fault (statuses.BadInput place) only good = absurd only
open_fault statuses.ReadFault only good = absurd only
open_fault statuses.WriteFault only good = absurd only
open_fault statuses.InputTooLong only good = absurd only

-- a run tells no bad file, and a file that isn't opened no fault of a read
pub run_no_bad : (status : Status) (place : ℕ) → IsRunStatus status → status ≡ statuses.BadFile place → ⊥
run_no_bad status place only is = subst IsRunStatus is only

pub open_no_read : (status : Status) → IsOpenStatus status → status ≡ statuses.ReadFault → ⊥
open_no_read status only is = subst IsOpenStatus is only

pub run_node : (status : Status) → IsRunStatus status → IsNodeStatus status
run_node statuses.Done only = tt
run_node statuses.BadWords only = only
run_node (statuses.BadInput place) only = tt
run_node statuses.ReadFault only = tt
run_node statuses.WriteFault only = tt
run_node statuses.DiskFault only = tt
run_node (statuses.BadFile place) only = tt
run_node statuses.NoMemory only = tt
run_node statuses.InputTooLong only = tt

pub open_node : (status : Status) → IsOpenStatus status → IsNodeStatus status
open_node statuses.Done only = tt
open_node statuses.BadWords only = only
open_node (statuses.BadInput place) only = tt
open_node statuses.ReadFault only = tt
open_node statuses.WriteFault only = tt
open_node statuses.DiskFault only = tt
open_node (statuses.BadFile place) only = tt
open_node statuses.NoMemory only = tt
open_node statuses.InputTooLong only = tt

-- ---- valid inputs
abbrev pub Goes : {R : Type 0} → Option (Answer R) → Type 0
Goes None = ⊥
Goes (Some answer) = Unit {0}

pub some_goes : {X R : Type 0} (f : X → Answer R) (o : Option X) → is_some o ≡ true → Goes (option_map f o)
some_goes f None e = cc
some_goes f (Some x) e = tt

goes_on : {R : Type 0} (number : ℕ) (meant : Option (Answer R)) (rest : List R → Run R) → Goes meant → ((new : List R) → (rest new).status ≡ statuses.Done) → (answered number meant rest).status ≡ statuses.Done
goes_on number None rest goes done = absurd goes
goes_on number (Some answer) rest goes done = done answer.records

module _ {N R : Type 0} (step : N → List R → ℕ → List ℕ → Option (Answer R)) (noted : N → List R → List ℕ → N) (is_one : List ℕ → Bool)
    (goes : (notes : N) (records : List R) (number : ℕ) (item : List ℕ) → is_one item ≡ true → Goes (step notes records number item)) where
  valid_done : (notes : N) (records : List R) (items : Items) → AreAll is_one items → (run_from step noted notes records items).status ≡ statuses.Done
  valid_done notes records Over all = refl
  valid_done notes records (Bad number) all = absurd all
  valid_done notes records Limit all = absurd all
  valid_done notes records (Next number item rest) all =
      goes_on number (step notes records number item) (λ new. run_from step noted (noted notes records item) (records ++ new) rest) (goes notes records number item all.0) (λ new. valid_done (noted notes records item) (records ++ new) rest all.1)

  done_or : (status : Status) (run : Run R) (old new : Option (List ℕ)) → Follows status run old new → run.status ≡ statuses.Done → IsNodeStatus status
      → (status ≡ statuses.ReadFault → ⊥) → (status ≡ statuses.WriteFault → ⊥) → (status ≡ statuses.DiskFault → ⊥) → ((place : ℕ) → status ≡ statuses.BadFile place → ⊥) → IsDoneOrNoMemory status
  done_or statuses.Done run old new follows meant only read write disk bad = tt
  done_or statuses.NoMemory run old new follows meant only read write disk bad = tt
  done_or statuses.BadWords run old new follows meant only read write disk bad = absurd only
  done_or (statuses.BadInput place) run old new follows meant only read write disk bad = let e = follows.0 ∙ meant in cc
  done_or statuses.ReadFault run old new follows meant only read write disk bad = absurd (read refl)
  done_or statuses.WriteFault run old new follows meant only read write disk bad = absurd (write refl)
  done_or statuses.DiskFault run old new follows meant only read write disk bad = absurd (disk refl)
  done_or (statuses.BadFile place) run old new follows meant only read write disk bad = absurd (bad place refl)
  done_or statuses.InputTooLong run old new follows meant only read write disk bad = let e = follows.0 ∙ meant in cc

  pub complete : (status : Status) (notes : N) (records : List R) (ahead : Option Items) (old new : Option (List ℕ)) → FollowsTold status (noting_runs step noted notes records ahead) old new → IsValid is_one ahead → IsNodeStatus status
      → (status ≡ statuses.ReadFault → ⊥) → (status ≡ statuses.WriteFault → ⊥) → (status ≡ statuses.DiskFault → ⊥) → ((place : ℕ) → status ≡ statuses.BadFile place → ⊥) → IsDoneOrNoMemory status
  complete status notes records None old new follows valid only read write disk bad = absurd valid
  complete status notes records (Some items) old new follows valid only read write disk bad = done_or status (run_from step noted notes records items) old new follows (valid_done notes records items valid) only read write disk bad
