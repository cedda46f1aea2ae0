-- Commands that write a text of a node's records: statuses, and what is written.
use Rattle.std.proofs.Common.{◌≡◌, ℕ, List, append-nil, length, Option, None, Some, Result, Ok, Err, IfErr, OnOk, refl, sym, ap, subst, ◌∙◌}
use Rattle.std.proofs.Math.Seq.{take-length}
use Rattle.sync_io.specs.Devices.{Took, TookSome}
use Rattle.sync_io.specs.declared.sink.SinkRefusal.{SinkRefusal}
use Rattle.sync_io.specs.declared.sink.SinkRefusal.TheVariants as sinks
use Rattle.sync_io.specs.declared.status.Status.{Status}
use Rattle.sync_io.specs.declared.status.Status.TheVariants as statuses
use Rattle.sync_node.specs.Opening.{IsOpenStatus}
use Rattle.sync_node.specs.Texts.{IsDoneOrNoMemory, IsMade, IsTellStatus, IsTextStatus, Writes, write_status}

-- ---- what is written
pub took_none : (text : List ℕ) (old : Option (List ℕ)) → TookSome text old old
took_none text None = (0, refl)
took_none text (Some had) = (0, ap (λ l. Some l) (sym (append-nil had)))

-- where nothing is, the command isn't done
pub writes_none : (status : Status) (text : List ℕ) (old : Option (List ℕ)) → IsOpenStatus status → Writes status text old old
writes_none statuses.DiskFault text old only = took_none text old
writes_none (statuses.BadFile place) text old only = took_none text old
writes_none statuses.NoMemory text old only = took_none text old
writes_none statuses.Done text old only = absurd only
writes_none statuses.BadWords text old only = absurd only
writes_none (statuses.BadInput number) text old only = absurd only
writes_none statuses.ReadFault text old only = absurd only
writes_none statuses.WriteFault text old only = absurd only
writes_none statuses.InputTooLong text old only = absurd only

-- ---- statuses
pub open_tells : (status : Status) → IsOpenStatus status → IsTellStatus status
open_tells statuses.DiskFault only = tt
open_tells (statuses.BadFile place) only = tt
open_tells statuses.NoMemory only = tt
open_tells statuses.Done only = absurd only
open_tells statuses.BadWords only = absurd only
open_tells (statuses.BadInput number) only = absurd only
open_tells statuses.ReadFault only = absurd only
open_tells statuses.WriteFault only = absurd only
open_tells statuses.InputTooLong only = absurd only

pub text_tells : (status : Status) → IsTextStatus status → IsTellStatus status
text_tells statuses.Done only = tt
text_tells statuses.WriteFault only = tt
text_tells statuses.NoMemory only = tt
text_tells statuses.DiskFault only = absurd only
text_tells (statuses.BadFile place) only = absurd only
text_tells statuses.BadWords only = absurd only
text_tells (statuses.BadInput number) only = absurd only
text_tells statuses.ReadFault only = absurd only
text_tells statuses.InputTooLong only = absurd only

pub text_no_bad : (status : Status) (place : ℕ) → IsTextStatus status → status ≡ statuses.BadFile place → ⊥
text_no_bad status place only is = subst IsTextStatus is only

pub text_no_fault : (status : Status) → IsTextStatus status → status ≡ statuses.DiskFault → ⊥
text_no_fault status only is = subst IsTextStatus is only

pub open_no_write : (status : Status) → IsOpenStatus status → status ≡ statuses.WriteFault → ⊥
open_no_write status only is = subst IsOpenStatus is only

pub open_unmade : (status : Status) → IsOpenStatus status → IsMade status → ⊥
open_unmade statuses.DiskFault only made = made
open_unmade (statuses.BadFile place) only made = made
open_unmade statuses.NoMemory only made = made
open_unmade statuses.Done only made = only
open_unmade statuses.BadWords only made = only
open_unmade (statuses.BadInput number) only made = only
open_unmade statuses.ReadFault only made = only
open_unmade statuses.WriteFault only made = only
open_unmade statuses.InputTooLong only made = only

pub open_undone : (status : Status) → IsOpenStatus status → status ≡ statuses.Done → ⊥
open_undone status only done = subst IsOpenStatus done only

-- what was written whole was made
pub on_done : {A E : Type 0} (made : Result A E) (status : Status) (Fact : Type 0) → OnOk made Fact → IfErr made (λ e. status ≡ statuses.NoMemory) → status ≡ statuses.Done → Fact
on_done (Ok a) status Fact fact unmade done = fact
on_done (Err e) status Fact fact unmade done = absurd (let e = sym unmade ∙ done in cc)

-- where nothing failed and the file is the node's, the command is done, or memory ran out
pub tells_all : (status : Status) → IsTellStatus status → (status ≡ statuses.WriteFault → ⊥) → (status ≡ statuses.DiskFault → ⊥) → ((place : ℕ) → status ≡ statuses.BadFile place → ⊥) → IsDoneOrNoMemory status
tells_all statuses.Done only write disk bad = tt
tells_all statuses.NoMemory only write disk bad = tt
tells_all statuses.WriteFault only write disk bad = absurd (write refl)
tells_all statuses.DiskFault only write disk bad = absurd (disk refl)
tells_all (statuses.BadFile place) only write disk bad = absurd (bad place refl)
tells_all statuses.BadWords only write disk bad = absurd only
tells_all (statuses.BadInput number) only write disk bad = absurd only
tells_all statuses.ReadFault only write disk bad = absurd only
tells_all statuses.InputTooLong only write disk bad = absurd only

-- ---- a write that is refused
pub writes_some : (status : Status) (text : List ℕ) (old new : Option (List ℕ)) → Writes status text old new → TookSome text old new
writes_some statuses.Done text old new took = (length text, subst (λ l. Took l old new) (sym (take-length text)) took)
writes_some statuses.WriteFault text old new took = took
writes_some statuses.NoMemory text old new took = took
writes_some statuses.DiskFault text old new took = took
writes_some (statuses.BadFile place) text old new took = took
writes_some statuses.BadWords text old new took = took
writes_some (statuses.BadInput number) text old new took = took
writes_some statuses.ReadFault text old new took = took
writes_some statuses.InputTooLong text old new took = took

pub refused_writes : (refusal : SinkRefusal) (text : List ℕ) (old new : Option (List ℕ)) → TookSome text old new → Writes (write_status refusal) text old new
refused_writes sinks.Failed text old new some = some
refused_writes sinks.NoMemory text old new some = some
