-- What clients do, by the events that the code makes.
use Rattle.std.proofs.Common.{◌≡◌, ℕ, List, [], ◌∷◌, ◌++◌, Option, ap, subst, ◌∙◌}
use Rattle.sync_data.specs.declared.instr.Instr.{Instr}
use Rattle.sync_gen.specs.Clients.{first_edits_of, id_of, name_of}
use Rattle.sync_gen.specs.Edits.{edit_of}
use Rattle.sync_gen.specs.declared.turns.TurnKind.TheVariants as kinds
use Rattle.sync_io.specs.declared.status.Status.{Status}
use Rattle.sync_io.specs.declared.status.Status.TheVariants as statuses
use Rattle.sync_model.specs.Bytes.{Name, Uuid}
use Rattle.sync_model.specs.Worlds.{Event, empty_world}
use Rattle.sync_world.specs.declared.world.World.{World as CodeWorld}
use Rattle.sync_top.specs.declared.counts.Counts.{Counts}
use Rattle.gen_law.specs.declared.plan.Move.TheVariants as moves
use Rattle.sync_top.specs.Counting.{Goes}
use Rattle.gen_law.specs.Generated.{done_by, exchanged, move_events, objects_of, world_by}
use Rattle.sync_node.specs.Texts.{IsTextStatus, Writes as NodeWrites}
use Rattle.sync_top.specs.Playing.{Writes}
use Rattle.sync_top.proofs.Playing.{joined_goes}

pub join_plays : (es : List (Event Instr)) (client x : ℕ) (first second : Name) (id : Uuid) (counts : Counts) (world : CodeWorld) → first ≡ name_of client → second ≡ name_of client → id ≡ id_of client
    → Goes ((es ++ Event.Joins first id ∷ []) ++ exchanged (name_of client) (Event.Binds second) (world_by empty_world (es ++ Event.Joins first id ∷ []))) counts world
    → Goes (es ++ (move_events (moves.Join client) (world_by empty_world es) x).0) counts world
join_plays es client x first second id counts world a b c goes =
    let G : Name → Name → Uuid → Type 0 = λ n m u. Goes ((es ++ Event.Joins n u ∷ []) ++ exchanged (name_of client) (Event.Binds m) (world_by empty_world (es ++ Event.Joins n u ∷ []))) counts world in
    joined_goes es (Event.Joins (name_of client) (id_of client)) (name_of client) counts world
    (subst (G (name_of client) (name_of client)) c (subst (λ m. G (name_of client) m id) b (subst (λ n. G n second id) a goes)))

pub one_plays : (es : List (Event Instr)) (client : ℕ) (name : Name) (event : Name → Event Instr) (counts : Counts) (world : CodeWorld) → name ≡ name_of client
    → Goes (es ++ exchanged (name_of client) (event name) (world_by empty_world es)) counts world → Goes (es ++ exchanged (name_of client) (event (name_of client)) (world_by empty_world es)) counts world
one_plays es client name event counts world e goes = subst (λ n. Goes (es ++ exchanged (name_of client) (event n) (world_by empty_world es)) counts world) e goes

pub found_plays : (es : List (Event Instr)) (name : Name) (edits : List Instr) (counts : Counts) (world : CodeWorld) → name ≡ name_of 1 → edits ≡ first_edits_of
    → Goes (es ++ Event.Edits name 1 edits ∷ []) counts world → Goes (es ++ Event.Edits (name_of 1) 1 first_edits_of ∷ []) counts world
found_plays es name edits counts world a b goes =
    subst (λ is. Goes (es ++ Event.Edits (name_of 1) 1 is ∷ []) counts world) b (subst (λ n. Goes (es ++ Event.Edits n 1 edits ∷ []) counts world) a goes)

pub edit_plays : (es : List (Event Instr)) (client ms x : ℕ) (name : Name) (edit : Instr) (edits : List Instr) (counts : Counts) (world : CodeWorld) → name ≡ name_of client → edits ≡ edit ∷ []
    → edit ≡ (edit_of (objects_of (world_by empty_world es) name) x).0
    → Goes (es ++ Event.Edits name ms edits ∷ []) counts world → Goes (es ++ (done_by (name_of client) (kinds.Edit ms) (world_by empty_world es) x).0) counts world
edit_plays es client ms x name edit edits counts world a b c goes =
    let drawn : edit ≡ (edit_of (objects_of (world_by empty_world es) (name_of client)) x).0 = subst (λ (n : Name). edit ≡ (edit_of (objects_of (world_by empty_world es) n) x).0) a c in
    subst (λ is. Goes (es ++ Event.Edits (name_of client) ms is ∷ []) counts world) (b ∙ ap (λ i. i ∷ []) drawn) (subst (λ n. Goes (es ++ Event.Edits n ms edits ∷ []) counts world) a goes)

-- ---- what is written
-- a text that is written, and its ends
pub summary_writes : (status : Status) (text : List ℕ) (old new : Option (List ℕ)) → IsTextStatus status → NodeWrites status text old new → Writes text status old new
summary_writes statuses.Done text old new only writes = writes
summary_writes statuses.WriteFault text old new only writes = writes
summary_writes statuses.NoMemory text old new only writes = writes
summary_writes statuses.DiskFault text old new only writes = absurd only
summary_writes (statuses.BadFile place) text old new only writes = absurd only
summary_writes statuses.BadWords text old new only writes = absurd only
summary_writes (statuses.BadInput number) text old new only writes = absurd only
summary_writes statuses.ReadFault text old new only writes = absurd only
summary_writes statuses.InputTooLong text old new only writes = absurd only
