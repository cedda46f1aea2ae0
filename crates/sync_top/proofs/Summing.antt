-- The nodes at the end: what is read off them is what the summary says of the world.
use Rattle.std.proofs.Common.{◌≡◌, ◌==◌, ◌&&◌, ℕ, false, List, length, None, Result, Ok, Err, sym, ap, ◌∙◌}
use Rattle.std.specs.Result.{IfOk, OnOk}
use Rattle.std.specs.Str.{bytes_eq}
use Rattle.sync_base.specs.States.{State, no_state}
use Rattle.sync_client.specs.Clients.{IsClientOf}
use Rattle.sync_client.specs.declared.client.Client.{Client}
use Rattle.sync_data.specs.declared.instr.Instr.{Instr}
use Rattle.sync_data.specs.declared.memory.NoMemory.{NoMemory}
use Rattle.sync_disk.specs.declared.disk.Disk.{Ghosts}
use Rattle.sync_disk.specs.declared.memory.MemoryDisk.{MemoryDisk}
use Rattle.sync_dump.specs.Dump.{dump}
use Rattle.sync_exchange.specs.Profile.{the_profile}
use Rattle.sync_gen.specs.Edits.{edit_of}
use Rattle.sync_model.specs.Bytes.{Name}
use Rattle.sync_model.specs.Clients.{ClientRecord, client_of}
use Rattle.sync_model.specs.Worlds.{World, has_name, seek}
use Rattle.sync_world.specs.Holding.{IsClient}
use Rattle.gen_law.specs.Generated.{node_objects, objects_of}
use Rattle.sync_top.specs.Summaries.{equals, history_in, server_dump, sought_equals}

-- ---- a client's objects
pub objects_are : {G : Ghosts MemoryDisk} (w : World) (name : Name) (c : Client MemoryDisk G) (objects : State) → IsClient w name c
    → ((records : List ClientRecord) → IsClientOf records c → objects ≡ (client_of the_profile records).objects) → objects ≡ objects_of w name
unfolding objects_of
objects_are w name c objects is read = read is.node.records is.client ∙ sym (ap node_objects is.sought)

pub no_objects : (w : World) (name : Name) → seek (has_name name) w.clients ≡ None → objects_of w name ≡ no_state
unfolding objects_of
no_objects w name none = ap node_objects none

-- what is drawn for a client's objects
pub drawn_by : {G : Ghosts MemoryDisk} (w : World) (name : Name) (c : Client MemoryDisk G) (objects : State) (x new : ℕ) (result : Result Instr NoMemory) → IsClient w name c
    → ((records : List ClientRecord) → IsClientOf records c → objects ≡ (client_of the_profile records).objects)
    → IfOk result (λ i. i ≡ (edit_of objects x).0) → new ≡ (edit_of objects x).1
    → IfOk result (λ i. i ≡ (edit_of (objects_of w name) x).0) × OnOk result (new ≡ (edit_of (objects_of w name) x).1)
drawn_by w name c objects x new (Ok i) is read edit draws =
    let e = objects_are w name c objects is read in
    (edit ∙ ap (λ s. (edit_of s x).0) e, draws ∙ ap (λ s. (edit_of s x).1) e)
drawn_by w name c objects x new (Err e) is read edit draws = (tt, tt)

pub drawn_for_none : (w : World) (name : Name) (objects : State) (x new : ℕ) (result : Result Instr NoMemory) → seek (has_name name) w.clients ≡ None → objects ≡ no_state
    → IfOk result (λ i. i ≡ (edit_of objects x).0) → new ≡ (edit_of objects x).1
    → IfOk result (λ i. i ≡ (edit_of (objects_of w name) x).0) × OnOk result (new ≡ (edit_of (objects_of w name) x).1)
drawn_for_none w name objects x new (Ok i) none empty edit draws =
    let e = empty ∙ sym (no_objects w name none) in
    (edit ∙ ap (λ s. (edit_of s x).0) e, draws ∙ ap (λ s. (edit_of s x).1) e)
drawn_for_none w name objects x new (Err e) none empty edit draws = (tt, tt)

-- ---- a client that is equal to the server
pub not_there : (w : World) (name : Name) → seek (has_name name) w.clients ≡ None → false ≡ equals w name
unfolding equals
not_there w name none = sym (ap (sought_equals w) none)

pub compared : {G : Ghosts MemoryDisk} (w : World) (name : Name) (c : Client MemoryDisk G) (cursor unsent : ℕ) (own : List ℕ) → IsClient w name c
    → ((records : List ClientRecord) → IsClientOf records c → cursor ≡ (client_of the_profile records).cursor)
    → ((records : List ClientRecord) → IsClientOf records c → unsent ≡ length (client_of the_profile records).unsent)
    → ((records : List ClientRecord) → IsClientOf records c → own ≡ dump (client_of the_profile records).objects)
    → (((cursor == history_in w) && (unsent == 0)) && bytes_eq own (server_dump w)) ≡ equals w name
unfolding equals
compared w name c cursor unsent own is cursor_is unsent_is own_is =
    ap (λ k. ((k == history_in w) && (unsent == 0)) && bytes_eq own (server_dump w)) (cursor_is is.node.records is.client)
    ∙ ap (λ k. (((client_of the_profile is.node.records).cursor == history_in w) && (k == 0)) && bytes_eq own (server_dump w)) (unsent_is is.node.records is.client)
    ∙ ap (λ k. (((client_of the_profile is.node.records).cursor == history_in w) && (length (client_of the_profile is.node.records).unsent == 0)) && bytes_eq k (server_dump w)) (own_is is.node.records is.client)
    ∙ sym (ap (sought_equals w) is.sought)
