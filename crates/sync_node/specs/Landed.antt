-- A node over a disk that gathers, and what the disk below has of it.
use Rattle.std.proofs.Common.{◌≡◌, ℕ, ◌<◌, false, List, ◌∷◌, ◌++◌, length, map, ap, arith, length-append, subst, sym}
use Rattle.sync_disk.specs.Origin.{Origin}
use Rattle.sync_disk.specs.declared.disk.Disk.{Ghosts}
use Rattle.gathered_disk.specs.Below as disks
use Rattle.gathered_disk.specs.Below.{below, gate_of}
use Rattle.gathered_disk.specs.Gathered.{origin_of}
use Rattle.gathered_disk.specs.declared.gathered.GatheredDisk.{GatheredDisk}
use Rattle.gathered_disk.proofs.Same.{same_below}
use Rattle.sync_journal.specs.Landed.{HoldsBelow}
use Rattle.sync_journal.specs.Records.{IsJournal, magic}
use Rattle.sync_journal.specs.Stands.{disk_of}
use Rattle.sync_client.specs.Clients as clients
use Rattle.sync_client.specs.declared.client.Client.{Client}
use Rattle.sync_server.specs.Serving as servers
use Rattle.sync_server.specs.declared.server.Server.{Server}
use Rattle.sync_node.specs.Runs.{DiskHolds}

module _ {D : Type 0} {G : Ghosts D} {H : Ghosts (GatheredDisk D G)} where
  -- the disk below a client, and below a server
  abbrev pub below_client : Client (GatheredDisk D G) H → D
  below_client c = below (disk_of (clients.journal_of c))

  abbrev pub below_server : Server (GatheredDisk D G) H → D
  below_server s = below (disk_of (servers.journal_of s))

-- a file is longer than its front
long : (records : List (List ℕ)) (end : ℕ) (file : List ℕ) → IsJournal false records end file → 0 < length file
long records end file j = omega (arith, ap length j.file_is, length-append magic (j.front ++ j.gate ∷ j.rest))

module _ {D : Type 0} {G : Ghosts D} where
  -- it takes strokes, and the disk below holds these records, whatever is gathered behind them
  pub record GathersOver (records : List (List ℕ)) (g : GatheredDisk D G) : Type 0 where
    pub takes : disks.is_closed g ≡ false
    pub holds : HoldsBelow records g

  pub held_below : {R : Type 0} (bytes_of : R → List ℕ) (records : List R) (g : GatheredDisk D G) → GathersOver (map bytes_of records) g → DiskHolds G.content G.images bytes_of records (below g)
  held_below bytes_of records g over = let h = over.holds in record { file = h.file; told = h.told; reads = h.reads; durable = h.durable }

  abbrev origin_is : GatheredDisk D G → Origin
  origin_is g = origin_of g.closed (G.content g.disk) (G.origin g.disk).listed g.gate

  -- the loan is the same
  pub loan_kept : (old new : GatheredDisk D G) → origin_is new ≡ origin_is old → (G.origin (below new)).listed ≡ (G.origin (below old)).listed
  loan_kept old new same = let is = ap (λ (o : Origin). o.listed) same in omega (arith, new.fits, old.fits, is)

  -- the records below are the same
  pub still_over : (records : List (List ℕ)) (old new : GatheredDisk D G) → origin_is new ≡ origin_is old → GathersOver records old → GathersOver records new
  still_over records old new same over =
      let h = over.holds in
      let s = same_below h.file old new same over.takes h.told (long records (gate_of old) h.file h.journal) in
      record {
        takes = s.is_open;
        holds = record {
          file = h.file;
          told = s.told;
          reads = h.reads;
          journal = subst (λ (n : ℕ). IsJournal false records n h.file) (sym s.gate) h.journal;
          durable = new.durable s.is_open h.file s.told;
        };
      }
