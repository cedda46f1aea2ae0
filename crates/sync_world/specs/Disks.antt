-- The disks of an exchange.
use Rattle.std.specs.Prelude.{◌≡◌, [], Some, None}
use Rattle.sync_disk.specs.Disk.{Only}
use Rattle.sync_disk.specs.declared.disk.Disk.{Ghosts}

-- nothing is on it, nothing was asked of it, it isn't armed, and no call is set to fail
pub record IsEmpty {D : Type 0} (G : Ghosts D) (disk : D) : Type 0 where
  pub content : G.content disk ≡ Some []
  pub strokes : G.strokes disk ≡ []
  pub images : Only [] (G.images disk)
  pub stop : (G.origin disk).stop ≡ None
  pub listed : (G.origin disk).listed ≡ 0
