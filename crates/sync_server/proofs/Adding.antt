-- Records that are added to a server's journal, one after the other.
use Rattle.std.proofs.Common.{◌≡◌, List, [], ◌++◌, map, sym, ap, ◌∙◌, subst, append_assoc, append-nil}
use Rattle.std.proofs.lemmas.List.{map-append}
use Rattle.sync_disk.specs.declared.disk.Disk.{Ghosts}
use Rattle.sync_journal.specs.Stands.{Stands}
use Rattle.sync_journal.specs.declared.journal.Journal.{Journal}
use Rattle.sync_model.specs.Servers.{ServerRecord}
use Rattle.sync_exchange.specs.Seen.{server_bytes}
use Rattle.sync_server.specs.Serving.{Adds}

module _ {D : Type 0} {G : Ghosts D} where
  pub adds_more : (a b : List ServerRecord) (old mid new : Journal D G) → Adds a old mid → Adds b mid new → Adds (a ++ b) old new
  adds_more a b old mid new first second = λ rs s.
      subst (λ l. Stands l new) (append_assoc rs (map server_bytes a) (map server_bytes b) ∙ ap (λ l. rs ++ l) (sym (map-append server_bytes a b))) (second (rs ++ map server_bytes a) (first rs s))

  pub adds_none : (old new : Journal D G) → new ≡ old → Adds [] old new
  adds_none old new e = λ rs s. subst (λ j. Stands (rs ++ []) j) (sym e) (subst (λ l. Stands l old) (sym (append-nil rs)) s)
