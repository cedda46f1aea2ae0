-- Two files of the program's worlds whose marks agree.
use Rattle.std.proofs.Common.{ℕ, Bool, List}
use Rattle.sync_model.specs.Bytes.{Uuid}
use Rattle.sync_model.specs.Profile.{Profile, Lawful}
use Rattle.life_marks.specs.declared.pieces.ServerPiece.{ServerPiece}
use Rattle.life_marks.specs.declared.pieces.ClientPiece.{ClientPiece}
use Rattle.lives_law.specs.Lives.{Written, Among}
use Rattle.lives_law.specs.Pair.{Fit}
use Rattle.lives_files.specs.Agreeing.{MarksAgree, server_records, client_records}
use Rattle.lives_files.specs.Journals.{Journals, Runs}
use Rattle.lives_files.proofs.Entries.{server_is}
use Rattle.lives_files.proofs.Mades.{client_is}
use Rattle.lives_files.proofs.Agreeing.{marked_fit}
use Rattle.lives_files.proofs.Journals.{mirrors}

module _ {I S : Type 0} {Fits : S → Type 0} (number : List ℕ → ℕ) (p : Profile I S) (law : Lawful p Fits) (is_old : Uuid → Bool) (b : Journals) (runs : Runs number p is_old b) where
  pub two_fit : (f : List (Written ServerPiece)) (g : List (Written ClientPiece)) → Among f b.servers.kept → Among g b.clients.kept → MarksAgree number p is_old f g → Fit p (server_records number f) (client_records number g)
  two_fit f g q h t =
      let k = mirrors number p is_old b runs in
      marked_fit number p is_old k.stores f g (server_is number f (k.servers_tell f q)) (client_is number g (k.clients_tell g h)) (k.servers.kept f q) (k.clients.kept g h) t law k.stands
