-- What is appended to a file: what its notes say, and what the laws append.
use Rattle.std.proofs.Common.{◌≡◌, inl, inr, ℕ, zero, suc, Bool, true, false, List, [], ◌∷◌, ◌++◌, Option, Some, refl, sym, ap, ◌∙◌, subst, map, take, if◌then◌else◌}
use Rattle.sync_theory.proofs.Server.{test_true}
use Rattle.sync_records.specs.declared.server.ServerRecord.{ServerRecord}
use Rattle.sync_records.specs.declared.client.ClientRecord.{ClientRecord}
use Rattle.sync_exchange.specs.Seen.{client_seen, server_seen}
use Rattle.life_bytes.specs.declared.note.Note.TheVariants as notes
use Rattle.life_marks.specs.declared.pieces.ServerPiece.{ServerPiece}
use Rattle.life_marks.specs.declared.pieces.ServerPiece.TheVariants as server
use Rattle.life_marks.specs.declared.pieces.ClientPiece.{ClientPiece}
use Rattle.life_marks.specs.declared.pieces.ClientPiece.TheVariants as client
use Rattle.life_marks.specs.ServerMarks as server_marks
use Rattle.life_marks.specs.ClientMarks as client_marks
use Rattle.lives_law.specs.Lives.{Written}
use Rattle.lives_law.specs.Instances.{plain}
use Rattle.lives_law.specs.Stored.{it, note, is_by, noted_one, with_notes, unnoted}
use Rattle.lives_files.specs.Files.{server_piece, client_piece}
use Rattle.lives_files.specs.Telling.{ServerTells, ClientTells}
use Rattle.lives_files.specs.Journals.{AllAre}
use Rattle.lives_files.proofs.Piecewise.{flat, Few}

-- records whose life is noted stand without more notes
pub no_notes : {R : Type 0} (by : R → Option ℕ) (c l : ℕ) (ls : List ℕ) (rs : List R) → AllAre l ls → with_notes by c (Some l) ls rs ≡ unnoted rs
no_notes by c l ls [] t = refl
no_notes by c l [] (r ∷ rs) t = ap (λ z. it r ∷ z) (no_notes by c l [] rs t)
no_notes {R} by c l (k ∷ ls) (r ∷ rs) t = on (is_by c (by r)) (subst (λ z. with_notes by c (Some z) ls rs ≡ unnoted rs) (sym t.0) (no_notes by c l ls rs t.1)) (no_notes by c l (k ∷ ls) rs t)
  where
    on : (b : Bool) → with_notes by c (Some k) ls rs ≡ unnoted rs → with_notes by c (Some l) (k ∷ ls) rs ≡ unnoted rs → (if b then noted_one by c (Some l) k r ++ with_notes by c (Some k) ls rs else it r ∷ with_notes by c (Some l) (k ∷ ls) rs) ≡ it r ∷ unnoted rs
    on true one two = ap (λ b. (if b then it r ∷ [] else note c k ∷ it r ∷ []) ++ with_notes by c (Some k) ls rs) (test_true l k (sym t.0)) ∙ ap (λ z. it r ∷ z) one
    on false one two = ap (λ z. it r ∷ z) two

module _ (number : List ℕ → ℕ) where
  -- ---- what notes say

  pub server_both : (f g : List (Written ServerPiece)) (m : server_marks.Marks) → ServerTells number m f → ServerTells number (server_marks.after_pieces m (plain f)) g → ServerTells number m (f ++ g)
  server_both [] g m t u = u
  server_both (x ∷ f) g m t u = (t.0, server_both f g (server_marks.after_piece m x.what) t.1 u)

  pub client_both : (f g : List (Written ClientPiece)) (m : client_marks.Marks) → ClientTells number m f → ClientTells number (client_marks.after_pieces m (plain f)) g → ClientTells number m (f ++ g)
  client_both [] g m t u = u
  client_both (x ∷ f) g m t u = (t.0, client_both f g (client_marks.after_piece m x.what) t.1 u)

  pub server_cut : (i : ℕ) (f : List (Written ServerPiece)) (m : server_marks.Marks) → ServerTells number m f → ServerTells number m (take i f)
  server_cut zero f m t = tt
  server_cut (suc i) [] m t = tt
  server_cut (suc i) (x ∷ f) m t = (t.0, server_cut i f (server_marks.after_piece m x.what) t.1)

  pub client_cut : (i : ℕ) (f : List (Written ClientPiece)) (m : client_marks.Marks) → ClientTells number m f → ClientTells number m (take i f)
  client_cut zero f m t = tt
  client_cut (suc i) [] m t = tt
  client_cut (suc i) (x ∷ f) m t = (t.0, client_cut i f (client_marks.after_piece m x.what) t.1)

  -- ---- what pieces are read as

  pub server_few : Few (server_piece number)
  server_few (server.Record r) = inr (it (server_seen r), refl)
  server_few (server.Note (notes.Numbers of)) = inr (note of.ident (number of.life), refl)
  server_few (server.Note (notes.Life life)) = inl refl
  server_few (server.Note (notes.Birth life)) = inl refl
  server_few (server.Note (notes.Of life)) = inl refl
  server_few (server.Note (notes.Saves saves)) = inl refl
  server_few (server.Note (notes.Member ident)) = inl refl
  server_few (server.Note (notes.Saved token)) = inl refl
  server_few (server.Note (notes.Reached token)) = inl refl
  server_few (server.Note (notes.Lives lives)) = inl refl
  server_few server.Later = inl refl

  pub client_few : Few (client_piece number)
  client_few (client.Record r) = inr (it (client_seen r), refl)
  client_few (client.Note (notes.Of life)) = inr (note 0 (number life), refl)
  client_few (client.Note (notes.Numbers of)) = inl refl
  client_few (client.Note (notes.Life life)) = inl refl
  client_few (client.Note (notes.Birth life)) = inl refl
  client_few (client.Note (notes.Saves saves)) = inl refl
  client_few (client.Note (notes.Member ident)) = inl refl
  client_few (client.Note (notes.Saved token)) = inl refl
  client_few (client.Note (notes.Reached token)) = inl refl
  client_few (client.Note (notes.Lives lives)) = inl refl
  client_few client.Later = inl refl

  pub server_flat : (rs : List ServerRecord) → flat (server_piece number) (map server.Record rs) ≡ unnoted (map server_seen rs)
  server_flat [] = refl
  server_flat (r ∷ rs) = ap (λ z. it (server_seen r) ∷ z) (server_flat rs)

  pub client_flat : (rs : List ClientRecord) → flat (client_piece number) (map client.Record rs) ≡ unnoted (map client_seen rs)
  client_flat [] = refl
  client_flat (r ∷ rs) = ap (λ z. it (client_seen r) ∷ z) (client_flat rs)
