-- Two files that agree by the marks that are read from them agree by what the laws keep.
use Rattle.std.proofs.Common.{◌≡◌, ◌≢◌, ◌⊎◌, inl, inr, ⊎_elim, ℕ, zero, suc, ◌-◌, Bool, List, [], ◌∷◌, length, map, Option, Some, None, refl, sym, ap, ◌∙◌, subst, arith, if◌then◌else◌, ◌==◌}
use Rattle.std.specs.Prelude.{slice_get, nat_lt}
use Rattle.std.specs.Option.{option_map}
use Rattle.std.proofs.lemmas.Bool.{le-ltb}
use Rattle.sync_theory.proofs.Server.{test_false}
use Rattle.sync_model.specs.Bytes.{Uuid}
use Rattle.sync_model.specs.Profile.{Profile, Lawful}
use Rattle.sync_model.specs.Messages.{Sent}
use Rattle.sync_model.specs.Clients.{tooks_of}
use Rattle.sync_model.specs.Servers.{server_of, count}
use Rattle.sync_model.specs.Worlds.{at}
use Rattle.life_marks.specs.declared.pieces.ServerPiece.{ServerPiece}
use Rattle.life_marks.specs.declared.pieces.ClientPiece.{ClientPiece}
use Rattle.life_marks.specs.declared.server_marks.Line.{Line}
use Rattle.life_marks.specs.ServerMarks as server_marks
use Rattle.life_marks.specs.ClientMarks as client_marks
use Rattle.lives_law.specs.Lives.{Written, Among, Mark}
use Rattle.lives_law.specs.Instances.{plain, is_entry, is_made}
use Rattle.lives_law.specs.Pair.{Fit, ident_at}
use Rattle.lives_law.specs.Stored.{Kept, entry_by, took_by, kept_of, bare_file, Stores, Stands, Agree}
use Rattle.lives_law.proofs.Sending.{life_marks}
use Rattle.lives_law.proofs.Standing.{agreeing_fit}
use Rattle.lives_files.specs.Files.{server_file, client_file}
use Rattle.lives_files.specs.Agreeing.{last_of, kept_in, ServerIs, ClientIs, server_records, client_records, MarksAgree}

none_of : {A : Type 0} (xs : List A) → length xs ≡ 0 → xs ≡ []
none_of [] e = refl
none_of (x ∷ xs) e = absurd (omega arith)

module _ (number : List ℕ → ℕ) where
  numbered : (xs : List (List ℕ)) (n : ℕ) (life : List ℕ) → slice_get xs n ≡ Some life → at (map number xs) n ≡ Some (number life)
  numbered [] n life e = cc
  numbered (x ∷ xs) zero life e = ap (λ (o : Option (List ℕ)). option_map number o) e
  numbered (x ∷ xs) (suc n) life e = numbered xs n life e

  last_in : (o : Option Line) (life : List ℕ) → last_of o ≡ Some life → (kept_in number o).last ≡ Some (number life)
  last_in None life e = cc
  last_in (Some line) life e = ap (λ (o : Option (List ℕ)). option_map number o) e

  -- where there is no floor
  before_is : (m : server_marks.Marks) (v : ℕ) → m.floor ≡ 0 → server_marks.life_before m (suc v) ≡ slice_get m.entries v
  before_is m v e =
      let z : v - 0 ≡ v = omega arith in
      ap (λ (k : ℕ). if nat_lt (suc v) k then None else (if suc v == k then m.before else slice_get m.entries (v - k))) e
      ∙ ap (λ (t : Bool). if t then None else (if suc v == 0 then m.before else slice_get m.entries (v - 0))) (le-ltb (suc v) 0 (omega arith))
      ∙ ap (λ (t : Bool). if t then m.before else slice_get m.entries (v - 0)) (test_false (suc v) 0 (λ h. absurd (omega arith)))
      ∙ ap (λ (k : ℕ). slice_get m.entries k) z

  module _ {I S : Type 0} (p : Profile I S) (is_old : Uuid → Bool) (b : Stores) (f : List (Written ServerPiece)) (g : List (Written ClientPiece)) (server : ServerIs number f) (client : ClientIs number g)
      (server_kept : Among (server_file number f) b.servers.kept) (client_kept : Among (client_file number g) b.clients.kept) (t : MarksAgree number p is_old f g) where
    abbrev tooks : List Sent
    tooks = tooks_of (client_records number g)

    abbrev c : ℕ
    c = ident_at p (server_records number f) t.id

    reads : (tooks_of (client_records number g) ≡ []) ⊎ ((n life : ℕ) × (length (tooks_of (client_records number g)) ≡ suc n) × ((kept_of took_by 0 (plain (client_file number g))).last ≡ Some life) × Mark is_entry (bare_file (server_file number f)) n life)
    reads = ⊎_elim (λ z. inl z) (λ h. on (length (tooks_of (client_records number g))) refl h.0 h.1 h.2) t.reads
      where
        on : (k : ℕ) → length (tooks_of (client_records number g)) ≡ k → (life : List ℕ) → (client_marks.marks_of (plain g)).last ≡ Some life → server_marks.life_before (server_marks.marks_of (plain f)) (length (tooks_of (client_records number g))) ≡ Some life
            → (tooks_of (client_records number g) ≡ []) ⊎ ((n life : ℕ) × (length (tooks_of (client_records number g)) ≡ suc n) × ((kept_of took_by 0 (plain (client_file number g))).last ≡ Some life) × Mark is_entry (bare_file (server_file number f)) n life)
        on zero e life last before = inl (none_of (tooks_of (client_records number g)) e)
        on (suc n) e life last before =
            let got : slice_get (server_marks.marks_of (plain f)).entries n ≡ Some life = sym (before_is (server_marks.marks_of (plain f)) n server.floor) ∙ ap (server_marks.life_before (server_marks.marks_of (plain f))) (sym e) ∙ before in
            let there = subst (λ z. at z n ≡ Some (number life)) server.lives (numbered (server_marks.marks_of (plain f)).entries n life got) in
            inr (n, number life, e, ap (λ (k : Kept). k.last) client.kept ∙ ap (λ (o : Option (List ℕ)). option_map number o) last, life_marks is_entry (bare_file (server_file number f)) n (number life) there)

    abbrev IsRead : Type 0
    IsRead = (count (server_of p (server_records number f)) (ident_at p (server_records number f) t.id) ≡ 0)
        ⊎ ((n life : ℕ) × (ident_at p (server_records number f) t.id ≢ 0) × (count (server_of p (server_records number f)) (ident_at p (server_records number f) t.id) ≡ suc n)
        × ((kept_of entry_by (ident_at p (server_records number f) t.id) (plain (server_file number f))).last ≡ Some life) × Mark is_made (bare_file (client_file number g)) n life)

    is_read : IsRead
    is_read = ⊎_elim (λ z. inl z) (λ h. on (count (server_of p (server_records number f)) c) refl h.0 h.1 h.2 h.3) t.is_read
      where
        on : (k : ℕ) → count (server_of p (server_records number f)) c ≡ k → (life : List ℕ) → c ≢ 0 → last_of (server_marks.line_of c (server_marks.marks_of (plain f)).lines) ≡ Some life → slice_get (client_marks.marks_of (plain g)).numbers (count (server_of p (server_records number f)) c - 1) ≡ Some life → IsRead
        on zero e life ne last made = inl e
        on (suc n) e life ne last made =
            let place : n ≡ count (server_of p (server_records number f)) c - 1 = omega arith in
            let there = subst (λ z. at z n ≡ Some (number life)) client.lives (numbered (client_marks.marks_of (plain g)).numbers n life (ap (slice_get (client_marks.marks_of (plain g)).numbers) place ∙ made)) in
            let kept : (kept_of entry_by c (plain (server_file number f))).last ≡ Some (number life) = ap (λ (k : Kept). k.last) (server.lines c ne) ∙ last_in (server_marks.line_of c (server_marks.marks_of (plain f)).lines) life last in
            inr (n, number life, ne, e, kept, life_marks is_made (bare_file (client_file number g)) n (number life) there)

    pub agreeing : Agree p is_old b (server_file number f) (client_file number g)
    agreeing = record { server_kept = server_kept; client_kept = client_kept; id = t.id; born = t.born; new = t.new; ident = t.ident; reads = reads; is_read = is_read }

    pub marked_fit : {Fits : S → Type 0} → Lawful p Fits → Stands p is_old b → Fit p (server_records number f) (client_records number g)
    marked_fit law stands = agreeing_fit p is_old b (server_file number f) (client_file number g) stands agreeing law
