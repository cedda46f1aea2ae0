-- Records that are added one after the other, as a crash leaves them; and a disk that stays as it is.
use Rattle.std.proofs.Common.{◌≡◌, ℕ, suc, ◌+◌, ◌≤◌, List, [], ◌∷◌, ◌++◌, length, take, sym, ap, ◌∙◌, subst, arith, append_assoc, length-append, le_refl}
use Rattle.std.proofs.lemmas.List.{take-append-le}
use Rattle.sync_disk.specs.declared.disk.Disk.{Ghosts}
use Rattle.sync_journal.specs.Records.{StandsForPrefix}
use Rattle.sync_journal.specs.Records.Reading.{Good}
use Rattle.sync_journal.specs.Stands.{disk_of}
use Rattle.sync_journal.specs.Uses.{UsesDisk}
use Rattle.sync_journal.specs.declared.journal.Journal.{Journal}

take_part : {A : Type 0} (xs ys : List A) (k : ℕ) → take (length xs + k) (xs ++ ys) ≡ xs ++ take k ys
take_part [] ys k = let e : 0 + k ≡ k = omega arith in ap (λ n. take n ys) e
take_part (x ∷ xs) ys k = let e : suc (length xs) + k ≡ suc (length xs + k) = omega arith in ap (λ n. take n (x ∷ (xs ++ ys))) e ∙ ap (λ l. x ∷ l) (take_part xs ys k)

-- a beginning of the first part is one of both
pub longer : (rs xs ys : List (List ℕ)) (c : List ℕ) → StandsForPrefix rs xs c → StandsForPrefix rs (xs ++ ys) c
longer rs xs ys c s = (s.0, omega (arith, s.1, length-append xs ys), s.2 ∙ ap (λ l. Good (rs ++ l)) (sym (take-append-le s.0 xs ys s.1)))

-- and so is one of the second behind the first
pub later : (rs xs ys : List (List ℕ)) (c : List ℕ) → StandsForPrefix (rs ++ xs) ys c → StandsForPrefix rs (xs ++ ys) c
later rs xs ys c s = (length xs + s.0, omega (arith, s.1, length-append xs ys), s.2 ∙ ap Good (append_assoc rs xs (take s.0 ys) ∙ ap (λ l. rs ++ l) (sym (take_part xs ys s.0))))

module _ {D : Type 0} {G : Ghosts D} where
  -- how a call that doesn't fail uses a disk that stays
  pub disk_stays : (failed : Type 0) (old new : Journal D G) → (failed → ⊥) → disk_of new ≡ disk_of old → UsesDisk failed old new
  disk_stays failed old new never e = record {
    same_origin = ap G.origin e;
    told = λ b told. (b, ap G.content e ∙ told);
    later = subst (λ d. G.faults (disk_of old) ≤ G.faults d) (sym e) (le_refl (G.faults (disk_of old)));
    fault = λ f. absurd (never f);
  }
