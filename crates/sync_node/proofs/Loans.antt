-- What is said of a disk that was lent is said of the disk that was borrowed.
use Rattle.std.proofs.Common.{◌≡◌, ◌∙◌, ◌++◌, ℕ, List, Option, None, Some, Result, ap, subst, sym}
use Rattle.std.specs.Prelude.{IfSome}
use Rattle.sync_disk.specs.Disk.{LeavesOnly}
use Rattle.sync_io.specs.declared.status.Status.{Status}
use Rattle.sync_journal.specs.Records.{records_of}
use Rattle.sync_journal.specs.Records.Reading.{Good}
use Rattle.sync_node.specs.Commands.{AnswersItems, TellsText}
use Rattle.sync_node.specs.Opening.{HoldsThose}
use Rattle.sync_node.specs.Runs.{DiskHolds, Left, Run, added}

module _ {L D : Type 0} (now : L → D) where
  pub lent_holds : (content : D → Option (List ℕ)) (images : D → List ℕ → Type 0) (b : List ℕ) (lent : L) (disk : D) → now lent ≡ disk
      → HoldsThose (λ l. content (now l)) (λ l. images (now l)) b lent → HoldsThose content images b disk
  lent_holds content images b lent disk same h = subst (λ d. HoldsThose content images b d) same (record { file = h.file; told = h.told; reads = h.reads; durable = h.durable })

  pub lent_leaves : (moment : D → ℕ) (since : D → ℕ → List ℕ → Type 0) (old new : L) (first last : D) (P : List ℕ → Type 0) → now old ≡ first → now new ≡ last
      → LeavesOnly (λ l. moment (now l)) (λ l. since (now l)) old new P → LeavesOnly moment since first last P
  lent_leaves moment since old new first last P from to h =
      subst (λ d. LeavesOnly moment since d last P) from (subst (λ d. LeavesOnly moment since (now old) d P) to (record { later = h.later; each = h.each; before = h.before }))

  -- items that are answered
  pub lent_answers : {R : Type 0} (content : D → Option (List ℕ)) (images : D → List ℕ → Type 0) (file_of : List ℕ → Result (List R) ℕ) (bytes_of : R → List ℕ) (meant : List R → Option (Run R)) (status : Status) (lent ended : L) (first last : D) (old new : Option (List ℕ))
      → now lent ≡ first → now ended ≡ last → AnswersItems (λ l. content (now l)) (λ l. images (now l)) file_of bytes_of meant status lent ended old new → AnswersItems content images file_of bytes_of meant status first last old new
  lent_answers {R = R} content images file_of bytes_of meant status lent ended first last old new from to t =
      let here = λ (b : List ℕ) (told : content first ≡ Some b). ap content from ∙ told in
      let left = λ (image : List ℕ) (is : images last image). subst (λ d. images d image) (sym to) is in
      record {
        written = λ b told. t.written b (here b told);
        stored = λ b told records file fine. stored records (meant records) left (t.stored b (here b told) records file fine);
        any_exit = λ b told records file before. exits records (meant records) left (t.any_exit b (here b told) records file (λ image is. before image (subst (λ d. images d image) from is)));
        bad_file = λ b told. t.bad_file b (here b told);
        bad_place = λ b told. t.bad_place b (here b told);
        bad_kept = λ b told place is. ap content (sym to) ∙ t.bad_kept b (here b told) place is;
      }
    where
      stored : (records : List R) (run : Option (Run R)) → ((image : List ℕ) → images last image → images (now ended) image) → IfSome run (λ r. DiskHolds (λ l. content (now l)) (λ l. images (now l)) bytes_of (records ++ added r.answers) ended)
          → IfSome run (λ r. DiskHolds content images bytes_of (records ++ added r.answers) last)
      stored records None left holds = tt
      stored records (Some r) left holds = record { file = holds.file; told = ap content (sym to) ∙ holds.told; reads = holds.reads; durable = λ image is. holds.durable image (left image is) }

      exits : (records : List R) (run : Option (Run R)) → ((image : List ℕ) → images last image → images (now ended) image) → IfSome run (λ r. (image : List ℕ) → images (now ended) image → Left bytes_of records r old new image)
          → IfSome run (λ r. (image : List ℕ) → images last image → Left bytes_of records r old new image)
      exits records None left each = tt
      exits records (Some r) left each = λ image is. each image (left image is)

  -- a text that is written
  pub lent_tells : {R : Type 0} (content : D → Option (List ℕ)) (images : D → List ℕ → Type 0) (moment : D → ℕ) (since : D → ℕ → List ℕ → Type 0) (file_of : List ℕ → Result R ℕ) (text_of : R → List ℕ) (status : Status) (lent ended : L) (first last : D) (old new : Option (List ℕ))
      → now lent ≡ first → now ended ≡ last → TellsText (λ l. content (now l)) (λ l. images (now l)) (λ l. moment (now l)) (λ l. since (now l)) file_of text_of status lent ended old new → TellsText content images moment since file_of text_of status first last old new
  lent_tells content images moment since file_of text_of status lent ended first last old new from to t =
      let here = λ (b : List ℕ) (told : content first ≡ Some b). ap content from ∙ told in
      record {
        written = λ b told. t.written b (here b told);
        bad_file = λ b told. t.bad_file b (here b told);
        bad_place = λ b told. t.bad_place b (here b told);
        bad_unwritten = λ b told. t.bad_unwritten b (here b told);
        bad_kept = λ b told place is. ap content (sym to) ∙ t.bad_kept b (here b told) place is;
        kept = λ b told made. lent_holds content images b ended last to (t.kept b (here b told) made);
        any_moment = λ records b told crash. lent_leaves moment since lent ended first last (λ c. records_of c ≡ Good records) from to (t.any_moment records b (here b told) (λ c left. crash c (subst (λ d. images d c) from left)));
      }
