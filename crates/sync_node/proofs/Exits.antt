-- How a run ends, and what the disk then holds.
use Rattle.std.proofs.Common.{◌≡◌, Bool, ℕ, zero, suc, ◌+◌, ◌≤◌, true, false, List, [], ◌∷◌, ◌++◌, length, take, map, Option, None, Some, inl, inr, ◌⊎◌, refl, sym, ap, subst, ◌∙◌, append_assoc, append-nil, arith, length-append}
use Rattle.std.proofs.lemmas.List.{take-append-le}
use Rattle.std.proofs.Math.Seq.{take-append-add, take-append_seam}
use Rattle.std.specs.Bool.{MatchBool}
use Rattle.std.specs.Option.{option_map}
use Rattle.sync_io.specs.Devices.{Took, TookSome}
use Rattle.sync_io.specs.declared.status.Status.{Status}
use Rattle.sync_journal.specs.Landed.{StandsForEither}
use Rattle.sync_journal.specs.Records.{records_of}
use Rattle.sync_journal.specs.Records.Reading.{Good}
use Rattle.sync_node.specs.Runs.{AllTold, Answer, EndsBehind, Exits, ExitsTold, LeavesSome, Left, Run, Stops, StopsTold, WroteAtLeast, added, ended, is_fault, onto, texts}
use Rattle.sync_node.proofs.Runs.{added_append, added_none, follows_cut, follows_end, follows_fault, follows_onto, follows_part, texts_append, told_append, wrote_behind, wrote_none, wrote_within}

-- a number is at most another, or so much more
within_or_past : (n m : ℕ) → (n ≤ m) ⊎ ((k : ℕ) × (n ≡ m + k))
within_or_past n zero = inr (n, omega arith)
within_or_past zero (suc m) = inl (omega arith)
within_or_past (suc n) (suc m) = elim (within_or_past n m) [ inl le ↦ inl (omega (arith, le)) | inr past ↦ inr (past.0, omega (arith, past.1)) ]

either_way : (b : Bool) → (b ≡ true) ⊎ (b ≡ false)
either_way true = inl refl
either_way false = inr refl

-- ---- answers and those behind them
module _ {R : Type 0} where
  front_within : (n : ℕ) (answers rest : List (Answer R)) → n ≤ length answers → length (added (take n (answers ++ rest))) ≤ length (added answers)
  front_within zero answers rest le = omega arith
  front_within (suc n) [] rest le = absurd (omega (arith, le))
  front_within (suc n) (a ∷ answers) rest le =
      let inner : length (added (take n (answers ++ rest))) ≤ length (added answers) = front_within n answers rest (omega (arith, le)) in
      omega (arith, inner, length-append a.records (added (take n (answers ++ rest))), length-append a.records (added answers))

  past_texts : (answers rest : List (Answer R)) (n k : ℕ) → n ≡ length answers + k → length (texts (take n (answers ++ rest))) ≡ length (texts answers) + length (texts (take k rest))
  past_texts answers rest n k past =
      ap (λ m. length (texts (take m (answers ++ rest)))) past ∙ ap (λ xs. length (texts xs)) (take-append-add answers rest k) ∙ ap length (texts_append answers (take k rest)) ∙ length-append (texts answers) (texts (take k rest))

  past_added : (answers rest : List (Answer R)) (n k : ℕ) → n ≡ length answers + k → length (added (take n (answers ++ rest))) ≡ length (added answers) + length (added (take k rest))
  past_added answers rest n k past =
      ap (λ m. length (added (take m (answers ++ rest)))) past ∙ ap (λ xs. length (added xs)) (take-append-add answers rest k) ∙ ap length (added_append answers (take k rest)) ∙ length-append (added answers) (added (take k rest))

  holds_behind : (answers rest : List (Answer R)) (old mid new : Option (List ℕ)) (count : ℕ) → Took (texts answers) old mid → ((n : ℕ) → WroteAtLeast (length (texts (take n rest))) mid new → length (added (take n rest)) ≤ count)
      → (n : ℕ) → WroteAtLeast (length (texts (take n (answers ++ rest)))) old new → length (added (take n (answers ++ rest))) ≤ length (added answers) + count
  holds_behind answers rest old mid new count took holds n wrote = elim (within_or_past n (length answers)) [
    | inl le ↦ let front : length (added (take n (answers ++ rest))) ≤ length (added answers) = front_within n answers rest le in omega (arith, front)
    | inr past ↦
        let inner : length (added (take past.0 rest)) ≤ count = holds past.0 (wrote_behind (length (texts (take past.0 rest))) (texts answers) old mid new took (subst (λ m. WroteAtLeast m old new) (past_texts answers rest n past.0 past.1) wrote)) in
        omega (arith, past_added answers rest n past.0 past.1, inner)
  ]

  stopped_told : (status : Status) (run : Run R) → Stops status run → AllTold run.answers
  stopped_told status run stops = elim (either_way (is_fault status)) [
    | inl fault ↦ subst (λ b. MatchBool b (AllTold run.answers) (run ≡ ended status)) fault stops
    | inr fine ↦ let over : run ≡ ended status = subst (λ b. MatchBool b (AllTold run.answers) (run ≡ ended status)) fine stops in subst (λ (r : Run R). AllTold r.answers) (sym over) tt
  ]

  -- no more was written than some of the first
  holds_part : (answers rest : List (Answer R)) (old new : Option (List ℕ)) → AllTold rest → TookSome (texts answers) old new
      → (n : ℕ) → WroteAtLeast (length (texts (take n (answers ++ rest)))) old new → length (added (take n (answers ++ rest))) ≤ length (added answers)
  holds_part answers rest old new says took n wrote = elim (within_or_past n (length answers)) [
    | inl le ↦ front_within n answers rest le
    | inr past ↦
        let within : length (texts (take n (answers ++ rest))) ≤ length (texts answers) = wrote_within (length (texts (take n (answers ++ rest)))) (texts answers) old new took wrote in
        let none : length (added (take past.0 rest)) ≤ 0 = added_none past.0 rest says (omega (arith, within, past_texts answers rest n past.0 past.1)) in
        omega (arith, past_added answers rest n past.0 past.1, none)
  ]

module _ {R : Type 0} (bytes_of : R → List ℕ) where
  -- ---- an image at the end of a run
  -- nothing was written
  pub left_some : (records : List R) (run : Run R) (sink : Option (List ℕ)) (image : List ℕ) → AllTold run.answers → LeavesSome bytes_of records (added run.answers) image → Left bytes_of records run sink sink image
  left_some records run sink image says leaves = record {
    leaves = leaves;
    holds = λ n wrote. let none : length (added (take n run.answers)) ≤ 0 = added_none n run.answers says (wrote_none (length (texts (take n run.answers))) sink wrote) in omega (arith, none);
  }

  -- the image stands for the old records
  pub leaves_old : (records next : List R) (image : List ℕ) → records_of image ≡ Good (map bytes_of records) → LeavesSome bytes_of records next image
  leaves_old records next image reads = record { count = 0; within = omega arith; reads = reads ∙ ap (λ rs. Good (map bytes_of rs)) (sym (append-nil records)) }

  -- more records may follow
  pub leaves_onto : (records first others : List R) (image : List ℕ) → LeavesSome bytes_of records first image → LeavesSome bytes_of records (first ++ others) image
  leaves_onto records first others image leaves = record {
    count = leaves.count;
    within = omega (arith, leaves.within, length-append first others);
    reads = leaves.reads ∙ ap (λ rs. Good (map bytes_of (records ++ rs))) (sym (take-append-le leaves.count first others leaves.within));
  }

  -- all of the first
  pub leaves_all : (records first others : List R) (image : List ℕ) → records_of image ≡ Good (map bytes_of (records ++ first)) → LeavesSome bytes_of records (first ++ others) image
  leaves_all records first others image reads = record {
    count = length first;
    within = omega (arith, length-append first others);
    reads = reads ∙ ap (λ rs. Good (map bytes_of (records ++ rs))) (sym (take-append_seam first others));
  }

  pub leaves_behind : (records first others : List R) (image : List ℕ) (leaves : LeavesSome bytes_of (records ++ first) others image) → LeavesSome bytes_of records (first ++ others) image
  leaves_behind records first others image leaves = record {
    count = length first + leaves.count;
    within = omega (arith, leaves.within, length-append first others);
    reads = leaves.reads ∙ ap (λ rs. Good (map bytes_of rs)) (append_assoc records first (take leaves.count others) ∙ ap (λ rs. records ++ rs) (sym (take-append-add first others leaves.count)));
  }

  -- behind the answers so far
  pub left_onto : (answers : List (Answer R)) (records : List R) (run : Run R) (old mid new : Option (List ℕ)) (image : List ℕ) → Took (texts answers) old mid → Left bytes_of (records ++ added answers) run mid new image
      → Left bytes_of records (onto answers run) old new image
  unfolding leaves_behind
  left_onto answers records run old mid new image took left =
      let whole = leaves_behind records (added answers) (added run.answers) image left.leaves in
      let same : added (answers ++ run.answers) ≡ added answers ++ added run.answers = added_append answers run.answers in
      record {
        leaves = record {
          count = length (added answers) + left.leaves.count;
          within = subst (λ rs. length (added answers) + left.leaves.count ≤ length rs) (sym same) whole.within;
          reads = subst (λ rs. records_of image ≡ Good (map bytes_of (records ++ take (length (added answers) + left.leaves.count) rs))) (sym same) whole.reads;
        };
        holds = holds_behind answers run.answers old mid new left.leaves.count took left.holds;
      }

  -- a part of some answers was written, whose records stand
  pub left_part : (answers : List (Answer R)) (records : List R) (run : Run R) (old new : Option (List ℕ)) (image : List ℕ) → AllTold run.answers → TookSome (texts answers) old new → records_of image ≡ Good (map bytes_of (records ++ added answers))
      → Left bytes_of records (onto answers run) old new image
  unfolding leaves_all
  left_part answers records run old new image says took reads =
      let whole = leaves_all records (added answers) (added run.answers) image reads in
      let same : added (answers ++ run.answers) ≡ added answers ++ added run.answers = added_append answers run.answers in
      record {
        leaves = record {
          count = length (added answers);
          within = subst (λ rs. length (added answers) ≤ length rs) (sym same) whole.within;
          reads = subst (λ rs. records_of image ≡ Good (map bytes_of (records ++ take (length (added answers)) rs))) (sym same) whole.reads;
        };
        holds = holds_part answers run.answers old new says took;
      }

  -- a fault at the end
  pub left_cut : (records : List R) (run : Run R) (old mid new : Option (List ℕ)) (image : List ℕ) → new ≡ mid → Left bytes_of records run old mid image → Left bytes_of records run old new image
  left_cut records run old mid new image same left = subst (λ n. Left bytes_of records run old n image) (sym same) left

  module _ (Stands : List R → Type 0) (images : List ℕ → Type 0) (records : List R) where
    no_fault : (status : Status) → is_fault status ≡ true → is_fault status ≡ false → ⊥
    no_fault status fault none = let e : true ≡ false = sym fault ∙ none in cc

    -- ---- the ends of a run
    -- nothing is left to be done
    pub exits_end : (status : Status) (sink : Option (List ℕ)) → is_fault status ≡ false → Stands records → ((image : List ℕ) → images image → records_of image ≡ Good (map bytes_of records)) → Exits bytes_of Stands images records (ended status) status sink sink
    exits_end status sink ok stands kept = record {
      follows = follows_end R status sink ok;
      left = λ image is. left_some records (ended status) sink image tt (leaves_old records [] image (kept image is));
      stands = λ none. subst Stands (sym (append-nil records)) stands;
    }

    -- a fault before anything was done
    pub exits_fault : (status : Status) (run : Run R) (sink : Option (List ℕ)) → is_fault status ≡ true → AllTold run.answers → ((image : List ℕ) → images image → LeavesSome bytes_of records (added run.answers) image) → Exits bytes_of Stands images records run status sink sink
    exits_fault status run sink fault says leaves = record {
      follows = follows_fault status run sink fault;
      left = λ image is. left_some records run sink image says (leaves image is);
      stands = λ none. absurd (no_fault status fault none);
    }

    -- a fault at the end
    pub exits_cut : (status fault : Status) (run : Run R) (old mid new : Option (List ℕ)) → is_fault fault ≡ true → new ≡ mid → Exits bytes_of Stands images records run status old mid → Exits bytes_of Stands images records run fault old new
    exits_cut status fault run old mid new is same exits = record {
      follows = follows_cut status fault run old mid new is same exits.follows;
      left = λ image here. left_cut records run old mid new image same (exits.left image here);
      stands = λ none. absurd (no_fault fault is none);
    }

    pub exits_cut_told : (status fault : Status) (meant : Option (Run R)) (old mid new : Option (List ℕ)) → is_fault fault ≡ true → new ≡ mid → ExitsTold bytes_of Stands images records meant status old mid → ExitsTold bytes_of Stands images records meant fault old new
    exits_cut_told status fault None old mid new is same exits = tt
    exits_cut_told status fault (Some run) old mid new is same exits = exits_cut status fault run old mid new is same exits

    -- behind the answers so far
    pub exits_onto : (answers : List (Answer R)) (run : Run R) (status : Status) (old mid new : Option (List ℕ)) → Took (texts answers) old mid → Exits bytes_of Stands images (records ++ added answers) run status mid new → Exits bytes_of Stands images records (onto answers run) status old new
    exits_onto answers run status old mid new took exits = record {
      follows = follows_onto answers status run old mid new took exits.follows;
      left = λ image is. left_onto answers records run old mid new image took (exits.left image is);
      stands = λ none. subst Stands (append_assoc records (added answers) (added run.answers) ∙ ap (λ rs. records ++ rs) (sym (added_append answers run.answers))) (exits.stands none);
    }

    pub exits_told : (answers : List (Answer R)) (meant rest : Option (Run R)) (status : Status) (old mid new : Option (List ℕ)) → meant ≡ option_map (onto answers) rest → Took (texts answers) old mid → ExitsTold bytes_of Stands images (records ++ added answers) rest status mid new
        → ExitsTold bytes_of Stands images records meant status old new
    exits_told answers meant None status old mid new e took exits = subst (λ m. ExitsTold bytes_of Stands images records m status old new) (sym e) tt
    exits_told answers meant (Some run) status old mid new e took exits = subst (λ m. ExitsTold bytes_of Stands images records m status old new) (sym e) (exits_onto answers run status old mid new took exits)

    -- ---- answers that wait
    -- nothing of them was written, and none of their records landed
    pub exits_before : (waiting : List (Answer R)) (run : Run R) (status : Status) (sink : Option (List ℕ)) → is_fault status ≡ true → AllTold waiting → AllTold run.answers → ((image : List ℕ) → images image → records_of image ≡ Good (map bytes_of records))
        → Exits bytes_of Stands images records (onto waiting run) status sink sink
    exits_before waiting run status sink fault first then kept =
        exits_fault status (onto waiting run) sink fault (told_append waiting run.answers first then) (λ image is. leaves_old records (added (waiting ++ run.answers)) image (kept image is))

    -- nothing of them was written, and all of their records landed or none
    pub exits_landing : (waiting : List (Answer R)) (run : Run R) (status : Status) (sink : Option (List ℕ)) → is_fault status ≡ true → AllTold waiting → AllTold run.answers
        → ((image : List ℕ) → images image → StandsForEither (map bytes_of records) (map bytes_of (records ++ added waiting)) image) → Exits bytes_of Stands images records (onto waiting run) status sink sink
    exits_landing waiting run status sink fault first then either =
        exits_fault status (onto waiting run) sink fault (told_append waiting run.answers first then)
        (λ image is. subst (λ rs. LeavesSome bytes_of records rs image) (sym (added_append waiting run.answers)) (some image (either image is)))
      where
        some : (image : List ℕ) → StandsForEither (map bytes_of records) (map bytes_of (records ++ added waiting)) image → LeavesSome bytes_of records (added waiting ++ added run.answers) image
        some image (inl old) = leaves_old records (added waiting ++ added run.answers) image old
        some image (inr all) = leaves_all records (added waiting) (added run.answers) image all

    -- a part of them was written, and all of their records landed
    pub exits_part : (waiting : List (Answer R)) (run : Run R) (status : Status) (old new : Option (List ℕ)) → is_fault status ≡ true → AllTold run.answers → TookSome (texts waiting) old new
        → ((image : List ℕ) → images image → records_of image ≡ Good (map bytes_of (records ++ added waiting))) → Exits bytes_of Stands images records (onto waiting run) status old new
    exits_part waiting run status old new fault says took kept = record {
      follows = follows_part waiting status run old new fault took;
      left = λ image is. left_part waiting records run old new image says took (kept image is);
      stands = λ none. absurd (no_fault status fault none);
    }

    -- where their writing fails, whatever the run was to end with
    pub stops_behind : (waiting : List (Answer R)) (fault status : Status) (old new : Option (List ℕ)) (rest : Option (Run R)) → AllTold waiting → StopsTold status rest → EndsBehind bytes_of Stands images records waiting fault old new
        → ExitsTold bytes_of Stands images records (option_map (onto waiting) rest) fault old new
    stops_behind waiting fault status old new None first stops behind = tt
    stops_behind waiting fault status old new (Some run) first stops behind = behind run first (stopped_told status run stops)

    -- none waits, and the run stops
    pub exits_stopped : (status : Status) (rest : Option (Run R)) (sink : Option (List ℕ)) → StopsTold status rest → Stands records → ((image : List ℕ) → images image → records_of image ≡ Good (map bytes_of records)) → ExitsTold bytes_of Stands images records rest status sink sink
    exits_stopped status None sink stops stands kept = tt
    exits_stopped status (Some run) sink stops stands kept = elim (either_way (is_fault status)) [
      | inl fault ↦
          let says : AllTold run.answers = subst (λ b. MatchBool b (AllTold run.answers) (run ≡ ended status)) fault stops in
          exits_fault status run sink fault says (λ image is. leaves_old records (added run.answers) image (kept image is))
      | inr fine ↦
          let over : run ≡ ended status = subst (λ b. MatchBool b (AllTold run.answers) (run ≡ ended status)) fine stops in
          subst (λ (r : Run R). Exits bytes_of Stands images records r status sink sink) (sym over) (exits_end status sink fine stands kept)
    ]
