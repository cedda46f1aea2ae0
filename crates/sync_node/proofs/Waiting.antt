-- A run whose answers wait until their records land.
use Rattle.std.proofs.Common.{◌≡◌, ℕ, true, List, [], ◌∷◌, ◌++◌, map, Option, None, Some, refl, sym, ap, subst, ◌∙◌, append_assoc, append-nil}
use Rattle.std.specs.Prelude.{IfSome}
use Rattle.std.specs.Option.{option_map}
use Rattle.sync_io.proofs.Inputs.{took_more}
use Rattle.sync_io.specs.Devices.{Took}
use Rattle.sync_io.specs.declared.status.Status.{Status}
use Rattle.sync_io.specs.declared.status.Status.TheVariants as statuses
use Rattle.sync_journal.specs.Records.{records_of}
use Rattle.sync_journal.specs.Records.Reading.{Good}
use Rattle.sync_node.specs.Items.{Items, Next, Over, EndsReading}
use Rattle.sync_node.specs.Runs.{AllTold, Answer, AnswersSo, EndsBehind, ExitsTold, IsTold, Run, StopsTold, added, answered, is_fault, noting_runs, onto, run_from, texts}
use Rattle.sync_node.proofs.Exits.{exits_before, exits_told}
use Rattle.sync_node.proofs.Runs.{added_append, added_one, nothing_yet, onto_twice, run_says, runs_one, texts_append, texts_one, told_append, took_none}

module _ {N R : Type 0} (step : N → List R → ℕ → List ℕ → Option (Answer R)) (noted : N → List R → List ℕ → N) where
  -- Some answers were written, and some wait. The node has the records of all, and its disk holds those of the first.
  pub record SoFar (Stands : N → List R → Type 0) (Holds : List R → Type 0) (records : List R) (meant : Option (Run R)) (ahead : Option Items) (text : List ℕ) (old new : Option (List ℕ)) : Type 0 where
    pub written : List (Answer R)
    pub waiting : List (Answer R)
    pub notes : N
    pub took : Took (texts written) old new
    pub waits : text ≡ texts waiting
    pub told : AllTold waiting
    pub stands : Stands notes ((records ++ added written) ++ added waiting)
    pub holds : Holds (records ++ added written)
    pub goes : meant ≡ option_map (onto written) (option_map (onto waiting) (noting_runs step noted notes ((records ++ added written) ++ added waiting) ahead))

  -- ---- its steps
  module _ (Stands : N → List R → Type 0) (Holds : List R → Type 0) (records : List R) where
    pub begins : (notes : N) (ahead : Option Items) (text : List ℕ) (sink : Option (List ℕ)) → Stands notes records → Holds records → text ≡ []
        → SoFar Stands Holds records (noting_runs step noted notes records ahead) ahead text sink sink
    begins notes ahead text sink stands holds none =
        let once : records ≡ records ++ [] = sym (append-nil records) in
        let twice : records ≡ (records ++ []) ++ [] = once ∙ sym (append-nil (records ++ [])) in
        record {
          written = [];
          waiting = [];
          notes = notes;
          took = took_none sink;
          waits = none;
          told = tt;
          stands = subst (Stands notes) twice stands;
          holds = subst Holds once holds;
          goes = nothing_yet step noted notes records ahead ∙ ap (option_map (onto [])) (nothing_yet step noted notes (records ++ []) ahead);
        }

    -- those that wait are written, once the node holds their records
    pub flushed : (OldStands : N → List R → Type 0) (OldHolds : List R → Type 0) (meant : Option (Run R)) (ahead : Option Items) (text none : List ℕ) (old mid new : Option (List ℕ)) (s : SoFar OldStands OldHolds records meant ahead text old mid)
        → Took (texts s.waiting) mid new → Stands s.notes ((records ++ added s.written) ++ added s.waiting) → Holds ((records ++ added s.written) ++ added s.waiting) → none ≡ [] → SoFar Stands Holds records meant ahead none old new
    flushed OldStands OldHolds meant ahead text none old mid new s took stands holds is =
        let all = s.written ++ s.waiting in
        let stored : (records ++ added s.written) ++ added s.waiting ≡ records ++ added all = append_assoc records (added s.written) (added s.waiting) ∙ ap (λ rs. records ++ rs) (sym (added_append s.written s.waiting)) in
        let same : (records ++ added s.written) ++ added s.waiting ≡ (records ++ added all) ++ [] = stored ∙ sym (append-nil (records ++ added all)) in
        record {
          written = all;
          waiting = [];
          notes = s.notes;
          took = subst (λ t. Took t old new) (sym (texts_append s.written s.waiting)) (took_more (texts s.written) (texts s.waiting) old mid new s.took took);
          waits = is;
          told = tt;
          stands = subst (Stands s.notes) same stands;
          holds = subst Holds stored holds;
          goes = s.goes ∙ onto_twice s.written s.waiting (noting_runs step noted s.notes ((records ++ added s.written) ++ added s.waiting) ahead)
              ∙ ap (λ rs. option_map (onto all) (noting_runs step noted s.notes rs ahead)) stored ∙ ap (option_map (onto all)) (nothing_yet step noted s.notes (records ++ added all) ahead);
        }

    -- one answer more waits
    pub gathered : (OldStands : N → List R → Type 0) (OldHolds : List R → Type 0) (meant : Option (Run R)) (number : ℕ) (item : List ℕ) (before after : Option Items) (text more all : List ℕ) (old new : Option (List ℕ))
        (s : SoFar OldStands OldHolds records meant before text old new) → before ≡ option_map (Next number item) after
        → (a : AnswersSo (step s.notes ((records ++ added s.written) ++ added s.waiting) number item) ((records ++ added s.written) ++ added s.waiting) more (Stands (noted s.notes ((records ++ added s.written) ++ added s.waiting) item)))
        → IsTold a.answer → Holds (records ++ added s.written) → all ≡ text ++ more → SoFar Stands Holds records meant after all old new
    gathered OldStands OldHolds meant number item before after text more all old new s read a told holds is =
        let stored = records ++ added s.written in
        let now = stored ++ added s.waiting in
        let answer = a.answer in
        record {
          written = s.written;
          waiting = s.waiting ++ answer ∷ [];
          notes = noted s.notes now item;
          took = s.took;
          waits = is ∙ ap (λ t. t ++ more) s.waits ∙ ap (λ t. texts s.waiting ++ t) a.text_is ∙ sym (texts_one s.waiting answer);
          told = told_append s.waiting (answer ∷ []) s.told (told, tt);
          stands = subst (Stands (noted s.notes now item)) (added_one stored s.waiting answer) a.stands;
          holds = holds;
          goes = s.goes ∙ ap (option_map (onto s.written))
              (runs_one step noted s.notes stored s.waiting (option_map (onto s.waiting) (noting_runs step noted s.notes now before)) number item before after answer refl read a.is);
        }

  -- ---- its ends
  module _ (says : (ns : N) (rs : List R) (number : ℕ) (item : List ℕ) (answer : Answer R) → step ns rs number item ≡ Some answer → IsTold answer) where
    module _ (bytes_of : R → List ℕ) (Ends : List R → Type 0) (images : List ℕ → Type 0) (Stands : N → List R → Type 0) (Holds : List R → Type 0) (records : List R) (meant : Option (Run R)) (ahead : Option Items) (text : List ℕ) (old mid : Option (List ℕ))
        (s : SoFar Stands Holds records meant ahead text old mid) where
      -- while answers wait
      pub ends : (status : Status) (new : Option (List ℕ)) → EndsBehind bytes_of Ends images (records ++ added s.written) s.waiting status mid new → ExitsTold bytes_of Ends images records meant status old new
      ends status new behind = exits_told bytes_of Ends images records s.written meant _ status old mid new s.goes s.took (each ahead)
        where
          each : (items : Option Items) → ExitsTold bytes_of Ends images (records ++ added s.written) (option_map (onto s.waiting) (noting_runs step noted s.notes ((records ++ added s.written) ++ added s.waiting) items)) status mid new
          each None = tt
          each (Some items) = behind (run_from step noted s.notes ((records ++ added s.written) ++ added s.waiting) items) s.told (run_says step noted says s.notes ((records ++ added s.written) ++ added s.waiting) items)

      -- by a fault of the command
      pub faults : (status : Status) → is_fault status ≡ true → ((image : List ℕ) → images image → records_of image ≡ Good (map bytes_of (records ++ added s.written))) → ExitsTold bytes_of Ends images records meant status old mid
      faults status fault kept = ends status mid (λ rest first then. exits_before bytes_of Ends images (records ++ added s.written) s.waiting rest status mid fault first then kept)

    -- where the next item can't be read
    pub reading_stops : (notes : N) (rs : List R) (status : Status) (ahead : Option Items) → EndsReading status ahead → StopsTold status (noting_runs step noted notes rs ahead)
    reading_stops notes rs status None reading = tt
    reading_stops notes rs (statuses.BadInput number) (Some items) reading = ap (run_from step noted notes rs) reading
    reading_stops notes rs statuses.InputTooLong (Some items) reading = ap (run_from step noted notes rs) reading
    reading_stops notes rs statuses.ReadFault (Some items) reading = run_says step noted says notes rs items
    reading_stops notes rs statuses.NoMemory (Some items) reading = run_says step noted says notes rs items
    reading_stops notes rs statuses.Done (Some items) reading = absurd reading
    reading_stops notes rs statuses.BadWords (Some items) reading = absurd reading
    reading_stops notes rs statuses.WriteFault (Some items) reading = absurd reading
    reading_stops notes rs statuses.DiskFault (Some items) reading = absurd reading
    reading_stops notes rs (statuses.BadFile place) (Some items) reading = absurd reading

  -- where the input ends
  pub over_stops : (notes : N) (rs : List R) (ahead : Option Items) → IfSome ahead (λ items. items ≡ Over) → StopsTold statuses.Done (noting_runs step noted notes rs ahead)
  over_stops notes rs None over = tt
  over_stops notes rs (Some items) over = ap (run_from step noted notes rs) over

  -- at an item that is none of the command's
  pub bad_stops : (notes : N) (rs : List R) (number : ℕ) (item : List ℕ) (before after : Option Items) → before ≡ option_map (Next number item) after → step notes rs number item ≡ None
      → StopsTold (statuses.BadInput number) (noting_runs step noted notes rs before)
  bad_stops notes rs number item before after read none = subst (λ o. StopsTold (statuses.BadInput number) (noting_runs step noted notes rs o)) (sym read) (stops after)
    where
      stops : (o : Option Items) → StopsTold (statuses.BadInput number) (noting_runs step noted notes rs (option_map (Next number item) o))
      stops None = tt
      stops (Some rest) = ap (λ a. answered number a (λ new. run_from step noted (noted notes rs item) (rs ++ new) rest)) none
