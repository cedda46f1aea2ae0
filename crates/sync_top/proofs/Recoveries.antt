-- Runs of commands over an heir's file are moves of a recovery.
use Rattle.std.proofs.Common.{◌≡◌, ◌<◌, ◌≤◌, ◌+◌, ◌-◌, ⊎_elim, ℕ, List, [], ◌∷◌, ◌++◌, Option, None, Some, IfSome, refl, sym, ap, subst, ◌∙◌, arith, append_assoc, append-nil, length, map, take}
use Rattle.std.proofs.Math.Seq.{take-append-add, take-length, take-nil}
use Rattle.std.proofs.lemmas.Bool.{cases_lt}
use Rattle.std.proofs.lemmas.List.{take-append-le}
use Rattle.std.specs.Option.{option_map}
use Rattle.std.specs.Prelude.{⊤}
use Rattle.sync_edits.specs.Lines.{node_form_of_line}
use Rattle.sync_edits.specs.declared.event.NodeLine.{NodeLine}
use Rattle.sync_edits.specs.declared.event.NodeLine.TheVariants as node_lines
use Rattle.sync_journal.specs.Records.{records_of}
use Rattle.sync_journal.specs.Records.Reading.{Good}
use Rattle.sync_io.specs.declared.status.Status.{Status}
use Rattle.sync_model.specs.Clients.{ClientRecord, client_of, no_client}
use Rattle.sync_model.specs.Each.{Each, no_more, and_each}
use Rattle.sync_model.specs.Messages.{Message}
use Rattle.sync_model.specs.Recovery.{HeirMove, IsMove, heir_after, heir_moves}
use Rattle.sync_model.specs.Recovery as model
use Rattle.sync_model.specs.Resets.{recover_frame, recover_frames}
use Rattle.sync_model.specs.Servers.{ServerRecord}
use Rattle.sync_model.proofs.Limits.{each_append}
use Rattle.sync_model.proofs.Own.{after_append}
use Rattle.sync_exchange.specs.Profile.{the_profile}
use Rattle.sync_exchange.specs.Seen.{client_bytes}
use Rattle.sync_words.specs.Messages.{message_read}
use Rattle.sync_node.specs.Items.{Items, Over, Bad, Limit, Next, frames_of, lines_of}
use Rattle.sync_node.specs.Recovering.{Counts, heard, heard_in, recover_step, recovered}
use Rattle.sync_node.specs.Runs.{Answer, Left, Run, added, answered, no_notes, run_from}
use Rattle.sync_node.specs.Steps.{edit_step, line_answer, take_answer, take_step}
use Rattle.sync_node.specs.FileCommands.{Does}
use Rattle.sync_top.specs.Recoveries.{CommitsNothing, Edits, HeirRun, IsNoCommit, IsRecovery, IsRunOf, IsSavedOnce, LeavesSaved, Recovers, SavesAtAnyEnd, Takes, after_run, after_runs, and_message, messages_in}
use Rattle.sync_node.specs.declared.files.FileCommand.{FileCommand}
use Rattle.sync_node.specs.declared.files.FileCommand.TheVariants as commands

-- ---- `recover`
recovers_add : (frames : Items) (counts : Counts) (records : List ClientRecord)
    → added (run_from recover_step heard counts records frames).answers ≡ (recover_frames the_profile (client_of the_profile records) counts (messages_in frames)).records
recovers_add Over counts records = refl
recovers_add (Bad number) counts records = refl
recovers_add Limit counts records = refl
recovers_add (Next number bytes rest) counts records = on (message_read bytes) (λ c rs. recovers_add rest c rs)
  where
    on : (o : Option Message) → ((c : Counts) (rs : List ClientRecord) → added (run_from recover_step heard c rs rest).answers ≡ (recover_frames the_profile (client_of the_profile rs) c (messages_in rest)).records)
        → added (answered number (option_map (λ message. recovered number (recover_frame the_profile (client_of the_profile records) counts message)) o) (λ new. run_from recover_step heard (heard_in counts records o) (records ++ new) rest)).answers
        ≡ (recover_frames the_profile (client_of the_profile records) counts (and_message o (messages_in rest))).records
    on None go = refl
    on (Some m) go =
        let did = recover_frame the_profile (client_of the_profile records) counts m in
        ap (λ l. did.records ++ l) (go did.known (records ++ did.records) ∙ ap (λ c. (recover_frames the_profile c did.known (messages_in rest)).records) (after_append the_profile (no_client the_profile) records did.records))

heir_append : (ms ns : List HeirMove) (records : List ClientRecord) → heir_after the_profile records (ms ++ ns) ≡ heir_after the_profile (heir_after the_profile records ms) ns
heir_append [] ns records = refl
heir_append (m ∷ ms) ns records = heir_append ms ns (records ++ heir_moves the_profile records m)

runs_append : (runs : List HeirRun) (run : HeirRun) (records : List ClientRecord) → after_runs records (runs ++ run ∷ []) ≡ after_run (after_runs records runs) run
runs_append [] run records = refl
runs_append (r ∷ runs) run records = runs_append runs run (after_run records r)

module _ (server : List ServerRecord) (ident : ℕ) (old : List ClientRecord) where
  -- moves of a recovery lead from the first records to the second ones
  record Moved (records after : List ClientRecord) : Type 0 where
    moves : List HeirMove
    makes : heir_after the_profile records moves ≡ after
    each : Each (IsMove the_profile server ident old) moves

  not_moved : (records : List ClientRecord) (n : ℕ) → Moved records (records ++ take n [])
  not_moved records n = record { moves = []; makes = sym (ap (λ l. records ++ l) (take-nil n) ∙ append-nil records); each = no_more }

  -- an item's answer is a move, wherever it is cut
  record IsOneMove (records : List ClientRecord) (answer : Answer ClientRecord) : Type 0 where
    move : ℕ → HeirMove
    makes : (n : ℕ) → heir_moves the_profile records (move n) ≡ take n answer.records
    is : (n : ℕ) → IsMove the_profile server ident old (move n)

  -- of these items each is one
  abbrev AllMove : (List ClientRecord → ℕ → List ℕ → Option (Answer ClientRecord)) → Items → Type 0
  AllMove step Over = Unit {0}
  AllMove step (Bad number) = Unit {0}
  AllMove step Limit = Unit {0}
  AllMove step (Next number item rest) = ((records : List ClientRecord) → IfSome (step records number item) (IsOneMove records)) × AllMove step rest

  stepped : (step : List ClientRecord → ℕ → List ℕ → Option (Answer ClientRecord)) (items : Items) (records : List ClientRecord) (n : ℕ) → AllMove step items
      → Moved records (records ++ take n (added (run_from (λ (notes : ⊤). step) no_notes tt records items).answers))
  stepped step Over records n all = not_moved records n
  stepped step (Bad number) records n all = not_moved records n
  stepped step Limit records n all = not_moved records n
  stepped step (Next number item rest) records n all = on (step records number item) (all.0 records) (λ rs i. stepped step rest rs i all.1)
    where
      on : (o : Option (Answer ClientRecord)) → IfSome o (IsOneMove records) → ((rs : List ClientRecord) (i : ℕ) → Moved rs (rs ++ take i (added (run_from (λ (notes : ⊤). step) no_notes tt rs rest).answers)))
          → Moved records (records ++ take n (added (answered number o (λ new. run_from (λ (notes : ⊤). step) no_notes tt (records ++ new) rest)).answers))
      on None one go = not_moved records n
      on (Some a) one go = ⊎_elim cut whole (cases_lt n (length a.records))
        where
          later : List ClientRecord
          later = added (run_from (λ (notes : ⊤). step) no_notes tt (records ++ a.records) rest).answers

          cut : n < length a.records → Moved records (records ++ take n (a.records ++ later))
          cut lt = record {
            moves = one.move n ∷ [];
            makes = ap (λ l. records ++ l) (one.makes n ∙ sym (take-append-le n a.records later (omega arith)));
            each = and_each (one.is n) no_more;
          }

          whole : length a.records ≤ n → Moved records (records ++ take n (a.records ++ later))
          whole le =
              let i = n - length a.records in
              let sum : n ≡ length a.records + i = omega arith in
              let m = go (records ++ a.records) i in
              record {
                moves = one.move (length a.records) ∷ m.moves;
                makes = ap (λ l. heir_after the_profile (records ++ l) m.moves) (one.makes (length a.records) ∙ take-length a.records) ∙ m.makes
                    ∙ append_assoc records a.records (take i later) ∙ ap (λ l. records ++ l) (sym (ap (λ k. take k (a.records ++ later)) sum ∙ take-append-add a.records later i));
                each = and_each (one.is (length a.records)) m.each;
              }

  -- ---- `edit` and `take`
  line_moves : (records : List ClientRecord) (number : ℕ) (o : Option NodeLine) → IsNoCommit o → IfSome (option_map (line_answer records number) o) (IsOneMove records)
  line_moves records number None none = tt
  line_moves records number (Some (node_lines.Born id)) none = record { move = λ n. HeirMove.Births id n; makes = λ n. refl; is = λ n. tt }
  line_moves records number (Some (node_lines.Commit ms edits)) none = absurd none
  line_moves records number (Some node_lines.Upgrade) none = record { move = λ n. HeirMove.Upgrades n; makes = λ n. refl; is = λ n. tt }
  line_moves records number (Some (node_lines.Subscribe tables)) none = record { move = λ n. HeirMove.Subscribes tables n; makes = λ n. refl; is = λ n. tt }

  lines_move : (lines : Items) → CommitsNothing lines → AllMove edit_step lines
  lines_move Over none = tt
  lines_move (Bad number) none = tt
  lines_move Limit none = tt
  lines_move (Next number line rest) none = (λ records. line_moves records number (node_form_of_line line) none.0, lines_move rest none.1)

  frame_moves : (records : List ClientRecord) (number : ℕ) (o : Option Message) → IfSome (option_map (take_answer records number) o) (IsOneMove records)
  frame_moves records number None = tt
  frame_moves records number (Some m) = record { move = λ n. HeirMove.Takes m n; makes = λ n. refl; is = λ n. tt }

  frames_move : (frames : Items) → AllMove take_step frames
  frames_move Over = tt
  frames_move (Bad number) = tt
  frames_move Limit = tt
  frames_move (Next number bytes rest) = (λ records. frame_moves records number (message_read bytes), frames_move rest)

  -- ---- runs
  run_moves : (run : HeirRun) (records : List ClientRecord) → IsRunOf server ident old run → Moved records (after_run records run)
  run_moves (Edits lines n) records reads = stepped edit_step lines records n (lines_move lines reads)
  run_moves (Takes frames n) records reads = stepped take_step frames records n (frames_move frames)
  run_moves (Recovers frames n) records reads = record {
    moves = HeirMove.Recovers (messages_in frames) n ∷ [];
    makes = ap (λ l. records ++ take n l) (sym (recovers_add frames [] records));
    each = and_each reads no_more;
  }

  runs_move : (runs : List HeirRun) (records : List ClientRecord) → Each (IsRunOf server ident old) runs → Moved records (after_runs records runs)
  runs_move [] records no_more = record { moves = []; makes = refl; each = no_more }
  runs_move (run ∷ runs) records (and_each h f) =
      let m = run_moves run records h in
      let r = runs_move runs (after_run records run) f in
      record {
        moves = m.moves ++ r.moves;
        makes = heir_append m.moves r.moves records ∙ ap (λ l. heir_after the_profile l r.moves) m.makes ∙ r.makes;
        each = each_append m.each r.each;
      }

-- the premise over runs is that over moves
pub record ByMoves (server : List ServerRecord) (ident by : ℕ) (old first : List ClientRecord) (runs : List HeirRun) : Type 0 where
  pub moves : List HeirMove
  pub makes : heir_after the_profile first moves ≡ after_runs first runs
  pub is : model.IsRecovery the_profile server ident by old first moves

pub by_moves : (server : List ServerRecord) (ident by : ℕ) (old first : List ClientRecord) (runs : List HeirRun) → IsRecovery server ident by old first runs → ByMoves server ident by old first runs
by_moves server ident by old first runs r =
    let m = runs_move server ident old runs first r.reads in
    record {
      moves = m.moves;
      makes = m.makes;
      is = record {
        server_file = r.server_file;
        old_file = r.old_file;
        nothing_made = r.nothing_made;
        named = ap (λ l. (client_of the_profile l).ident) m.makes ∙ r.named;
        alone = r.alone;
        frames = m.each;
      };
    }

-- ---- at any end of a run
abbrev pub Saves : Type 0
Saves = (server : List ServerRecord) (ident by : ℕ) (old first : List ClientRecord) (runs : List HeirRun) → IsRecovery server ident by old first runs → IsSavedOnce server ident by old (after_runs first runs)

module _ (saves : Saves) where
  leaves : (records : List ClientRecord) (run : ℕ → HeirRun) (n : ℕ) (image : List ℕ) → records_of image ≡ Good (map client_bytes (after_run records (run n))) → LeavesSaved records run image
  leaves records run n image reads = record {
    stand = n;
    reads = reads;
    saved = λ server ident by old first runs same r.
        subst (λ l. IsSavedOnce server ident by old l) (runs_append runs (run n) first ∙ ap (λ l. after_run l (run n)) (sym same)) (saves server ident by old first (runs ++ run n ∷ []) r);
  }

  -- of a run over these items, if the source tells them
  at_end : (records : List ClientRecord) (kind : Items → ℕ → HeirRun) (meant : Items → Run ClientRecord) → ((items : Items) (n : ℕ) → after_run records (kind items n) ≡ records ++ take n (added (meant items).answers))
      → (images : List ℕ → Type 0) (before after : Option (List ℕ)) (o : Option Items)
      → IfSome (option_map meant o) (λ run. (image : List ℕ) → images image → Left client_bytes records run before after image) → IfSome (option_map (λ items. kind items) o) (λ run. (image : List ℕ) → images image → LeavesSaved records run image)
  at_end records kind meant same images before after None h = tt
  at_end records kind meant same images before after (Some items) h = λ image left.
      let l = (h image left).leaves in
      leaves records (kind items) l.count image (l.reads ∙ ap (λ rs. Good (map client_bytes rs)) (sym (same items l.count)))

  module _ {D : Type 0} (content : D → Option (List ℕ)) (images : D → List ℕ → Type 0) (moment : D → ℕ) (images_since : D → ℕ → List ℕ → Type 0) where
    pub saves_at_end : (command : FileCommand) (left : Option (List ℕ)) (status : Status) (first last : D) (before after : Option (List ℕ)) → Does content images moment images_since command left status first last before after → SavesAtAnyEnd content images command left first last
    saves_at_end commands.Edit left status first last before after does = λ b told records file stood.
        at_end records Edits (λ lines. run_from (λ notes. edit_step) no_notes tt records lines) (λ items n. refl) (images last) before after (lines_of left) (does.any_exit b told records file stood)
    saves_at_end commands.Take left status first last before after does = λ b told records file stood.
        at_end records Takes (λ frames. run_from (λ notes. take_step) no_notes tt records frames) (λ items n. refl) (images last) before after (frames_of left) (does.any_exit b told records file stood)
    saves_at_end commands.Recover left status first last before after does = λ b told records file stood.
        at_end records Recovers (λ frames. run_from recover_step heard [] records frames) (λ items n. refl) (images last) before after (frames_of left) (does.any_exit b told records file stood)
    saves_at_end commands.Serve left status first last before after does = λ b told records file stood. tt
    saves_at_end commands.Send left status first last before after does = λ b told records file stood. tt
    saves_at_end commands.Ask left status first last before after does = λ b told records file stood. tt
    saves_at_end commands.Show left status first last before after does = λ b told records file stood. tt
    saves_at_end (commands.Retire ident) left status first last before after does = λ b told records file stood. tt
    saves_at_end (commands.Rescue after_) left status first last before after does = λ b told records file stood. tt
    saves_at_end commands.Trim left status first last before after does = λ b told records file stood. tt
    saves_at_end commands.Shrink left status first last before after does = λ b told records file stood. tt
    saves_at_end (commands.Start id) left status first last before after does = λ b told records file stood. tt
