-- The headline, of the world after any events.
use Rattle.std.proofs.Common.{◌≡◌, ℕ, List, [], ◌∷◌, ◌++◌, refl, sym, ap, subst, ◌∙◌}
use Rattle.sync_data.specs.declared.instr.Instr.{Instr}
use Rattle.sync_base.specs.States.{IsState}
use Rattle.sync_io.specs.Reading.{Reading}
use Rattle.sync_model.specs.Bytes.{Name}
use Rattle.sync_model.specs.Log.{Stands, WorldFacts}
use Rattle.sync_model.specs.Reports.{report_by_log, report_of}
use Rattle.sync_model.specs.Worlds.{Edits, Event, IsReached, Made, World, empty_world, happens, world_after}
use Rattle.sync_model.proofs.Holding.{all_hold}
use Rattle.sync_exchange.specs.Profile.{the_profile}
use Rattle.sync_exchange.specs.Lemmas.Buildable.{real_buildable}
use Rattle.sync_exchange.specs.Lemmas.Lawful.{real_lawful}
use Rattle.sync_top.specs.Runs.{Passes, run_from}
use Rattle.sync_top.specs.Exchange.{answers, report, events_of}
use Rattle.gen_law.specs.Generated.{after, world_by}
use Rattle.sync_top.specs.Synced.{AgreeWhereQuiet, AllCatchUp, IsSynced, first}
use Rattle.sync_top.proofs.Born.{events_born}
use Rattle.sync_top.proofs.Events.{events_left, first_left}
use Rattle.sync_top.proofs.Named.{event_named}

-- what the laws of worlds say
pub record Laws : Type 0 where
  pub facts : (w : World) → IsReached the_profile w → WorldFacts the_profile IsState w
  pub reports : (w : World) → IsReached the_profile w → report_of the_profile w ≡ report_by_log the_profile w
  pub acknowledged : (w : World) (name : Name) (ms number : ℕ) (edits : List Instr) (es : List (Event Instr))
      → (happens the_profile w (Edits name ms edits)).words ≡ Made number
      → Stands the_profile (world_after the_profile (happens the_profile w (Edits name ms edits)).world es) name number ms edits
  pub quiet : (w : World) → IsReached the_profile w → AgreeWhereQuiet w
  pub progress : (w : World) → IsReached the_profile w → AllCatchUp w

-- one list of events after another
after_both : (before after : List (Event Instr)) (w : World) → world_after the_profile w (before ++ after) ≡ world_after the_profile (world_after the_profile w before) after
after_both [] after w = refl
after_both (e ∷ es) after w = after_both es after (happens the_profile w e).world

-- the world after the events of a generated exchange
generated_left : (w : World) (es : List (Event Instr)) → world_by w es ≡ world_after the_profile w es
unfolding after
generated_left w [] = refl
generated_left w (e ∷ es) = generated_left (happens the_profile w e).world es

module _ (laws : Laws) where
  pub synced : (events : List (Event Instr)) (w : World) → w ≡ world_after the_profile empty_world events → IsSynced events w
  synced events w made_by = record {
    made_by = made_by;
    facts = laws.facts w (events, sym made_by);
    reported = laws.reports w (events, sym made_by);
    acknowledged = λ before after name ms number edits split made.
        subst (λ v. Stands the_profile v name number ms edits) (sym (made_by ∙ ap (world_after the_profile empty_world) split ∙ after_both before (Edits name ms edits ∷ after) empty_world))
        (laws.acknowledged (world_after the_profile empty_world before) name ms number edits after made);
    named = λ before after e split. event_named (world_after the_profile empty_world before) (events_born the_profile before) (all_hold the_profile real_lawful real_buildable before) (laws.facts (world_after the_profile empty_world before) (before, refl)) e;
    quiet = laws.quiet w (events, sym made_by);
    progress = laws.progress w (events, sym made_by);
  }

  -- what a replay leaves, and the world behind its first lines
  pub left_synced : (reading : Reading) → IsSynced (events_of reading) (run_from answers report 0 reading empty_world).left
  left_synced reading = synced (events_of reading) _ (events_left reading 0 empty_world)

  pub first_synced : (reading : Reading) (lines : ℕ) (text : List ℕ) (w : World) (rest : Reading) → Passes answers lines reading empty_world text w rest → IsSynced (events_of (first lines reading)) w
  first_synced reading lines text w rest p = synced (events_of (first lines reading)) w (first_left lines reading rest empty_world w text p)

  -- and what a generated exchange leaves
  pub generated_synced : (events : List (Event Instr)) → IsSynced events (world_by empty_world events)
  generated_synced events = synced events _ (generated_left empty_world events)
