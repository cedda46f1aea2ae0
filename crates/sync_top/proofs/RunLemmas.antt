-- How the parts of a run make the whole.
use Rattle.std.proofs.Common.{◌≡◌, ℕ, ◌+◌, true, false, List, [], ◌++◌, length, take, Option, None, Some, Result, Ok, Err, refl, sym, ap, subst, ◌∙◌, append_assoc, append-nil, min, arith}
use Rattle.std.proofs.lemmas.List.{take_min, take-append-le}
use Rattle.std.specs.Option.{option_map}
use Rattle.std.specs.Bool.{MatchBool}
use Rattle.std.proofs.Math.Seq.{take-append-add, take-length}
use Rattle.sync_io.specs.Devices.{Took, TookSome}
use Rattle.sync_io.proofs.Inputs.{took_more}
use Rattle.sync_io.specs.declared.status.Status.{Status}
use Rattle.sync_io.specs.declared.status.Status.TheVariants as statuses
use Rattle.sync_top.specs.declared.command.LineEnd.{LineEnd}
use Rattle.sync_io.specs.declared.sink.SinkRefusal.{SinkRefusal}
use Rattle.sync_io.specs.declared.sink.SinkRefusal.TheVariants as sinks
use Rattle.sync_node.specs.Texts.{write_status}
use Rattle.sync_node.specs.Texts.{IsDoneOrNoMemory}
use Rattle.sync_top.specs.Runs.{Ran, onto, answered, is_fault, Follows, FollowsTold, EndsAt, IsRunStatus}

-- ---- what was written
-- nothing
pub took_none : (sink : Option (List ℕ)) → Took [] sink sink
took_none None = refl
took_none (Some had) = ap Some (sym (append-nil had))

pub all_is_some : (text : List ℕ) (old new : Option (List ℕ)) → Took text old new → TookSome text old new
all_is_some text old new took = (length text, subst (λ p. Took p old new) (sym (take-length text)) took)

-- a part of a text is a part of a longer one
pub some_of_more : (text more : List ℕ) (old new : Option (List ℕ)) → TookSome text old new → TookSome (text ++ more) old new
some_of_more text more old new took =
    (min took.0 (length text), subst (λ p. Took p old new) (sym (take-append-le (min took.0 (length text)) text more (omega arith) ∙ take_min took.0 text)) took.1)

pub some_behind : (text more : List ℕ) (old mid new : Option (List ℕ)) → Took text old mid → TookSome more mid new → TookSome (text ++ more) old new
some_behind text more old mid new took some =
    (length text + some.0, subst (λ p. Took p old new) (sym (take-append-add text more some.0)) (took_more text (take some.0 more) old mid new took some.1))

-- ---- runs
module _ {C : Type 0} where
  -- a part of nothing was written
  pub cut_off : (status : Status) (ran : Ran C) (sink : Option (List ℕ)) → is_fault status ≡ true → Follows status ran sink sink
  cut_off status ran sink fault = subst (λ b. MatchBool b (TookSome ran.written sink sink) ((status ≡ ran.status) × Took ran.written sink sink)) (sym fault) (0, took_none sink)

  -- a part of an answer was written
  pub cut_inside : (text : List ℕ) (status : Status) (ran : Ran C) (old new : Option (List ℕ)) → is_fault status ≡ true → TookSome text old new → Follows status (onto text ran) old new
  cut_inside text status ran old new fault took =
      subst (λ b. MatchBool b (TookSome (text ++ ran.written) old new) ((status ≡ ran.status) × Took (text ++ ran.written) old new)) (sym fault)
      (some_of_more text ran.written old new took)

  -- what follows an answer
  pub follows_onto : (text : List ℕ) (status : Status) (ran : Ran C) (old mid new : Option (List ℕ)) → Took text old mid → Follows status ran mid new → Follows status (onto text ran) old new
  follows_onto text status ran old mid new took follows =
      elim (is_fault status) as (λ b. MatchBool b (TookSome ran.written mid new) ((status ≡ ran.status) × Took ran.written mid new) → MatchBool b (TookSome (text ++ ran.written) old new) ((status ≡ ran.status) × Took (text ++ ran.written) old new)) [
        | true ↦ λ some. some_behind text ran.written old mid new took some
        | false ↦ λ all. (all.0, took_more text ran.written old mid new took all.1)
      ] follows

  -- behind what was answered so far
  pub follows_told : (text : List ℕ) (status : Status) (meant rest : Option (Ran C)) (old mid new : Option (List ℕ)) → meant ≡ option_map (onto text) rest → Took text old mid → FollowsTold status rest mid new → FollowsTold status meant old new
  follows_told text status meant None old mid new e took follows = subst (λ m. FollowsTold status m old new) (sym e) tt
  follows_told text status meant (Some ran) old mid new e took follows = subst (λ m. FollowsTold status m old new) (sym e) (follows_onto text status ran old mid new took follows)

  pub onto_onto : (p q : List ℕ) (ran : Ran C) → onto p (onto q ran) ≡ onto (p ++ q) ran
  onto_onto p q ran = λ i. record { written = sym (append_assoc p q ran.written) i; status = ran.status; left = ran.left }

  pub onto_nothing : (ran : Ran C) → ran ≡ onto [] ran
  onto_nothing ran = refl

  -- at least a part was written
  pub follows_some : (status : Status) (ran : Ran C) (old new : Option (List ℕ)) → Follows status ran old new → TookSome ran.written old new
  follows_some status ran old new follows =
      elim (is_fault status) as (λ b. MatchBool b (TookSome ran.written old new) ((status ≡ ran.status) × Took ran.written old new) → TookSome ran.written old new) [
        | true ↦ λ some. some
        | false ↦ λ all. all_is_some ran.written old new all.1
      ] follows

  -- a fault at the end cuts a run short
  pub cut_at_end : (status fault : Status) (meant : Option (Ran C)) (old mid new : Option (List ℕ)) → is_fault fault ≡ true → new ≡ mid → FollowsTold status meant old mid → FollowsTold fault meant old new
  cut_at_end status fault None old mid new is same follows = tt
  cut_at_end status fault (Some ran) old mid new is same follows =
      subst (λ n. Follows fault ran old n) (sym same)
      (subst (λ b. MatchBool b (TookSome ran.written old mid) ((fault ≡ ran.status) × Took ran.written old mid)) (sym is) (follows_some status ran old mid follows))

  -- where the run ends at a line
  pub line_follows : (status : Status) (number : ℕ) (command : C) (answer : Result (List ℕ × C) LineEnd) (holds : C → Type 0) (old new : Option (List ℕ)) → EndsAt status number command answer holds old new
      → (rest : C → Ran C) → Follows status (answered number command answer rest) old new
  line_follows (statuses.BadInput place) number command answer holds old new ends rest =
      subst (λ a. Follows (statuses.BadInput place) (answered number command a rest) old new) (sym ends.1)
      (ap statuses.BadInput ends.0, subst (λ n. Took [] old n) (sym ends.2) (took_none old))
  line_follows statuses.WriteFault number command answer holds old new ends rest =
      subst (λ a. Follows statuses.WriteFault (answered number command a rest) old new) (sym ends.2)
      (cut_inside ends.0 statuses.WriteFault (rest ends.1) old new refl ends.3)
  line_follows statuses.NoMemory number command (Ok answer) holds old new ends rest = cut_inside answer.0 statuses.NoMemory (rest answer.1) old new refl ends
  line_follows statuses.NoMemory number command (Err end) holds old new ends rest = ends
  line_follows statuses.Done number command answer holds old new ends rest = absurd ends
  line_follows statuses.BadWords number command answer holds old new ends rest = absurd ends
  line_follows statuses.ReadFault number command answer holds old new ends rest = absurd ends
  line_follows statuses.DiskFault number command answer holds old new ends rest = absurd ends
  line_follows (statuses.BadFile place) number command answer holds old new ends rest = absurd ends
  line_follows statuses.InputTooLong number command answer holds old new ends rest = absurd ends

pub is_write_fault : (refusal : SinkRefusal) → is_fault (write_status refusal) ≡ true
is_write_fault sinks.Failed = refl
is_write_fault sinks.NoMemory = refl

-- a run that was not cut short, and that is meant to be done
pub done_or : {C : Type 0} (status : Status) (ran : Ran C) (old new : Option (List ℕ)) → Follows status ran old new → ran.status ≡ statuses.Done → IsRunStatus status → (status ≡ statuses.ReadFault → ⊥) → (status ≡ statuses.WriteFault → ⊥) → IsDoneOrNoMemory status
done_or statuses.Done ran old new follows meant only read write = tt
done_or statuses.NoMemory ran old new follows meant only read write = tt
done_or statuses.BadWords ran old new follows meant only read write = absurd only
done_or (statuses.BadInput place) ran old new follows meant only read write = let e = follows.0 ∙ meant in cc
done_or statuses.ReadFault ran old new follows meant only read write = read refl
done_or statuses.WriteFault ran old new follows meant only read write = write refl
done_or statuses.DiskFault ran old new follows meant only read write = absurd only
done_or (statuses.BadFile place) ran old new follows meant only read write = absurd only
done_or statuses.InputTooLong ran old new follows meant only read write = let e = follows.0 ∙ meant in cc
