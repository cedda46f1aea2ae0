-- The laws of parts hold of the project's own states, instructions and rule table.
use Rattle.std.specs.Prelude.{◌≡◌, Bool, true, false, Option, None, Some, Result, Ok, Err, IfOk, refl}
use Rattle.std.specs.Option.{option_map}
use Rattle.std.proofs.Common.{sym, ◌∙◌, ap}
use Rattle.sync_theory.specs.Lists.{ok_state}
use Rattle.sync_theory.specs.Restricting.{LeftAdmitted, Separates}
use Rattle.sync_data.specs.declared.instr.Instr.{Instr}
use Rattle.sync_base.specs.declared.answers.Mismatch.{Mismatch}
use Rattle.sync_base.specs.declared.answers.Outcome.{Outcome}
use Rattle.sync_base.specs.Checks.{act}
use Rattle.sync_base.specs.Rules.{meeting}
use Rattle.sync_base.specs.States.{State, IsState}
use Rattle.sync_law.specs.Instrs.{as_pair, meet}
use Rattle.sync_law.specs.Coded.{apply, coded, meet_by_code}
use Rattle.sync_law.specs.CodedLaw.{applies}
use Rattle.sync_subset.specs.Tables.{Tables, admits, only}
use Rattle.sync_subset.specs.Lemmas.Acting.{act_part, act_outside}
use Rattle.sync_subset.specs.Lemmas.Apart as subset
use Rattle.sync_subset.specs.Lemmas.Part.{part_empty, part_state}
use Rattle.sync_model.specs.Profile.{LawfulParts}
use Rattle.sync_exchange.specs.Profile.{the_profile}

-- ---- instructions that meet

left_same : (tables : Tables) (o : Option Instr) → subset.LeftAdmitted tables o → LeftAdmitted (admits tables) o
left_same tables None h = tt
left_same tables (Some i) h = h

pair_left : (tables : Tables) (m : Result Outcome Mismatch) → IfOk m (λ o. subset.LeftAdmitted tables o.left × subset.LeftAdmitted tables o.right) → IfOk (as_pair m) (λ o. LeftAdmitted (admits tables) o.0 × LeftAdmitted (admits tables) o.1)
pair_left tables (Ok o) h = (left_same tables o.left h.0, left_same tables o.right h.1)
pair_left tables (Err m) h = tt

pub separates : (tables : Tables) (later : Bool) → Separates (admits tables) (λ a b. meet a b later)
separates tables later = record {
  stays = λ a b h k. pair_left tables (meeting a b later) (subset.left_admitted tables later a b h k);
  apart = λ a b h k. ap as_pair (subset.stay_apart tables later a b h k);
  apart_too = λ a b h k. ap as_pair (subset.stay_apart_too tables later a b h k);
}

coded_left : (tables : Tables) (m : Result (Option Instr × Option Instr) Mismatch) → IfOk m (λ o. LeftAdmitted (admits tables) o.0 × LeftAdmitted (admits tables) o.1) → IfOk (coded m) (λ o. LeftAdmitted (admits tables) o.0 × LeftAdmitted (admits tables) o.1)
coded_left tables (Ok o) h = h
coded_left tables (Err m) h = tt

pub separates_by_code : (tables : Tables) (later : Bool) → Separates (admits tables) (λ a b. meet_by_code a b later)
separates_by_code tables later = record {
  stays = λ a b h k. coded_left tables (meet a b later) ((separates tables later).stays a b h k);
  apart = λ a b h k. ap coded ((separates tables later).apart a b h k);
  apart_too = λ a b h k. ap coded ((separates tables later).apart_too a b h k);
}

-- ---- instructions that act

mapped_some : (tables : Tables) (x : Option State) (u : State) → option_map (only tables) x ≡ Some u → (v : State) × (x ≡ Some v)
mapped_some tables None u e = cc
mapped_some tables (Some v) u e = (v, refl)

inside : (tables : Tables) (i : Instr) (s u : State) → admits tables i ≡ true → ok_state (apply i s) ≡ Some u → ok_state (apply i (only tables s)) ≡ Some (only tables u)
inside tables i s u h e = applies i (only tables s) ∙ act_part tables i s h ∙ ap (option_map (only tables)) (sym (applies i s) ∙ e)

outside : (tables : Tables) (i : Instr) (s u : State) → admits tables i ≡ false → ok_state (apply i s) ≡ Some u → only tables u ≡ only tables s
outside tables i s u h e = act_outside tables i s u h (sym (applies i s) ∙ e)

whole : (tables : Tables) (i : Instr) (s u : State) → admits tables i ≡ true → ok_state (apply i (only tables s)) ≡ Some u → (v : State) × (ok_state (apply i s) ≡ Some v)
whole tables i s u h e =
    let r = mapped_some tables (act i s) u (sym (act_part tables i s h) ∙ sym (applies i (only tables s)) ∙ e) in
    (r.0, applies i s ∙ r.1)

pub lawful_parts : LawfulParts the_profile IsState
lawful_parts = record {
  first = part_empty;
  fits = part_state;
  inside = λ tables i s u fit h e. inside tables i s u h e;
  outside = λ tables i s u fit h e. outside tables i s u h e;
  whole = λ tables i s u fit h e. whole tables i s u h e;
  separates = separates_by_code;
}
