-- What the steps of the code come to.
use Rattle.std.proofs.Common.{◌≡◌, ◌+◌, ℕ, Option, Some, Result, Ok, Err, sym, ap, subst, ◌∙◌}
use Rattle.std.specs.Prelude.{IfSome}
use Rattle.std.specs.Result.{OnOk}
use Rattle.sync_data.specs.declared.memory.NoMemory.{NoMemory}
use Rattle.sync_gen.specs.Clients.{name_of}
use Rattle.sync_gen.specs.Turns.{turn_of}
use Rattle.sync_gen.specs.declared.turns.Turn.{Turn}
use Rattle.sync_gen.specs.declared.turns.TurnKind.{TurnKind}
use Rattle.sync_model.specs.Worlds.{Words, World}
use Rattle.sync_top.specs.declared.counts.Counts.{Counts}
use Rattle.gen_law.specs.declared.plan.Move.TheVariants as moves
use Rattle.sync_top.specs.Counting.{counted}
use Rattle.gen_law.specs.Generated.{done_by, move_events}
use Rattle.gen_law.specs.Refusals.{is_refused}
use Rattle.sync_top.specs.Telling.{is_made, is_message, one_if}

pub on_ok : {P Q : Type 0} (r : Result (Unit {0}) NoMemory) → OnOk r P → (P → Q) → OnOk r Q
on_ok (Ok u) p then = then p
on_ok (Err e) p then = tt

counts_same : (a b : Counts) → a.messages ≡ b.messages → a.made ≡ b.made → a.refused ≡ b.refused → a ≡ b
counts_same a b p q r =
    let M : ℕ → Counts = λ k. record { messages = k; made = a.made; refused = a.refused } in
    let D : ℕ → Counts = λ k. record { messages = b.messages; made = k; refused = a.refused } in
    let R : ℕ → Counts = λ k. record { messages = b.messages; made = b.made; refused = k } in
    ap M p ∙ ap D q ∙ ap R r

pub counts_are : (old new : Counts) (said : Words) → new.messages ≡ old.messages + one_if (is_message said) → new.made ≡ old.made + one_if (is_made said) → new.refused ≡ old.refused + one_if (is_refused said)
    → new ≡ counted old said
counts_are old new said messages made refused = counts_same new (counted old said) messages made refused

-- what is said of words is said of an outcome that the model has
pub of_seen : (P : Words → Type 0) (o : Option Words) (said : Words) → o ≡ Some said → IfSome o P → P said
of_seen P o said is all = subst (λ (x : Option Words). IfSome x P) is all

-- what is done in a turn is what was drawn for it
pub turned_is : (number x draws : ℕ) (turn : Turn) (kind : TurnKind) (w : World) → turn ≡ (turn_of number x).0 → draws ≡ (turn_of number x).1 → turn.kind ≡ kind
    → done_by (name_of turn.client) kind w draws ≡ move_events (moves.Turn number) w x
turned_is number x draws turn kind w is drawn kind_is =
    ap (λ (k : TurnKind). done_by (name_of turn.client) k w draws) (sym kind_is)
    ∙ ap (λ (t : Turn). done_by (name_of t.client) t.kind w draws) is
    ∙ ap (λ d. done_by (name_of (turn_of number x).0.client) (turn_of number x).0.kind w d) drawn
