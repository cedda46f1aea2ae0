-- An exchange under way: an event more, what a client does at once, and a part of the plan more.
use Rattle.std.proofs.Common.{◌≡◌, ◌<◌, ◌≤◌, ◌+◌, ◌^◌, ℕ, Bool, true, false, cond, List, [], ◌∷◌, ◌++◌, length, length-append, drop, add-one, append_assoc, append-nil, get_or, refl, sym, ap, subst, ◌∙◌, arith}
use Rattle.std.proofs.Math.Seq.{drop-cons}
use Rattle.std.proofs.lemmas.List.Sums.{sum_by-append}
use Rattle.std.specs.List.{count_by}
use Rattle.sync_data.specs.declared.instr.Instr.{Instr}
use Rattle.sync_exchange.specs.Profile.{the_profile}
use Rattle.sync_gen.specs.Turns.{turn_of}
use Rattle.sync_gen.specs.declared.turns.TurnKind.{TurnKind}
use Rattle.sync_gen.specs.declared.turns.TurnKind.TheVariants as kinds
use Rattle.sync_gen.specs.Clients.{name_of}
use Rattle.sync_model.specs.Bytes.{Name}
use Rattle.sync_model.specs.Worlds.{Event, World, empty_world, happens, server_name}
use Rattle.sync_world.specs.Holding.{Holds}
use Rattle.sync_world.specs.declared.world.World.{World as CodeWorld}
use Rattle.sync_top.specs.declared.counts.Counts.{Counts}
use Rattle.gen_law.specs.declared.plan.Move.{Move}
use Rattle.gen_law.specs.declared.plan.Move.TheVariants as moves
use Rattle.sync_top.specs.declared.progress.Progress.{Progress}
use Rattle.sync_top.specs.Counting.{Goes, HasRoom, counted}
use Rattle.gen_law.specs.Generated.{after, answered, done_by, events_by, exchanged, joined, move_events, newest_to, told, words_by, world_by}
use Rattle.gen_law.specs.Plans.{AreMoves, IsMove}
use Rattle.sync_top.specs.Playing.{PlayedSoFar, Plays}
use Rattle.gen_law.specs.Refusals.{is_refused}
use Rattle.sync_top.specs.Telling.{is_made, is_message, one_if}
use Rattle.sync_top.proofs.Tells.{happens_tells}

-- ---- some events and then others
pub world_append : (w : World) (es fs : List (Event Instr)) → world_by w (es ++ fs) ≡ world_by (world_by w es) fs
world_append w [] fs = refl
world_append w (e ∷ es) fs = world_append (after w e) es fs

pub words_append : (w : World) (es fs : List (Event Instr)) → words_by w (es ++ fs) ≡ words_by w es ++ words_by (world_by w es) fs
words_append w [] fs = refl
words_append w (e ∷ es) fs = ap (λ ws. told w e ∷ ws) (words_append (after w e) es fs)

-- ---- counting one more
count_one : (b : Bool) → 0 + cond b 1 0 ≡ one_if b
count_one true = refl
count_one false = refl

count_snoc : {X : Type 0} (p : X → Bool) (xs : List X) (y : X) → count_by p (xs ++ y ∷ []) ≡ count_by p xs + one_if (p y)
count_snoc p xs y = sum_by-append (λ x. cond (p x) 1 0) xs (y ∷ []) ∙ ap (λ n. count_by p xs + n) (count_one (p y))

one_if_le : (b : Bool) → one_if b ≤ 1
one_if_le true = omega arith
one_if_le false = omega arith

-- ---- what is told of an event
event_messages : (w : World) (e : Event Instr) → length (after w e).messages ≡ length w.messages + one_if (is_message (told w e))
unfolding after told
event_messages w e = (happens_tells the_profile w e).messages

-- ---- no event
pub goes_none : (world : CodeWorld) → Holds empty_world world → Goes [] (record { messages = 0; made = 0; refused = 0 }) world
goes_none world holds = record { holds = holds; messages = refl; made = refl; refused = refl; few_messages = omega arith; few_made = omega arith; few_refused = omega arith }

-- ---- an event more
room : (es : List (Event Instr)) (counts : Counts) (world : CodeWorld) → length es + 1 < 2 ^ 32 → Goes es counts world → HasRoom counts
room es counts world small goes = record { messages = omega (arith, goes.few_messages); made = omega (arith, goes.few_made); refused = omega (arith, goes.few_refused) }

one_more : (es : List (Event Instr)) (e : Event Instr) (old new : ℕ) (b : Bool) → old ≤ length es → new ≡ old + one_if b → new ≤ length (es ++ e ∷ [])
one_more es e old new b few is = let one = one_if_le b in omega (arith, length-append es (e ∷ []))

goes_on : (es : List (Event Instr)) (e : Event Instr) (old new : Counts) (old_world world : CodeWorld) → Goes es old old_world → Holds (after (world_by empty_world es) e) world
    → new ≡ counted old (told (world_by empty_world es) e) → Goes (es ++ e ∷ []) new world
goes_on es e old new old_world world goes holds is =
    let w = world_by empty_world es in
    let next : world_by empty_world (es ++ e ∷ []) ≡ after w e = world_append empty_world es (e ∷ []) in
    let words : words_by empty_world (es ++ e ∷ []) ≡ words_by empty_world es ++ told w e ∷ [] = words_append empty_world es (e ∷ []) in
    record {
      holds = subst (λ (v : World). Holds v world) (sym next) holds;
      messages = ap (λ (c : Counts). c.messages) is ∙ ap (λ n. n + one_if (is_message (told w e))) goes.messages ∙ sym (event_messages w e) ∙ ap (λ (v : World). length v.messages) (sym next);
      made = ap (λ (c : Counts). c.made) is ∙ ap (λ n. n + one_if (is_made (told w e))) goes.made ∙ sym (count_snoc is_made (words_by empty_world es) (told w e)) ∙ ap (count_by is_made) (sym words);
      refused = ap (λ (c : Counts). c.refused) is ∙ ap (λ n. n + one_if (is_refused (told w e))) goes.refused ∙ sym (count_snoc is_refused (words_by empty_world es) (told w e)) ∙ ap (count_by is_refused) (sym words);
      few_messages = one_more es e old.messages new.messages (is_message (told w e)) goes.few_messages (ap (λ (c : Counts). c.messages) is);
      few_made = one_more es e old.made new.made (is_made (told w e)) goes.few_made (ap (λ (c : Counts). c.made) is);
      few_refused = one_more es e old.refused new.refused (is_refused (told w e)) goes.few_refused (ap (λ (c : Counts). c.refused) is);
    }

pub stepped : (es : List (Event Instr)) (e : Event Instr) (old new : Counts) (old_world world : CodeWorld) → length es + 1 < 2 ^ 32 → Goes es old old_world
    → Holds (happens the_profile (world_by empty_world es) e).world world → (HasRoom old → new ≡ counted old (happens the_profile (world_by empty_world es) e).words)
    → Goes (es ++ e ∷ []) new world
unfolding after told
stepped es e old new old_world world small goes holds counts = goes_on es e old new old_world world goes holds (counts (room es old old_world small goes))

-- ---- what is sent and answered
after_one : (es : List (Event Instr)) (e : Event Instr) → world_by empty_world (es ++ e ∷ []) ≡ after (world_by empty_world es) e
after_one es e = world_append empty_world es (e ∷ [])

abbrev pub sent_by : List (Event Instr) → Event Instr → List (Event Instr)
sent_by es sending = es ++ sending ∷ []

abbrev pub delivered_to : List (Event Instr) → Name → List (Event Instr)
delivered_to es to = es ++ newest_to to (world_by empty_world es) ∷ []

two_more : (es : List (Event Instr)) (name : Name) → delivered_to (delivered_to es server_name) name ≡ es ++ answered name (world_by empty_world es)
two_more es name =
    let w = world_by empty_world es in
    ap (λ (v : World). (es ++ newest_to server_name w ∷ []) ++ newest_to name v ∷ []) (after_one es (newest_to server_name w))
    ∙ append_assoc es (newest_to server_name w ∷ []) (newest_to name (after w (newest_to server_name w)) ∷ [])

three_more : (es : List (Event Instr)) (sending : Event Instr) (name : Name) → delivered_to (delivered_to (sent_by es sending) server_name) name ≡ es ++ exchanged name sending (world_by empty_world es)
three_more es sending name =
    two_more (es ++ sending ∷ []) name
    ∙ ap (λ (v : World). (es ++ sending ∷ []) ++ answered name v) (after_one es sending)
    ∙ append_assoc es (sending ∷ []) (answered name (after (world_by empty_world es) sending))

pub exchange_goes : (es : List (Event Instr)) (sending : Event Instr) (name : Name) (counts : Counts) (world : CodeWorld) → Goes (delivered_to (delivered_to (sent_by es sending) server_name) name) counts world
    → Goes (es ++ exchanged name sending (world_by empty_world es)) counts world
exchange_goes es sending name counts world goes = subst (λ fs. Goes fs counts world) (three_more es sending name) goes

pub joined_goes : (es : List (Event Instr)) (coming : Event Instr) (name : Name) (counts : Counts) (world : CodeWorld)
    → Goes ((es ++ coming ∷ []) ++ exchanged name (Event.Binds name) (world_by empty_world (es ++ coming ∷ []))) counts world
    → Goes (es ++ joined name coming (world_by empty_world es)) counts world
joined_goes es coming name counts world goes =
    subst (λ fs. Goes fs counts world)
    (ap (λ (v : World). (es ++ coming ∷ []) ++ exchanged name (Event.Binds name) v) (after_one es coming)
    ∙ append_assoc es (coming ∷ []) (exchanged name (Event.Binds name) (after (world_by empty_world es) coming)))
    goes

-- so many events more
pub one_longer : (es : List (Event Instr)) (e : Event Instr) → length (es ++ e ∷ []) ≡ length es + 1
one_longer es e = length-append es (e ∷ [])

-- ---- a part of the plan
done_few : (name : Name) (kind : TurnKind) (w : World) (x : ℕ) → length (done_by name kind w x).0 ≤ 4
done_few name kinds.Restart w x = omega arith
done_few name (kinds.Edit ms) w x = omega arith
done_few name kinds.Push w x = omega arith
done_few name kinds.Pull w x = omega arith

move_few : (m : Move) (w : World) (x : ℕ) → length (move_events m w x).0 ≤ 4
move_few (moves.Join client) w x = omega arith
move_few moves.Found w x = omega arith
move_few (moves.Push client) w x = omega arith
move_few (moves.Pull client) w x = omega arith
move_few (moves.Turn number) w x = done_few (name_of (turn_of number x).0.client) (turn_of number x).0.kind w (turn_of number x).1

pub none_played : (parts : List Move) (seed : ℕ) (now : Progress) (world : CodeWorld) → now.draws ≡ seed → Goes [] now.counts world → AreMoves parts → PlayedSoFar 0 parts seed now world
none_played parts seed now world draws goes are =
    record { events = []; goes = goes; all = ap (λ x. events_by parts empty_world x) draws; few = omega arith; moves = are }

pub one_played : (index : ℕ) (parts : List Move) (seed : ℕ) (part : Move) (old new : Progress) (old_world world : CodeWorld) (so : PlayedSoFar index parts seed old old_world)
    → drop index parts ≡ part ∷ drop (index + 1) parts
    → Plays (move_events part (world_by empty_world so.events) old.draws) so.events new world
    → PlayedSoFar (index + 1) parts seed new world
one_played index parts seed part old new old_world world so next plays =
    let w = world_by empty_world so.events in
    let made = move_events part w old.draws in
    let rest = drop (index + 1) parts in
    record {
      events = so.events ++ made.0;
      goes = plays.goes;
      all = append_assoc so.events made.0 (events_by rest (world_by empty_world (so.events ++ made.0)) new.draws)
          ∙ ap (λ (v : World). so.events ++ (made.0 ++ events_by rest v new.draws)) (world_append empty_world so.events made.0)
          ∙ ap (λ x. so.events ++ (made.0 ++ events_by rest (world_by w made.0) x)) plays.draws
          ∙ ap (λ ms. so.events ++ events_by ms w old.draws) (sym next)
          ∙ so.all;
      few = let more = move_few part w old.draws in omega (arith, length-append so.events made.0, so.few);
      moves = (subst AreMoves next so.moves).1;
    }

pub this_move : (ms : List Move) (part : Move) (rest : List Move) → ms ≡ part ∷ rest → AreMoves ms → IsMove part
this_move ms part rest is are = (subst AreMoves is are).0

pub all_played : (index : ℕ) (parts : List Move) (seed : ℕ) (now : Progress) (world : CodeWorld) → PlayedSoFar index parts seed now world → drop index parts ≡ [] → Goes (events_by parts empty_world seed) now.counts world
all_played index parts seed now world so end =
    subst (λ es. Goes es now.counts world)
    (sym (append-nil so.events) ∙ ap (λ ms. so.events ++ events_by ms (world_by empty_world so.events) now.draws) (sym end) ∙ so.all)
    so.goes

pub drop_next : (parts : List Move) (index : ℕ) (d : Move) → index < length parts → drop index parts ≡ get_or parts index d ∷ drop (index + 1) parts
drop_next parts index d inside = drop-cons parts index d inside ∙ ap (λ k. get_or parts index d ∷ drop k parts) (sym (add-one index))
