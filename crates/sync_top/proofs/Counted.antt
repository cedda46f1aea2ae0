-- A stop that a line tells is counted from 1.
use Rattle.std.proofs.Common.{◌≡◌, ◌≤◌, ℕ, Bool, true, false, ◌&&◌, nat_le, if◌then◌else◌, List, codes, Option, Some, None, refl, subst, arith}
use Rattle.std.proofs.lemmas.Bool.Decides.{nat_tests}
use Rattle.std.specs.Option.{IfSome}
use Rattle.std.specs.Str.{bytes_eq}
use Rattle.serde_json.specs.Data.{Data}
use Rattle.sync_value_text.specs.Forms.{◌>>=◌, provided}
use Rattle.sync_value_text.specs.Fields.{exactly_form, text_form, name_form, id_form, hex_form, number_form, place_form}
use Rattle.sync_edits.specs.declared.event.Event.{Event}
use Rattle.sync_edits.specs.Edits.{edits_form}
use Rattle.sync_edits.specs.Events.{client_form, transaction_form, only_client, bind_form, upload_form, ask_form, upgrade_form, subscribe_form, deliver_form, restart_form, at_form, leaves_of_word, stop_form, inject_form, event_by_word, event_form}
use Rattle.sync_edits.specs.Tables.{tables_form}
use Rattle.sync_edits.specs.Lines.{event_form_of_line, line_data}
use Rattle.sync_world.specs.Events.{IsCounted}

abbrev pub AreCounted : Option Event → Type 0
AreCounted o = IfSome o IsCounted

either : (b : Bool) (x y : Option Event) → AreCounted x → AreCounted y → AreCounted (if b then x else y)
either true x y cx cy = cx
either false x y cx cy = cy

step : {A : Type 0} (o : Option A) (f : A → Option Event) → ((a : A) → o ≡ Some a → AreCounted (f a)) → AreCounted (o >>= f)
step None f each = tt
step (Some a) f each = each a refl

joins : (d : Data) → AreCounted (client_form d)
unfolding client_form
joins d = step (exactly_form 3 d) _ (λ all _. step (name_form d (codes "name")) _ (λ name _. step (id_form d (codes "uuid")) _ (λ id _. tt)))

transactions : (d : Data) → AreCounted (transaction_form d)
unfolding transaction_form
transactions d = step (exactly_form 4 d) _ (λ all _. step (name_form d (codes "client")) _ (λ client _. step (number_form d (codes "ms")) _ (λ ms _. step (edits_form d) _ (λ edits _. tt))))

binds : (d : Data) → AreCounted (bind_form d)
unfolding bind_form
binds d = step (only_client d) _ (λ client _. tt)

uploads : (d : Data) → AreCounted (upload_form d)
unfolding upload_form
uploads d = step (only_client d) _ (λ client _. tt)

asks : (d : Data) → AreCounted (ask_form d)
unfolding ask_form
asks d = step (only_client d) _ (λ client _. tt)

upgrades : (d : Data) → AreCounted (upgrade_form d)
unfolding upgrade_form
upgrades d = step (only_client d) _ (λ client _. tt)

subscribes : (d : Data) → AreCounted (subscribe_form d)
unfolding subscribe_form
subscribes d = step (exactly_form 3 d) _ (λ all _. step (name_form d (codes "client")) _ (λ client _. step (tables_form d) _ (λ tables _. tt)))

deliveries : (d : Data) → AreCounted (deliver_form d)
unfolding deliver_form
deliveries d = step (exactly_form 3 d) _ (λ all _. step (place_form d (codes "message")) _ (λ message _. step (name_form d (codes "to")) _ (λ to _. tt)))

restarts : (d : Data) → AreCounted (restart_form d)
unfolding restart_form
restarts d = step (exactly_form 2 d) _ (λ all _. step (name_form d (codes "node")) _ (λ node _. tt))

injects : (d : Data) → AreCounted (inject_form d)
unfolding inject_form
injects d = step (exactly_form 2 d) _ (λ all _. step (hex_form d (codes "message")) _ (λ message _. tt))

within : (low high : Bool) (at n : ℕ) → (nat_le 1 at ≡ low) → provided (low && high) at ≡ Some n → 1 ≤ n
within true true at n is e = let same : at ≡ n = cc in grind (arith, nat_tests)
within true false at n is e = cc
within false high at n is e = cc

at_least : (d : Data) (n : ℕ) → at_form d ≡ Some n → 1 ≤ n
unfolding at_form
at_least d n e = on (place_form d (codes "at")) e
  where
    on : (o : Option ℕ) → (o >>= (λ at. provided (nat_le 1 at && nat_le at 1000000) at)) ≡ Some n → 1 ≤ n
    on None e = cc
    on (Some at) e = within (nat_le 1 at) (nat_le at 1000000) at n refl e

stops : (d : Data) → AreCounted (stop_form d)
unfolding stop_form
stops d = step (exactly_form 4 d) _ (λ all _. step (name_form d (codes "node")) _ (λ node _. step (at_form d) _ (λ at is. step (text_form d (codes "leaves")) _ (λ word _. step (leaves_of_word word) _ (λ leaves _. at_least d at is)))))

by_word : (word : List ℕ) (d : Data) → AreCounted (event_by_word word d)
unfolding event_by_word
by_word word d =
    either (bytes_eq word (codes "client")) _ _ (joins d)
    (either (bytes_eq word (codes "edit")) _ _ (transactions d)
    (either (bytes_eq word (codes "bind")) _ _ (binds d)
    (either (bytes_eq word (codes "upload")) _ _ (uploads d)
    (either (bytes_eq word (codes "ask")) _ _ (asks d)
    (either (bytes_eq word (codes "deliver")) _ _ (deliveries d)
    (either (bytes_eq word (codes "restart")) _ _ (restarts d)
    (either (bytes_eq word (codes "stop")) _ _ (stops d)
    (either (bytes_eq word (codes "inject")) _ _ (injects d)
    (either (bytes_eq word (codes "upgrade")) _ _ (upgrades d)
    (either (bytes_eq word (codes "subscribe")) _ None (subscribes d) tt))))))))))

of_data : (d : Data) → AreCounted (event_form d)
unfolding event_form
of_data d = step (text_form d (codes "event")) _ (λ word _. by_word word d)

-- each event of a line
pub line_counted : (line : List ℕ) → AreCounted (event_form_of_line line)
unfolding event_form_of_line
line_counted line = step (line_data line) _ (λ d _. of_data d)

pub event_counted : (line : List ℕ) (event : Event) → event_form_of_line line ≡ Some event → IsCounted event
event_counted line event e = subst AreCounted e (line_counted line)
