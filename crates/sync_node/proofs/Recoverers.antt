-- How a client recovers the changes of old clients: the parts of its answers.
use Rattle.std.proofs.Common.{◌≡◌, ℕ, true, false, ◌==◌, if◌then◌else◌, List, [], ◌∷◌, ◌++◌, length, drop, get_or, map, ◌+◌, ◌<◌, ◌≤◌, Vec, Global, Option, None, Some, Result, Ok, Err, IfOk, refl, ap, sym, subst, ◌∙◌, append_assoc, append-nil, arith}
use Rattle.std.specs.List.{flat_map}
use Rattle.sync_disk.specs.declared.disk.Disk.{Ghosts}
use Rattle.sync_client.specs.declared.client.Client.{Client}
use Rattle.sync_messages.specs.Parts.{ChangeParts, RetiredParts}
use Rattle.sync_model.specs.Clients.{Client as Model, ClientRecord, Step, after_records, client_of, no_client}
use Rattle.sync_model.specs.Messages.{Change, Message}
use Rattle.sync_model.specs.Resets.{HeirAnswer, HeirStep, Recovered, RecoveryLine, Handled, IsHeir, NoRetired, Refuses, ResetRefusal, handled, heir, recover_changes, recover_frame, recover_upload, says_only}
use Rattle.sync_model.proofs.Heirs.{HeirDid, heir_did, made, quiet}
use Rattle.sync_model.proofs.Own.{after_append}
use Rattle.sync_heir.specs.Heirs.{HeirDid as HeirDone, IfReset}
use Rattle.sync_client.specs.Clients.{IsStored}
use Rattle.std.proofs.lemmas.List.{at_drop_more}
use Rattle.std.proofs.Math.ListN.{drop_of_length-le}
use Rattle.std.proofs.lemmas.List.Concat.{flat_map-append}
use Rattle.sync_exchange.specs.Seen.{change_seen, message_seen}
use Rattle.sync_messages.specs.declared.message.Message.{Message as CodeMessage}
use Rattle.sync_messages.specs.declared.message.Message.TheVariants as messages
use Rattle.sync_data.specs.declared.instr.Instr.{Instr}
use Rattle.sync_base.specs.States.{State}
use Rattle.sync_exchange.specs.Profile.{the_profile}
use Rattle.sync_node.specs.Heirs.{HandledSo, HasHeard, RecovererStands, SavedSo, counts_of, mine}
use Rattle.sync_node.specs.Holding.{ClientStands}
use Rattle.sync_node.specs.Recovering.{Counts, IsPutFor, recovered, recovery_line}
use Rattle.sync_node.specs.Runs.{Answer, AnswersSo}
use Rattle.sync_node.specs.declared.command.ItemEnd.{ItemEnd}
use Rattle.std.proofs.lemmas.Bool.Decides.{nat_tests}

-- ---- what came
module _ {D : Type 0} {G : Ghosts D} where
  -- a frame of which one thing is said adds no record
  pub says_so : (number : ℕ) (did : Recovered) (line : RecoveryLine) (known : Counts) (text : List ℕ) (records : List ClientRecord) (heard : List RetiredParts) (c : Client D G)
      → says_only known line ≡ did → text ≡ recovery_line number line → RecovererStands known records heard c → AnswersSo (Some (recovered number did)) records text (λ rs. RecovererStands did.known rs heard c)
  says_so number did line known text records heard c is text_is stands = subst (λ d. AnswersSo (Some (recovered number d)) records text (λ rs. RecovererStands d.known rs heard c)) is (record {
    answer = recovered number (says_only known line);
    is = refl;
    text_is = text_is ∙ sym (append-nil (recovery_line number line));
    stands = subst (λ rs. RecovererStands known rs heard c) (sym (append-nil records)) stands;
  })

-- nothing came yet
pub nothing_heard : (records : List ClientRecord) (heard : List RetiredParts) → heard ≡ [] → HasHeard [] records heard
nothing_heard records heard none = record { counts_is = sym (ap counts_of none); mine_is = subst (mine (client_of the_profile records).ident) (sym none) tt }

-- of an answer: what came, and what the client has
pub heard_so : {D : Type 0} {G : Ghosts D} (meant : Option (Answer ClientRecord)) (known : Counts) (records : List ClientRecord) (heard : List RetiredParts) (c : Client D G) (r : Result (Vec ℕ Global) ItemEnd)
    → IfOk r (λ text. AnswersSo meant records text.items (λ rs. RecovererStands known rs heard c)) → IfOk r (λ text. AnswersSo meant records text.items (λ rs. HasHeard known rs heard × ClientStands rs c))
heard_so meant known records heard c (Ok text) a = record {
  answer = a.answer;
  is = a.is;
  text_is = a.text_is;
  stands = (record { counts_is = a.stands.counts_is; mine_is = a.stands.mine_is }, a.stands.client);
}
heard_so meant known records heard c (Err why) a = tt

-- a line that was made says so
pub line_so : (r : Result (Vec ℕ Global) ItemEnd) (words : List ℕ) (Says : List ℕ → Type 0) → IfOk r (λ text. text.items ≡ words) → Says words → IfOk r (λ text. Says text.items)
line_so (Ok text) words Says is says = subst Says (sym is) says
line_so (Err why) words Says is says = tt

pub not_same : (a b : ℕ) → (a ≡ b → ⊥) → (a == b) ≡ false
not_same a b differ = grind (arith, nat_tests)

pub is_same : (a b : ℕ) → a ≡ b → (a == b) ≡ true
is_same a b same = grind (arith, nat_tests)

-- a Retired message for this client, and for another
pub for_this : (c : Model Instr State) (known : Counts) (ident by count : ℕ) → (by == c.ident) ≡ true → says_only ((ident, count) ∷ known) (IsHeir ident count) ≡ recover_frame the_profile c known (Message.Retired ident by count)
for_this c known ident by count same = ap (λ b. if b then says_only ((ident, count) ∷ known) (IsHeir ident count) else says_only known (Refuses ResetRefusal.NotMine)) (sym same)

pub for_another : (c : Model Instr State) (known : Counts) (ident by count : ℕ) → (by == c.ident) ≡ false → says_only known (Refuses ResetRefusal.NotMine) ≡ recover_frame the_profile c known (Message.Retired ident by count)
for_another c known ident by count other = ap (λ b. if b then says_only ((ident, count) ∷ known) (IsHeir ident count) else says_only known (Refuses ResetRefusal.NotMine)) (sym other)

-- any other message
pub for_none : (m : CodeMessage) (c : Model Instr State) (known : Counts) → ((u : _) → m ≡ messages.Upload u → ⊥) → ((r : _) → m ≡ messages.Retired r → ⊥) → says_only known NoRetired ≡ recover_frame the_profile c known (message_seen m)
for_none (messages.Bind id) c known no_upload no_retired = refl
for_none (messages.Ident given) c known no_upload no_retired = refl
for_none (messages.Upload upload) c known no_upload no_retired = absurd (no_upload upload refl)
for_none (messages.Ask ask) c known no_upload no_retired = refl
for_none (messages.Download download) c known no_upload no_retired = refl
for_none (messages.Refused ident number code place) c known no_upload no_retired = refl
for_none (messages.Stored stored) c known no_upload no_retired = refl
for_none (messages.Ask2 ask) c known no_upload no_retired = refl
for_none (messages.Retire retire) c known no_upload no_retired = refl
for_none (messages.Retired retired) c known no_upload no_retired = absurd (no_retired retired refl)
for_none (messages.AskTables asked) c known no_upload no_retired = refl

-- ---- one change
-- the heir keeps its ident
ident_after : (c : Model Instr State) (by count : ℕ) (h : Change) → (after_records the_profile c (heir the_profile c by count h).records).ident ≡ c.ident
ident_after c by count h = on (heir_did the_profile c by count h)
  where
    on : HeirDid the_profile c by count h (heir the_profile c by count h) → (after_records the_profile c (heir the_profile c by count h).records).ident ≡ c.ident
    on (quiet none not_saved) = ap (λ rs. (after_records the_profile c rs).ident) none
    on (made m) = ap (λ rs. (after_records the_profile c rs).ident) m.records

module _ {D : Type 0} {G : Ghosts D} where
  -- it was saved, or needn't be
  pub saved_so : (number change : ℕ) (did : HeirStep) (a : HeirAnswer) (records : List ClientRecord) (old new : List ℕ) (c : Client D G) → HeirDone did (Ok a) records c → IsStored (records ++ did.records) c
      → new ≡ old ++ recovery_line number (Handled change a) → HandledSo true number change did records old new c
  saved_so number change did a records old new c done stored put = (a, done.answer_is, put, record { client = done.client; stored = stored })

  -- it was refused
  pub refused_so : (number change : ℕ) (did : HeirStep) (why : Option ResetRefusal) (records : List ClientRecord) (old new : List ℕ) (c : Client D G) → IfReset why (λ w. HeirDone did (Err w) records c)
      → IfReset why (λ w. IsStored (records ++ did.records) c) → IsPutFor number old new why → HandledSo false number change did records old new c
  refused_so number change did None records old new c done stored put = absurd put
  refused_so number change did (Some why) records old new c done stored put = (why, done.answer_is, put, record { client = done.client; stored = stored })

-- ---- one change after the other
-- these records and lines go before
abbrev pub behind : List ClientRecord → List RecoveryLine → Step ClientRecord (List RecoveryLine) → Step ClientRecord (List RecoveryLine)
behind records lines did = record { records = records ++ did.records; answer = lines ++ did.answer }

-- the next change, on the client as it is by then
abbrev next : ℕ → List ClientRecord → List ClientRecord → Change → HeirStep
next count records more h = heir the_profile (client_of the_profile (records ++ more)) (client_of the_profile (records ++ more)).ident count h

module _ {D : Type 0} {G : Ghosts D} (number count : ℕ) (all : List Change) where
  -- what was done of all changes, of which these are left
  pub record SoFar (left : List Change) (records : List ClientRecord) (text : List ℕ) (c : Client D G) : Type 0 where
    pub more : List ClientRecord
    pub lines : List RecoveryLine
    pub client : ClientStands (records ++ more) c
    pub text_is : text ≡ flat_map (recovery_line number) lines
    pub ident : (client_of the_profile (records ++ more)).ident ≡ (client_of the_profile records).ident
    pub goes : recover_changes the_profile (client_of the_profile records) count all ≡ behind more lines (recover_changes the_profile (client_of the_profile (records ++ more)) count left)

  pub none_yet : (records : List ClientRecord) (text : List ℕ) (c : Client D G) → text ≡ [] → ClientStands records c → SoFar all records text c
  none_yet records text c none stands = record {
    more = [];
    lines = [];
    client = subst (λ rs. ClientStands rs c) (sym (append-nil records)) stands;
    text_is = none;
    ident = ap (λ rs. (client_of the_profile rs).ident) (append-nil records);
    goes = ap (λ rs. recover_changes the_profile (client_of the_profile rs) count all) (sym (append-nil records));
  }

  pub one_more : (records : List ClientRecord) (h : Change) (left : List Change) (old new : List ℕ) (c d : Client D G) (so_far : SoFar (h ∷ left) records old c) → HandledSo true number h.number (next count records so_far.more h) (records ++ so_far.more) old new d
      → SoFar left records new d
  one_more records h left old new c d so_far did =
      let now = records ++ so_far.more in
      let step = next count records so_far.more h in
      let regroup : now ++ step.records ≡ records ++ (so_far.more ++ step.records) = append_assoc records so_far.more step.records in
      let after : after_records the_profile (client_of the_profile now) step.records ≡ client_of the_profile (records ++ (so_far.more ++ step.records)) =
      sym (after_append the_profile (no_client the_profile) now step.records) ∙ ap (client_of the_profile) regroup in
      record {
        more = so_far.more ++ step.records;
        lines = so_far.lines ++ Handled h.number did.0 ∷ [];
        client = subst (λ rs. ClientStands rs d) regroup did.3;
        text_is = did.2 ∙ ap (λ t. t ++ recovery_line number (Handled h.number did.0)) so_far.text_is ∙ sym (lines_more so_far.lines (Handled h.number did.0));
        ident = ap (λ m. m.ident) (sym after) ∙ ident_after (client_of the_profile now) (client_of the_profile now).ident count h ∙ so_far.ident;
        goes = so_far.goes ∙ ap (behind so_far.more so_far.lines) (ap (λ a. handled h.number step.records a (λ new. recover_changes the_profile (after_records the_profile (client_of the_profile now) new) count left)) did.1)
            ∙ behind_more so_far.more step.records so_far.lines (Handled h.number did.0) (recover_changes the_profile (after_records the_profile (client_of the_profile now) step.records) count left)
            ∙ ap (λ m. behind (so_far.more ++ step.records) (so_far.lines ++ Handled h.number did.0 ∷ []) (recover_changes the_profile m count left)) after;
      }
    where
      lines_more : (lines : List RecoveryLine) (line : RecoveryLine) → flat_map (recovery_line number) (lines ++ line ∷ []) ≡ flat_map (recovery_line number) lines ++ recovery_line number line
      lines_more lines line = flat_map-append (recovery_line number) lines (line ∷ []) ∙ ap (λ t. flat_map (recovery_line number) lines ++ t) (append-nil (recovery_line number line))

      behind_more : (xs ys : List ClientRecord) (lines : List RecoveryLine) (line : RecoveryLine) (did : Step ClientRecord (List RecoveryLine))
          → behind xs lines (record { records = ys ++ did.records; answer = line ∷ did.answer }) ≡ behind (xs ++ ys) (lines ++ line ∷ []) did
      behind_more xs ys lines line did = λ i. record { records = sym (append_assoc xs ys did.records) i; answer = sym (append_assoc lines (line ∷ []) did.answer) i }

  -- the last one was refused
  pub ends_refused : (records : List ClientRecord) (h : Change) (left : List Change) (old new : List ℕ) (c d : Client D G) (so_far : SoFar (h ∷ left) records old c) → HandledSo false number h.number (next count records so_far.more h) (records ++ so_far.more) old new d
      → SavedSo number (recover_changes the_profile (client_of the_profile records) count all) records new d
  ends_refused records h left old new c d so_far did =
      let now = records ++ so_far.more in
      let step = next count records so_far.more h in
      let whole : recover_changes the_profile (client_of the_profile records) count all ≡ behind so_far.more so_far.lines (record { records = step.records; answer = Refuses did.0 ∷ [] }) =
      so_far.goes ∙ ap (behind so_far.more so_far.lines) (ap (λ a. handled h.number step.records a (λ new. recover_changes the_profile (after_records the_profile (client_of the_profile now) new) count left)) did.1) in
      subst (λ s. SavedSo number s records new d) (sym whole) (record {
        text_is = did.2 ∙ ap (λ t. t ++ recovery_line number (Refuses did.0)) so_far.text_is
            ∙ sym (flat_map-append (recovery_line number) so_far.lines (Refuses did.0 ∷ []) ∙ ap (λ t. flat_map (recovery_line number) so_far.lines ++ t) (append-nil (recovery_line number (Refuses did.0))));
        client = subst (λ rs. ClientStands rs d) (append_assoc records so_far.more step.records) did.3;
        ident = ap (λ rs. (client_of the_profile rs).ident) (sym (append_assoc records so_far.more step.records)) ∙ ap (λ m. m.ident) (after_append the_profile (no_client the_profile) now step.records)
            ∙ ident_after (client_of the_profile now) (client_of the_profile now).ident count h ∙ so_far.ident;
      })

  -- none is left
  pub ends_whole : (records : List ClientRecord) (text : List ℕ) (c : Client D G) (left : List Change) → left ≡ [] → SoFar left records text c → SavedSo number (recover_changes the_profile (client_of the_profile records) count all) records text c
  ends_whole records text c left none so_far =
      let whole : recover_changes the_profile (client_of the_profile records) count all ≡ behind so_far.more so_far.lines (record { records = []; answer = [] }) =
      so_far.goes ∙ ap (λ l. behind so_far.more so_far.lines (recover_changes the_profile (client_of the_profile (records ++ so_far.more)) count l)) none in
      subst (λ s. SavedSo number s records text c) (sym whole) (record {
        text_is = so_far.text_is ∙ ap (flat_map (recovery_line number)) (sym (append-nil so_far.lines));
        client = subst (λ rs. ClientStands rs c) (ap (λ rs. records ++ rs) (sym (append-nil so_far.more))) so_far.client;
        ident = ap (λ rs. (client_of the_profile (records ++ rs)).ident) (append-nil so_far.more) ∙ so_far.ident;
      })

-- ---- an Upload
pub left_at : (changes : List ChangeParts) (i : ℕ) (h : ChangeParts) → i < length changes → h ≡ get_or changes i h → map change_seen (drop i changes) ≡ change_seen h ∷ map change_seen (drop (i + 1) changes)
left_at changes i h inside is = at_drop_more (map change_seen) changes i h inside ∙ ap (λ x. change_seen x ∷ map change_seen (drop (i + 1) changes)) (sym is)

pub none_left : (changes : List ChangeParts) (i : ℕ) → length changes ≤ i → map change_seen (drop i changes) ≡ []
none_left changes i past = ap (map change_seen) (drop_of_length-le changes past)

module _ {D : Type 0} {G : Ghosts D} (number : ℕ) (counts : Counts) (ident : ℕ) (hs : List Change) (records : List ClientRecord) (heard : List RetiredParts) (c : Client D G) where
  abbrev heir_now : Model Instr State
  heir_now = client_of the_profile records

  abbrev did_of : Option ℕ → Recovered
  did_of o = recover_upload the_profile heir_now counts o hs

  abbrev AnswersUpload : Option ℕ → Result (Vec ℕ Global) ItemEnd → Type 0
  AnswersUpload o r = IfOk r (λ text. AnswersSo (Some (recovered number (did_of o))) records text.items (λ rs. RecovererStands (did_of o).known rs heard c))

  -- of which the count is known
  pub upload_so : (o : Option ℕ) (count : ℕ) (r : Result (Vec ℕ Global) ItemEnd) → o ≡ Some count → counts ≡ counts_of heard → mine heir_now.ident heard → IfOk r (λ text. SavedSo number (recover_changes the_profile heir_now count hs) records text.items c)
      → AnswersUpload o r
  upload_so o count r known counts_is ours saved = subst (λ p. AnswersUpload p r) (sym known) (on r saved)
    where
      on : (r : Result (Vec ℕ Global) ItemEnd) → IfOk r (λ text. SavedSo number (recover_changes the_profile heir_now count hs) records text.items c) → AnswersUpload (Some count) r
      on (Ok text) s = record {
        answer = recovered number (did_of (Some count));
        is = refl;
        text_is = s.text_is;
        stands = record { client = s.client; counts_is = counts_is; mine_is = subst (λ i. mine i heard) (sym s.ident) ours };
      }
      on (Err why) s = tt

  -- of which it isn't
  pub upload_not : (o : Option ℕ) (r : Result (Vec ℕ Global) ItemEnd) → o ≡ None → IfOk r (λ text. text.items ≡ recovery_line number NoRetired) → RecovererStands counts records heard c → AnswersUpload o r
  upload_not o r none is stands = subst (λ p. AnswersUpload p r) (sym none)
      (line_so r (recovery_line number NoRetired) (λ text. AnswersSo (Some (recovered number (did_of None))) records text (λ rs. RecovererStands counts rs heard c)) is
      (says_so number (says_only counts NoRetired) NoRetired counts (recovery_line number NoRetired) records heard c refl refl stands))
