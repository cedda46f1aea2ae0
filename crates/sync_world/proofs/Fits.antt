-- Times and uuids of the records that calls append.
use Rattle.std.proofs.Common.{◌≡◌, ℕ, suc, ◌<◌, ◌^◌, ◌-◌, Bool, true, false, not, ◌&&◌, nat_lt, nat_le, ◌==◌, if◌then◌else◌, List, [], ◌∷◌, ◌++◌, drop, length, map, Option, None, Some, Result, Ok, Err, bytes_eq}
use Rattle.std.specs.List.{AllByRecursion}
use Rattle.std.proofs.lemmas.List.Elements.{recursion_from_All}
use Rattle.sync_data.specs.declared.instr.Instr.{Instr}
use Rattle.sync_base.specs.States.{State}
use Rattle.sync_messages.specs.Parts.{ChangeParts, SentParts}
use Rattle.sync_messages.specs.Whole.{IsWholeChange, IsWholeEntry, IsMessage}
use Rattle.sync_messages.specs.declared.message.Message.{Message as CodeMessage}
use Rattle.sync_messages.specs.declared.message.Message.TheVariants as messages
use Rattle.sync_theory.specs.Changesets.{Changeset}
use Rattle.sync_model.specs.Bytes.{Uuid, Tables}
use Rattle.sync_model.specs.Profile.{apply_all, first_need, first_outside, needs, Stuck}
use Rattle.sync_model.specs.Messages.{Change, Sent, Message, Bind, Ident, Upload, Ask, Download, Refused, Stored, Ask2, Retire, Retired, AskTables}
use Rattle.sync_model.specs.Each.{Each, no_more, and_each}
use Rattle.sync_model.specs.Clients.{Client, ClientRecord, ClientRefusal, ClientStep, Named, Made, Form, Subset, TooLarge, NumbersFull, OldForm, NotSubscribed, TooLate, NotMine, IdentDiffers, Gap, WasRefused, after_record, answers, appends, commit, commit_applied, commit_born, entry_refusal, if_born, refuse, take as take_message, take_born, take_entries, take_ident, take_one, took, upgrade, subscribe, subscribed_once, is_late}
use Rattle.sync_model.specs.Servers.{Server, ServerRecord, ServerRefusal, ServerStep, IdentRetired, SelfRetire, RetiredBy, NumberGap, BaseBack, AheadOfHistory, HistoryFull, NoSuchIdent, IdentsFull, after_all, carried_change, count, download, download_first, download_tables, heir_of, is_given, is_retired, last_base, marking, marks_new, merge, retire_for, serve_retire, merge_applied, merge_carried, merge_read, merged, new_records, place_of, refuses, replies, serve, serve_changes, server_objects, if_there, entries_from}
use Rattle.sync_theory.specs.Logs.{of_origin}
use Rattle.sync_model.proofs.Limits.{each_append, each_drop}
use Rattle.sync_exchange.specs.Profile.{the_profile}
use Rattle.sync_exchange.specs.Seen.{change_seen, message_seen, sent_seen}
use Rattle.sync_world.specs.Nodes.{FitsClient, FitsServer}

-- ---- messages
abbrev pub FitsMessage : Message → Type 0
FitsMessage (Bind id) = length id ≡ 16
FitsMessage (Ident id ident) = Unit {0}
FitsMessage (Upload ident changes) = Each (λ h. h.ms < 2 ^ 64) changes
FitsMessage (Ask ident cursor settled) = Unit {0}
FitsMessage (Download ident from entries) = Each (λ e. e.ms < 2 ^ 64) entries
FitsMessage (Refused ident number code place) = Unit {0}
FitsMessage (Stored ident number) = Unit {0}
FitsMessage (Ask2 ident cursor settled) = Unit {0}
FitsMessage (Retire ident by) = Unit {0}
FitsMessage (Retired ident by number) = Unit {0}
FitsMessage (AskTables ident cursor settled second tables) = Unit {0}

changes_fit : (hs : List ChangeParts) → AllByRecursion IsWholeChange hs → Each (λ h. h.ms < 2 ^ 64) (map change_seen hs)
changes_fit [] all = no_more
changes_fit (h ∷ hs) all = and_each all.0.3 (changes_fit hs all.1)

entries_fit : (es : List SentParts) → AllByRecursion IsWholeEntry es → Each (λ e. e.ms < 2 ^ 64) (map sent_seen es)
entries_fit [] all = no_more
entries_fit (e ∷ es) all = and_each all.0.3 (entries_fit es all.1)

pub message_fits : (m : CodeMessage) → IsMessage m → FitsMessage (message_seen m)
message_fits (messages.Bind uuid) is = is
message_fits (messages.Ident given) is = tt
message_fits (messages.Upload upload) is = changes_fit upload.changes (recursion_from_All IsWholeChange upload.changes is.2)
message_fits (messages.Ask ask) is = tt
message_fits (messages.Download download) is = entries_fit download.entries (recursion_from_All IsWholeEntry download.entries is.2)
message_fits (messages.Refused ident number code place) is = tt
message_fits (messages.Stored stored) is = tt
message_fits (messages.Ask2 ask) is = tt
message_fits (messages.Retire retire) is = tt
message_fits (messages.Retired retired) is = tt
message_fits (messages.AskTables ask) is = tt

-- ---- a client
abbrev pub Fit : List ClientRecord → Type 0
Fit rs = Each FitsClient rs

pub commit_fits : (c : Client Instr State) (ms : ℕ) (edits : List Instr) → ms < 2 ^ 64 → Fit (commit the_profile c ms edits).records
commit_fits c ms edits small = on c.id
  where
    applied : (n : ℕ) (body : List ℕ) (r : Result State (ℕ × ℕ)) → Fit (commit_applied n (Made n ms body) r).records
    applied n body (Ok t) = and_each small no_more
    applied n body (Err b) = no_more

    tests : (a b d e : Bool) (x y z t : ClientStep ℕ) (n : ℕ) (body : List ℕ) (r : Result State (ℕ × ℕ)) → Fit x.records → Fit y.records → Fit z.records → Fit t.records
        → Fit (if a then x else (if b then y else (if d then z else (if e then t else commit_applied n (Made n ms body) r)))).records
    tests true b d e x y z t n body r f g h k = f
    tests false true d e x y z t n body r f g h k = g
    tests false false true e x y z t n body r f g h k = h
    tests false false false true x y z t n body r f g h k = k
    tests false false false false x y z t n body r f g h k = applied n body r

    on : (o : Option Uuid) → Fit (if_born o (λ id. commit_born the_profile c ms edits)).records
    on None = no_more
    on (Some id) = tests _ _ _ _ (refuse TooLarge) (refuse NumbersFull) (refuse (OldForm (first_need the_profile edits))) (refuse (NotSubscribed (first_outside the_profile c.subset edits))) _ _ _ no_more no_more no_more no_more

pub upgrade_fits : (c : Client Instr State) → Fit (upgrade c).records
upgrade_fits c = on c.id c.second
  where
    on : (o : Option Uuid) (b : Bool) → Fit (if_born o (λ id. if b then answers false else appends Form true)).records
    on None b = no_more
    on (Some id) true = no_more
    on (Some id) false = and_each tt no_more

pub subscribe_fits : (c : Client Instr State) (tables : Tables) → FitsClient (Subset tables) → Fit (subscribe c tables).records
subscribe_fits c tables fits = on c.id c.subset (is_late c)
  where
    on : (o : Option Uuid) (t : Option Tables) (b : Bool) → Fit (if_born {A = Unit {0}} o (λ id. subscribed_once t (if b then refuse TooLate else appends (Subset tables) (tt {0})))).records
    on None t b = no_more
    on (Some id) (Some t) b = no_more
    on (Some id) None true = no_more
    on (Some id) None false = and_each fits no_more

took_fit : (es : List Sent) (c : Client Instr State) → Each (λ e. e.ms < 2 ^ 64) es → Fit (take_entries the_profile c es).records
took_fit [] c all = no_more
took_fit (e ∷ es) c (and_each h all) = on (entry_refusal the_profile c e) (took_fit es (after_record the_profile c (took e)) all)
  where
    on : (r : Option ClientRefusal) → Fit (take_entries the_profile (after_record the_profile c (took e)) es).records → Fit (take_one r (took e) (take_entries the_profile (after_record the_profile c (took e)) es)).records
    on (Some why) g = no_more
    on None g = and_each h g

pub take_fits : (c : Client Instr State) (m : Message) → FitsMessage m → Fit (take_message the_profile c m).records
take_fits c m fits = at_id c.id
  where
    refused : {A : Type 0} (b : Bool) (y : ClientStep A) (why : ClientRefusal) → Fit y.records → Fit (if b then y else refuse why).records
    refused true y why f = f
    refused false y why f = no_more

    identified : (k : ℕ) → Fit (take_ident c k).records
    identified k = go (c.ident == 0) (c.ident == k)
      where
        go : (a b : Bool) → Fit (if a then appends (Named k) c.cursor else (if b then answers c.cursor else refuse (IdentDiffers c.ident k))).records
        go true b = and_each tt no_more
        go false true = no_more
        go false false = no_more

    downloaded : (from : ℕ) (es : List Sent) → Each (λ e. e.ms < 2 ^ 64) es → Fit (if nat_lt c.cursor from then refuse (Gap c.cursor from) else take_entries the_profile c (drop (c.cursor - from) es)).records
    downloaded from es f = go (nat_lt c.cursor from)
      where
        go : (b : Bool) → Fit (if b then refuse (Gap c.cursor from) else take_entries the_profile c (drop (c.cursor - from) es)).records
        go true = no_more
        go false = took_fit (drop (c.cursor - from) es) c (each_drop (c.cursor - from) f)

    on : (m : Message) → FitsMessage m → (id : Uuid) → Fit (take_born the_profile c m id).records
    on (Bind u) k id = no_more
    on (Upload a hs) k id = no_more
    on (Ask a b d) k id = no_more
    on (Ask2 a b d) k id = no_more
    on (Retire a b) k id = no_more
    on (Retired a b d) k id = no_more
    on (AskTables a b d e t) k id = no_more
    on (Ident u a) k id = refused (bytes_eq u id) (take_ident c a) NotMine (identified a)
    on (Stored a b) k id = refused (a == c.ident) (answers c.cursor) NotMine no_more
    on (Refused a b d e) k id = refused (a == c.ident) (refuse (WasRefused b d)) NotMine no_more
    on (Download a from es) k id = refused (a == c.ident) _ NotMine (downloaded from es k)

    at_id : (o : Option Uuid) → Fit (if_born o (take_born the_profile c m)).records
    at_id None = no_more
    at_id (Some id) = on m fits id

-- ---- the server
abbrev pub Fits : List ServerRecord → Type 0
Fits rs = Each FitsServer rs

abbrev FitResult : Result (List ServerRecord) ServerRefusal → Type 0
FitResult (Ok new) = Fits new
FitResult (Err why) = Unit {0}

module _ (s : Server Instr) (c : ℕ) (h : Change) (small : h.ms < 2 ^ 64) where
  new_fit : (is : List Instr) → Fits (new_records the_profile s c h is)
  new_fit is = go (needs the_profile is && not s.second)
    where
      go : (b : Bool) → Fits ((if b then ServerRecord.Form ∷ [] else []) ++ ServerRecord.Entry c h.number h.base h.ms h.body ∷ [])
      go true = and_each tt (and_each small no_more)
      go false = and_each small no_more

  merge_fits : FitResult (merge the_profile s c h)
  merge_fits = tests (is_retired (heir_of c s.retired)) (nat_lt (suc (count s c)) h.number) (nat_lt h.base (last_base (of_origin c s.log))) (nat_lt (length s.log) h.base) (length s.log == the_profile.full)
      (IdentRetired (count s c), NumberGap (suc (count s c)), BaseBack (last_base (of_origin c s.log)), AheadOfHistory (length s.log), HistoryFull (length s.log)) (the_profile.unspell h.body)
    where
      applied : (new : List ServerRecord) → Fits new → (r : Result State (ℕ × ℕ)) → FitResult (merge_applied new r)
      applied new f (Ok t) = f
      applied new f (Err b) = tt

      carried : (new : List ServerRecord) → Fits new → (r : Result (Changeset Instr × List (Changeset Instr)) Stuck) → FitResult (merge_carried the_profile s new r)
      carried new f (Ok q) = applied new f (apply_all the_profile q.0.instrs (server_objects the_profile s))
      carried new f (Err m) = tt

      read : (r : Result (List Instr) (ℕ × ℕ)) → FitResult (merge_read the_profile s c h r)
      read (Ok is) = carried (new_records the_profile s c h is) (new_fit is) (carried_change the_profile s c h is)
      read (Err f) = tt

      tests : (k a b d e : Bool) (whys : ServerRefusal × ServerRefusal × ServerRefusal × ServerRefusal × ServerRefusal) (r : Result (List Instr) (ℕ × ℕ))
          → FitResult (if k then Err whys.0 else (if a then Err whys.1 else (if b then Err whys.2 else (if d then Err whys.3 else (if e then Err whys.4 else merge_read the_profile s c h r)))))
      tests true a b d e whys r = tt
      tests false true b d e whys r = tt
      tests false false true d e whys r = tt
      tests false false false true e whys r = tt
      tests false false false false true whys r = tt
      tests false false false false false whys r = read r

changes_served : (hs : List Change) (s : Server Instr) (c : ℕ) → Each (λ h. h.ms < 2 ^ 64) hs → Fits (serve_changes the_profile s c hs).records
changes_served [] s c all = no_more
changes_served (h ∷ hs) s c (and_each small all) = on (nat_le h.number (count s c)) (merge the_profile s c h) (merge_fits s c h small) (λ t. changes_served hs t c all)
  where
    one : (r : Result (List ServerRecord) ServerRefusal) → FitResult r → ((t : Server Instr) → Fits (serve_changes the_profile t c hs).records) → Fits (merged c h.number r (λ new. serve_changes the_profile (after_all the_profile s new) c hs)).records
    one (Ok new) f rest = each_append f (rest (after_all the_profile s new))
    one (Err why) f rest = no_more

    on : (b : Bool) (r : Result (List ServerRecord) ServerRefusal) → FitResult r → ((t : Server Instr) → Fits (serve_changes the_profile t c hs).records) → Fits (if b then serve_changes the_profile s c hs else merged c h.number r (λ new. serve_changes the_profile (after_all the_profile s new) c hs)).records
    on true r f rest = rest s
    on false r f rest = one r f rest

-- a settled number that is new is marked
marked : (c mark cursor settled : ℕ) (m : Message) → Fits (marking c mark cursor settled m).records
marked c mark cursor settled m = on (marks_new mark cursor settled m)
  where
    on : (b : Bool) → Fits (if b then ServerRecord.Settled c settled ∷ [] else [])
    on true = and_each tt no_more
    on false = no_more

asked : (s : Server Instr) (c cursor settled : ℕ) (go : List (Changeset Instr) → ServerStep) → Fits (if_there the_profile s c cursor settled go).records
asked s c cursor settled go = on (not (is_given s c)) (nat_lt (length s.log) cursor) (entries_from the_profile s.log (length s.log - cursor) cursor)
  where
    on : (a b : Bool) (xs : List (Changeset Instr)) → Fits (if a then refuses c 0 (NoSuchIdent (length s.ids)) else (if b then refuses c 0 (AheadOfHistory (length s.log)) else marking c (s.marks c) cursor settled (go xs).answer)).records
    on true b xs = no_more
    on false true xs = no_more
    on false false xs = marked c (s.marks c) cursor settled (go xs).answer

retires : (s : Server Instr) (c by : ℕ) → Fits (serve_retire s c by).records
retires s c by = on (not (is_given s c && is_given s by)) (c == by) (heir_of c s.retired)
  where
    again : (b : Bool) (other : ℕ) → Fits (if b then replies (Retired c by (count s c)) else refuses by 0 (RetiredBy other)).records
    again true other = no_more
    again false other = no_more

    once : (o : Option ℕ) → Fits (retire_for s c by o).records
    once None = and_each tt no_more
    once (Some other) = again (other == by) other

    on : (a b : Bool) (o : Option ℕ) → Fits (if a then refuses by 0 (NoSuchIdent (length s.ids)) else (if b then refuses by 0 (SelfRetire c) else retire_for s c by o)).records
    on true b o = no_more
    on false true o = no_more
    on false false o = once o

pub serve_fits : (s : Server Instr) (m : Message) → FitsMessage m → Fits (serve the_profile s m).records
serve_fits s (Bind u) fits = on (not (place_of u s.ids == 0)) (length s.ids == the_profile.full)
  where
    on : (a b : Bool) → Fits (if a then replies (Ident u (place_of u s.ids)) else (if b then refuses 0 0 (IdentsFull (length s.ids)) else record { records = ServerRecord.Client u ∷ []; answer = Ident u (suc (length s.ids)) })).records
    on true b = no_more
    on false true = no_more
    on false false = and_each fits no_more
serve_fits s (Upload c hs) fits = on (is_given s c)
  where
    on : (b : Bool) → Fits (if b then serve_changes the_profile s c hs else refuses c 0 (NoSuchIdent (length s.ids))).records
    on true = changes_served hs s c fits
    on false = no_more
serve_fits s (Ask c cursor settled) fits = asked s c cursor settled (download_first the_profile c cursor)
serve_fits s (Ask2 c cursor settled) fits = asked s c cursor settled (download the_profile c cursor)
serve_fits s (AskTables c cursor settled second tables) fits = asked s c cursor settled (download_tables the_profile second tables c cursor)
serve_fits s (Retire c by) fits = retires s c by
serve_fits s (Ident u c) fits = no_more
serve_fits s (Download c from es) fits = no_more
serve_fits s (Stored c number) fits = no_more
serve_fits s (Refused c number code place) fits = no_more
serve_fits s (Retired c by number) fits = no_more
