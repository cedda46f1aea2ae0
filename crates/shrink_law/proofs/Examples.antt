-- Short files that are one, and that are none; what goes wrong in still shorter ones; files that were put back from a backup. All of it is computed.
use Rattle.sync_model.specs.Servers as servers
use Rattle.std.proofs.Common.{◌≡◌, inl, ℕ, Bool, true, false, Ok, Err, List, [], ◌∷◌, ◌++◌, refl}
use Rattle.sync_theory.specs.Toy.{Add, Sheet}
use Rattle.sync_model.specs.Bytes.{Uuid}
use Rattle.sync_model.specs.Messages.{Change, Upload, Download, Stored, Retired}
use Rattle.sync_model.specs.Clients.{ClientRecord, Born, Named, Made, Took, Form, Subset, Part, Floor, Resumed, Waits, TooLate, Forked, no_client, client_of, commit, subscribe, take, to_upload}
use Rattle.sync_model.specs.Files.{client_opens}
use Rattle.sync_model.specs.Servers.{ServerRecord, server_of, server_objects, serve, count, entries_from, no_server}
use Rattle.sync_model.specs.Rescues.{LivesOn}
use Rattle.sync_model.specs.Resets.{recover, IsHeir, Handled, Integrated, SavedAs}
use Rattle.sync_model.specs.Toy.{toy}
use Rattle.shrink_law.specs.Short.{short_records}

abbrev uuid : ℕ → Uuid
uuid n = 0 ∷ 0 ∷ 0 ∷ 0 ∷ 0 ∷ 0 ∷ 64 ∷ 0 ∷ 128 ∷ 0 ∷ 0 ∷ 0 ∷ 0 ∷ 0 ∷ 0 ∷ n ∷ []

abbrev sheet : ℕ → ℕ → Sheet
sheet n c = record { n = n; column = c }

abbrev change : ℕ → ℕ → ℕ → List ℕ → Change
change number base ms body = record { number = number; base = base; ms = ms; body = body }

-- ---- shorter files

-- a server that has two changes of client 1
abbrev two : List ServerRecord
two = servers.Client (uuid 1) ∷ servers.Entry 1 1 0 1 (0 ∷ 3 ∷ []) ∷ servers.Entry 1 2 0 2 (1 ∷ 4 ∷ []) ∷ []

-- that client's file
abbrev whole : List ClientRecord
whole = Born (uuid 1) ∷ Made 1 1 (0 ∷ 3 ∷ []) ∷ Made 2 2 (1 ∷ 4 ∷ []) ∷ Named 1 ∷ Took 1 1 1 (0 ∷ 3 ∷ []) ∷ Took 1 2 2 (1 ∷ 4 ∷ []) ∷ []

-- its objects and its cursor alone: as a client that begins with a state, and has its ident
abbrev objects_alone : List ClientRecord
objects_alone = Born (uuid 1) ∷ Part (0 ∷ 7 ∷ []) ∷ Floor 2 ∷ Named 1 ∷ []

objects_alone_opens : client_opens toy (no_client toy) objects_alone ≡ true
objects_alone_opens = refl

-- its next transaction gets a number that was given, and the server takes it for a repeat: nothing is recorded
number_given_again : (commit toy (client_of toy objects_alone) 9 (Add 1 ∷ [])).answer ≡ Ok 1
number_given_again = refl

lost : serve toy (server_of toy two) (Upload 1 (to_upload toy (client_of toy (objects_alone ++ Made 1 9 (1 ∷ 1 ∷ []) ∷ [])))) ≡ record { records = []; answer = Stored 1 2 }
lost = refl

-- the short file gives the next number
short_of_whole : short_records toy (client_of toy whole) ≡ Born (uuid 1) ∷ Resumed 2 0 ∷ Part (0 ∷ 7 ∷ []) ∷ Floor 2 ∷ Named 1 ∷ []
short_of_whole = refl

short_gives_on : (commit toy (client_of toy (short_records toy (client_of toy whole))) 9 (Add 1 ∷ [])).answer ≡ Ok 3
short_gives_on = refl

-- a client that made nothing and took nothing may still name its tables; with its version at the beginning of its file it may not
still_early : (subscribe (client_of toy (Born (uuid 9) ∷ [])) []).answer ≡ Ok tt
still_early = refl

too_late : (subscribe (client_of toy (Born (uuid 9) ∷ Floor 0 ∷ [])) []).answer ≡ Err TooLate
too_late = refl

short_of_early : short_records toy (client_of toy (Born (uuid 9) ∷ [])) ≡ Born (uuid 9) ∷ []
short_of_early = refl

-- ---- an unsent changeset needs both its lists: as it was made, and as it was carried

-- client 1 set the number to 5 at time 10, before it took an entry of client 2, which sets it to 9 at time 20 and so wins
abbrev later_wins : List ServerRecord
later_wins = servers.Client (uuid 1) ∷ servers.Client (uuid 2) ∷ servers.Entry 2 1 0 20 (0 ∷ 9 ∷ []) ∷ []

abbrev waiting : List ClientRecord
waiting = Born (uuid 1) ∷ Made 1 10 (0 ∷ 5 ∷ []) ∷ Named 1 ∷ Took 2 1 20 (0 ∷ 9 ∷ []) ∷ []

has_nine : (client_of toy waiting).objects ≡ sheet 9 0
has_nine = refl

-- put back as it was made, at the cursor: the earlier setting wins, at the client and at the server
abbrev made_again : List ClientRecord
made_again = Born (uuid 1) ∷ Part (0 ∷ 9 ∷ []) ∷ Floor 1 ∷ Made 1 10 (0 ∷ 5 ∷ []) ∷ Named 1 ∷ []

has_five : (client_of toy made_again).objects ≡ sheet 5 0
has_five = refl

server_has_five : server_objects toy (server_of toy (later_wins ++ (serve toy (server_of toy later_wins) (Upload 1 (to_upload toy (client_of toy made_again)))).records)) ≡ sheet 5 0
server_has_five = refl

-- the short file: both lists, of which the second is empty, and the base
short_of_waiting : short_records toy (client_of toy waiting) ≡ Born (uuid 1) ∷ Resumed 0 1 ∷ Waits 1 0 10 (0 ∷ 5 ∷ []) [] ∷ Part (0 ∷ 9 ∷ []) ∷ Floor 1 ∷ Named 1 ∷ []
short_of_waiting = refl

server_has_nine : server_objects toy (server_of toy (later_wins ++ (serve toy (server_of toy later_wins) (Upload 1 (to_upload toy (client_of toy (short_records toy (client_of toy waiting)))))).records)) ≡ sheet 9 0
server_has_nine = refl

-- with the first list alone the client can't tell its own entry: the server's is empty
forgot_current : (take toy (client_of toy (Born (uuid 1) ∷ Part (0 ∷ 9 ∷ []) ∷ Floor 1 ∷ Made 1 10 (0 ∷ 5 ∷ []) ∷ Named 1 ∷ [])) (Download 1 1 (record { origin = 1; number = 1; ms = 10; body = [] } ∷ []))).answer ≡ Err (Forked 1)
forgot_current = refl

own_entry_taken : (take toy (client_of toy (short_records toy (client_of toy waiting))) (Download 1 1 (record { origin = 1; number = 1; ms = 10; body = [] } ∷ []))).answer ≡ Ok 2
own_entry_taken = refl

-- ---- what is no short file

-- opening accepts these records
abbrev opens : List ClientRecord → Bool
opens rs = client_opens toy (no_client toy) rs

-- the file above, and what may stand behind it
abbrev short : List ClientRecord → List ClientRecord
short rest = Born (uuid 1) ∷ Resumed 0 1 ∷ Waits 1 0 10 (0 ∷ 5 ∷ []) [] ∷ Part (0 ∷ 9 ∷ []) ∷ Floor 1 ∷ rest

is_one : opens (short (Named 1 ∷ Made 2 30 (1 ∷ 4 ∷ []) ∷ [])) ≡ true
is_one = refl

-- the next transaction has the next number
number_again : opens (short (Named 1 ∷ Made 1 30 (1 ∷ 4 ∷ []) ∷ [])) ≡ false
number_again = refl

-- a front comes once, and right behind the uuid and the form
second_front : opens (short (Resumed 0 0 ∷ Floor 1 ∷ [])) ≡ false
second_front = refl

front_without_uuid : opens (Resumed 0 0 ∷ Floor 1 ∷ []) ≡ false
front_without_uuid = refl

front_behind_made : opens (Born (uuid 1) ∷ Made 1 10 (0 ∷ 5 ∷ []) ∷ Resumed 0 0 ∷ Floor 1 ∷ []) ≡ false
front_behind_made = refl

form_within : opens (Born (uuid 1) ∷ Resumed 0 0 ∷ Form ∷ Floor 1 ∷ []) ≡ false
form_within = refl

-- as many unsent changesets as were told, in order, and then the parts and the cursor
one_missing : opens (Born (uuid 1) ∷ Resumed 0 2 ∷ Waits 1 0 10 (0 ∷ 5 ∷ []) [] ∷ Part (0 ∷ 9 ∷ []) ∷ Floor 1 ∷ []) ≡ false
one_missing = refl

one_more : opens (Born (uuid 1) ∷ Resumed 0 0 ∷ Waits 1 0 10 (0 ∷ 5 ∷ []) [] ∷ Part (0 ∷ 9 ∷ []) ∷ Floor 1 ∷ []) ≡ false
one_more = refl

number_left_out : opens (Born (uuid 1) ∷ Resumed 0 1 ∷ Waits 2 0 10 (0 ∷ 5 ∷ []) [] ∷ Part (0 ∷ 9 ∷ []) ∷ Floor 1 ∷ []) ≡ false
number_left_out = refl

base_beyond : opens (Born (uuid 1) ∷ Resumed 0 1 ∷ Waits 1 2 10 (0 ∷ 5 ∷ []) [] ∷ Part (0 ∷ 9 ∷ []) ∷ Floor 1 ∷ []) ≡ false
base_beyond = refl

tables_between : opens (Born (uuid 1) ∷ Resumed 0 1 ∷ Waits 1 0 10 (0 ∷ 5 ∷ []) [] ∷ Subset [] ∷ Part (0 ∷ 9 ∷ []) ∷ Floor 1 ∷ []) ≡ false
tables_between = refl

waits_alone : opens (Born (uuid 1) ∷ Waits 1 0 10 (0 ∷ 5 ∷ []) [] ∷ []) ≡ false
waits_alone = refl

-- no file ends within a front
ends_behind_counts : opens (Born (uuid 1) ∷ Resumed 0 1 ∷ []) ≡ false
ends_behind_counts = refl

ends_behind_waits : opens (Born (uuid 1) ∷ Resumed 0 1 ∷ Waits 1 0 10 (0 ∷ 5 ∷ []) [] ∷ []) ≡ false
ends_behind_waits = refl

ends_behind_parts : opens (Born (uuid 1) ∷ Resumed 0 1 ∷ Waits 1 0 10 (0 ∷ 5 ∷ []) [] ∷ Part (0 ∷ 9 ∷ []) ∷ []) ≡ false
ends_behind_parts = refl

-- ---- a file that was put back from a backup

-- of the whole file the first transaction stands again, and another second one was made
abbrev put_back : List ClientRecord
put_back = Born (uuid 1) ∷ Made 1 1 (0 ∷ 3 ∷ []) ∷ Named 1 ∷ Took 1 1 1 (0 ∷ 3 ∷ []) ∷ Made 2 8 (1 ∷ 1 ∷ []) ∷ []

put_back_opens : client_opens toy (no_client toy) put_back ≡ true
put_back_opens = refl

-- the server takes it for a repeat, and says that it is stored
taken_for_a_repeat : serve toy (server_of toy two) (Upload 1 (to_upload toy (client_of toy put_back))) ≡ record { records = []; answer = Stored 1 2 }
taken_for_a_repeat = refl

not_told : (take toy (client_of toy put_back) (Stored 1 2)).answer ≡ Ok 1
not_told = refl

-- the entries of the history tell
told : (take toy (client_of toy put_back) (Download 1 1 (record { origin = 1; number = 2; ms = 2; body = 1 ∷ 4 ∷ [] } ∷ []))).answer ≡ Err (Forked 2)
told = refl

-- an heir that retires its ident says that the second transaction is integrated, which isn't in the history
abbrev given_up : List ServerRecord
given_up = two ++ servers.Client (uuid 2) ∷ servers.Retired 1 2 ∷ []

abbrev heir_file : List ClientRecord
heir_file = Born (uuid 2) ∷ Named 2 ∷ Took 1 1 1 (0 ∷ 3 ∷ []) ∷ Took 1 2 2 (1 ∷ 4 ∷ []) ∷ []

says_integrated : recover toy (client_of toy heir_file) (Retired 1 2 2 ∷ Upload 1 (to_upload toy (client_of toy put_back)) ∷ []) ≡ record { records = []; answer = (IsHeir 1 2 ∷ []) ∷ (Handled 2 Integrated ∷ []) ∷ [] }
says_integrated = refl

-- and the law's words for it hold: there is an entry of that number
lives_on : LivesOn toy given_up 1 put_back heir_file 1
lives_on = inl refl

-- by the number that the old client itself saw of its own in the history, its change is saved
saved_by_its_own_count : recover toy (client_of toy heir_file) (Retired 1 2 1 ∷ Upload 1 (to_upload toy (client_of toy put_back)) ∷ []) ≡ record { records = Made 1 8 (1 ∷ 1 ∷ []) ∷ []; answer = (IsHeir 1 1 ∷ []) ∷ (Handled 2 (SavedAs 1 []) ∷ []) ∷ [] }
saved_by_its_own_count = refl

-- more transactions than the server has: the third is integrated without the second, which it was made after
abbrev put_back_further : List ClientRecord
put_back_further = Born (uuid 1) ∷ Made 1 1 (0 ∷ 3 ∷ []) ∷ Named 1 ∷ Took 1 1 1 (0 ∷ 3 ∷ []) ∷ Made 2 8 (1 ∷ 1 ∷ []) ∷ Made 3 9 (1 ∷ 2 ∷ []) ∷ []

integrated_without : serve toy (server_of toy two) (Upload 1 (to_upload toy (client_of toy put_back_further))) ≡ record { records = servers.Entry 1 3 1 9 (1 ∷ 2 ∷ []) ∷ []; answer = Stored 1 3 }
integrated_without = refl
