-- Small cases, worked out by hand and computed: notes in files, the test, and a transaction that is saved twice.
use Rattle.std.proofs.Common.{◌≡◌, ℕ, true, false, [], ◌∷◌, Some, None, refl, arith, if◌then◌else◌, ◌==◌, ◌&&◌, ◌||◌}
use Rattle.sync_model.specs.Servers.{ServerRecord, Entry, Form}
use Rattle.lives_law.specs.Heirs.{Act, own, saves, Entry as Told, reached}
use Rattle.lives_law.specs.Stored.{it, note, entry_by, kept_of, with_notes, passes}
use Rattle.lives_law.specs.Saving.{history, IsNew}

-- the entries of ident 1 with numbers 1, 2 and 3, and one of ident 2
abbrev first : ServerRecord
first = Entry 1 1 0 0 []

abbrev second : ServerRecord
second = Entry 1 2 0 0 []

abbrev third : ServerRecord
third = Entry 1 3 0 0 []

abbrev others : ServerRecord
others = Entry 2 1 0 0 []

-- a note stands before the first entry of a life, and no other
notes_are_few : with_notes entry_by 1 None (7 ∷ 7 ∷ 8 ∷ []) (Form ∷ first ∷ second ∷ third ∷ []) ≡ it Form ∷ note 1 7 ∷ it first ∷ it second ∷ note 1 8 ∷ it third ∷ []
notes_are_few = refl

notes_go_on : with_notes entry_by 1 (Some 7) (7 ∷ 8 ∷ []) (second ∷ third ∷ []) ≡ it second ∷ note 1 8 ∷ it third ∷ []
notes_go_on = refl

-- a stop between a note and its entry leaves the life of the entry before; each ident has its own
a_note_alone : (kept_of entry_by 1 (note 1 7 ∷ it first ∷ note 1 8 ∷ [])).last ≡ Some 7
a_note_alone = refl

after_that : (kept_of entry_by 1 (note 1 7 ∷ it first ∷ note 1 8 ∷ note 1 9 ∷ it second ∷ [])).last ≡ Some 9
after_that = refl

its_own : (kept_of entry_by 2 (note 1 7 ∷ it first ∷ note 2 3 ∷ it others ∷ note 1 8 ∷ it second ∷ [])).last ≡ Some 3
its_own = refl

-- a server has one transaction, of life 7. What a client tells: numbers 0 to 2, of lives 5, 7 and 7
the_same_file : passes {X = ℕ} (Some 7) 1 (record { from = 0; lives = 5 ∷ 7 ∷ 7 ∷ []; tells = 10 ∷ 20 ∷ [] }) ≡ true
the_same_file = refl

from_there_on : passes {X = ℕ} (Some 7) 1 (record { from = 1; lives = 7 ∷ 7 ∷ []; tells = 20 ∷ [] }) ≡ true
from_there_on = refl

-- put back to before it, and made anew in life 9
a_file_put_back : passes {X = ℕ} (Some 7) 1 (record { from = 0; lives = 5 ∷ 9 ∷ 9 ∷ []; tells = 30 ∷ 20 ∷ [] }) ≡ false
a_file_put_back = refl

-- put back, and nothing made since: it ends before what the server has
a_file_too_short : passes {X = ℕ} (Some 7) 2 (record { from = 0; lives = 5 ∷ 7 ∷ []; tells = 10 ∷ [] }) ≡ false
a_file_too_short = refl

-- the server was put back: it has less than the client begins with
a_server_put_back : passes {X = ℕ} None 0 (record { from = 1; lives = 7 ∷ 7 ∷ []; tells = 20 ∷ [] }) ≡ false
a_server_put_back = refl

-- ---- heirs: in life 9 number 0 saves number 1 of life 7, and in life 8 so does another's number 0

abbrev label : ℕ → ℕ → Act
label life number = if (number == 0) && ((life == 9) || (life == 8)) then saves (record { life = 7; number = 1 }) [] else own

abbrev saved : Told
saved = record { number = 0; life = 9; token = record { life = 7; number = 1 } }

abbrev again : Told
again = record { number = 0; life = 8; token = record { life = 7; number = 1 } }

it_is_told : history label (note 2 9 ∷ it (Entry 2 1 0 0 []) ∷ []) ≡ saved ∷ []
it_is_told = refl

-- what the server tells of life 7 is one above it, and of life 9 nothing
it_counts : reached (saved ∷ []) 7 ≡ 2
it_counts = refl

not_its_own : reached (saved ∷ []) 9 ≡ 0
not_its_own = refl

-- and the other's isn't new any more, nor is the original
twice : IsNew label (saved ∷ []) again → ⊥
twice n = n.fresh (omega arith)

late : IsNew label (saved ∷ []) (record { number = 1; life = 7; token = record { life = 7; number = 1 } }) → ⊥
late n = n.fresh (omega arith)
