-- What the records and notes of a client's file say of lives.
use Rattle.std.specs.Prelude.{ℕ, zero, suc, ◌-◌, Bool, true, false, ◌||◌, ◌&&◌, not, if◌then◌else◌, ◌==◌, List, [], ◌∷◌, ◌++◌, Option, Some, None, slice_get, nat_lt, bytes_eq}
use Rattle.std.specs.Option.{unwrap_or, is_some}
use Rattle.std.specs.BTreeMap.{get}
use Rattle.std.specs.Ordering.{nat_cmp}
use Rattle.sync_records.specs.declared.client.ClientRecord.{ClientRecord}
use Rattle.sync_records.specs.declared.client.ClientRecord.TheVariants as records
use Rattle.life_marks.specs.declared.pieces.ClientPiece.{ClientPiece}
use Rattle.life_marks.specs.declared.pieces.ClientPiece.TheVariants as pieces
use Rattle.life_bytes.specs.declared.note.Note.{Note}
use Rattle.life_bytes.specs.declared.note.Note.TheVariants as notes
use Rattle.life_bytes.specs.Runs.{Lives}
use Rattle.life_bytes.specs.Parts.{TokenParts, SavesParts}
use Rattle.life_marks.specs.Reached.{number_of, nothing_reached}
use Rattle.life_marks.specs.ServerMarks.{no_life, raised_by}
use Rattle.life_marks.specs.declared.client_marks.ClientMarks.{ClientMarks}
use Rattle.life_marks.specs.declared.client_marks.Before.{Before}
use Rattle.life_marks.specs.declared.client_marks.Before.TheVariants as befores

-- the first life of the history that gave the ident; the file's last life; of the history the life that was noted last and that of the
-- last entry taken; those of its transactions, the first of which is number 1; what each of these saves, if it does; of each life the
-- number of the last transaction that it made or saved; what stands right before the next record; and whether it has no lives for good
pub record Marks : Type 0 where
  pub birth : Option (List ℕ)
  pub life : Option (List ℕ)
  pub noted : Option (List ℕ)
  pub last : Option (List ℕ)
  pub numbers : Lives
  pub saves : ℕ → Option SavesParts
  pub reached : List ℕ → ℕ
  pub before : Before
  pub is_plain : Bool

abbrev pub saves_of : ClientMarks → ℕ → Option SavesParts
saves_of c number = get nat_cmp c.saves number

abbrev pub seen : ClientMarks → Marks
seen c = record { birth = c.birth; life = c.life; noted = c.noted; last = c.last; numbers = c.numbers; saves = saves_of c; reached = number_of c.reached; before = c.before; is_plain = c.is_plain }

abbrev pub no_saves : ℕ → Option SavesParts
no_saves number = None

-- those of an empty file
abbrev pub no_marks : Marks
no_marks = record { birth = None; life = None; noted = None; last = None; numbers = []; saves = no_saves; reached = nothing_reached; before = befores.Other; is_plain = false }

-- ---- a transaction

abbrev pub saves_before : Before → Option SavesParts
saves_before (befores.Saves saves) = Some saves
saves_before befores.Floor = None
saves_before befores.Other = None

-- number 0 is none
abbrev pub own_made : List ℕ → ℕ → Option TokenParts
own_made life zero = None
own_made life (suc n) = Some (record { life = life; number = suc n })

-- that of its original where it saves one, and else its own
abbrev pub token_made : Option SavesParts → List ℕ → ℕ → Option TokenParts
token_made (Some saves) life number = Some saves.token
token_made None life number = own_made life number

abbrev pub saving : Option SavesParts → ℕ → (ℕ → Option SavesParts) → ℕ → Option SavesParts
saving None number all = all
saving (Some saves) number all = λ n. if number == n then Some saves else all n

abbrev pub after_made : Marks → ℕ → Marks
after_made m number = record m {
  numbers = m.numbers ++ unwrap_or m.life no_life ∷ [];
  saves = saving (saves_before m.before) number m.saves;
  reached = raised_by (token_made (saves_before m.before) (unwrap_or m.life no_life) number) m.reached;
  before = befores.Other;
  is_plain = m.is_plain || not (is_some m.life);
}

-- ---- records and notes

-- whatever stands behind the note of what is saved, that isn't the next transaction, takes it back
abbrev pub other : Marks → Marks
other m = record m { before = befores.Other }

abbrev pub after_took : Marks → Marks
after_took m = record m { last = m.noted; before = befores.Other }

-- behind a floor it is the life of the entry before that, too
abbrev pub last_at : Before → Option (List ℕ) → List ℕ → Option (List ℕ)
last_at befores.Floor last life = Some life
last_at (befores.Saves saves) last life = last
last_at befores.Other last life = last

abbrev pub after_note : Marks → Note → Marks
after_note m (notes.Life life) = record m { life = Some life; before = befores.Other }
after_note m (notes.Birth life) = record m { birth = Some life; before = befores.Other }
after_note m (notes.Of life) = record m { noted = Some life; last = last_at m.before m.last life; before = befores.Other }
after_note m (notes.Saves saves) = record m { before = befores.Saves saves }
after_note m (notes.Member ident) = other m
after_note m (notes.Numbers numbers) = other m
after_note m (notes.Saved token) = other m
after_note m (notes.Reached token) = other m
after_note m (notes.Lives lives) = other m

abbrev pub after_record : Marks → ClientRecord → Marks
after_record m (records.Born id) = other m
after_record m (records.Named ident) = record m { is_plain = m.is_plain || not (is_some m.birth); before = befores.Other }
after_record m (records.Made number ms body) = after_made m number
after_record m (records.Took origin number ms body) = after_took m
after_record m records.Form = other m
after_record m (records.Subset tables) = other m
after_record m (records.Part body) = other m
after_record m (records.Floor version) = record m { before = befores.Floor }
after_record m (records.Resumed number waiting) = record m { is_plain = true; before = befores.Other }
after_record m (records.Waits number base ms body current) = other m

-- ---- a file

-- a note of a later program is passed over
abbrev pub after_piece : Marks → ClientPiece → Marks
after_piece m (pieces.Record r) = after_record m r
after_piece m (pieces.Note n) = after_note m n
after_piece m pieces.Later = m

abbrev pub after_pieces : Marks → List ClientPiece → Marks
after_pieces m [] = m
after_pieces m (p ∷ ps) = after_pieces (after_piece m p) ps

abbrev pub marks_of : List ClientPiece → Marks
marks_of ps = after_pieces no_marks ps

-- ---- readers

abbrev pub own_token : Option (List ℕ) → ℕ → Option TokenParts
own_token None number = None
own_token (Some life) number = Some (record { life = life; number = number })

abbrev pub token_by : Option SavesParts → Option (List ℕ) → ℕ → Option TokenParts
token_by (Some saves) life number = Some saves.token
token_by None life number = own_token life number

-- the token of its transaction of this number
abbrev pub token_of : Marks → ℕ → Option TokenParts
token_of m zero = None
token_of m (suc n) = token_by (m.saves (suc n)) (slice_get m.numbers n) (suc n)

-- ---- what must stand before a transaction of it

-- of two tokens of one life the higher one; else the first
abbrev pub chosen : Bool → TokenParts → TokenParts → TokenParts
chosen is_same found token = if is_same && nat_lt found.number token.number then token else found

-- the list has the token, or a higher one of its life
abbrev pub higher : TokenParts → List TokenParts → List TokenParts
higher token [] = token ∷ []
higher token (t ∷ ts) = if bytes_eq t.life token.life then chosen true t token ∷ ts else t ∷ higher token ts

abbrev pub higher_by : Option TokenParts → List TokenParts → List TokenParts
higher_by None ts = ts
higher_by (Some token) ts = higher token ts

-- the tokens of those before a number, back to the last that the file made itself, behind these
abbrev pub frontier_by : Marks → ℕ → List TokenParts → List TokenParts
frontier_by m zero ts = ts
frontier_by m (suc n) ts = if is_some (m.saves (suc n)) then frontier_by m n (higher_by (token_of m (suc n)) ts) else higher_by (token_of m (suc n)) ts

abbrev pub frontier : Marks → ℕ → List TokenParts
frontier m number = frontier_by m (number - 1) []
