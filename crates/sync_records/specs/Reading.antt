-- How records are read.
use Rattle.std.specs.Prelude.{◌≡◌, ℕ, ◌==◌, if◌then◌else◌, List, [], ◌∷◌, bytes_eq, nat_le, Option, None, Some, Result, Ok, Err}
use Rattle.sync_io.specs.Formats.{◌>>=◌, number_in, wide_in, bytes_in, body_in, both_in, only_in, all_in}
use Rattle.subset_bytes.specs.Reading.{tables_in}
use Rattle.sync_subset.specs.Tables.{Tables}
use Rattle.sync_records.specs.declared.refusal.RecordRefusal.{RecordRefusal}
use Rattle.sync_records.specs.declared.refusal.RecordRefusal.TheVariants as refusals
use Rattle.sync_records.specs.declared.client.ClientRecord.{ClientRecord}
use Rattle.sync_records.specs.declared.client.ClientRecord.TheVariants as client
use Rattle.sync_records.specs.declared.client.Took.{Took}
use Rattle.sync_records.specs.declared.server.ServerRecord.{ServerRecord}
use Rattle.sync_records.specs.declared.server.ServerRecord.TheVariants as server

-- What a function returned, seen by view, is what reading gives, unless memory ran out.
abbrev pub Fails : {Y : Type 0} → RecordRefusal → Option Y → Type 0
Fails refusals.NoMemory read = Unit {0}
Fails refusals.BadRecord read = read ≡ None

abbrev pub Gives : {X Y : Type 0} → (X → Y) → Result X RecordRefusal → Option Y → Type 0
Gives view (Ok x) read = read ≡ Some (view x)
Gives view (Err refusal) read = Fails refusal read

-- all of the bytes under another form
abbrev pub seen : {A B : Type 0} → (A → B) → (List ℕ → Option A) → List ℕ → Option B
seen view read bytes = read bytes >>= λ x. Some (view x)

-- the fields behind a tag, where a table has each tag with its reader
abbrev pub fields_in : {A : Type 0} → List (ℕ × (List ℕ → Option A)) → ℕ → List ℕ → Option A
fields_in [] tag bytes = None
fields_in (form ∷ forms) tag bytes = if tag == form.0 then form.1 bytes else fields_in forms tag bytes

abbrev pub record_in : {A : Type 0} → List (ℕ × (List ℕ → Option A)) → List ℕ → Option A
record_in forms [] = None
record_in forms (tag ∷ bytes) = fields_in forms tag bytes

abbrev pub id_in : List ℕ → Option (List ℕ)
id_in bytes = all_in (bytes_in 16) bytes

abbrev pub ident_in : List ℕ → Option ℕ
ident_in bytes = all_in (only_in (λ n. nat_le 1 n) number_in) bytes

-- the only form beside the first
abbrev pub form_in : List ℕ → Option ℕ
form_in bytes = all_in (only_in (λ n. n == 2) number_in) bytes

-- one number, and two, and four
abbrev pub version_in : List ℕ → Option ℕ
version_in bytes = all_in number_in bytes

abbrev pub pair_in : List ℕ → Option (ℕ × ℕ)
pair_in bytes = all_in (both_in number_in number_in) bytes

abbrev pub count_in : List ℕ → Option (((ℕ × ℕ) × ℕ) × ℕ)
count_in bytes = all_in (both_in (both_in (both_in number_in number_in) number_in) number_in) bytes

-- the names of tables
abbrev pub names_in : List ℕ → Option Tables
names_in bytes = all_in tables_in bytes

-- all that is left
abbrev pub rest_in : List ℕ → Option (List ℕ)
rest_in bytes = Some bytes

-- numbers, and what is left
abbrev pub made_in : List ℕ → Option ((ℕ × ℕ) × List ℕ)
made_in bytes = both_in number_in wide_in bytes

abbrev pub took_in : List ℕ → Option (((ℕ × ℕ) × ℕ) × List ℕ)
took_in bytes = both_in (both_in number_in number_in) wide_in bytes

abbrev pub past_in : List ℕ → Option (((ℕ × ℕ) × ℕ) × List ℕ)
past_in bytes = both_in (both_in number_in number_in) wide_in bytes

abbrev pub entry_in : List ℕ → Option ((((ℕ × ℕ) × ℕ) × ℕ) × List ℕ)
entry_in bytes = both_in (both_in (both_in number_in number_in) number_in) wide_in bytes

-- a body as it was carried: where nothing is left it is the same, and only there
abbrev pub current_in : List ℕ → List ℕ → Option (List ℕ)
current_in body [] = Some body
current_in body (b ∷ rest) = if bytes_eq (b ∷ rest) body then None else Some (b ∷ rest)

abbrev pub waits_in : List ℕ → Option ((((ℕ × ℕ) × ℕ) × List ℕ) × List ℕ)
waits_in bytes = both_in (both_in (both_in number_in number_in) wide_in) body_in bytes >>= λ x. current_in x.0.1 x.1 >>= λ current. Some (x.0, current)

abbrev pub made_of : (ℕ × ℕ) × List ℕ → ClientRecord
made_of p = client.Made p.0.0 p.0.1 p.1

abbrev pub took_of : ((ℕ × ℕ) × ℕ) × List ℕ → ClientRecord
took_of p = client.Took p.0.0.0 p.0.0.1 p.0.1 p.1

abbrev pub waits_of : (((ℕ × ℕ) × ℕ) × List ℕ) × List ℕ → ClientRecord
waits_of p = client.Waits p.0.0.0.0 p.0.0.0.1 p.0.0.1 p.0.1 p.1

abbrev pub resumed_of : ℕ × ℕ → ClientRecord
resumed_of p = client.Resumed p.0 p.1

-- the record of these fields
abbrev pub took_seen : Took → ClientRecord
took_seen t = client.Took t.origin t.number t.ms t.body.now

abbrev pub entry_of : (((ℕ × ℕ) × ℕ) × ℕ) × List ℕ → ServerRecord
entry_of p = server.Entry p.0.0.0.0 p.0.0.0.1 p.0.0.1 p.0.1 p.1

abbrev pub pair_as : (ℕ → ℕ → ServerRecord) → ℕ × ℕ → ServerRecord
pair_as make p = make p.0 p.1

abbrev pub count_of : ((ℕ × ℕ) × ℕ) × ℕ → ServerRecord
count_of p = server.Count p.0.0.0 p.0.0.1 p.0.1 p.1

abbrev pub carried_of : (((ℕ × ℕ) × ℕ) × ℕ) × List ℕ → ServerRecord
carried_of p = server.Carried p.0.0.0.0 p.0.0.0.1 p.0.0.1 p.0.1 p.1

abbrev pub past_of : ((ℕ × ℕ) × ℕ) × List ℕ → ServerRecord
past_of p = server.Past p.0.0.0 p.0.0.1 p.0.1 p.1

-- each tag, and how the fields behind it are read
abbrev pub client_forms : List (ℕ × (List ℕ → Option ClientRecord))
client_forms =
    (1, seen client.Born id_in)
    ∷ (2, seen client.Named ident_in)
    ∷ (3, seen made_of made_in)
    ∷ (4, seen took_of took_in)
    ∷ (7, seen (λ _. client.Form) form_in)
    ∷ (9, seen client.Subset names_in)
    ∷ (11, seen client.Part rest_in)
    ∷ (12, seen client.Floor version_in)
    ∷ (16, seen resumed_of pair_in)
    ∷ (17, seen waits_of waits_in)
    ∷ []

abbrev pub server_forms : List (ℕ × (List ℕ → Option ServerRecord))
server_forms =
    (5, seen server.Client id_in)
    ∷ (6, seen entry_of entry_in)
    ∷ (7, seen (λ _. server.Form) form_in)
    ∷ (8, seen (pair_as server.Retired) pair_in)
    ∷ (10, seen (pair_as server.Settled) pair_in)
    ∷ (11, seen server.Part rest_in)
    ∷ (12, seen server.Floor version_in)
    ∷ (13, seen count_of count_in)
    ∷ (14, seen carried_of entry_in)
    ∷ (15, seen past_of past_in)
    ∷ []
