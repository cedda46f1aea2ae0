-- The report of an exchange as text.
use Rattle.std.specs.Prelude.{ℕ, zero, suc, List, [], ◌∷◌, ◌++◌, codes, length}
use Rattle.hex.specs.Hex.{encode_lower}
use Rattle.sync_data.specs.declared.instr.Instr.{Instr}
use Rattle.sync_base.specs.States.{State}
use Rattle.sync_theory.specs.Changesets.{Changeset}
use Rattle.sync_codec.specs.Spelling.{spelling}
use Rattle.sync_dump.specs.Dump.{dump}
use Rattle.sync_model.specs.Parts.{Parts}
use Rattle.sync_model.specs.Reports.{ClientLine, Report}
use Rattle.sync_words.specs.Words.{name_text, numbers_text, said}

-- ---- the server: the length of its history, a line for each entry, and its dump
-- the changeset as it was carried, in hex
abbrev pub entry_text : ℕ → Changeset Instr → List ℕ
entry_text version e = said (codes "entry") (version ∷ e.origin ∷ e.number ∷ e.ms ∷ []) ++ codes " " ++ encode_lower (spelling e.instrs) ++ codes "\n"

-- entries from a version on
abbrev pub entries_text : ℕ → List (Changeset Instr) → List ℕ
entries_text version [] = []
entries_text version (e ∷ es) = entry_text version e ++ entries_text (suc version) es

-- the floor of a history, where it isn't 0
abbrev pub floor_text : ℕ → List ℕ
floor_text zero = []
floor_text (suc n) = said (codes "floor") (suc n ∷ []) ++ codes "\n"

-- the same of a server by what it keeps, whose history begins at a floor
abbrev pub kept_text : Parts Instr State → List ℕ
kept_text k = said (codes "server") (k.len ∷ []) ++ codes "\n" ++ floor_text k.floor ++ entries_text k.floor k.entries ++ dump k.objects

abbrev pub server_text : List (Changeset Instr) → State → List ℕ
server_text entries objects = said (codes "server") (length entries ∷ []) ++ codes "\n" ++ entries_text 0 entries ++ dump objects

-- ---- a client: its ident, its cursor, how many changesets are unsent, and its dump
abbrev pub standing_text : (ident cursor unsent : ℕ) → State → List ℕ
standing_text ident cursor unsent objects = numbers_text (ident ∷ cursor ∷ unsent ∷ []) ++ codes "\n" ++ dump objects

abbrev pub client_text : ClientLine State → List ℕ
client_text c = codes "client " ++ name_text c.name ++ standing_text c.ident c.cursor c.unsent c.objects

abbrev pub clients_text : List (ClientLine State) → List ℕ
clients_text [] = []
clients_text (c ∷ cs) = client_text c ++ clients_text cs

-- ---- the whole
abbrev pub report_text : Report Instr State → List ℕ
report_text r = server_text r.entries r.objects ++ clients_text r.clients
