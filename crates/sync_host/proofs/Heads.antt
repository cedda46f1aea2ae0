-- Messages without tables, and those that bear nothing.
use Rattle.std.proofs.Common.{◌≡◌, ℕ, List, [], ◌++◌, refl, sym, ap, ◌∙◌, append-nil}
use Rattle.sync_messages.specs.declared.message.Message.{Message}
use Rattle.sync_messages.specs.declared.message.Message.TheVariants as messages
use Rattle.sync_host.specs.Heads.{borne_by, tables_of}

no_tables : (m : Message) → ((a : _) → m ≡ messages.AskTables a → ⊥) → tables_of m ≡ []
no_tables (messages.Bind id) not = refl
no_tables (messages.Ident given) not = refl
no_tables (messages.Upload upload) not = refl
no_tables (messages.Ask ask) not = refl
no_tables (messages.Download download) not = refl
no_tables (messages.Refused ident number code place) not = refl
no_tables (messages.Stored stored) not = refl
no_tables (messages.Ask2 ask) not = refl
no_tables (messages.Retire retire) not = refl
no_tables (messages.Retired retired) not = refl
no_tables (messages.AskTables asked) not = absurd (not asked refl)

none_borne : (m : Message) → ((u : _) → m ≡ messages.Upload u → ⊥) → ((d : _) → m ≡ messages.Download d → ⊥) → borne_by m ≡ []
none_borne (messages.Bind id) not_u not_d = refl
none_borne (messages.Ident given) not_u not_d = refl
none_borne (messages.Upload upload) not_u not_d = absurd (not_u upload refl)
none_borne (messages.Ask ask) not_u not_d = refl
none_borne (messages.Download download) not_u not_d = absurd (not_d download refl)
none_borne (messages.Refused ident number code place) not_u not_d = refl
none_borne (messages.Stored stored) not_u not_d = refl
none_borne (messages.Ask2 ask) not_u not_d = refl
none_borne (messages.Retire retire) not_u not_d = refl
none_borne (messages.Retired retired) not_u not_d = refl
none_borne (messages.AskTables asked) not_u not_d = refl

behind : (out none : List ℕ) → none ≡ [] → out ≡ out ++ none
behind out none e = sym (append-nil out) ∙ ap (λ (l : List ℕ). out ++ l) (sym e)

pub without_tables : (out : List ℕ) (m : Message) → ((a : _) → m ≡ messages.AskTables a → ⊥) → out ≡ out ++ tables_of m
without_tables out m not = behind out (tables_of m) (no_tables m not)

pub bears_none : (out : List ℕ) (m : Message) → ((u : _) → m ≡ messages.Upload u → ⊥) → ((d : _) → m ≡ messages.Download d → ⊥) → out ≡ out ++ borne_by m
bears_none out m not_u not_d = behind out (borne_by m) (none_borne m not_u not_d)
