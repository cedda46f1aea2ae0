-- The summary of a generated exchange.
use Rattle.std.specs.Prelude.{ℕ, Bool, false, ◌==◌, ◌&&◌, List, [], ◌∷◌, ◌++◌, codes, count_by, length, Option, None, Some}
use Rattle.std.specs.Str.{bytes_eq}
use Rattle.sync_data.specs.declared.instr.Instr.{Instr}
use Rattle.sync_dump.specs.Dump.{dump}
use Rattle.sync_exchange.specs.Profile.{the_profile}
use Rattle.sync_gen.specs.Clients.{name_of}
use Rattle.sync_model.specs.Bytes.{Name}
use Rattle.sync_model.specs.Clients.{client_of}
use Rattle.sync_model.specs.Servers.{server_objects, server_of}
use Rattle.sync_model.specs.Worlds.{Event, Node, World, empty_world, has_name, seek}
use Rattle.sync_words.specs.Words.{said}
use Rattle.gen_law.specs.Generated.{events_of, words_by, world_by}
use Rattle.gen_law.specs.Plans.{clients}
use Rattle.gen_law.specs.Refusals.{is_refused}
use Rattle.sync_top.specs.Telling.{is_made}

-- ---- the nodes at the end
-- the length of the server's history
unfoldable pub history_in : World → ℕ
history_in w = length (server_of the_profile w.server).log

-- what the server's dump shows
unfoldable pub server_dump : World → List ℕ
server_dump w = dump (server_objects the_profile (server_of the_profile w.server))

-- a client has the whole history, nothing unsent and the server's dump
abbrev pub node_equals : World → Node → Bool
node_equals w nd = ((client_of the_profile nd.records).cursor == history_in w) && (length (client_of the_profile nd.records).unsent == 0) && bytes_eq (dump (client_of the_profile nd.records).objects) (server_dump w)

abbrev pub sought_equals : World → Option (ℕ × Node) → Bool
sought_equals w None = false
sought_equals w (Some q) = node_equals w q.1

unfoldable pub equals : World → Name → Bool
equals w name = sought_equals w (seek (has_name name) w.clients)

-- how many of the clients are so
abbrev pub equal_in : World → ℕ
equal_in w = count_by (λ c. equals w (name_of c)) clients

-- ---- the text
abbrev pub line : List ℕ → ℕ → List ℕ
line word number = said word (number ∷ []) ++ codes "\n"

abbrev pub summary_text : (seed count made history refused equal : ℕ) → List ℕ
summary_text seed count made history refused equal =
    line (codes "seed") seed ++ line (codes "turns") count ++ line (codes "made") made ++ line (codes "history") history ++ line (codes "refused") refused ++ line (codes "equal") equal

-- what is written of an exchange of these events
abbrev pub summary_by : (seed count : ℕ) → List (Event Instr) → List ℕ
summary_by seed count es =
    summary_text seed count (count_by is_made (words_by empty_world es)) (history_in (world_by empty_world es)) (count_by is_refused (words_by empty_world es)) (equal_in (world_by empty_world es))

-- the summary of a seed and a number of turns
unfoldable pub summary_of : (seed count : ℕ) → List ℕ
summary_of seed count = summary_by seed count (events_of seed count)
