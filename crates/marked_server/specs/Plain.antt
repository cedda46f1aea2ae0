-- Messages without lives: which of them a server refuses that has clients with lives.
use Rattle.std.specs.Prelude.{ℕ, ◌&&◌, not, if◌then◌else◌, List, map, Option, Some, None}
use Rattle.std.specs.Option.{unwrap_or, is_some}
use Rattle.sync_data.specs.declared.instr.Instr.{Instr}
use Rattle.sync_base.specs.States.{State}
use Rattle.sync_messages.specs.declared.message.Message.{Message}
use Rattle.sync_messages.specs.declared.message.Message.TheVariants as messages
use Rattle.sync_model.specs.Parts.{Parts}
use Rattle.sync_model.specs.Servers.{place_of}
use Rattle.server_memory.specs.Integrating.{found}
use Rattle.life_marks.specs.ServerMarks.{Marks, line_of}
use Rattle.marked_server.specs.Testing.{refuse, is_member}
use Rattle.marked_server.specs.declared.code.Code.TheVariants as codes

-- whom the refusal of a message is told, 0 where that has no ident, and whose message it is; of a Retire the ident that is to be
-- retired where that has lives, and else the heir
abbrev pub named_in : Marks → Parts Instr State → Message → ℕ × ℕ
named_in m k (messages.Bind uuid) = (0, unwrap_or (found (place_of uuid (map (λ g. g.uuid) k.idents))) 0)
named_in m k (messages.Ident given) = (0, 0)
named_in m k (messages.Upload upload) = (upload.ident, upload.ident)
named_in m k (messages.Ask ask) = (ask.ident, ask.ident)
named_in m k (messages.Download download) = (0, 0)
named_in m k (messages.Refused ident number code place) = (0, 0)
named_in m k (messages.Stored stored) = (0, 0)
named_in m k (messages.Ask2 ask) = (ask.ident, ask.ident)
named_in m k (messages.Retire retire) = (retire.by, (if is_member (line_of retire.ident m.lines) then retire.ident else retire.by))
named_in m k (messages.Retired retired) = (0, 0)
named_in m k (messages.AskTables asked) = (asked.ask.ident, asked.ask.ident)

-- 75: it is of a client with lives
abbrev pub member_refusal : Marks → ℕ × ℕ → Option Message
member_refusal m named = if is_member (line_of named.1 m.lines) then Some (refuse named.0 0 (record { code = codes.NeedsMarks; place = named.1 })) else None

-- 77: the file has lives, and was opened without one
abbrev pub plain_refusal : Marks → Option (List ℕ) → Parts Instr State → Message → Option Message
plain_refusal m life k message =
    if not (is_some life) && is_some m.life then Some (refuse 0 0 (record { code = codes.NoLife; place = 0 })) else member_refusal m (named_in m k message)
