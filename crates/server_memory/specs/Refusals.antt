-- The refusals of the code as those of the model, one line a kind.
use Rattle.sync_base.specs.Codes.{break_code, mismatch_code}
use Rattle.sync_model.specs.Servers.{ServerRefusal}
use Rattle.server_memory.specs.declared.refusal.Refusal.{Refusal}
use Rattle.server_memory.specs.declared.refusal.Refusal.TheVariants as refusals

abbrev pub refusal_seen : Refusal → ServerRefusal
refusal_seen (refusals.NumberGap expected) = ServerRefusal.NumberGap expected
refusal_seen (refusals.BaseBack last) = ServerRefusal.BaseBack last
refusal_seen (refusals.AheadOfHistory len) = ServerRefusal.AheadOfHistory len
refusal_seen (refusals.HistoryFull len) = ServerRefusal.HistoryFull len
refusal_seen (refusals.BadBytes bad) = ServerRefusal.BadBytes bad.offset bad.rule
refusal_seen (refusals.Mismatch place kind) = ServerRefusal.Mismatch place (mismatch_code kind)
refusal_seen (refusals.Break place cause) = ServerRefusal.Break place (break_code cause)
refusal_seen (refusals.NoSuchIdent given) = ServerRefusal.NoSuchIdent given
refusal_seen (refusals.IdentsFull given) = ServerRefusal.IdentsFull given
refusal_seen refusals.NotForServer = ServerRefusal.NotForServer
refusal_seen (refusals.NeedsForm2 cursor) = ServerRefusal.NeedsForm2 cursor
refusal_seen (refusals.IdentRetired count) = ServerRefusal.IdentRetired count
refusal_seen (refusals.SelfRetire ident) = ServerRefusal.SelfRetire ident
refusal_seen (refusals.RetiredBy by) = ServerRefusal.RetiredBy by
refusal_seen (refusals.Trimmed floor) = ServerRefusal.Trimmed floor
