-- A transaction as data.
use Rattle.std.specs.Prelude.{List, refl}
use Rattle.std.specs.Coded.{Coded, code_by, coded×}
use Rattle.sync_data.specs.declared.instr.Instr.{Instr}
use Rattle.sync_base.specs.States.{State}
use Rattle.sync_store.specs.Codes.{coded_state}
use Rattle.sync_app.specs.Drafts.{Draft}

abbrev pub coded_draft : Coded (List Instr) → Coded Draft
coded_draft c = code_by (State × List Instr) (coded× coded_state c) (λ d. (d.base, d.instrs)) (λ p. record { base = p.0; instrs = p.1 }) (λ _. refl)
