use Rattle.std.proofs.Common.{◌≡◌, ℕ, true, Result, Ok, sym, ◌∙◌}
use Rattle.sync_base.specs.States.{State}
use Rattle.sync_data.specs.declared.instr.Instr.{Instr}
use Rattle.sync_model.specs.Parts.{Parts, after_parts, no_parts, parts_open}
use Rattle.sync_exchange.specs.Profile.{the_profile}
use Rattle.sync_top.proofs.laws.servers_keep.Goals as goal

one_kept : (a b : Parts Instr State) → ◌≡◌ {A = Result (Parts Instr State) ℕ} (Ok a) (Ok b) → a ≡ b
one_kept a b e = cc

pub returns : goal.returns
returns c w kept reached gives =
    let opens = (c.worlds_hold.ensures.opens w reached).server in
    let open_ : parts_open the_profile (no_parts the_profile) w.server ≡ true = c.servers_answer_by_parts.ensures.opens w.server ∙ opens in
    one_kept kept (after_parts the_profile (no_parts the_profile) w.server) (sym gives ∙ c.server_files_give_what_is_kept.ensures.whole w.server open_)
    ∙ c.servers_answer_by_parts.ensures.records w.server opens
