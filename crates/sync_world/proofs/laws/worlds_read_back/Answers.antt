use Rattle.std.proofs.Common.{◌≡◌, ℕ, true, Result, Ok, sym, ◌∙◌, ap}
use Rattle.sync_base.specs.States.{State}
use Rattle.sync_data.specs.declared.instr.Instr.{Instr}
use Rattle.sync_model.specs.Parts.{Parts, after_parts, no_parts, parts_open, serve_by}
use Rattle.sync_exchange.specs.Profile.{the_profile}
use Rattle.sync_exchange.specs.Seen.{client_bytes, read_client}
use Rattle.sync_world.proofs.Back.{clients_back, servers_back}
use Rattle.sync_world.proofs.laws.worlds_read_back.Goals as goal

one_kept : (a b : Parts Instr State) → ◌≡◌ {A = Result (Parts Instr State) ℕ} (Ok a) (Ok b) → a ≡ b
one_kept a b e = cc

pub returns-clause-first : goal.returns-clause-first
returns-clause-first c = c.worlds_hold.ensures.first

pub returns-clause-steps : goal.returns-clause-steps
returns-clause-steps c = c.worlds_hold.ensures.steps

pub returns-clause-client : goal.returns-clause-client
returns-clause-client c w i n reached here fits =
    c.files_read_back.ensures.client_back read_client client_bytes n.records ((c.worlds_hold.ensures.opens w reached).clients i n here)
    (clients_back n.records ((c.nodes_stay_within_limits.ensures.worlds w reached).clients i n here) fits)

pub returns-clause-server : goal.returns-clause-server
returns-clause-server c w reached fits = record {
  each = servers_back w.server ((c.nodes_stay_within_limits.ensures.worlds w reached).server) fits;
  opens = (c.worlds_hold.ensures.opens w reached).server;
}

pub returns-clause-opens : goal.returns-clause-opens
returns-clause-opens c w reached = (c.worlds_hold.ensures.opens w reached).server

pub returns-clause-keeps : goal.returns-clause-keeps
returns-clause-keeps c records kept opens gives =
    let open_ : parts_open the_profile (no_parts the_profile) records ≡ true = c.servers_answer_by_parts.ensures.opens records ∙ opens in
    one_kept kept (after_parts the_profile (no_parts the_profile) records) (sym gives ∙ c.server_files_give_what_is_kept.ensures.whole records open_)
    ∙ c.servers_answer_by_parts.ensures.records records opens

pub returns-clause-serves : goal.returns-clause-serves
returns-clause-serves c records kept m opens gives =
    let open_ : parts_open the_profile (no_parts the_profile) records ≡ true = c.servers_answer_by_parts.ensures.opens records ∙ opens in
    let same = one_kept kept (after_parts the_profile (no_parts the_profile) records) (sym gives ∙ c.server_files_give_what_is_kept.ensures.whole records open_) ∙ c.servers_answer_by_parts.ensures.records records opens in
    ap (λ k. serve_by the_profile k m) same ∙ c.servers_answer_by_parts.ensures.message records m opens
