use Rattle.std.proofs.Common.{Option, refl, sym, subst}
use Rattle.std.specs.Option.{option_map}
use Rattle.sync_edits.specs.Lines.{node_form_of_line}
use Rattle.sync_edits.specs.declared.event.NodeLine.{NodeLine}
use Rattle.sync_host.specs.Steps.{Lasts, Spares, Tells, line_answer}
use Rattle.sync_host.proofs.Lasting.{client_lasts, client_still}
use Rattle.sync_host.proofs.Said.{if_told}
use Rattle.sync_host.proofs.hosted.HostedClient.line.Goals as goal

pub returns-clause-told : goal.returns-clause-told
returns-clause-told c = λ records. let places = c.in-Ok-changed_by_line.places.items in
    if_told c.take_line.result (Tells places records (option_map (line_answer records) (node_form_of_line c.args.bytes.now)))
    (subst (λ (line : Option NodeLine). Tells places records (option_map (line_answer records) line)) (sym c.in-Ok.ensures) (c.in-Ok-changed_by_line.ensures.told records))

pub returns-clause-ends : goal.returns-clause-ends
returns-clause-ends c = λ records. let places = c.in-Ok-changed_by_line.places.items in
    if_told c.take_line.result (Spares places records (option_map (line_answer records) (node_form_of_line c.args.bytes.now)))
    (subst (λ (line : Option NodeLine). Spares places records (option_map (line_answer records) line)) (sym c.in-Ok.ensures) (c.in-Ok-changed_by_line.ensures.ends records))

pub returns-clause-lasts : goal.returns-clause-lasts
returns-clause-lasts c = λ records stands.
    client_lasts (option_map (line_answer records) (node_form_of_line c.args.bytes.now)) records c.args.self.now _
    (subst (λ (line : Option NodeLine). Lasts (option_map (line_answer records) line) records c.args.self.now.client c.take_line.new.client) (sym c.in-Ok.ensures) (c.take_line.ensures.lasts records stands))

pub returns-in_default-clause-lasts : goal.returns-in_default-clause-lasts
returns-in_default-clause-lasts c = λ records stands. client_still (option_map (line_answer records) (node_form_of_line c.args.bytes.now)) records c.args.self.now c.args.self.now refl stands
