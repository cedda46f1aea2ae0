use Rattle.std.proofs.Common.{OnOk, subst, sym}
use Rattle.server_memory.specs.Kept.{parts}
use Rattle.sync_server.specs.Serving.{kept_of}
use Rattle.sync_node.specs.ServerTexts.{StandsFor}
use Rattle.sync_node.proofs.Standing.{started_text, trimmed_text}
use Rattle.sync_node.proofs.server_text.text_of.Goals as goal

pub returns-in-Trimmed-clause-stands : goal.returns-in-Trimmed-clause-stands
returns-in-Trimmed-clause-stands g c = λ records is.
    let file = c.trimmed_file.result in
    subst (λ what. OnOk file (StandsFor what records)) (sym c.in-Trimmed.is) (trimmed_text records (parts (kept_of c.args.server.now)) file is.gives c.trimmed_file.ensures.file c.trimmed_file.ensures.back)

pub returns-in-Started-clause-stands : goal.returns-in-Started-clause-stands
returns-in-Started-clause-stands g c = λ records is.
    let file = c.started_file.result in
    subst (λ what. OnOk file (StandsFor what records)) (sym c.in-Started.is) (started_text c.in-Started.id records (parts (kept_of c.args.server.now)) file is.gives c.started_file.ensures.file c.started_file.ensures.back)
