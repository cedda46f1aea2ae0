use Rattle.std.proofs.Common.{◌≡◌, OnOk, length, subst}
use Rattle.std.specs.Prelude.{codes}
use Rattle.sync_model.specs.Clients.{client_of}
use Rattle.sync_exchange.specs.Profile.{the_profile}
use Rattle.sync_words.specs.Reports.{standing_text}
use Rattle.sync_words.specs.Words.{name_text}
use Rattle.sync_words.proofs.Pieces.{three_put}
use Rattle.sync_words.proofs.report.put_client.Goals as goal

pub returns : goal.returns
returns g c = λ records is.
    let kept = client_of the_profile records in
    subst (λ l. OnOk c.put_standing.result (c.put_standing.new.out.items ≡ l))
    (three_put c.args.out.now.items (codes "client ") (name_text c.args.name.now) (standing_text kept.ident kept.cursor (length kept.unsent) kept.objects) c.put.new.out.items c.put_name.new.out.items c.in_ok-put.ensures c.in_ok-put_name.ensures)
    (c.put_standing.ensures records is)
