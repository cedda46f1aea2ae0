use Rattle.std.proofs.Common.{refl}
use Rattle.sync_model.specs.Clients.{client_of, no_client}
use Rattle.sync_model.proofs.Small.{client_lists}
use Rattle.shrink_law.proofs.Files.{short_gives, fresh}
use Rattle.shrink_law.proofs.Opened.{longs_open, short_file_opens}
use Rattle.shrink_law.proofs.Standing.{client_stands}
use Rattle.shrink_law.proofs.Whole.{whole_of, goes_on}
use Rattle.shrink_law.proofs.laws.shrunk_files_give_the_client.Goals as goal

pub returns : goal.returns
returns g c =
    let p = g.E.Exchange.profile in
    let law = g.E.Exchange.lawful in
    let built = g.E.Exchange.buildable in
    record {
      gives = λ rs open_. let stands = client_stands p law built rs in short_gives p law built (client_of p rs) stands.0 stands.1 (client_lists p law rs).unsent (fresh p rs open_);
      opens = λ rs more open_ each born plain_ later. short_file_opens p law built (client_of p rs) (whole_of p law built rs open_ each born) more plain_ later;
      goes_on = λ rs more open_ plain_. goes_on p law built rs more open_ plain_;
      as_before = λ rs longs. longs_open p rs (no_client p) refl longs;
    }
