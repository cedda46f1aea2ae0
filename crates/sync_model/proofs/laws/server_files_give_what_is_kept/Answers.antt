use Rattle.std.proofs.Common.{◌++◌, ap, ◌∙◌}
use Rattle.sync_model.specs.Parts.{no_parts}
use Rattle.sync_model.specs.Trimmed.{keeps_nothing, trim_records}
use Rattle.sync_model.specs.Fronts.{file_gives}
use Rattle.sync_model.proofs.Fronts.{whole_file}
use Rattle.sync_model.proofs.Reading.{all_read}
use Rattle.sync_model.proofs.GivenUp.{all_kept, by_records, by_message, trims_back, trims_alike}
use Rattle.sync_model.proofs.laws.server_files_give_what_is_kept.Goals as goal

pub returns : goal.returns
returns g c =
    let p = g.E.Exchange.profile in
    let law = g.E.Exchange.lawful in
    let built = g.E.Exchange.buildable in
    record {
      whole = λ rs e. whole_file p rs e;
      kept = λ rs e. by_records p rs (no_parts p) keeps_nothing e;
      goes_on = λ kept m k. by_message p kept k m;
      spans = λ kept k. (all_kept p law built k).sound.spans;
      trimmed = λ kept more k e. trims_back p law built kept k more e;
      back = λ read bytes kept more k e f. ap (file_gives p) (all_read read bytes (trim_records p kept ++ more) f) ∙ trims_back p law built kept k more e;
      alike = λ kept ms k e. trims_alike p law built kept k ms e;
    }
