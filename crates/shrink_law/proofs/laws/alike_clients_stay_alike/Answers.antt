use Rattle.shrink_law.proofs.Answering.{born_alike, commit_alike, upgrade_alike, subscribe_alike, bind_alike, upload_alike, upload_from_alike, ask_alike, take_alike}
use Rattle.shrink_law.proofs.Staying.{plain_take, records_alike, commit_plain, upgrade_plain, subscribe_plain, take_plain, heir_alike, recover_alike, recover_plain}
use Rattle.shrink_law.proofs.Shrinking.{client_keeps, shrunk_alike}
use Rattle.sync_model.specs.Clients.{client_of, commit, upgrade, subscribe, take as take_message}
use Rattle.sync_model.specs.Resets.{recover}
use Rattle.std.proofs.Common.{take}
use Rattle.shrink_law.proofs.laws.alike_clients_stay_alike.Goals as goal

pub returns : goal.returns
returns g c =
    let p = g.E.Exchange.profile in
    record {
      answers = λ c d a. record {
        borns = born_alike p c d a;
        commits = commit_alike p c d a;
        upgrades = upgrade_alike p c d a;
        subscribes = subscribe_alike p c d a;
        binds = bind_alike p c d a;
        uploads = upload_alike p c d a;
        uploads_from = upload_from_alike p c d a;
        asks = ask_alike p c d a;
        takes = take_alike p c d a;
        saves = heir_alike p c d a;
        recovers = recover_alike p c d a;
      };
      stays = λ c d a. record {
        commits = λ ms edits n. records_alike p (take n (commit p c ms edits).records) c d a (plain_take n (commit_plain p c ms edits));
        upgrades = λ n. records_alike p (take n (upgrade c).records) c d a (plain_take n (upgrade_plain p c));
        subscribes = λ tables n. records_alike p (take n (subscribe c tables).records) c d a (plain_take n (subscribe_plain p c tables));
        takes = λ m n. records_alike p (take n (take_message p c m).records) c d a (plain_take n (take_plain p c m));
        recovers = λ frames n. records_alike p (take n (recover p c frames).records) c d a (plain_take n (recover_plain p c frames));
      };
      shrinks = λ records. shrunk_alike p (client_of p records) (client_keeps p records);
    }
