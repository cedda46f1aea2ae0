use Rattle.std.proofs.Common.{◌≡◌, Some, None, map, ap, subst, sym, ◌∙◌, refl, IfOk}
use Rattle.sync_model.specs.Clients.{client_of}
use Rattle.sync_model.specs.Resets.{count_known, recover_changes}
use Rattle.sync_exchange.specs.Profile.{the_profile}
use Rattle.sync_exchange.specs.Seen.{change_seen}
use Rattle.sync_node.specs.Heirs.{SavedSo, counts_of, mine}
use Rattle.sync_node.proofs.Recoverers.{upload_not, upload_so}
use Rattle.sync_node.proofs.recoverer.Recoverer.save.Goals as goal

pub returns-in-Some-clause-done : goal.returns-in-Some-clause-done
returns-in-Some-clause-done g c = λ records stands ours.
    let heir = client_of the_profile records in
    let heard = c.args.self.now.heard.items in
    let upload = c.args.upload.now in
    let retired = c.in-Some.retired.now in
    let by = c.in-Some.ensures.mine heir.ident (subst (mine heir.ident) (sym c.as_slice.ensures.value) ours) in
    let known : count_known upload.ident (counts_of heard) ≡ Some retired.number = ap (λ i. count_known i (counts_of heard)) (sym c.ident.ensures.value) ∙ ap (λ rs. count_known c.ident.result (counts_of rs)) (sym c.as_slice.ensures.value) ∙ c.in-Some.ensures.known in
    upload_so c.args.number (counts_of heard) upload.ident (map change_seen upload.changes) records heard c.save_all.new.client (count_known upload.ident (counts_of heard)) retired.number c.save_all.result known refl ours
    (subst (λ hs. IfOk c.save_all.result (λ text. SavedSo c.args.number (recover_changes the_profile heir retired.number (map change_seen hs)) records text.items c.save_all.new.client)) c.changes.ensures.value (c.save_all.ensures.done records stands by))

pub returns-in-None-clause-done : goal.returns-in-None-clause-done
returns-in-None-clause-done g c = λ records stands ours.
    let heard = c.args.self.now.heard.items in
    let upload = c.args.upload.now in
    let none : count_known upload.ident (counts_of heard) ≡ None = ap (λ i. count_known i (counts_of heard)) (sym c.ident.ensures.value) ∙ ap (λ rs. count_known c.ident.result (counts_of rs)) (sym c.as_slice.ensures.value) ∙ c.in-None.ensures.none refl in
    upload_not c.args.number (counts_of heard) upload.ident (map change_seen upload.changes) records heard c.args.client.now (count_known upload.ident (counts_of heard)) c.line.result none c.line.ensures.line
    (record { client = stands; counts_is = refl; mine_is = ours })
