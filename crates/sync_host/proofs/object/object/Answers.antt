use Rattle.std.proofs.Common.{◌≡◌, true, false, None, refl, rules, sym, subst}
use Rattle.sync_base.specs.States.{has}
use Rattle.sync_host.specs.Objects.{ObjectTold, object_form_of_line}
use Rattle.sync_host.specs.declared.reply.Reply.TheVariants as replies
use Rattle.sync_host.proofs.Objects.{absent, stands}
use Rattle.sync_host.proofs.object.object.Goals as goal

pub returns-in-Err-BadValue : goal.returns-in-Err-BadValue
returns-in-Err-BadValue c =
    let none : object_form_of_line c.args.line.now ≡ None = search rules in
    subst (λ o. ObjectTold o c.args.store.now replies.BadRequest) (sym none) refl

pub returns-then-not-has : goal.returns-then-not-has
returns-then-not-has c =
    let name = c.in-Ok.name in
    let not : has c.args.store.now (name.table, name.key) ≡ false = search rules in
    absent _ name c.args.store.now c.in-Ok.ensures not

pub returns-in-Ok-object_text : goal.returns-in-Ok-object_text
returns-in-Ok-object_text c =
    let name = c.in-Ok.name in
    let there : has c.args.store.now (name.table, name.key) ≡ true = search rules in
    stands _ name c.args.store.now c.in-Ok-object_text.text c.in-Ok.ensures there c.in-Ok-object_text.ensures
