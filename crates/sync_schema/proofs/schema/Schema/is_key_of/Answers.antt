use Rattle.std.proofs.Common.{sym, ◌∙◌, ap, false}
use Rattle.std.specs.Option.{option_map_or}
use Rattle.sync_base.specs.States.{Table, is_of_kind}
use Rattle.sync_schema.proofs.Names.{at_name}
use Rattle.sync_schema.proofs.schema.Schema.is_key_of.Goals as goal

pub returns-in-None : goal.returns-in-None
returns-in-None c = sym (ap (λ x. option_map_or (λ (t : Table). is_of_kind t.key c.args.key.now) x false) (at_name c.self.inside.tables c.args.table.now c.self.view_is c.in-None.ensures.value))

pub returns-in-Some : goal.returns-in-Some
returns-in-Some c =
    c.is_of_kind.ensures ∙ ap (λ k. is_of_kind k c.args.key.now) c.kind.ensures
    ∙ sym (ap (λ x. option_map_or (λ (t : Table). is_of_kind t.key c.args.key.now) x false) (at_name c.self.inside.tables c.args.table.now c.self.view_is c.in-Some.ensures.value))
