use Rattle.std.proofs.Common.{sym, ◌∙◌, ap, subst}
use Rattle.std.specs.Prelude.{◌≡◌, ◌||◌}
use Rattle.sync_index.specs.Touched.{holds}
use Rattle.sync_index.proofs.Indexed.{holds-first}
use Rattle.sync_index.proofs.held.Held.contains.Goals as goal

pub returns-then-is_first : goal.returns-then-is_first
returns-then-is_first c = subst (λ objects. c.is_first.result ≡ holds objects (c.args.table.now, c.args.key.now)) c.self.view_is
    (c.if-is_first.true ∙ sym (holds-first c.self.inside.first c.self.inside.others (c.args.table.now, c.args.key.now) ∙ ap (λ b. b || holds c.self.inside.others (c.args.table.now, c.args.key.now)) (sym c.is_first.ensures ∙ c.if-is_first.true)))

pub returns-else-is_first : goal.returns-else-is_first
returns-else-is_first c = subst (λ objects. c.contains.result ≡ holds objects (c.args.table.now, c.args.key.now)) c.self.view_is
    (c.contains.ensures ∙ sym (holds-first c.self.inside.first c.self.inside.others (c.args.table.now, c.args.key.now) ∙ ap (λ b. b || holds c.self.inside.others (c.args.table.now, c.args.key.now)) (sym c.is_first.ensures ∙ c.if-is_first.false)))
