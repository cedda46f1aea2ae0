use Rattle.std.proofs.Common.{◌+◌, sym, subst, add-one}
use Rattle.sync_maps.specs.Answers.{was_ok}
use Rattle.sync_rivals.specs.Lists.{AreListed, Lists, StandsAt}
use Rattle.sync_rivals.proofs.Listed.{more_marks, one_more}
use Rattle.sync_rivals.proofs.index.RivalIndex.list.Goals as goal

pub returns-then-is_err : goal.returns-then-is_err
returns-then-is_err c = λ l lists stays h at.
    more_marks c.self.inside.listing c.list.new.self c.self.inside.first c.self.inside.listed lists c.list.ensures.kept (subst (λ x. Lists x lists) (sym c.self.view_is) h)

pub returns : goal.returns
returns c = λ l lists stays h at.
    let now = more_marks c.self.inside.listing c.list.new.self c.self.inside.first c.self.inside.listed lists c.list.ensures.kept (subst (λ x. Lists x lists) (sym c.self.view_is) h) in
    subst (λ k. AreListed c.list.new.self c.self.inside.first k lists) (sym (add-one c.self.inside.listed))
    (one_more c.list.new.self c.self.inside.first c.self.inside.listed lists l now (subst (λ x. StandsAt x.listed l lists) (sym c.self.view_is) at)
    (stays c.list.new.self (c.self.inside.first + c.self.inside.listed) (was_ok c.list.result c.if-is_err.ensures.value c.list.ensures.listed)))
