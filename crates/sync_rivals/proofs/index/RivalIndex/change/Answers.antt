use Rattle.std.proofs.Common.{◌≡◌, ◌+◌, [], length, sym, ◌∙◌, subst, arith}
use Rattle.std.proofs.lemmas.Bool.{eqb-true}
use Rattle.std.proofs.lemmas.List.{nil_from_length}
use Rattle.sync_maps.specs.Answers.{was_ok}
use Rattle.sync_rivals.specs.Marks.{IsListed}
use Rattle.sync_rivals.specs.Lists.{Lists}
use Rattle.sync_rivals.proofs.Listed.{above_all, fewer, put_after, put_among}
use Rattle.sync_rivals.proofs.index.RivalIndex.change.Goals as goal

pub returns-then-place-self-clause-kept : goal.returns-then-place-self-clause-kept
returns-then-place-self-clause-kept c = λ lists h stays.
    put_among c.args.self.now.marks c.args.self.now.marks c.args.self.now.first c.args.self.now.listed lists c.args.place c.args.after.now (λ m other there. there) (λ there. there) stays h

pub returns-then-is_empty-clause-kept : goal.returns-then-is_empty-clause-kept
returns-then-is_empty-clause-kept c = λ lists h stays.
    let nothing : c.args.after.now ≡ [] = nil_from_length c.args.after.now (eqb-true (length c.args.after.now) 0 (sym c.is_empty.ensures ∙ c.if-is_empty.true)) in
    put_among c.self.inside.listing c.unlist.new.self c.self.inside.first c.self.inside.listed lists c.args.place c.args.after.now c.unlist.ensures.others
    (λ _. subst (IsListed c.unlist.new.self (c.self.inside.first + c.args.place)) (sym nothing) tt) stays (subst (λ x. Lists x lists) (sym c.self.view_is) h)

pub returns-then-is_err-clause-kept : goal.returns-then-is_err-clause-kept
returns-then-is_err-clause-kept c = λ lists h stays.
    put_after c.list.new.self c.self.inside.first c.args.place lists c.args.place c.args.after.now (omega arith)
    (above_all c.self.inside.listing c.list.new.self (c.self.inside.first + c.args.place) c.self.inside.first c.args.place lists (omega arith) (λ m other there. c.list.ensures.kept m (c.unlist.ensures.others m other there))
    (fewer c.self.inside.listing c.self.inside.first c.self.inside.listed c.args.place lists (omega (arith, c.if-place-self.false)) (subst (λ x. Lists x lists) (sym c.self.view_is) h)))

pub returns-else-is_err-clause-kept : goal.returns-else-is_err-clause-kept
returns-else-is_err-clause-kept c = λ lists h stays.
    put_among c.self.inside.listing c.list.new.self c.self.inside.first c.self.inside.listed lists c.args.place c.args.after.now (λ m other there. c.list.ensures.kept m (c.unlist.ensures.others m other there))
    (λ _. was_ok c.list.result c.if-is_err.ensures.value c.list.ensures.listed) stays (subst (λ x. Lists x lists) (sym c.self.view_is) h)
