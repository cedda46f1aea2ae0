use Rattle.std.proofs.Common.{◌≡◌, sym, subst, ◌∙◌, None, Some}
use Rattle.life_bytes.specs.Envelopes.{AnswersParts}
use Rattle.life_bytes.specs.declared.answered.Answered.TheVariants as answered
use Rattle.marked_client.specs.Marked.{marks_of, standing_of}
use Rattle.marked_client.specs.Testing.{answers_test}
use Rattle.marked_client.proofs.Passing.{same_answers}
use Rattle.marked_client.proofs.client.MarkedClient.take.Goals as goal

pub returns-in-Answers-clause-refused : goal.returns-in-Answers-clause-refused
returns-in-Answers-clause-refused g c = λ records answers why k letter e.
    let same = same_answers answers c.in-Answers.answers (sym letter ∙ c.in-Answers.is) in
    c.take_answers-taken.ensures.refused records why k (subst (λ (a : AnswersParts). answers_test (marks_of c.args.self.now) (standing_of records c.args.self.now) a ≡ Some why) same e)

pub returns-in-Answers-clause-does : goal.returns-in-Answers-clause-does
returns-in-Answers-clause-does g c = λ records answers message k letter inner passes.
    let same = same_answers answers c.in-Answers.answers (sym letter ∙ c.in-Answers.is) in
    c.take_answers-taken.ensures.does records message k (subst (λ (a : AnswersParts). a.inner ≡ answered.Message message) same inner) (subst (λ (a : AnswersParts). answers_test (marks_of c.args.self.now) (standing_of records c.args.self.now) a ≡ None) same passes)

pub returns-in-Answers-clause-given_up : goal.returns-in-Answers-clause-given_up
returns-in-Answers-clause-given_up g c = λ records answers given k letter inner passes.
    let same = same_answers answers c.in-Answers.answers (sym letter ∙ c.in-Answers.is) in
    c.take_answers-taken.ensures.given_up records given k (subst (λ (a : AnswersParts). a.inner ≡ answered.GivenUp given) same inner) (subst (λ (a : AnswersParts). answers_test (marks_of c.args.self.now) (standing_of records c.args.self.now) a ≡ None) same passes)
