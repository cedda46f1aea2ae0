-- What holds of an answer that the tests let through.
use Rattle.std.proofs.Common.{◌≡◌, ℕ, Bool, true, false, ◌&&◌, if◌then◌else◌, List, Option, Some, None, refl, ap, sym, ◌∙◌, bytes_eq, nat_lt, IsTrue}
use Rattle.std.proofs.lemmas.Bool.{eqb-true, ltb-false}
use Rattle.std.specs.Option.{is_some}
use Rattle.sync_model.proofs.Alone.{both_true}
use Rattle.sync_messages.specs.declared.message.Message.{Message}
use Rattle.sync_messages.specs.declared.message.Message.TheVariants as messages
use Rattle.sync_messages.specs.Parts.{DownloadParts}
use Rattle.life_bytes.specs.Envelopes.{AnswersParts}
use Rattle.life_bytes.specs.declared.answered.Answered.{Answered}
use Rattle.life_bytes.specs.declared.answered.Answered.TheVariants as answered
use Rattle.life_bytes.specs.declared.letter.Letter.{Letter}
use Rattle.life_bytes.specs.declared.letter.Letter.TheVariants as letters
use Rattle.life_marks.specs.ClientMarks.{Marks}
use Rattle.marked_client.specs.declared.refusal.MarkedRefusal.{MarkedRefusal}
use Rattle.marked_client.specs.declared.testing.Standing.{Standing}
use Rattle.marked_client.specs.Testing.{DownloadPasses, answers_test, birth_test, first_of, inner_test, is_named, owner_test, uuid_test}

first_none : (a b : Option MarkedRefusal) → first_of a b ≡ None → (a ≡ None) × (b ≡ None)
first_none None b e = (refl, e)
first_none (Some why) b e = cc

-- a reason that isn't given
passes_if : (b : Bool) (why : MarkedRefusal) (rest : Option MarkedRefusal) → (if b then Some why else rest) ≡ None → (b ≡ false) × (rest ≡ None)
passes_if true why rest e = cc
passes_if false why rest e = (refl, e)

passes_unless : (b : Bool) (why : MarkedRefusal) → (if b then None else Some why) ≡ None → b ≡ true
passes_unless true why e = refl
passes_unless false why e = cc

-- it is for this client, which is born
pub record IsForIt (at : Standing) (answers : AnswersParts) : Type 0 where
  pub id : List ℕ
  pub born : at.id ≡ Some id
  pub has_lives : at.has_lives ≡ true
  pub open_ : at.is_closed ≡ false
  pub named : is_named at.ident id answers.inner ≡ true

uuid_passes : (at : Standing) (answers : AnswersParts) (id : Option (List ℕ)) → at.is_closed ≡ false → at.id ≡ id → uuid_test at answers id ≡ None → IsForIt at answers
uuid_passes at answers None open_ born e = cc
uuid_passes at answers (Some id) open_ born e =
    let all = passes_unless (at.has_lives && (bytes_eq id answers.uuid && is_named at.ident id answers.inner)) _ e in
    let b = both_true at.has_lives (bytes_eq id answers.uuid && is_named at.ident id answers.inner) all in
    let n = both_true (bytes_eq id answers.uuid) (is_named at.ident id answers.inner) b.1 in
    record { id = id; born = born; has_lives = b.0; open_ = open_; named = n.1 }

owner_passes : (at : Standing) (answers : AnswersParts) → owner_test at answers ≡ None → IsForIt at answers
owner_passes at answers e =
    let p = passes_if at.is_closed _ (uuid_test at answers at.id) e in
    uuid_passes at answers at.id p.0 refl p.1

pub passes : (m : Marks) (at : Standing) (answers : AnswersParts) → answers_test m at answers ≡ None → IsForIt at answers × (inner_test m at answers answers.inner ≡ None)
passes m at answers e =
    let p = first_none (owner_test at answers) (first_of (birth_test m at answers.birth) (inner_test m at answers answers.inner)) e in
    (owner_passes at answers p.0, (first_none (birth_test m at answers.birth) (inner_test m at answers answers.inner) p.1).1)

some_is : (o : Option (List ℕ)) (id : List ℕ) → o ≡ Some id → IsTrue (is_some o)
some_is None id e = cc
some_is (Some i) id e = refl

-- ---- what an answer holds

abbrev message_in : Answered → Message → Message
message_in (answered.Message message) other = message
message_in (answered.GivenUp given) other = other

pub same_message : (a b : Message) → answered.Message a ≡ answered.Message b → a ≡ b
same_message a b e = ap (λ inner. message_in inner a) e

abbrev answers_in : Letter → AnswersParts → AnswersParts
answers_in (letters.Answers answers) other = answers
answers_in (letters.Says says) other = other
answers_in (letters.Message message) other = other

pub same_answers : (a b : AnswersParts) → letters.Answers a ≡ letters.Answers b → a ≡ b
same_answers a b e = ap (λ letter. answers_in letter a) e

pub download_passes : (m : Marks) (at : Standing) (answers : AnswersParts) (download : DownloadParts) → answers.inner ≡ answered.Message (messages.Download download) → answers_test m at answers ≡ None → DownloadPasses at download
download_passes m at answers download is e =
    let p = passes m at answers e in
    let named = sym (ap (is_named at.ident p.0.id) is) ∙ p.0.named in
    let inner = sym (ap (inner_test m at answers) is) ∙ p.1 in
    record {
      born = some_is at.id p.0.id p.0.born;
      named = eqb-true download.ident at.ident named;
      reaches = ltb-false at.cursor download.from (passes_if (nat_lt at.cursor download.from) _ _ inner).0;
    }
