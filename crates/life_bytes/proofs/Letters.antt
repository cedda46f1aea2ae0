-- The two laws of messages with lives: what is read is spelled so, and what is spelled so is read.
use Rattle.std.proofs.Common.{◌≡◌, ℕ, suc, ◌<◌, ◌≤◌, Bool, true, false, cond, eqb, List, [], ◌∷◌, ◌++◌, Option, Some, None, Result, Ok, Err, refl, sym, ap, subst, ◌∙◌, arith, lit<}
use Rattle.std.specs.Prelude.{IfOk}
use Rattle.std.proofs.lemmas.Bool.{eqb-true, ne_eqb}
use Rattle.sync_io.specs.VarintLaws.{IsBytes}
use Rattle.sync_io.specs.Formats.{◌>>=◌, all_in}
use Rattle.sync_io.specs.FormatLaws.{IsFormat, bind_some, bound, some_is, guard_some, bytes_is, both_is}
use Rattle.sync_records.specs.Reading.{seen}
use Rattle.sync_records.proofs.Whole.{IsWhole, all_is}
use Rattle.sync_messages.specs.declared.message.Message.{Message}
use Rattle.sync_messages.specs.declared.message.Message.TheVariants as messages
use Rattle.sync_messages.specs.declared.refusal.MessageRefusal.{MessageRefusal}
use Rattle.sync_messages.specs.Spelling.{message_spelling, message_tag, fields_spelling}
use Rattle.sync_messages.specs.Reading.{Gives, message_in}
use Rattle.sync_messages.specs.Whole.{IsMessage}
use Rattle.sync_messages.proofs.Messages.{is_found, is_read, is_whole}
use Rattle.sync_messages.proofs.Tagged.{tagged}
use Rattle.sync_messages.proofs.Wholes.{message_whole}
use Rattle.life_bytes.specs.declared.mark.Mark.{Mark}
use Rattle.life_bytes.specs.declared.saves.Saving.{Saving}
use Rattle.life_bytes.specs.declared.said.Said.{Said}
use Rattle.life_bytes.specs.declared.said.Said.TheVariants as said
use Rattle.life_bytes.specs.declared.answered.Answered.{Answered}
use Rattle.life_bytes.specs.declared.answered.Answered.TheVariants as answered
use Rattle.life_bytes.specs.declared.letter.Letter.{Letter}
use Rattle.life_bytes.specs.declared.letter.Letter.TheVariants as letters
use Rattle.life_bytes.specs.Runs.{Lives}
use Rattle.life_bytes.specs.Envelopes.{SaysParts, AnswersParts, is_says, is_answers}
use Rattle.life_bytes.specs.Spelling.{said_spelling, answered_spelling, says_spelling, answers_spelling, letter_spelling}
use Rattle.life_bytes.specs.Reading.{then_in, kept, give_up_in, given_up_in, said_in, answered_in, says_as, says_in, answers_as, answers_in, letter_in}
use Rattle.life_bytes.specs.Whole.{IsWholeSaid, IsWholeAnswered, IsWholeSays, IsWholeAnswers, IsLetter}
use Rattle.life_bytes.proofs.Formats.{give_up_is, given_up_is, mark_is, lives_is, savings_are}

-- ---- readers that take all of the bytes

module _ {A B : Type 0} {a : A → List ℕ} {b : B → List ℕ} {read_a : List ℕ → Option (A × List ℕ)} {read_b : List ℕ → Option B} {FitsA : A → Type 0} {FitsB : B → Type 0} (is_a : IsFormat a read_a FitsA) (is_b : IsWhole b read_b FitsB) where
  then_take : (bytes : List ℕ) (x : A × B) → IsBytes bytes → then_in read_a read_b bytes ≡ Some x → (bytes ≡ a x.0 ++ b x.1) × (FitsA x.0 × FitsB x.1)
  then_take bytes x ok e =
      let p = bind_some (read_a bytes) (λ x. read_b x.1 >>= λ y. Some (x.0, y)) x e in
      let q = bind_some (read_b p.0.1) (λ y. Some (p.0.0, y)) x p.2 in
      let first = is_a.takes bytes p.0 ok p.1 in
      let second = is_b.takes p.0.1 q.0 first.0.rest_fits q.1 in
      subst (λ (y : A × B). (bytes ≡ a y.0 ++ b y.1) × (FitsA y.0 × FitsB y.1)) (some_is (p.0.0, q.0) x q.2)
      (first.0.parts ∙ ap (λ (t : List ℕ). a p.0.0 ++ t) second.0, (first.1, second.1))

  then_again : (x : A × B) → FitsA x.0 × FitsB x.1 → then_in read_a read_b (a x.0 ++ b x.1) ≡ Some x
  then_again x f =
      bound (read_a (a x.0 ++ b x.1)) (λ x. read_b x.1 >>= λ y. Some (x.0, y)) (x.0, b x.1) (is_a.again x.0 (b x.1) f.0)
      ∙ bound (read_b (b x.1)) (λ y. Some (x.0, y)) x.1 (is_b.again x.1 f.1)

  then_is : IsWhole (λ (x : A × B). a x.0 ++ b x.1) (then_in read_a read_b) (λ x. FitsA x.0 × FitsB x.1)
  then_is = record { takes = then_take; again = then_again }

module _ {A : Type 0} {a : A → List ℕ} {read : List ℕ → Option A} {Fits : A → Type 0} (is : IsWhole a read Fits) where
  kept_is : (test : A → Bool) → IsWhole a (kept test read) (λ x. Fits x × (test x ≡ true))
  kept_is test = record {
    takes = λ bytes x ok e.
        let p = bind_some (read bytes) (λ x. cond (test x) (Some x) None) x e in
        let g = guard_some (test p.0) p.0 x p.2 in
        let first = is.takes bytes p.0 ok p.1 in
        subst (λ (y : A). (bytes ≡ a y) × (Fits y × (test y ≡ true))) g.1 (first.0, (first.1, g.0));
    again = λ x f. bound (read (a x)) (λ x. cond (test x) (Some x) None) x (is.again x f.0) ∙ ap (λ b. cond b (Some x) None) f.1;
  }

  -- under another form, which tells as much
  turned_is : {B : Type 0} (view : A → B) (back : B → A) → ((x : A) → back (view x) ≡ x) → ((y : B) → view (back y) ≡ y) → IsWhole (λ y. a (back y)) (seen view read) (λ y. Fits (back y))
  turned_is {B = B} view back there here = record {
    takes = λ bytes x ok e.
        let p = bind_some (read bytes) (λ x. Some (view x)) x e in
        let first = is.takes bytes p.0 ok p.1 in
        subst (λ (y : B). (bytes ≡ a (back y)) × Fits (back y)) (some_is (view p.0) x p.2)
        (subst (λ (v : A). (bytes ≡ a v) × Fits v) (sym (there p.0)) first);
    again = λ y f. bound (read (a (back y))) (λ x. Some (view x)) (back y) (is.again (back y) f) ∙ ap (λ (v : B). Some v) (here y);
  }

  -- as one of several forms
  seen_is : {B : Type 0} (make : A → B) (text : B → List ℕ) (FitsB : B → Type 0) → ((x : A) → text (make x) ≡ a x) → ((x : A) → Fits x → FitsB (make x))
      → (bytes : List ℕ) (y : B) → IsBytes bytes → seen make read bytes ≡ Some y → (bytes ≡ text y) × FitsB y
  seen_is {B = B} make text FitsB same whole bytes y ok e =
      let p = bind_some (read bytes) (λ x. Some (make x)) y e in
      let first = is.takes bytes p.0 ok p.1 in
      subst (λ (y : B). (bytes ≡ text y) × FitsB y) (some_is (make p.0) y p.2) (first.0 ∙ sym (same p.0), whole p.0 first.1)

  seen_again : {B : Type 0} (make : A → B) (x : A) → Fits x → seen make read (a x) ≡ Some (make x)
  seen_again make x fits = bound (read (a x)) (λ x. Some (make x)) x (is.again x fits)

-- bytes behind a tag
behind : {A B : Type 0} {a : A → List ℕ} {read : List ℕ → Option A} {Fits : A → Type 0} (is : IsWhole a read Fits) (make : A → B) (text : B → List ℕ) (FitsB : B → Type 0) (n tag : ℕ) → eqb tag n ≡ true
    → ((x : A) → text (make x) ≡ n ∷ a x) → ((x : A) → Fits x → FitsB (make x)) → (bytes : List ℕ) (y : B) → IsBytes bytes → seen make read bytes ≡ Some y → (tag ∷ bytes ≡ text y) × FitsB y
behind {B = B} {a = a} {read = read} is make text FitsB n tag same spelled whole bytes y ok e =
    let p = bind_some (read bytes) (λ x. Some (make x)) y e in
    let first = is.takes bytes p.0 ok p.1 in
    subst (λ (y : B). (tag ∷ bytes ≡ text y) × FitsB y) (some_is (make p.0) y p.2)
    (ap (λ (t : ℕ). t ∷ bytes) (eqb-true tag n same) ∙ ap (λ (t : List ℕ). n ∷ t) first.0 ∙ sym (spelled p.0), whole p.0 first.1)

-- ---- messages without lives

message_is : IsWhole message_spelling message_in IsMessage
message_is = record {
  takes = λ bytes m ok e. (is_found bytes (Ok m) ok e, message_whole m (is_whole bytes (Ok m) ok e));
  again = λ m is. is_read (message_spelling m) m is refl;
}

small_tag : (m : Message) → message_tag m < 12
small_tag (messages.Bind uuid) = lit< tt
small_tag (messages.Ident given) = lit< tt
small_tag (messages.Upload upload) = lit< tt
small_tag (messages.Ask ask) = lit< tt
small_tag (messages.Download download) = lit< tt
small_tag (messages.Refused ident number code place) = lit< tt
small_tag (messages.Stored stored) = lit< tt
small_tag (messages.Ask2 ask) = lit< tt
small_tag (messages.Retire retire) = lit< tt
small_tag (messages.Retired retired) = lit< tt
small_tag (messages.AskTables asked) = lit< tt

other_tag : (m : Message) (n : ℕ) → 12 ≤ n → eqb (message_tag m) n ≡ false
other_tag m n le = ne_eqb (message_tag m) n (λ e. absurd (omega (arith, small_tag m, e, le)))

-- ---- what stands in a Says

said_take : (tag : ℕ) (bytes : List ℕ) (x : Said) (b : Bool) → eqb tag 14 ≡ b → IsBytes (tag ∷ bytes)
    → cond b (seen said.GiveUp (all_in give_up_in) bytes) (seen said.Message message_in (tag ∷ bytes)) ≡ Some x → (tag ∷ bytes ≡ said_spelling x) × IsWholeSaid x
said_take tag bytes x true same ok e = behind (all_is give_up_is) said.GiveUp said_spelling IsWholeSaid 14 tag same (λ x. refl) (λ x f. f) bytes x (λ i. ok (suc i)) e
said_take tag bytes x false same ok e = seen_is message_is said.Message said_spelling IsWholeSaid (λ m. refl) (λ m is. is) (tag ∷ bytes) x ok e

said_takes : (bytes : List ℕ) (x : Said) → IsBytes bytes → said_in bytes ≡ Some x → (bytes ≡ said_spelling x) × IsWholeSaid x
said_takes [] x ok e = absurd cc
said_takes (tag ∷ bytes) x ok e = said_take tag bytes x (eqb tag 14) refl ok e

said_passes : (m : Message) → said_in (message_spelling m) ≡ seen said.Message message_in (message_spelling m)
said_passes m =
    ap said_in (sym (tagged m))
    ∙ ap (λ b. cond b (seen said.GiveUp (all_in give_up_in) (fields_spelling m)) (seen said.Message message_in (message_tag m ∷ fields_spelling m))) (other_tag m 14 (omega arith))
    ∙ ap (seen said.Message message_in) (tagged m)

said_again : (x : Said) → IsWholeSaid x → said_in (said_spelling x) ≡ Some x
said_again (said.Message m) is = said_passes m ∙ seen_again message_is said.Message m is
said_again (said.GiveUp given) is = seen_again (all_is give_up_is) said.GiveUp given is

said_is : IsWhole said_spelling said_in IsWholeSaid
said_is = record { takes = said_takes; again = said_again }

-- ---- what stands in an Answers

answered_take : (tag : ℕ) (bytes : List ℕ) (x : Answered) (b : Bool) → eqb tag 15 ≡ b → IsBytes (tag ∷ bytes)
    → cond b (seen answered.GivenUp (all_in given_up_in) bytes) (seen answered.Message message_in (tag ∷ bytes)) ≡ Some x → (tag ∷ bytes ≡ answered_spelling x) × IsWholeAnswered x
answered_take tag bytes x true same ok e = behind (all_is given_up_is) answered.GivenUp answered_spelling IsWholeAnswered 15 tag same (λ x. refl) (λ x f. f) bytes x (λ i. ok (suc i)) e
answered_take tag bytes x false same ok e = seen_is message_is answered.Message answered_spelling IsWholeAnswered (λ m. refl) (λ m is. is) (tag ∷ bytes) x ok e

answered_takes : (bytes : List ℕ) (x : Answered) → IsBytes bytes → answered_in bytes ≡ Some x → (bytes ≡ answered_spelling x) × IsWholeAnswered x
answered_takes [] x ok e = absurd cc
answered_takes (tag ∷ bytes) x ok e = answered_take tag bytes x (eqb tag 15) refl ok e

answered_passes : (m : Message) → answered_in (message_spelling m) ≡ seen answered.Message message_in (message_spelling m)
answered_passes m =
    ap answered_in (sym (tagged m))
    ∙ ap (λ b. cond b (seen answered.GivenUp (all_in given_up_in) (fields_spelling m)) (seen answered.Message message_in (message_tag m ∷ fields_spelling m))) (other_tag m 15 (omega arith))
    ∙ ap (seen answered.Message message_in) (tagged m)

answered_again : (x : Answered) → IsWholeAnswered x → answered_in (answered_spelling x) ≡ Some x
answered_again (answered.Message m) is = answered_passes m ∙ seen_again message_is answered.Message m is
answered_again (answered.GivenUp given) is = seen_again (all_is given_up_is) answered.GivenUp given is

answered_is : IsWhole answered_spelling answered_in IsWholeAnswered
answered_is = record { takes = answered_takes; again = answered_again }

-- ---- Says and Answers

abbrev says_back : SaysParts → (((List ℕ × Mark) × Lives) × List Saving) × Said
says_back says = ((((says.uuid, says.cursor), says.lives), says.saves), says.inner)

says_is : IsWhole says_spelling says_in IsWholeSays
unfolding says_in
says_is =
    let fields = then_is (both_is (both_is (both_is (bytes_is 16) mark_is) lives_is) savings_are) said_is in
    let all = kept_is (turned_is fields says_as says_back (λ x. refl) (λ y. refl)) is_says in
    record {
      takes = λ bytes x ok e.
          let f = all.takes bytes x ok e in
          (f.0, (f.1.1, f.1.0.0.0.0.0, f.1.0.0.0.0.1, f.1.0.0.0.1, f.1.0.0.1, f.1.0.1));
      again = λ x is. all.again x (((((is.1, is.2), is.3), is.4), is.5), is.0);
    }

abbrev answers_back : AnswersParts → (((List ℕ × List ℕ) × Mark) × Lives) × Answered
answers_back answers = ((((answers.uuid, answers.birth), answers.last), answers.lives), answers.inner)

answers_is : IsWhole answers_spelling answers_in IsWholeAnswers
unfolding answers_in
answers_is =
    let fields = then_is (both_is (both_is (both_is (bytes_is 16) (bytes_is 16)) mark_is) lives_is) answered_is in
    let all = kept_is (turned_is fields answers_as answers_back (λ x. refl) (λ y. refl)) is_answers in
    record {
      takes = λ bytes x ok e.
          let f = all.takes bytes x ok e in
          (f.0, (f.1.1, f.1.0.0.0.0.0, f.1.0.0.0.0.1, f.1.0.0.0.1, f.1.0.0.1, f.1.0.1));
      again = λ x is. all.again x (((((is.1, is.2), is.3), is.4), is.5), is.0);
    }

-- ---- letters

others_take : (tag : ℕ) (bytes : List ℕ) (x : Letter) (b : Bool) → eqb tag 13 ≡ b → IsBytes (tag ∷ bytes)
    → cond b (seen letters.Answers answers_in bytes) (seen letters.Message message_in (tag ∷ bytes)) ≡ Some x → (tag ∷ bytes ≡ letter_spelling x) × IsLetter x
others_take tag bytes x true same ok e = behind answers_is letters.Answers letter_spelling IsLetter 13 tag same (λ x. refl) (λ x f. f) bytes x (λ i. ok (suc i)) e
others_take tag bytes x false same ok e = seen_is message_is letters.Message letter_spelling IsLetter (λ m. refl) (λ m is. is) (tag ∷ bytes) x ok e

letter_take : (tag : ℕ) (bytes : List ℕ) (x : Letter) (b : Bool) → eqb tag 12 ≡ b → IsBytes (tag ∷ bytes)
    → cond b (seen letters.Says says_in bytes) (cond (eqb tag 13) (seen letters.Answers answers_in bytes) (seen letters.Message message_in (tag ∷ bytes))) ≡ Some x → (tag ∷ bytes ≡ letter_spelling x) × IsLetter x
letter_take tag bytes x true same ok e = behind says_is letters.Says letter_spelling IsLetter 12 tag same (λ x. refl) (λ x f. f) bytes x (λ i. ok (suc i)) e
letter_take tag bytes x false same ok e = others_take tag bytes x (eqb tag 13) refl ok e

letter_takes : (bytes : List ℕ) (x : Letter) → IsBytes bytes → letter_in bytes ≡ Some x → (bytes ≡ letter_spelling x) × IsLetter x
letter_takes [] x ok e = absurd cc
letter_takes (tag ∷ bytes) x ok e = letter_take tag bytes x (eqb tag 12) refl ok e

letter_passes : (m : Message) → letter_in (message_spelling m) ≡ seen letters.Message message_in (message_spelling m)
letter_passes m =
    let others = seen letters.Message message_in (message_tag m ∷ fields_spelling m) in
    ap letter_in (sym (tagged m))
    ∙ ap (λ b. cond b (seen letters.Says says_in (fields_spelling m)) (cond (eqb (message_tag m) 13) (seen letters.Answers answers_in (fields_spelling m)) others)) (other_tag m 12 (omega arith))
    ∙ ap (λ b. cond b (seen letters.Answers answers_in (fields_spelling m)) others) (other_tag m 13 (omega arith))
    ∙ ap (seen letters.Message message_in) (tagged m)

letter_again : (x : Letter) → IsLetter x → letter_in (letter_spelling x) ≡ Some x
letter_again (letters.Message m) is = letter_passes m ∙ seen_again message_is letters.Message m is
letter_again (letters.Says says) is = seen_again says_is letters.Says says is
letter_again (letters.Answers answers) is = seen_again answers_is letters.Answers answers is

pub letter_found : (bytes : List ℕ) (r : Result Letter MessageRefusal) → IsBytes bytes → Gives (λ x. x) r (letter_in bytes) → IfOk r (λ letter. bytes ≡ letter_spelling letter)
letter_found bytes (Ok letter) ok given = (letter_takes bytes letter ok given).0
letter_found bytes (Err refusal) ok given = tt

pub letter_whole : (bytes : List ℕ) (r : Result Letter MessageRefusal) → IsBytes bytes → Gives (λ x. x) r (letter_in bytes) → IfOk r IsLetter
letter_whole bytes (Ok letter) ok given = (letter_takes bytes letter ok given).1
letter_whole bytes (Err refusal) ok given = tt

pub letter_read : (bytes : List ℕ) (letter : Letter) → IsLetter letter → bytes ≡ letter_spelling letter → letter_in bytes ≡ Some letter
letter_read bytes letter is e = ap letter_in e ∙ letter_again letter is
