-- Numbers in decimal as words, and the words of each command.
use Rattle.std.proofs.Common.{◌≡◌, ◌≢◌, ◌<◌, ◌≤◌, ◌^◌, ℕ, Bool, true, false, List, [], ◌∷◌, length, get_or, map, codes, Option, None, Some, Result, Ok, Err, refl, sym, ap, subst, ◌∙◌, arith}
use Rattle.std.specs.Fmt.{decimal}
use Rattle.std.specs.Result.{result_ok}
use Rattle.std.specs.Str.Parse.{AllDigits, IsNumeral, ParsesUnsigned, digits_value}
use Rattle.std.proofs.lemmas.Fmt.{decimal-digits_value, decimal_digit, decimal_is_IsNumeral, first_decimal, parse-decimal}
use Rattle.std.proofs.lemmas.Str.Parse.{IsNumeralModel, numerals_by_value, tells_digits, parse_plain, digit_at}
use Rattle.std.proofs.lemmas.Bool.Decides.{nat_tests}
use Rattle.std.proofs.lemmas.Slice.Eq.{bytes_eq-Decides}
use Rattle.std.specs.Int.{IsInRange}
use Rattle.std.specs.Str.{bytes_eq}
use Rattle.uuid.specs.Text.{parsed as uuid_of}
use Rattle.sync_top.specs.declared.job.Job.{Job}
use Rattle.sync_top.specs.declared.job.Job.TheVariants as jobs
use Rattle.sync_node.specs.declared.files.FileCommand.{FileCommand}
use Rattle.sync_node.specs.declared.files.FileCommand.TheVariants as commands
use Rattle.sync_node.specs.FileCommands.{IsFileCommand}
use Rattle.sync_top.specs.Jobs.{AreMore, AsksFor, IsExchange, IsFileJob, IsNumber, IsNumberedJob, IsPlain, IsStart, command_word, is_padded}

own : IsNumeralModel (AllDigits 10) (digits_value 10)
own = numerals_by_value (AllDigits 10) tells_digits

-- ---- what isn't padded
plain_first : (bs : List ℕ) → is_padded bs ≡ false → get_or bs 0 0 ≢ 43
plain_first [] e = λ h. cc
plain_first (b ∷ bs) e = λ h. grind (arith, nat_tests)

plain_zero : (bs : List ℕ) → is_padded bs ≡ false → get_or bs 0 0 ≡ 48 → length bs ≡ 1
plain_zero [] e = λ h. cc
plain_zero (b ∷ bs) e = λ h. grind (arith, nat_tests)

-- a number in decimal isn't padded
plain_by : (n : ℕ) (bs : List ℕ) → n < 2 ^ 64 → IsInRange 48 57 (get_or bs 0 0) → 0 < length bs → (0 < n → 48 < get_or bs 0 0) → (n ≡ 0 → length bs ≡ 1) → is_padded bs ≡ false
plain_by n [] small digit filled first none = absurd (omega arith)
plain_by n (b ∷ bs) small digit filled first none = grind (arith, nat_tests)

decimal_plain : (n : ℕ) → n < 2 ^ 64 → is_padded (decimal n) ≡ false
decimal_plain n small =
    let numeral : IsNumeral 10 (decimal n) = (decimal_is_IsNumeral n small).0 in
    let none : n ≡ 0 → length (decimal n) ≡ 1 = λ z. ap length (decimal_digit n (omega arith)) in
    plain_by n (decimal n) small (digit_at (decimal n) 0 numeral.1 numeral.0) numeral.0 (λ some. first_decimal n some small) none

pub number_plain : (n : ℕ) (bs : List ℕ) → IsNumber n bs → is_padded bs ≡ false
number_plain n bs is = subst (λ (b : List ℕ). is_padded b ≡ false) (sym is.0) (decimal_plain n is.1)

-- ---- what is parsed
parsed : {E : Type 0} (bs : List ℕ) (r : Result ℕ E) → ParsesUnsigned 64 10 bs r → is_padded bs ≡ false → (n : ℕ) → result_ok r ≡ Some n → IsNumber n bs
parsed {E} bs (Err e) parses plain n is = cc
parsed {E} bs (Ok x) parses plain n is =
    let got = parse_plain own {E = E} 64 bs (Ok x) parses (plain_first bs plain) in
    let same : n ≡ digits_value 10 bs = cc (got.1) in
    let text : decimal (digits_value 10 bs) ≡ bs = decimal-digits_value own bs got.0.0 got.0.1 (plain_zero bs plain) got.0.2 in
    (sym text ∙ ap decimal (sym same), subst (λ (k : ℕ). k < 2 ^ 64) (sym same) got.0.2)

pub parsed_number : {E : Type 0} (bs : List ℕ) (r : Result ℕ E) (o : Option ℕ) → o ≡ result_ok r → ParsesUnsigned 64 10 bs r → is_padded bs ≡ false → (n : ℕ) → (o ≡ Some n → IsNumber n bs) × (IsNumber n bs → o ≡ Some n)
parsed_number bs r o is parses plain n =
    (λ some. parsed bs r parses plain n (sym is ∙ some), λ number. is ∙ ap result_ok (parse-decimal 64 n bs r number.1 number.1 number.0 parses))

-- ---- lists by their places
pub one_item : {A B : Type 0} (f : A → B) (xs : List A) (a : A) (b : B) → 1 ≤ length xs → length xs < 2 → a ≡ get_or xs 0 a → b ≡ f a → map f xs ≡ b ∷ []
one_item f [] a b low high first is = absurd (omega arith)
one_item f (x ∷ []) a b low high first is = cc
one_item f (x ∷ y ∷ xs) a b low high first is = absurd (omega arith)

pub two_items : {A B : Type 0} (f : A → B) (xs : List A) (a : A) (b : B) → 2 ≤ length xs → length xs < 3 → a ≡ get_or xs 0 a → b ≡ f a → (file : B) × (map f xs ≡ b ∷ file ∷ [])
two_items f [] a b low high first is = absurd (omega arith)
two_items f (x ∷ []) a b low high first is = absurd (omega arith)
two_items f (x ∷ y ∷ []) a b low high first is = (f y, let same : x ≡ a = cc in let head : f x ≡ b = cc in ap (λ h. h ∷ f y ∷ []) head)
two_items f (x ∷ y ∷ z ∷ xs) a b low high first is = absurd (omega arith)

pub three_items : {A B : Type 0} (f : A → B) (xs : List A) (a1 a2 a3 : A) (b1 b2 b3 : B) → 3 ≤ length xs → length xs < 4 → a1 ≡ get_or xs 0 a1 → a2 ≡ get_or xs 1 a2 → a3 ≡ get_or xs 2 a3
    → b1 ≡ f a1 → b2 ≡ f a2 → b3 ≡ f a3 → map f xs ≡ b1 ∷ b2 ∷ b3 ∷ []
three_items f [] a1 a2 a3 b1 b2 b3 low high e1 e2 e3 is1 is2 is3 = absurd (omega arith)
three_items f (x ∷ []) a1 a2 a3 b1 b2 b3 low high e1 e2 e3 is1 is2 is3 = absurd (omega arith)
three_items f (x ∷ y ∷ []) a1 a2 a3 b1 b2 b3 low high e1 e2 e3 is1 is2 is3 = absurd (omega arith)
three_items f (x ∷ y ∷ z ∷ []) a1 a2 a3 b1 b2 b3 low high e1 e2 e3 is1 is2 is3 = cc
three_items f (x ∷ y ∷ z ∷ w ∷ xs) a1 a2 a3 b1 b2 b3 low high e1 e2 e3 is1 is2 is3 = absurd (omega arith)

pub is_text : (r : Bool) (xs ys : List ℕ) → r ≡ bytes_eq xs ys → r ≡ true → xs ≡ ys
is_text r xs ys e t = (bytes_eq-Decides xs ys).0 (sym e ∙ t)

-- ---- commands over a file
-- one that takes no more words
plain_more : (command : FileCommand) → IsPlain command → AreMore command []
plain_more commands.Edit is = refl
plain_more commands.Send is = refl
plain_more commands.Ask is = refl
plain_more commands.Take is = refl
plain_more commands.Serve is = refl
plain_more commands.Show is = refl
plain_more (commands.Retire ident) is = absurd is
plain_more (commands.Rescue after) is = absurd is
plain_more commands.Recover is = refl
plain_more commands.Trim is = refl
plain_more commands.Shrink is = refl
plain_more (commands.Start id) is = absurd is

plain_command : (command : FileCommand) → IsPlain command → IsFileCommand command
plain_command commands.Edit is = tt
plain_command commands.Send is = tt
plain_command commands.Ask is = tt
plain_command commands.Take is = tt
plain_command commands.Serve is = tt
plain_command commands.Show is = tt
plain_command (commands.Retire ident) is = absurd is
plain_command (commands.Rescue after) is = absurd is
plain_command commands.Recover is = tt
plain_command commands.Trim is = tt
plain_command commands.Shrink is = tt
plain_command (commands.Start id) is = absurd is

none_plain : (command : FileCommand) → AreMore command [] → IsPlain command
none_plain commands.Edit is = tt
none_plain commands.Send is = tt
none_plain commands.Ask is = tt
none_plain commands.Take is = tt
none_plain commands.Serve is = tt
none_plain commands.Show is = tt
none_plain (commands.Retire ident) is = cc
none_plain (commands.Rescue after) is = cc
none_plain commands.Recover is = tt
none_plain commands.Trim is = tt
none_plain commands.Shrink is = tt
none_plain (commands.Start id) is = let none = is.1 in cc

-- no command over a file has the word of an exchange
not_gen : (command : FileCommand) → codes "gen" ≡ command_word command → ⊥
not_gen commands.Edit is = cc
not_gen commands.Send is = cc
not_gen commands.Ask is = absurd (omega (arith, ap (λ w. get_or w 0 0) is))
not_gen commands.Take is = cc
not_gen commands.Serve is = cc
not_gen commands.Show is = cc
not_gen (commands.Retire ident) is = cc
not_gen (commands.Rescue after) is = cc
not_gen commands.Recover is = cc
not_gen commands.Trim is = cc
not_gen commands.Shrink is = cc
not_gen (commands.Start id) is = cc

-- what three words ask for, and nothing else
abbrev pub AreJob : Option Job → List ℕ → List ℕ → List ℕ → Type 0
AreJob o word second third = (job : Job) → (o ≡ Some job → IsNumberedJob job word second third) × (IsNumberedJob job word second third → o ≡ Some job)

pub gen_job : (word second third : List ℕ) (o : Option Job) → word ≡ codes "gen" → ((job : Job) → (o ≡ Some job → IsExchange job second third) × (IsExchange job second third → o ≡ Some job)) → AreJob o word second third
gen_job word second third o is exact jobs.Replay = (λ some. (exact jobs.Replay).0 some, λ none. absurd none)
gen_job word second third o is exact (jobs.Generate seed count) = (λ some. (is, (exact (jobs.Generate seed count)).0 some), λ asks. (exact (jobs.Generate seed count)).1 asks.1)
gen_job word second third o is exact (jobs.File command) = (λ some. absurd ((exact (jobs.File command)).0 some), λ asks. absurd (not_gen command (sym is ∙ asks.0)))

pub start_job : (word second third : List ℕ) (o : Option Job) → word ≡ codes "start" → ((job : Job) → (o ≡ Some job → IsStart job third) × (IsStart job third → o ≡ Some job)) → AreJob o word second third
start_job word second third o is exact jobs.Replay = (λ some. absurd ((exact jobs.Replay).0 some), λ none. absurd none)
start_job word second third o is exact (jobs.Generate seed count) = (λ some. absurd ((exact (jobs.Generate seed count)).0 some), λ asks. let e = sym is ∙ asks.0 in cc)
start_job word second third o is exact (jobs.File (commands.Start id)) = (
  λ some. (is, (third, refl, (exact (jobs.File (commands.Start id))).0 some), tt),
  λ asks. let more = asks.1 in let same : more.0 ≡ third = cc in (exact (jobs.File (commands.Start id))).1 (subst (λ w. uuid_of w ≡ Some id) same more.2),
)
start_job word second third o is exact (jobs.File commands.Edit) = (λ some. absurd ((exact (jobs.File commands.Edit)).0 some), λ asks. let e = sym is ∙ asks.0 in cc)
start_job word second third o is exact (jobs.File commands.Send) = (λ some. absurd ((exact (jobs.File commands.Send)).0 some), λ asks. let e = sym is ∙ asks.0 in cc)
start_job word second third o is exact (jobs.File commands.Ask) = (λ some. absurd ((exact (jobs.File commands.Ask)).0 some), λ asks. let e = sym is ∙ asks.0 in cc)
start_job word second third o is exact (jobs.File commands.Take) = (λ some. absurd ((exact (jobs.File commands.Take)).0 some), λ asks. let e = sym is ∙ asks.0 in cc)
start_job word second third o is exact (jobs.File commands.Serve) = (λ some. absurd ((exact (jobs.File commands.Serve)).0 some), λ asks. let e = sym is ∙ asks.0 in cc)
start_job word second third o is exact (jobs.File commands.Show) = (λ some. absurd ((exact (jobs.File commands.Show)).0 some), λ asks. let e = sym is ∙ asks.0 in cc)
start_job word second third o is exact (jobs.File (commands.Retire ident)) = (λ some. absurd ((exact (jobs.File (commands.Retire ident))).0 some), λ asks. let e = sym is ∙ asks.0 in cc)
start_job word second third o is exact (jobs.File (commands.Rescue after)) = (λ some. absurd ((exact (jobs.File (commands.Rescue after))).0 some), λ asks. let e = sym is ∙ asks.0 in cc)
start_job word second third o is exact (jobs.File commands.Recover) = (λ some. absurd ((exact (jobs.File commands.Recover)).0 some), λ asks. let e = sym is ∙ asks.0 in cc)
start_job word second third o is exact (jobs.File commands.Trim) = (λ some. absurd ((exact (jobs.File commands.Trim)).0 some), λ asks. let e = sym is ∙ asks.0 in cc)
start_job word second third o is exact (jobs.File commands.Shrink) = (λ some. absurd ((exact (jobs.File commands.Shrink)).0 some), λ asks. let e = sym is ∙ asks.0 in cc)

-- at most one word stands behind the file
more_short : (command : FileCommand) (more : List (List ℕ)) → AreMore command more → length more ≤ 1
more_short (commands.Retire ident) more are = omega (arith, ap length are)
more_short (commands.Rescue after) more are = omega (arith, ap length are)
more_short (commands.Start id) more are = omega (arith, ap length are.1)
more_short commands.Edit more are = omega (arith, ap length are)
more_short commands.Send more are = omega (arith, ap length are)
more_short commands.Ask more are = omega (arith, ap length are)
more_short commands.Take more are = omega (arith, ap length are)
more_short commands.Serve more are = omega (arith, ap length are)
more_short commands.Show more are = omega (arith, ap length are)
more_short commands.Recover more are = omega (arith, ap length are)
more_short commands.Trim more are = omega (arith, ap length are)
more_short commands.Shrink more are = omega (arith, ap length are)

-- more words ask for nothing
pub none_long : (words : List (List ℕ)) → 4 ≤ length words → (job : Job) → (◌≡◌ {A = Option Job} None (Some job) → AsksFor job words) × (AsksFor job words → ◌≡◌ {A = Option Job} None (Some job))
none_long words long jobs.Replay = (λ some. cc, λ e. absurd (omega (arith, long, ap length e)))
none_long words long (jobs.Generate seed count) = (λ some. cc, λ e. absurd (omega (arith, long, ap length e.0)))
none_long words long (jobs.File command) = (λ some. cc, λ e. absurd (let short = more_short command e.1 e.3 in omega (arith, long, short, ap length e.2)))

-- a word that is no uuid starts no client
pub none_start : (word : List ℕ) → ((id : _) → uuid_of word ≡ Some id → ⊥) → (job : Job) → (◌≡◌ {A = Option Job} None (Some job) → IsStart job word) × (IsStart job word → ◌≡◌ {A = Option Job} None (Some job))
none_start word none jobs.Replay = (λ some. cc, λ is. absurd is)
none_start word none (jobs.Generate seed count) = (λ some. cc, λ is. absurd is)
none_start word none (jobs.File (commands.Start id)) = (λ some. cc, λ is. absurd (none id is))
none_start word none (jobs.File commands.Edit) = (λ some. cc, λ is. absurd is)
none_start word none (jobs.File commands.Send) = (λ some. cc, λ is. absurd is)
none_start word none (jobs.File commands.Ask) = (λ some. cc, λ is. absurd is)
none_start word none (jobs.File commands.Take) = (λ some. cc, λ is. absurd is)
none_start word none (jobs.File commands.Serve) = (λ some. cc, λ is. absurd is)
none_start word none (jobs.File commands.Show) = (λ some. cc, λ is. absurd is)
none_start word none (jobs.File (commands.Retire ident)) = (λ some. cc, λ is. absurd is)
none_start word none (jobs.File (commands.Rescue after)) = (λ some. cc, λ is. absurd is)
none_start word none (jobs.File commands.Recover) = (λ some. cc, λ is. absurd is)
none_start word none (jobs.File commands.Trim) = (λ some. cc, λ is. absurd is)
none_start word none (jobs.File commands.Shrink) = (λ some. cc, λ is. absurd is)

-- ---- all words
-- one word
pub one_word : (words : List (List ℕ)) (word : List ℕ) → words ≡ word ∷ [] → word ≡ codes "replay" → (job : Job) → (Some jobs.Replay ≡ Some job → AsksFor job words) × (AsksFor job words → Some jobs.Replay ≡ Some job)
one_word words word are is jobs.Replay = (λ e. are ∙ ap (λ w. w ∷ []) is, λ e. refl)
one_word words word are is (jobs.File command) = (λ e. cc, λ e. absurd (omega (arith, ap length (sym are ∙ e.2))))
one_word words word are is (jobs.Generate seed count) = (λ e. cc, λ e. absurd (omega (arith, ap length (sym are ∙ e.0))))

-- two words
pub two_words : (words : List (List ℕ)) (word file : List ℕ) (o : Option Job) → words ≡ word ∷ file ∷ [] → ((job : Job) → (o ≡ Some job → IsFileJob job word) × (IsFileJob job word → o ≡ Some job))
    → (job : Job) → (o ≡ Some job → AsksFor job words) × (AsksFor job words → o ≡ Some job)
two_words words word file o are exact jobs.Replay = (λ some. absurd ((exact jobs.Replay).0 some), λ e. absurd (omega (arith, ap length (sym are ∙ e))))
two_words words word file o are exact (jobs.Generate seed count) = (λ some. absurd ((exact (jobs.Generate seed count)).0 some), λ e. absurd (omega (arith, ap length (sym are ∙ e.0))))
two_words words word file o are exact (jobs.File command) = (
  λ some. let got = (exact (jobs.File command)).0 some in (file, [], let word_is = got.1 in cc, plain_more command got.0, plain_command command got.0),
  λ asked. let same = sym are ∙ asked.2 in let none : asked.1 ≡ [] = cc in (exact (jobs.File command)).1 (none_plain command (subst (AreMore command) none asked.3), cc),
)

-- three words
pub three_words : (words : List (List ℕ)) (word second third : List ℕ) (o : Option Job) → words ≡ word ∷ second ∷ third ∷ [] → AreJob o word second third
    → (job : Job) → (o ≡ Some job → AsksFor job words) × (AsksFor job words → o ≡ Some job)
three_words words word second third o are exact jobs.Replay =
    (λ some. absurd ((exact jobs.Replay).0 some), λ e. absurd (omega (arith, ap length (sym are ∙ e))))
three_words words word second third o are exact (jobs.File command) = (
  λ some. let got = (exact (jobs.File command)).0 some in (second, third ∷ [], let word_is = got.0 in cc, got.1, got.2),
  λ asked. let same = sym are ∙ asked.2 in let one : asked.1 ≡ third ∷ [] = cc in (exact (jobs.File command)).1 (cc, subst (AreMore command) one asked.3, asked.4),
)
three_words words word second third o are exact (jobs.Generate s n) = (
  λ some. let got = (exact (jobs.Generate s n)).0 some in (let is = got.0 in let first = got.1.0.0 in let last = got.1.1.0 in cc, got.1.0.1, got.1.2),
  λ asked. (exact (jobs.Generate s n)).1 (let same = sym are ∙ asked.0 in (cc, ((cc, asked.1), (cc, omega (arith, asked.2)), asked.2))),
)
