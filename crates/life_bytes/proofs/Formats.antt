-- Each part of a note and of a message with lives is spelled and read again.
use Rattle.std.proofs.Common.{All, ◌≡◌, ℕ, ◌<◌, ◌≤◌, ◌^◌, true, List, [], ◌∷◌, ◌++◌, length, Option, Some, None, leb, refl, sym, ap, subst, ◌∙◌, arith}
use Rattle.std.specs.List.{AllByRecursion}
use Rattle.std.proofs.lemmas.Bool.{le-leb, leb-true, and_from}
use Rattle.std.proofs.lemmas.List.Elements.{All-from_recursion, recursion_from_All, All-weaker}
use Rattle.std.proofs.lemmas.List.Sums.{sum_by-cons}
use Rattle.sync_io.specs.Varints.{varint}
use Rattle.sync_io.specs.Formats.{seen_in, listed, listed_in}
use Rattle.sync_io.specs.VarintLaws.{Takes}
use Rattle.sync_io.specs.FormatLaws.{IsFormat, bind_some, bound, some_is, number_is, bytes_is, both_is, only_is, listed_is}
use Rattle.life_bytes.specs.declared.run.Run.{Run}
use Rattle.life_bytes.specs.Runs.{IsLife, Lives, AreLives, AreWholeLives, most_runs, most_numbers, lives_of, runs_of, count_of, are_apart, are_runs}
use Rattle.life_bytes.specs.Parts.{most_tokens, most_saves, most_uuids, most_lives}
use Rattle.life_bytes.specs.Spelling.{run_spelling, lives_spelling, token_spelling, saves_spelling, saving_spelling, mark_spelling, numbers_spelling, give_up_spelling, given_up_spelling}
use Rattle.life_bytes.specs.Reading.{run_as, run_in, lives_in, token_as, is_token, token_in, saves_as, saves_in, saving_as, saving_in, mark_as, mark_in, is_named, ident_in, numbers_as, numbers_in, give_up_as, give_up_in, given_up_as, given_up_in}
use Rattle.life_bytes.specs.Whole.{IsIdent, IsNumber, IsWholeRun, IsWholeToken, IsWholeSaves, IsWholeSaving, AreWholeSaves, IsWholeMark, IsWholeNumbers, IsWholeGiveUp, IsWholeGivenUp}
use Rattle.life_bytes.proofs.RunLaws.{lives_again, runs_are_apart, count_is, are_back, are_lives, lives_are, runs_have_lives}

module _ {A : Type 0} {a : A → List ℕ} {read : List ℕ → Option (A × List ℕ)} {Fits : A → Type 0} (is : IsFormat a read Fits) where
  -- the same values, said in another way
  pub fit_is : (F : A → Type 0) → ((x : A) → Fits x → F x) → ((x : A) → F x → Fits x) → IsFormat a read F
  fit_is F there here = record {
    takes = λ bytes x ok e. let first = is.takes bytes x ok e in (first.0, there x.0 first.1);
    again = λ x rest fits. is.again x rest (here x fits);
  }

  -- lists of at most so many
  pub list_is : (most : ℕ) → most < 2 ^ 32 → IsFormat (listed a) (listed_in most read) (λ xs. (length xs ≤ most) × All Fits xs)
  list_is most small = record {
    takes = λ bytes x ok e.
        let first = (listed_is is most).takes bytes x ok e in
        (first.0, (first.1.1, All-from_recursion Fits x.0 first.1.2));
    again = λ xs rest fits.
        let few : length xs ≤ most = fits.0 in
        (listed_is is most).again xs rest (omega (arith, small, few), few, recursion_from_All Fits xs fits.1);
  }

  -- values under another form, which gives back those that fit
  pub seen_where : {B : Type 0} (view : A → B) (back : B → A) (FitsB : B → Type 0) → ((x : A) → Fits x → back (view x) ≡ x) → ((x : A) → Fits x → FitsB (view x)) → ((y : B) → FitsB y → Fits (back y) × (view (back y) ≡ y))
      → IsFormat (λ y. a (back y)) (seen_in view read) FitsB
  seen_where {B = B} view back FitsB there whole fits = record {
    takes = λ bytes x ok e.
        let p = bind_some (read bytes) (λ x. Some (view x.0, x.1)) x e in
        let first = is.takes bytes p.0 ok p.1 in
        subst (λ (y : B × List ℕ). Takes bytes (a (back y.0)) y.1 × FitsB y.0) (some_is (view p.0.0, p.0.1) x p.2)
        (subst (λ v. Takes bytes (a v) p.0.1) (sym (there p.0.0 first.1)) first.0, whole p.0.0 first.1);
    again = λ y rest ok.
        let f = fits y ok in
        bound (read (a (back y) ++ rest)) (λ x. Some (view x.0, x.1)) (back y, rest) (is.again (back y) rest f.0)
        ∙ ap (λ (v : B). Some (v, rest)) f.1;
  }

-- ---- lives

pub run_is : IsFormat run_spelling run_in IsWholeRun
unfolding run_in
run_is = seen_where (both_is number_is (bytes_is 16)) run_as (λ run. (run.count, run.life)) IsWholeRun (λ x f. refl) (λ x f. f) (λ y f. (f, refl))

-- runs that have so many numbers have no more each
counts_fit : (runs : List Run) → count_of runs ≤ most_numbers → AllByRecursion (λ run. IsLife run.life) runs → AllByRecursion IsWholeRun runs
counts_fit [] few all = tt
counts_fit (run ∷ runs) few all =
    let sum = sum_by-cons (λ (run : Run). run.count) run runs in
    ((omega (arith, sum, few), all.0), counts_fit runs (omega (arith, sum, few)) all.1)

lives_whole : (runs : List Run) → ((length runs ≤ most_runs) × All IsWholeRun runs) × (are_runs runs ≡ true) → AreWholeLives (lives_of runs)
lives_whole runs f = (are_lives runs (f.0.0, f.1), lives_are runs (All-weaker IsWholeRun (λ run. IsLife run.life) (λ run is. is.1) runs f.0.1))

pub put_whole : (lives : Lives) (runs : List Run) → lives ≡ lives_of runs → AreLives lives → All IsWholeRun runs → AreWholeLives lives
put_whole lives runs is are all = (are, subst (All IsLife) (sym is) (lives_are runs (All-weaker IsWholeRun (λ run. IsLife run.life) (λ run is. is.1) runs all)))

lives_fit : (lives : Lives) → AreWholeLives lives → ((length (runs_of lives) ≤ most_runs) × All IsWholeRun (runs_of lives)) × (are_runs (runs_of lives) ≡ true)
lives_fit lives are =
    let few : count_of (runs_of lives) ≤ most_numbers = subst (λ n. n ≤ most_numbers) (sym (ap length (lives_again lives)) ∙ count_is (runs_of lives)) are.0.within in (
      (are.0.few, All-from_recursion IsWholeRun (runs_of lives) (counts_fit (runs_of lives) few (runs_have_lives lives (recursion_from_All IsLife lives are.1)))),
      and_from (are_apart None (runs_of lives)) (leb (count_of (runs_of lives)) most_numbers) (runs_are_apart lives) (le-leb (count_of (runs_of lives)) most_numbers few),
    )

pub lives_is : IsFormat lives_spelling lives_in AreWholeLives
unfolding lives_in
lives_is = seen_where (only_is (list_is run_is most_runs (omega arith)) are_runs) lives_of runs_of AreWholeLives (λ runs f. are_back runs (f.0.0, f.1)) lives_whole (λ lives are. (lives_fit lives are, lives_again lives))

-- ---- tokens and what they save

pub token_is : IsFormat token_spelling token_in IsWholeToken
unfolding token_in
token_is = fit_is (only_is (seen_where (both_is (bytes_is 16) number_is) token_as (λ token. (token.life, token.number)) (λ token. IsLife token.life × IsNumber token.number) (λ x f. refl) (λ x f. f) (λ y f. (f, refl))) is_token) IsWholeToken
    (λ token f. (record { numbered = leb-true 1 token.number f.1 }, f.0.0, f.0.1))
    (λ token is. ((is.1, is.2), le-leb 1 token.number is.0.numbered))

pub saves_is : IsFormat saves_spelling saves_in IsWholeSaves
unfolding saves_in
saves_is = seen_where (both_is token_is (list_is token_is most_tokens (omega arith))) saves_as (λ saves. (saves.token, saves.frontier)) IsWholeSaves (λ x f. refl)
    (λ x f. (record { few = f.1.0 }, f.0, f.1.1))
    (λ saves is. ((is.1, (is.0.few, is.2)), refl))

saving_is : IsFormat saving_spelling saving_in IsWholeSaving
unfolding saving_in
saving_is = seen_where (both_is number_is saves_is) saving_as (λ saving. (saving.number, saving.saves)) IsWholeSaving (λ x f. refl) (λ x f. f) (λ y f. (f, refl))

pub savings_are : IsFormat (listed saving_spelling) (listed_in most_saves saving_in) AreWholeSaves
savings_are = list_is saving_is most_saves (omega arith)

-- ---- marks, idents and numbers

pub mark_is : IsFormat mark_spelling mark_in IsWholeMark
unfolding mark_in
mark_is = seen_where (both_is number_is (bytes_is 16)) mark_as (λ mark. (mark.number, mark.life)) IsWholeMark (λ x f. refl) (λ x f. f) (λ y f. (f, refl))

pub ident_is : IsFormat varint ident_in IsIdent
unfolding ident_in
ident_is = fit_is (only_is number_is is_named) IsIdent (λ n f. (leb-true 1 n f.1, f.0)) (λ n is. (is.1, le-leb 1 n is.0))

pub numbers_is : IsFormat numbers_spelling numbers_in IsWholeNumbers
unfolding numbers_in
numbers_is = seen_where (both_is ident_is (bytes_is 16)) numbers_as (λ numbers. (numbers.ident, numbers.life)) IsWholeNumbers (λ x f. refl)
    (λ x f. (record { named = f.0.0 }, f.0.1, f.1))
    (λ numbers is. (((is.0.named, is.1), is.2), refl))

-- ---- what an heir asks, and the answer

pub give_up_is : IsFormat give_up_spelling give_up_in IsWholeGiveUp
unfolding give_up_in
give_up_is = seen_where (both_is (both_is ident_is (list_is (bytes_is 16) most_uuids (omega arith))) (list_is (bytes_is 16) most_lives (omega arith))) give_up_as (λ given. ((given.by, given.uuids), given.lives)) IsWholeGiveUp (λ x f. refl)
    (λ x f. (record { named = f.0.0.0; few_uuids = f.0.1.0; few_lives = f.1.0 }, f.0.0.1, f.0.1.1, f.1.1))
    (λ given is. ((((is.0.named, is.1), (is.0.few_uuids, is.2)), (is.0.few_lives, is.3)), refl))

pub given_up_is : IsFormat given_up_spelling given_up_in IsWholeGivenUp
unfolding given_up_in
given_up_is = seen_where (both_is ident_is (list_is number_is most_lives (omega arith))) given_up_as (λ given. (given.by, given.numbers)) IsWholeGivenUp (λ x f. refl)
    (λ x f. (record { named = f.0.0; few = f.1.0 }, f.0.1, f.1.1))
    (λ given is. (((is.0.named, is.1), (is.0.few, is.2)), refl))
