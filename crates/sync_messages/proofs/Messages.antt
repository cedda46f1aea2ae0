-- The two laws of messages: what is read is spelled so, and what is spelled so is read.
use Rattle.std.proofs.Common.{◌≡◌, ℕ, ◌<◌, ◌^◌, List, [], ◌∷◌, ◌++◌, length, Option, Some, Result, Ok, Err, refl, ap, sym, ◌∙◌}
use Rattle.std.specs.Prelude.{IfOk}
use Rattle.std.specs.List.{AllByRecursion}
use Rattle.sync_io.specs.VarintLaws.{IsBytes}
use Rattle.sync_io.specs.Varints.{varint}
use Rattle.sync_io.specs.Formats.{number_in, both_in, ended, all_in, tag_in, ◌>>=◌}
use Rattle.sync_io.specs.FormatLaws.{IsFormat, number_is, bytes_is, both_is, all_takes, all_again, IsForm, form_is, form_again, tag_takes}
use Rattle.sync_messages.specs.declared.message.Message.{Message}
use Rattle.sync_messages.specs.declared.message.Message.TheVariants.{Bind, Ident, Upload, Ask, Download, Refused, Stored, Ask2, Retire, Retired, AskTables}
use Rattle.sync_messages.specs.declared.refusal.MessageRefusal.{MessageRefusal}
use Rattle.sync_messages.specs.Spelling.{message_spelling}
use Rattle.sync_messages.specs.Reading.{Gives, refused_of, refused_in, forms, fields_in, tag_and_fields_in, message_in}
use Rattle.sync_messages.specs.Whole.{IsMessage}
use Rattle.sync_messages.proofs.Formats.{FitsGiven, given_is, given_fits, FitsUpload, upload_is, upload_fits, FitsAsk, ask_is, ask_fits, FitsDownload, download_is, download_fits, FitsStored, stored_is, stored_fits, FitsRetire, retire_is, retire_fits, FitsRetired, retired_is, retired_fits, FitsAskTables, ask_tables_is, ask_tables_fits}

abbrev pub FitsMessage : Message → Type 0
FitsMessage (Bind uuid) = length uuid ≡ 16
FitsMessage (Ident given) = FitsGiven given
FitsMessage (Upload upload) = FitsUpload upload
FitsMessage (Ask ask) = FitsAsk ask
FitsMessage (Download download) = FitsDownload download
FitsMessage (Refused ident number code place) = (((ident < 2 ^ 32) × (number < 2 ^ 32)) × (code < 2 ^ 32)) × (place < 2 ^ 32)
FitsMessage (Stored stored) = FitsStored stored
FitsMessage (Ask2 ask) = FitsAsk ask
FitsMessage (Retire retire) = FitsRetire retire
FitsMessage (Retired retired) = FitsRetired retired
FitsMessage (AskTables asked) = FitsAskTables asked

abbrev refused_spelling : ((ℕ × ℕ) × ℕ) × ℕ → List ℕ
refused_spelling p = varint p.0.0.0 ++ varint p.0.0.1 ++ varint p.0.1 ++ varint p.1

refused_is : IsFormat refused_spelling (both_in (both_in (both_in number_in number_in) number_in) number_in) (λ p. (((p.0.0.0 < 2 ^ 32) × (p.0.0.1 < 2 ^ 32)) × (p.0.1 < 2 ^ 32)) × (p.1 < 2 ^ 32))
refused_is = both_is (both_is (both_is number_is number_is) number_is) number_is

forms_are : AllByRecursion (IsForm message_spelling FitsMessage) forms
unfolding refused_in
forms_are = (
  form_is (bytes_is 16) Bind message_spelling FitsMessage 1 (λ x. refl) (λ x f. f),
  (
    form_is given_is Ident message_spelling FitsMessage 2 (λ x. refl) (λ x f. f),
    (
      form_is upload_is Upload message_spelling FitsMessage 3 (λ x. refl) (λ x f. f),
      (
        form_is ask_is Ask message_spelling FitsMessage 4 (λ x. refl) (λ x f. f),
        (
          form_is download_is Download message_spelling FitsMessage 5 (λ x. refl) (λ x f. f),
          (
            form_is refused_is refused_of message_spelling FitsMessage 6 (λ x. refl) (λ x f. f),
            (
              form_is stored_is Stored message_spelling FitsMessage 7 (λ x. refl) (λ x f. f),
              (
                form_is ask_is Ask2 message_spelling FitsMessage 8 (λ x. refl) (λ x f. f),
                (
                  form_is retire_is Retire message_spelling FitsMessage 9 (λ x. refl) (λ x f. f),
                  (
                    form_is retired_is Retired message_spelling FitsMessage 10 (λ x. refl) (λ x f. f),
                    (form_is ask_tables_is AskTables message_spelling FitsMessage 11 (λ x. refl) (λ x f. f), tt),
                  ),
                ),
              ),
            ),
          ),
        ),
      ),
    ),
  ),
)

again : (message : Message) (rest : List ℕ) → FitsMessage message → tag_in forms (message_spelling message ++ rest) ≡ Some (message, rest)
unfolding refused_in
again (Bind uuid) rest fits = form_again (bytes_is 16) Bind uuid rest fits
again (Ident given) rest fits = form_again given_is Ident given rest fits
again (Upload upload) rest fits = form_again upload_is Upload upload rest fits
again (Ask ask) rest fits = form_again ask_is Ask ask rest fits
again (Download download) rest fits = form_again download_is Download download rest fits
again (Refused ident number code place) rest fits = form_again refused_is refused_of (((ident, number), code), place) rest fits
again (Stored stored) rest fits = form_again stored_is Stored stored rest fits
again (Ask2 ask) rest fits = form_again ask_is Ask2 ask rest fits
again (Retire retire) rest fits = form_again retire_is Retire retire rest fits
again (Retired retired) rest fits = form_again retired_is Retired retired rest fits
again (AskTables asked) rest fits = form_again ask_tables_is AskTables asked rest fits

messages_are : IsFormat message_spelling (tag_in forms) FitsMessage
messages_are = record { takes = tag_takes message_spelling FitsMessage forms forms_are; again = again }

message_fits : (message : Message) → IsMessage message → FitsMessage message
message_fits (Bind uuid) is = is
message_fits (Ident given) is = given_fits given is.0 is.1 is.2
message_fits (Upload upload) is = upload_fits upload is.0 is.1 is.2
message_fits (Ask ask) is = ask_fits ask is.0 is.1 is.2
message_fits (Download download) is = download_fits download is.0 is.1 is.2
message_fits (Refused ident number code place) is = (((is.0, is.1), is.2), is.3)
message_fits (Stored stored) is = stored_fits stored is.0 is.1 is.2
message_fits (Ask2 ask) is = ask_fits ask is.0 is.1 is.2
message_fits (Retire retire) is = retire_fits retire is.0 is.1 is.2
message_fits (Retired retired) is = retired_fits retired is.0 is.1 is.2 is.3
message_fits (AskTables asked) is = ask_tables_fits asked is.0 is.1 is.2

fields_are : (bytes : List ℕ) → tag_and_fields_in bytes ≡ tag_in forms bytes
unfolding fields_in
fields_are [] = refl
fields_are (tag ∷ bytes) = refl

all_are : (bytes : List ℕ) → message_in bytes ≡ all_in (tag_in forms) bytes
all_are bytes = ap (λ (o : Option (Message × List ℕ)). o >>= λ x. ended x.0 x.1) (fields_are bytes)

pub is_found : (bytes : List ℕ) (r : Result Message MessageRefusal) → IsBytes bytes → Gives (λ m. m) r (message_in bytes) → IfOk r (λ m. bytes ≡ message_spelling m)
is_found bytes (Ok m) fits given = (all_takes messages_are bytes m fits (sym (all_are bytes) ∙ given)).0
is_found bytes (Err refusal) fits given = tt

pub is_whole : (bytes : List ℕ) (r : Result Message MessageRefusal) → IsBytes bytes → Gives (λ m. m) r (message_in bytes) → IfOk r FitsMessage
is_whole bytes (Ok m) fits given = (all_takes messages_are bytes m fits (sym (all_are bytes) ∙ given)).1
is_whole bytes (Err refusal) fits given = tt

pub is_read : (bytes : List ℕ) (m : Message) → IsMessage m → bytes ≡ message_spelling m → message_in bytes ≡ Some m
is_read bytes m is e = all_are bytes ∙ ap (all_in (tag_in forms)) e ∙ all_again messages_are m (message_fits m is)
