-- The two laws of records: what is read is spelled so, and what is spelled so is read.
use Rattle.std.proofs.Common.{◌≡◌, ℕ, ◌<◌, ◌^◌, leb, eqb, Bool, true, false, cond, List, [], ◌∷◌, ◌++◌, drop, length, Option, Some, None, Result, Ok, Err, refl, sym, ap, subst, ◌∙◌, lit<}
use Rattle.std.specs.Prelude.{IfOk, IfSome, bytes_eq}
use Rattle.std.specs.List.{AllByRecursion}
use Rattle.std.proofs.lemmas.Bool.{eqb-true, le-leb, leb-true}
use Rattle.std.proofs.lemmas.Slice.Eq.{bytes_eq-Decides}
use Rattle.sync_io.specs.VarintLaws.{IsBytes}
use Rattle.sync_io.specs.Varints.{varint}
use Rattle.sync_io.specs.FormatLaws.{IsFormat, some_is, bind_some, bound, number_is, wide_is, bytes_is, body_is as body_is_sized, both_is, only_is}
use Rattle.sync_io.specs.Formats.{◌>>=◌, number_in, wide_in, body_in, both_in, body as sized}
use Rattle.subset_bytes.specs.Laws.{FitsTables, tables_are, tables_fit, tables_whole}
use Rattle.subset_bytes.specs.Spelling.{tables_spelling}
use Rattle.sync_records.specs.declared.client.ClientRecord.{ClientRecord}
use Rattle.sync_records.specs.declared.client.ClientRecord.TheVariants as client
use Rattle.sync_records.specs.declared.client.Took.{Took}
use Rattle.sync_records.specs.declared.server.ServerRecord.{ServerRecord}
use Rattle.sync_records.specs.declared.server.ServerRecord.TheVariants as server
use Rattle.sync_records.specs.declared.refusal.RecordRefusal.{RecordRefusal}
use Rattle.sync_records.specs.Limits.{IsCarried, IsClientRecord, IsServerRecord}
use Rattle.sync_records.specs.Spelling.{client_spelling, server_spelling, left_out}
use Rattle.sync_records.specs.Reading.{Gives, id_in, ident_in, form_in, made_in, took_in, entry_in, past_in, version_in, pair_in, count_in, names_in, rest_in, current_in, waits_in, waits_of, resumed_of, made_of, took_of, took_seen, entry_of, pair_as, count_of, carried_of, past_of, client_forms, server_forms, record_in}
use Rattle.sync_records.proofs.Whole.{IsWhole, all_is, rest_is, IsForm, form_is, form_again, record_takes}

id_is : IsWhole (λ text. text) id_in (λ text. length text ≡ 16)
id_is = all_is (bytes_is 16)

ident_is : IsWhole varint ident_in (λ n. (n < 2 ^ 32) × (leb 1 n ≡ true))
ident_is = all_is (only_is number_is (λ n. leb 1 n))

form_number_is : IsWhole varint form_in (λ n. (n < 2 ^ 32) × (eqb n 2 ≡ true))
form_number_is = all_is (only_is number_is (λ n. eqb n 2))

second : (n : ℕ) → (n < 2 ^ 32) × (eqb n 2 ≡ true) → 7 ∷ varint 2 ≡ 7 ∷ varint n
second n fits = ap (λ k. 7 ∷ varint k) (sym (eqb-true n 2 fits.1))

made_is : IsWhole (λ (x : (ℕ × ℕ) × List ℕ). varint x.0.0 ++ varint x.0.1 ++ x.1) made_in (λ x. (x.0.0 < 2 ^ 32) × (x.0.1 < 2 ^ 64))
made_is = rest_is (both_is number_is wide_is)

took_is : IsWhole (λ (x : ((ℕ × ℕ) × ℕ) × List ℕ). varint x.0.0.0 ++ varint x.0.0.1 ++ varint x.0.1 ++ x.1) took_in (λ x. ((x.0.0.0 < 2 ^ 32) × (x.0.0.1 < 2 ^ 32)) × (x.0.1 < 2 ^ 64))
took_is = rest_is (both_is (both_is number_is number_is) wide_is)

entry_is : IsWhole (λ (x : (((ℕ × ℕ) × ℕ) × ℕ) × List ℕ). varint x.0.0.0.0 ++ varint x.0.0.0.1 ++ varint x.0.0.1 ++ varint x.0.1 ++ x.1) entry_in (λ x. (((x.0.0.0.0 < 2 ^ 32) × (x.0.0.0.1 < 2 ^ 32)) × (x.0.0.1 < 2 ^ 32)) × (x.0.1 < 2 ^ 64))
entry_is = rest_is (both_is (both_is (both_is number_is number_is) number_is) wide_is)

version_is : IsWhole varint version_in (λ n. n < 2 ^ 32)
version_is = all_is number_is

pair_is : IsWhole (λ (x : ℕ × ℕ). varint x.0 ++ varint x.1) pair_in (λ x. (x.0 < 2 ^ 32) × (x.1 < 2 ^ 32))
pair_is = all_is (both_is number_is number_is)

count_is : IsWhole (λ (x : ((ℕ × ℕ) × ℕ) × ℕ). varint x.0.0.0 ++ varint x.0.0.1 ++ varint x.0.1 ++ varint x.1) count_in (λ x. (((x.0.0.0 < 2 ^ 32) × (x.0.0.1 < 2 ^ 32)) × (x.0.1 < 2 ^ 32)) × (x.1 < 2 ^ 32))
count_is = all_is (both_is (both_is (both_is number_is number_is) number_is) number_is)

names_is : IsWhole tables_spelling names_in FitsTables
names_is = all_is tables_are

body_is : IsWhole (λ body. body) rest_in (λ body. Unit {0})
body_is = record { takes = λ bytes x fits e. (some_is bytes x e, tt); again = λ x fits. refl }

past_is : IsWhole (λ (x : ((ℕ × ℕ) × ℕ) × List ℕ). varint x.0.0.0 ++ varint x.0.0.1 ++ varint x.0.1 ++ x.1) past_in (λ x. ((x.0.0.0 < 2 ^ 32) × (x.0.0.1 < 2 ^ 32)) × (x.0.1 < 2 ^ 64))
past_is = took_is

-- ---- an unsent change

bytes_same : (u v : List ℕ) → bytes_eq u v ≡ true → u ≡ v
bytes_same u v e = (bytes_eq-Decides u v).0 e

bytes_true : (u v : List ℕ) → u ≡ v → bytes_eq u v ≡ true
bytes_true u v e = (bytes_eq-Decides u v).1 e

abbrev Numbers : Type 0
Numbers = ((ℕ × ℕ) × ℕ) × List ℕ

abbrev WaitsFit : Numbers × List ℕ → Type 0
WaitsFit x = ((((x.0.0.0.0 < 2 ^ 32) × (x.0.0.0.1 < 2 ^ 32)) × (x.0.0.1 < 2 ^ 64)) × (length x.0.1 < 2 ^ 32)) × IsCarried x.0.1 x.1

fields_are : IsFormat (λ (x : Numbers). varint x.0.0.0 ++ varint x.0.0.1 ++ varint x.0.1 ++ sized x.1) (both_in (both_in (both_in number_in number_in) wide_in) body_in) (λ x. (((x.0.0.0 < 2 ^ 32) × (x.0.0.1 < 2 ^ 32)) × (x.0.1 < 2 ^ 64)) × (length x.1 < 2 ^ 32))
fields_are = both_is (both_is (both_is number_is number_is) wide_is) body_is_sized

-- what is left is what is left out of none, or the body as it was carried
current_takes : (body rest current : List ℕ) → current_in body rest ≡ Some current → (rest ≡ left_out body current) × IsCarried body current
current_takes body [] current e =
    let same : body ≡ current = some_is body current e in
    (sym (ap (λ (b : Bool). cond b [] current) (bytes_true current body (sym same))), λ none. same ∙ none)
current_takes body (b ∷ rest) current e = go (bytes_eq (b ∷ rest) body) refl e
  where
    go : (t : Bool) → bytes_eq (b ∷ rest) body ≡ t → cond t None (Some (b ∷ rest)) ≡ Some current → (b ∷ rest ≡ left_out body current) × IsCarried body current
    go true same f = absurd (let no : ◌≡◌ {A = Option (List ℕ)} None (Some current) = f in cc)
    go false differs f =
        let is : b ∷ rest ≡ current = some_is (b ∷ rest) current f in
        (is ∙ sym (ap (λ (t : Bool). cond t [] current) (ap (λ l. bytes_eq l body) (sym is) ∙ differs)), λ none. absurd (let no : b ∷ rest ≡ [] = is ∙ none in cc))

current_again : (body current : List ℕ) → IsCarried body current → current_in body (left_out body current) ≡ Some current
current_again body current carried = go (bytes_eq current body) refl
  where
    go : (t : Bool) → bytes_eq current body ≡ t → current_in body (cond t [] current) ≡ Some current
    go true same = ap (λ l. Some l) (sym (bytes_same current body same))
    go false differs = on current refl
      where
        on : (l : List ℕ) → current ≡ l → current_in body l ≡ Some l
        on [] is = absurd (let none = carried is in let same : bytes_eq current body ≡ true = bytes_true current body (is ∙ sym none) in cc)
        on (b ∷ rest) is = ap (λ (t : Bool). cond t None (Some (b ∷ rest))) (ap (λ l. bytes_eq l body) (sym is) ∙ differs)

waits_is : IsWhole (λ (x : Numbers × List ℕ). (varint x.0.0.0.0 ++ varint x.0.0.0.1 ++ varint x.0.0.1 ++ sized x.0.1) ++ left_out x.0.1 x.1) waits_in WaitsFit
waits_is = record {
  takes = λ bytes x fits e.
      let p = bind_some (both_in (both_in (both_in number_in number_in) wide_in) body_in bytes) (λ x. current_in x.0.1 x.1 >>= λ current. Some (x.0, current)) x e in
      let q = bind_some (current_in p.0.0.1 p.0.1) (λ current. Some (p.0.0, current)) x p.2 in
      let first = fields_are.takes bytes p.0 fits p.1 in
      let last = current_takes p.0.0.1 p.0.1 q.0 q.1 in
      subst (λ (y : Numbers × List ℕ). (bytes ≡ (varint y.0.0.0.0 ++ varint y.0.0.0.1 ++ varint y.0.0.1 ++ sized y.0.1) ++ left_out y.0.1 y.1) × WaitsFit y) (some_is (p.0.0, q.0) x q.2)
      (first.0.parts ∙ ap (λ l. (varint p.0.0.0.0.0 ++ varint p.0.0.0.0.1 ++ varint p.0.0.0.1 ++ sized p.0.0.1) ++ l) last.0, (first.1, last.1));
  again = λ x fits.
      bound (both_in (both_in (both_in number_in number_in) wide_in) body_in ((varint x.0.0.0.0 ++ varint x.0.0.0.1 ++ varint x.0.0.1 ++ sized x.0.1) ++ left_out x.0.1 x.1)) (λ x. current_in x.0.1 x.1 >>= λ current. Some (x.0, current)) (x.0, left_out x.0.1 x.1) (fields_are.again x.0 (left_out x.0.1 x.1) fits.0)
      ∙ bound (current_in x.0.1 (left_out x.0.1 x.1)) (λ current. Some (x.0, current)) x.1 (current_again x.0.1 x.1 fits.1);
}

-- ---- a client's

abbrev FitsClient : ClientRecord → Type 0
FitsClient (client.Born id) = length id ≡ 16
FitsClient (client.Named ident) = (ident < 2 ^ 32) × (leb 1 ident ≡ true)
FitsClient (client.Made number ms body) = (number < 2 ^ 32) × (ms < 2 ^ 64)
FitsClient (client.Took origin number ms body) = ((origin < 2 ^ 32) × (number < 2 ^ 32)) × (ms < 2 ^ 64)
FitsClient client.Form = Unit {0}
FitsClient (client.Subset tables) = FitsTables tables
FitsClient (client.Part body) = Unit {0}
FitsClient (client.Floor version) = version < 2 ^ 32
FitsClient (client.Resumed number waiting) = (number < 2 ^ 32) × (waiting < 2 ^ 32)
FitsClient (client.Waits number base ms body current) = ((((number < 2 ^ 32) × (base < 2 ^ 32)) × (ms < 2 ^ 64)) × (length body < 2 ^ 32)) × IsCarried body current

client_forms_are : AllByRecursion (IsForm client_spelling FitsClient) client_forms
client_forms_are = (
  form_is id_is client.Born client_spelling FitsClient 1 (λ x f. refl) (λ x f. f),
  (
    form_is ident_is client.Named client_spelling FitsClient 2 (λ x f. refl) (λ x f. f),
    (
      form_is made_is made_of client_spelling FitsClient 3 (λ x f. refl) (λ x f. f),
      (
        form_is took_is took_of client_spelling FitsClient 4 (λ x f. refl) (λ x f. f),
        (
          form_is form_number_is (λ _. client.Form) client_spelling FitsClient 7 second (λ x f. tt),
          (
            form_is names_is client.Subset client_spelling FitsClient 9 (λ x f. refl) (λ x f. f),
            (
              form_is body_is client.Part client_spelling FitsClient 11 (λ x f. refl) (λ x f. tt),
              (
                form_is version_is client.Floor client_spelling FitsClient 12 (λ x f. refl) (λ x f. f),
                (
                  form_is pair_is resumed_of client_spelling FitsClient 16 (λ x f. refl) (λ x f. f),
                  (form_is waits_is waits_of client_spelling FitsClient 17 (λ x f. refl) (λ x f. f), tt),
                ),
              ),
            ),
          ),
        ),
      ),
    ),
  ),
)

client_again : (record_ : ClientRecord) → FitsClient record_ → record_in client_forms (client_spelling record_) ≡ Some record_
client_again (client.Born id) fits = form_again id_is client.Born id fits
client_again (client.Named ident) fits = form_again ident_is client.Named ident fits
client_again (client.Made number ms body) fits = form_again made_is made_of ((number, ms), body) fits
client_again (client.Took origin number ms body) fits = form_again took_is took_of (((origin, number), ms), body) fits
client_again client.Form fits = form_again form_number_is (λ _. client.Form) 2 (lit< tt, refl)
client_again (client.Subset tables) fits = form_again names_is client.Subset tables fits
client_again (client.Part body) fits = form_again body_is client.Part body tt
client_again (client.Floor version) fits = form_again version_is client.Floor version fits
client_again (client.Resumed number waiting) fits = form_again pair_is resumed_of (number, waiting) fits
client_again (client.Waits number base ms body current) fits = form_again waits_is waits_of ((((number, base), ms), body), current) fits

client_fits : (record_ : ClientRecord) → IsClientRecord record_ → FitsClient record_
client_fits (client.Born id) is = is
client_fits (client.Named ident) is = (is.1, le-leb 1 ident is.0)
client_fits (client.Made number ms body) is = (is.0, is.1)
client_fits (client.Took origin number ms body) is = ((is.0, is.1), is.2)
client_fits client.Form is = tt
client_fits (client.Subset tables) is = tables_fit tables is
client_fits (client.Part body) is = tt
client_fits (client.Floor version) is = is
client_fits (client.Resumed number waiting) is = is
client_fits (client.Waits number base ms body current) is = ((((is.0, is.1), is.2), is.3), is.4)

client_whole : (record_ : ClientRecord) → FitsClient record_ → IsClientRecord record_
client_whole (client.Born id) fits = fits
client_whole (client.Named ident) fits = (leb-true 1 ident fits.1, fits.0)
client_whole (client.Made number ms body) fits = (fits.0, fits.1)
client_whole (client.Took origin number ms body) fits = (fits.0.0, fits.0.1, fits.1)
client_whole client.Form fits = tt
client_whole (client.Subset tables) fits = tables_whole tables fits
client_whole (client.Part body) fits = tt
client_whole (client.Floor version) fits = fits
client_whole (client.Resumed number waiting) fits = fits
client_whole (client.Waits number base ms body current) fits = (fits.0.0.0.0, fits.0.0.0.1, fits.0.0.1, fits.0.1, fits.1)

pub client_found : (bytes : List ℕ) (r : Result ClientRecord RecordRefusal) → IsBytes bytes → Gives (λ x. x) r (record_in client_forms bytes) → IfOk r (λ x. bytes ≡ client_spelling x)
client_found bytes (Ok x) fits given = (record_takes client_spelling FitsClient client_forms client_forms_are bytes x fits given).0
client_found bytes (Err refusal) fits given = tt

pub client_is : (bytes : List ℕ) (r : Result ClientRecord RecordRefusal) → IsBytes bytes → Gives (λ x. x) r (record_in client_forms bytes) → IfOk r IsClientRecord
client_is bytes (Ok x) fits given = client_whole x (record_takes client_spelling FitsClient client_forms client_forms_are bytes x fits given).1
client_is bytes (Err refusal) fits given = tt

pub client_took : (bytes : List ℕ) (r : Option Took) → IsBytes bytes → IfSome r (λ t. record_in client_forms bytes ≡ Some (took_seen t)) → IfSome r (λ t. bytes ≡ client_spelling (took_seen t))
client_took bytes (Some t) fits given = (record_takes client_spelling FitsClient client_forms client_forms_are bytes (took_seen t) fits given).0
client_took bytes None fits given = tt

pub client_read : (bytes : List ℕ) (x : ClientRecord) → IsClientRecord x → bytes ≡ client_spelling x → record_in client_forms bytes ≡ Some x
client_read bytes x is e = ap (record_in client_forms) e ∙ client_again x (client_fits x is)

-- ---- a server's

abbrev FitsServer : ServerRecord → Type 0
FitsServer (server.Client id) = length id ≡ 16
FitsServer (server.Entry origin number base ms body) = (((origin < 2 ^ 32) × (number < 2 ^ 32)) × (base < 2 ^ 32)) × (ms < 2 ^ 64)
FitsServer server.Form = Unit {0}
FitsServer (server.Retired ident by) = (ident < 2 ^ 32) × (by < 2 ^ 32)
FitsServer (server.Settled ident settled) = (ident < 2 ^ 32) × (settled < 2 ^ 32)
FitsServer (server.Part body) = Unit {0}
FitsServer (server.Floor version) = version < 2 ^ 32
FitsServer (server.Count ident number base settled) = (((ident < 2 ^ 32) × (number < 2 ^ 32)) × (base < 2 ^ 32)) × (settled < 2 ^ 32)
FitsServer (server.Carried origin number base ms body) = (((origin < 2 ^ 32) × (number < 2 ^ 32)) × (base < 2 ^ 32)) × (ms < 2 ^ 64)
FitsServer (server.Past ident version ms body) = ((ident < 2 ^ 32) × (version < 2 ^ 32)) × (ms < 2 ^ 64)

later_forms_are : AllByRecursion (IsForm server_spelling FitsServer) (drop 3 server_forms)
later_forms_are = (
  form_is pair_is (pair_as server.Retired) server_spelling FitsServer 8 (λ x f. refl) (λ x f. f),
  (
    form_is pair_is (pair_as server.Settled) server_spelling FitsServer 10 (λ x f. refl) (λ x f. f),
    (
      form_is body_is server.Part server_spelling FitsServer 11 (λ x f. refl) (λ x f. tt),
      (
        form_is version_is server.Floor server_spelling FitsServer 12 (λ x f. refl) (λ x f. f),
        (
          form_is count_is count_of server_spelling FitsServer 13 (λ x f. refl) (λ x f. f),
          (
            form_is entry_is carried_of server_spelling FitsServer 14 (λ x f. refl) (λ x f. f),
            (form_is past_is past_of server_spelling FitsServer 15 (λ x f. refl) (λ x f. f), tt),
          ),
        ),
      ),
    ),
  ),
)

server_forms_are : AllByRecursion (IsForm server_spelling FitsServer) server_forms
server_forms_are = (
  form_is id_is server.Client server_spelling FitsServer 5 (λ x f. refl) (λ x f. f),
  (
    form_is entry_is entry_of server_spelling FitsServer 6 (λ x f. refl) (λ x f. f),
    (form_is form_number_is (λ _. server.Form) server_spelling FitsServer 7 second (λ x f. tt), later_forms_are),
  ),
)

server_again : (record_ : ServerRecord) → FitsServer record_ → record_in server_forms (server_spelling record_) ≡ Some record_
server_again (server.Client id) fits = form_again id_is server.Client id fits
server_again (server.Entry origin number base ms body) fits = form_again entry_is entry_of ((((origin, number), base), ms), body) fits
server_again server.Form fits = form_again form_number_is (λ _. server.Form) 2 (lit< tt, refl)
server_again (server.Retired ident by) fits = form_again pair_is (pair_as server.Retired) (ident, by) fits
server_again (server.Settled ident settled) fits = form_again pair_is (pair_as server.Settled) (ident, settled) fits
server_again (server.Part body) fits = form_again body_is server.Part body tt
server_again (server.Floor version) fits = form_again version_is server.Floor version fits
server_again (server.Count ident number base settled) fits = form_again count_is count_of (((ident, number), base), settled) fits
server_again (server.Carried origin number base ms body) fits = form_again entry_is carried_of ((((origin, number), base), ms), body) fits
server_again (server.Past ident version ms body) fits = form_again past_is past_of (((ident, version), ms), body) fits

server_fits : (record_ : ServerRecord) → IsServerRecord record_ → FitsServer record_
server_fits (server.Client id) is = is
server_fits (server.Entry origin number base ms body) is = (((is.0, is.1), is.2), is.3)
server_fits server.Form is = tt
server_fits (server.Retired ident by) is = (is.0, is.1)
server_fits (server.Settled ident settled) is = (is.0, is.1)
server_fits (server.Part body) is = tt
server_fits (server.Floor version) is = is
server_fits (server.Count ident number base settled) is = (((is.0, is.1), is.2), is.3)
server_fits (server.Carried origin number base ms body) is = (((is.0, is.1), is.2), is.3)
server_fits (server.Past ident version ms body) is = ((is.0, is.1), is.2)

pub server_found : (bytes : List ℕ) (r : Result ServerRecord RecordRefusal) → IsBytes bytes → Gives (λ x. x) r (record_in server_forms bytes) → IfOk r (λ x. bytes ≡ server_spelling x)
server_found bytes (Ok x) fits given = (record_takes server_spelling FitsServer server_forms server_forms_are bytes x fits given).0
server_found bytes (Err refusal) fits given = tt

pub server_read : (bytes : List ℕ) (x : ServerRecord) → IsServerRecord x → bytes ≡ server_spelling x → record_in server_forms bytes ≡ Some x
server_read bytes x is e = ap (record_in server_forms) e ∙ server_again x (server_fits x is)
