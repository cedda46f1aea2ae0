-- A client whose records opening accepts, and what is asked of it.
use Rattle.std.proofs.Common.{◌≡◌, ℕ, Bool, true, false, ◌&&◌, List, [], ◌∷◌, ◌++◌, refl, sym, ap, ◌∙◌, subst, nat_le}
use Rattle.std.proofs.lemmas.Bool.{le-leb}
use Rattle.sync_model.specs.Profile.{Profile, Lawful}
use Rattle.sync_model.specs.Snapshots.{Buildable}
use Rattle.sync_model.specs.Each.{Each, no_more, and_each}
use Rattle.sync_model.specs.Clients.{Client, ClientRecord, Unsent, no_client, client_of, after_records, after_record}
use Rattle.sync_model.specs.Files.{all_behind, client_opens}
use Rattle.sync_model.specs.Limits.{IsClientRecord, IsUnsent}
use Rattle.sync_model.specs.Worlds.{is_there}
use Rattle.sync_model.proofs.Limits.{numbers_first, numbers_records}
use Rattle.sync_model.proofs.Settling.{calm}
use Rattle.sync_model.proofs.Own.{after_append}
use Rattle.sync_model.proofs.Small.{client_lists}
use Rattle.shrink_law.specs.Short.{IsPlain, Alike, taken, shrunk, short_records}
use Rattle.shrink_law.proofs.Current.{made_and_next}
use Rattle.shrink_law.proofs.Files.{fresh, short_gives}
use Rattle.shrink_law.proofs.Opened.{Whole}
use Rattle.shrink_law.proofs.Shrinking.{client_keeps, shrunk_alike}
use Rattle.shrink_law.proofs.Standing.{client_stands}
use Rattle.shrink_law.proofs.Staying.{ArePlain, records_alike}

module _ {I S : Type 0} (p : Profile I S) where
  behind : (cursor : ℕ) (us : List (Unsent I)) → Each (IsUnsent p cursor) us → all_behind cursor us ≡ true
  behind cursor [] no_more = refl
  behind cursor (u ∷ us) (and_each h f) = join (nat_le u.original.base cursor) (all_behind cursor us) (le-leb u.original.base cursor h.base) (behind cursor us f)
    where
      join : (a b : Bool) → a ≡ true → b ≡ true → (a && b) ≡ true
      join true b e g = g
      join false b e g = e

  module _ {Fits Bounded Old : S → Type 0} (law : Lawful p Fits) (built : Buildable p Fits Bounded Old) where
    pub whole_of : (rs : List ClientRecord) → client_opens p (no_client p) rs ≡ true → Each (IsClientRecord p) rs → is_there (client_of p rs).id ≡ true → Whole p law built (client_of p rs)
    whole_of rs open_ each born =
        let c = client_of p rs in
        let numbers = numbers_records p rs (no_client p) refl open_ each (numbers_first p) in
        let stands = client_stands p law built rs in
        record {
          born = born;
          small = numbers.made;
          keeps = client_keeps p rs;
          follow = made_and_next p rs open_;
          behind = behind c.cursor c.unsent numbers.unsent;
          fits = stands.0;
          bounded = stands.1;
          lists = (client_lists p law rs).unsent;
          calm = calm p rs open_;
          fresh = fresh p rs open_;
        }

    -- the file and what was appended to it since
    pub goes_on : (rs more : List ClientRecord) → client_opens p (no_client p) rs ≡ true → ArePlain more → Alike (client_of p (rs ++ more)) (client_of p (short_records p (client_of p rs) ++ more))
    goes_on rs more open_ h =
        let c = client_of p rs in
        let stands = client_stands p law built rs in
        let gives : client_of p (short_records p c) ≡ shrunk p c = short_gives p law built c stands.0 stands.1 (client_lists p law rs).unsent (fresh p rs open_) in
        let file : client_of p (short_records p c ++ more) ≡ after_records p (shrunk p c) more = after_append p (no_client p) (short_records p c) more ∙ ap (λ d. after_records p d more) gives in
        subst (λ d. Alike d (client_of p (short_records p c ++ more))) (sym (after_append p (no_client p) rs more))
        (subst (λ d. Alike (after_records p c more) d) (sym file) (records_alike p more c (shrunk p c) (shrunk_alike p c (client_keeps p rs)) h))
