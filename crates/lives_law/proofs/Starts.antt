-- Two files that pass the test by marks go together, also where the client's began with a state.
use Rattle.std.proofs.Common.{refl, ◌≡◌, inr, ⊎_elim, subst, map, Bool, true, false, ℕ, suc, ◌+◌, List, [], ◌∷◌, ◌++◌, Some, sym, ap, ◌∙◌, arith, append_assoc, append-nil, length, length-append}
use Rattle.sync_theory.proofs.World.{same_or_not}
use Rattle.sync_model.specs.Bytes.{Uuid}
use Rattle.sync_model.specs.Profile.{Profile, Lawful}
use Rattle.sync_model.specs.Messages.{Sent}
use Rattle.sync_model.specs.Clients.{ClientRecord, Part, Floor, client_of, start_of, tooks_of, state_or}
use Rattle.sync_model.specs.Servers.{Server, ServerRecord, no_server, server_of, server_objects, state_of, place_of}
use Rattle.sync_model.specs.Starts.{started}
use Rattle.sync_model.specs.Each.{Each, and_each}
use Rattle.sync_model.specs.Files.{IsLong}
use Rattle.sync_model.specs.Worlds.{at}
use Rattle.sync_model.proofs.Lists.{place_old}
use Rattle.lives_law.specs.Lives.{Written, Files, Reached, Mark, up_to}
use Rattle.lives_law.specs.Instances.{plain, is_entry, log_of}
use Rattle.lives_law.specs.Pair.{IsEntry, IsWhole, Begun, Fit, ident_at}
use Rattle.lives_law.specs.Starts.{BeganFirst, BeganWith, StartPasses}
use Rattle.lives_law.proofs.Instances.{plain_on, all_on, server_tells, wholes_long}
use Rattle.lives_law.proofs.Lives.{tally_on, tally_one, marks_tell_all}
use Rattle.lives_law.proofs.Growing.{server_grows}
use Rattle.lives_law.proofs.Passing.{nothing_in, entry_here, made_by}

module _ {I S : Type 0} (p : Profile I S) where
  -- a file up to a mark, and what stands behind it
  split_at : (f : List (Written ServerRecord)) (v l : ℕ) (m : Mark is_entry f v l) → f ≡ up_to m ++ m.more
  split_at f v l m = m.is ∙ sym (append_assoc m.before (m.last ∷ []) m.more)

  -- where the mark is its last entry, it has the whole log up to there
  log_up : (f : List (Written ServerRecord)) (v l : ℕ) (m : Mark is_entry f v l) → length (log_of p f) ≡ suc v → log_of p f ≡ log_of p (up_to m)
  log_up f v l m long =
      let on = (server_tells p).goes_on (up_to m) m.more in
      let is : log_of p f ≡ log_of p (up_to m) ++ on.0 = ap (log_of p) (split_at f v l m) ∙ on.1 in
      let one = tally_one is_entry m.last m.counted in
      let both = tally_on is_entry m.before (m.last ∷ []) in
      let number = m.number in
      let told = (server_tells p).long (up_to m) in
      let all = ap length is in
      let parts = length-append (log_of p (up_to m)) on.0 in
      is ∙ ap (λ x. log_of p (up_to m) ++ x) (nothing_in on.0 (omega arith)) ∙ append-nil (log_of p (up_to m))

  -- whom it doesn't know at its end, it didn't know at the mark
  unknown_up : (id : Uuid) (f : List (Written ServerRecord)) (v l : ℕ) (m : Mark is_entry f v l) → ident_at p (plain f) id ≡ 0 → ident_at p (plain (up_to m)) id ≡ 0
  unknown_up id f v l m none = ⊎_elim (λ z. z) (λ ne. absurd (ne (sym (place_old id (server_of p (plain (up_to m))).ids grown.more_ids ne) ∙ ap (place_of id) (sym ids) ∙ none))) (same_or_not (ident_at p (plain (up_to m)) id) 0)
    where
      grown : Rattle.lives_law.proofs.Growing.ServerGrows p (server_of p (plain (up_to m))) (Rattle.sync_model.specs.Servers.after_all p (server_of p (plain (up_to m))) (plain m.more))
      grown = server_grows p (plain m.more) (server_of p (plain (up_to m)))

      ids : (server_of p (plain f)).ids ≡ (server_of p (plain (up_to m))).ids ++ grown.more_ids
      ids = ap (λ x. (server_of p (plain x)).ids) (split_at f v l m) ∙ ap (λ x. (server_of p x).ids) (plain_on (up_to m) m.more) ∙ ap (λ s. s.ids) (all_on p no_server (plain (up_to m)) (plain m.more)) ∙ grown.ids

  module _ {Fits : S → Type 0} (law : Lawful p Fits) (w : Files ServerRecord) (v : Files ClientRecord) (rw : Reached w) (rv : Reached v) (f : List (Written ServerRecord)) (g : List (Written ClientRecord)) (t : StartPasses p w v f g) where
    begun_first : BeganFirst p (plain g) t.id → Begun p (plain f) (plain g) t.id
    begun_first b = record { before = []; after = plain f; is = refl; unknown = refl; second = b.second; more = b.more; starts = b.starts; whole = b.whole }

    begun_later : (number life : ℕ) → BeganWith p w (plain g) t.id number life → Mark is_entry f number life → Begun p (plain f) (plain g) t.id
    begun_later number life b m =
        let same : up_to b.mark ≡ up_to m = marks_tell_all is_entry w rw b.file f number life b.kept t.server_kept b.mark m in
        let log : (server_of p (plain (up_to m))).log ≡ (server_of p (plain b.file)).log = ap (λ x. log_of p x) (sym same) ∙ sym (log_up b.file number life b.mark b.long) in
        record {
          before = plain (up_to m);
          after = plain m.more;
          is = sym (plain_on (up_to m) m.more) ∙ ap plain (sym (split_at f number life m));
          unknown = ap (λ x. ident_at p (plain x) t.id) (sym same) ∙ unknown_up t.id b.file number life b.mark b.unknown;
          second = b.second;
          more = b.more;
          starts = ap (λ x. started p t.id b.second (length x) (state_or p.empty (state_of p x (length x))) ++ b.more) log ∙ ap (λ n. started p t.id b.second n (server_objects p (server_of p (plain b.file))) ++ b.more) b.long ∙ b.starts;
          whole = b.whole;
        }

    took_it : (k : ℕ) (e : Sent) → at (tooks_of (plain g)) k ≡ Some e → IsEntry p (plain f) (plain g) (start_of (client_of p (plain g)) + k) e
    took_it k e it = ⊎_elim (λ z. absurd (none k e (ap (λ l. at l k) (sym z) ∙ it))) (λ h. let x = h.2.took k e it in entry_here p law w rw f t.server_kept t.server (plain g) (record { number = h.0; life = h.1; has = h.2.has }) h.2.line h.3 (start_of (client_of p (plain g)) + k) e x.0 x.1 x.2) t.reads
      where
        none : {A : Type 0} (k : ℕ) (x : A) → at [] k ≡ Some x → ⊥
        none k x e = cc

    -- a file that began with a state has no short front
    parts_long : (id : Uuid) (second : Bool) (version : ℕ) (s : S) (more : List ClientRecord) → Each IsWhole more → Each IsLong (started p id second version s ++ more)
    parts_long id second version s more whole = form second
      where
        parts : (ps : List (List I)) → Each IsLong ((map (λ is. Part (p.spell is)) ps ++ Floor version ∷ []) ++ more)
        parts [] = and_each tt (wholes_long whole)
        parts (x ∷ ps) = and_each tt (parts ps)

        form : (b : Bool) → Each IsLong (started p id b version s ++ more)
        form true = and_each tt (and_each tt (parts (p.build s)))
        form false = and_each tt (parts (p.build s))

    begins_long : Each IsLong (plain g)
    begins_long = ⊎_elim
        (λ b. subst (λ l. Each IsLong l) b.starts (parts_long t.id b.second 0 p.empty b.more b.whole))
        (λ h. let b = h.2 in subst (λ l. Each IsLong l) b.starts (parts_long t.id b.second (suc h.0) (server_objects p (server_of p (plain b.file))) b.more b.whole))
        t.began

    pub start_fits : Fit p (plain f) (plain g)
    start_fits =
        let line = made_by p law v rv f g t.client_kept t.id begins_long t.is_read in
        record {
          server = t.server;
          client = t.client;
          id = t.id;
          born = t.born;
          ident = t.ident;
          begins = inr (⊎_elim begun_first (λ h. begun_later h.0 h.1 h.2 h.3) t.began);
          took = took_it;
          rest = line.0;
          made = line.1;
        }
