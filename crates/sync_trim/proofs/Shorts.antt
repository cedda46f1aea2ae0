-- The records of a short file, put together piece by piece.
use Rattle.std.proofs.Common.{◌≡◌, ℕ, Bool, true, false, List, [], ◌∷◌, ◌++◌, map, sym, ap, ◌∙◌, if◌then◌else◌}
use Rattle.sync_data.specs.declared.instr.Instr.{Instr}
use Rattle.sync_base.specs.States.{State}
use Rattle.sync_codec.specs.Spelling.{spelling}
use Rattle.snapshot_law.specs.Build.{build}
use Rattle.sync_model.specs.Clients.{Client, ClientRecord, Floor, Part}
use Rattle.sync_exchange.specs.Profile.{fits_changeset, the_profile}
use Rattle.shrink_law.specs.Short.{count_records, form_records, has_begun, id_records, ident_records, short_records, state_records, tables_records, waits}
use Rattle.sync_trim.proofs.Pieces.{and_more}
use Rattle.sync_trim.proofs.Whole.{each_part}

-- where the client has begun
pub short_whole : (c : Client Instr State) (l0 l1 l2 l3 l4 l5 l6 l7 objects : List ClientRecord) → has_begun c ≡ true
    → l0 ≡ []
    → l1 ≡ l0 ++ id_records c.id
    → l2 ≡ l1 ++ form_records c.second
    → l3 ≡ l2 ++ count_records the_profile c
    → l4 ≡ l3 ++ tables_records c.subset
    → l5 ≡ l4 ++ map (waits the_profile) c.unsent
    → l6 ≡ l5 ++ objects
    → map (waits the_profile) c.unsent ++ objects ≡ state_records the_profile c
    → l7 ≡ l6 ++ ident_records c.ident
    → l7 ≡ short_records the_profile c
short_whole c l0 l1 l2 l3 l4 l5 l6 l7 objects begun e0 e1 e2 e3 e4 e5 e6 state e7 =
    all ∙ ap (λ l. l ++ pieces) e0 ∙ sym (ap by begun)
  where
    pieces : List ClientRecord
    pieces = id_records c.id ++ (form_records c.second ++ (count_records the_profile c ++ (tables_records c.subset ++ (state_records the_profile c ++ ident_records c.ident))))

    by : Bool → List ClientRecord
    by t = id_records c.id ++ (form_records c.second ++ ((if t then count_records the_profile c else []) ++ (tables_records c.subset ++ ((if t then state_records the_profile c else []) ++ ident_records c.ident))))

    both : l6 ≡ l4 ++ state_records the_profile c
    both = and_more l4 l5 l6 (map (waits the_profile) c.unsent) objects e5 e6 ∙ ap (λ l. l4 ++ l) state

    all : l7 ≡ l0 ++ pieces
    all = and_more l0 l1 l7 (id_records c.id) _ e1 (and_more l1 l2 l7 (form_records c.second) _ e2 (and_more l2 l3 l7 (count_records the_profile c) _ e3 (and_more l3 l4 l7 (tables_records c.subset) _ e4 (and_more l4 l6 l7 (state_records the_profile c) (ident_records c.ident) both e7))))

-- where it hasn't
pub short_fresh : (c : Client Instr State) (l0 l1 l2 l3 l4 : List ClientRecord) → has_begun c ≡ false
    → l0 ≡ []
    → l1 ≡ l0 ++ id_records c.id
    → l2 ≡ l1 ++ form_records c.second
    → l3 ≡ l2 ++ tables_records c.subset
    → l4 ≡ l3 ++ ident_records c.ident
    → l4 ≡ short_records the_profile c
short_fresh c l0 l1 l2 l3 l4 begun e0 e1 e2 e3 e4 = all ∙ ap (λ l. l ++ pieces) e0 ∙ sym (ap by begun)
  where
    pieces : List ClientRecord
    pieces = id_records c.id ++ (form_records c.second ++ (tables_records c.subset ++ ident_records c.ident))

    by : Bool → List ClientRecord
    by t = id_records c.id ++ (form_records c.second ++ ((if t then count_records the_profile c else []) ++ (tables_records c.subset ++ ((if t then state_records the_profile c else []) ++ ident_records c.ident))))

    all : l4 ≡ l0 ++ pieces
    all = and_more l0 l1 l4 (id_records c.id) _ e1 (and_more l1 l2 l4 (form_records c.second) _ e2 (and_more l2 l3 l4 (tables_records c.subset) (ident_records c.ident) e3 e4))

-- the parts of its objects, and its cursor
pub objects_are : (objects : State) (bodies : List (List ℕ)) (version cursor : ℕ) (l0 l1 l2 : List ClientRecord)
    → bodies ≡ map spelling (build fits_changeset objects)
    → l1 ≡ l0 ++ map (λ body. Part body) bodies
    → l2 ≡ l1 ++ Floor version ∷ []
    → version ≡ cursor
    → l2 ≡ l0 ++ (map (λ is. Part (the_profile.spell is)) (build fits_changeset objects) ++ Floor cursor ∷ [])
objects_are objects bodies version cursor l0 l1 l2 e0 e1 e2 at_cursor =
    and_more l0 l1 l2 (map (λ body. Part body) bodies) (Floor version ∷ []) e1 e2 ∙ (λ i. l0 ++ (parts_are i ++ Floor (at_cursor i) ∷ []))
  where
    parts_are : map (λ body. Part body) bodies ≡ map (λ is. Part (the_profile.spell is)) (build fits_changeset objects)
    parts_are = ap (map (λ body. Part body)) e0 ∙ each_part (λ body. Part body) spelling (build fits_changeset objects)
