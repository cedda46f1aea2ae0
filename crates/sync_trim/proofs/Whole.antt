-- The pieces of a file, put together.
use Rattle.std.proofs.Common.{◌≡◌, ℕ, ◌-◌, Bool, List, [], ◌∷◌, ◌++◌, map, drop, refl, sym, ap, ◌∙◌}
use Rattle.std.specs.Prelude.{if◌then◌else◌}
use Rattle.sync_data.specs.declared.instr.Instr.{Instr}
use Rattle.sync_base.specs.States.{State}
use Rattle.sync_codec.specs.Spelling.{spelling}
use Rattle.snapshot_law.specs.Build.{build}
use Rattle.sync_model.specs.Bytes.{Uuid}
use Rattle.sync_model.specs.Clients as clients
use Rattle.sync_model.specs.Parts.{Parts}
use Rattle.sync_model.specs.Servers as servers
use Rattle.sync_model.specs.Starts.{started}
use Rattle.sync_model.specs.Trimmed.{count_records, entry_records, crossed_records, front_records, trim_records}
use Rattle.sync_model.specs.Trims.{next_floor, state_from, trimmed_at}
use Rattle.sync_exchange.specs.Profile.{fits_changeset, the_profile}
use Rattle.sync_trim.proofs.Pieces.{and_more}
use Rattle.sync_trim.proofs.Crossed.{clients_left, counts_left, crossed_idents_left}

pub each_part : {A B C : Type 0} (f : B → C) (h : A → B) (xs : List A) → map f (map h xs) ≡ map (λ x. f (h x)) xs
each_part f h [] = refl
each_part {A = A} f h (x ∷ xs) = ap (λ l. f (h x) ∷ l) (each_part f h xs)

pub trims : (kept : Parts Instr State) (f : ℕ) (bodies : List (List ℕ)) (l0 l1 l2 l3 l4 l5 l6 l7 l8 : List servers.ServerRecord)
    → f ≡ next_floor kept
    → bodies ≡ map spelling (build fits_changeset (state_from the_profile kept f))
    → l0 ≡ []
    → l1 ≡ l0 ++ (if kept.second then servers.Form ∷ [] else [])
    → l2 ≡ l1 ++ map (λ body. servers.Part body) bodies
    → l3 ≡ l2 ++ servers.Floor f ∷ []
    → l4 ≡ l3 ++ map (λ g. servers.Client g.uuid) kept.idents
    → l5 ≡ l4 ++ map (λ q. servers.Retired q.0 q.1) kept.retired
    → l6 ≡ l5 ++ count_records the_profile 1 kept.idents
    → l7 ≡ l6 ++ entry_records the_profile (drop (f - kept.floor) kept.entries) (drop (f - kept.floor) kept.bases)
    → l8 ≡ l7 ++ crossed_records the_profile 1 f (drop (f - kept.floor) kept.entries) kept.idents
    → l8 ≡ trim_records the_profile kept
trims kept f bodies l0 l1 l2 l3 l4 l5 l6 l7 l8 at_floor parts_are e0 e1 e2 e3 e4 e5 e6 e7 e8 =
    all ∙ ap (λ l. l ++ (form ++ (parts ++ (servers.Floor f ∷ (uuids ++ (retired ++ (counts ++ (entries ++ past)))))))) e0
    ∙ (λ i. form ++ (parts_so i ++ (servers.Floor f ∷ (sym (clients_left f kept.idents) i ++ (retired ++ (sym (counts_left f 1 kept.idents) i ++ (entries ++ sym (crossed_idents_left f 1 (drop (f - kept.floor) kept.entries) kept.idents) i)))))))
    ∙ ap (λ n. front_records the_profile (trimmed_at the_profile n kept)) at_floor
  where
    form : List servers.ServerRecord
    form = if kept.second then servers.Form ∷ [] else []

    parts : List servers.ServerRecord
    parts = map (λ body. servers.Part body) bodies

    uuids : List servers.ServerRecord
    uuids = map (λ g. servers.Client g.uuid) kept.idents

    retired : List servers.ServerRecord
    retired = map (λ q. servers.Retired q.0 q.1) kept.retired

    counts : List servers.ServerRecord
    counts = count_records the_profile 1 kept.idents

    entries : List servers.ServerRecord
    entries = entry_records the_profile (drop (f - kept.floor) kept.entries) (drop (f - kept.floor) kept.bases)

    past : List servers.ServerRecord
    past = crossed_records the_profile 1 f (drop (f - kept.floor) kept.entries) kept.idents

    parts_so : parts ≡ map (λ is. servers.Part (spelling is)) (build fits_changeset (state_from the_profile kept f))
    parts_so = ap (map (λ body. servers.Part body)) parts_are ∙ each_part (λ body. servers.Part body) spelling (build fits_changeset (state_from the_profile kept f))

    all : l8 ≡ l0 ++ (form ++ (parts ++ (servers.Floor f ∷ (uuids ++ (retired ++ (counts ++ (entries ++ past)))))))
    all = and_more l0 l1 l8 form _ e1 (and_more l1 l2 l8 parts _ e2 (and_more l2 l3 l8 (servers.Floor f ∷ []) _ e3 (and_more l3 l4 l8 uuids _ e4 (and_more l4 l5 l8 retired _ e5 (and_more l5 l6 l8 counts _ e6 (and_more l6 l7 l8 entries past e7 e8))))))

pub starts : (id : Uuid) (second : Bool) (len : ℕ) (s : State) (bodies : List (List ℕ)) (l0 l1 l2 l3 l4 : List clients.ClientRecord)
    → bodies ≡ map spelling (build fits_changeset s)
    → l0 ≡ []
    → l1 ≡ l0 ++ clients.Born id ∷ []
    → l2 ≡ l1 ++ (if second then clients.Form ∷ [] else [])
    → l3 ≡ l2 ++ map (λ body. clients.Part body) bodies
    → l4 ≡ l3 ++ clients.Floor len ∷ []
    → l4 ≡ started the_profile id second len s
starts id second len s bodies l0 l1 l2 l3 l4 parts_are e0 e1 e2 e3 e4 =
    all ∙ ap (λ l. l ++ (clients.Born id ∷ (form ++ (parts ++ (clients.Floor len ∷ []))))) e0
    ∙ (λ i. clients.Born id ∷ (form ++ (parts_so i ++ (clients.Floor len ∷ []))))
  where
    form : List clients.ClientRecord
    form = if second then clients.Form ∷ [] else []

    parts : List clients.ClientRecord
    parts = map (λ body. clients.Part body) bodies

    parts_so : parts ≡ map (λ is. clients.Part (spelling is)) (build fits_changeset s)
    parts_so = ap (map (λ body. clients.Part body)) parts_are ∙ each_part (λ body. clients.Part body) spelling (build fits_changeset s)

    all : l4 ≡ l0 ++ (clients.Born id ∷ (form ++ (parts ++ (clients.Floor len ∷ []))))
    all = and_more l0 l1 l4 (clients.Born id ∷ []) _ e1 (and_more l1 l2 l4 form _ e2 (and_more l2 l3 l4 parts (clients.Floor len ∷ []) e3 e4))
