-- A transaction that is read from a file.
use Rattle.std.proofs.Common.{◌≡◌, ℕ, suc, ◌+◌, ◌≤◌, Bool, true, false, not, ◌&&◌, List, [], ◌∷◌, ◌++◌, length, Option, Some, None, refl, ap, ◌∙◌, sym, subst, ◌==◌, add-one, length-append}
use Rattle.std.proofs.lemmas.Bool.{eq-eqb}
use Rattle.std.specs.Option.{is_some}
use Rattle.sync_theory.specs.Lists.{ok_state, run}
use Rattle.sync_data.specs.declared.instr.Instr.{Instr}
use Rattle.sync_data.specs.Payload.{Changes}
use Rattle.sync_base.specs.Checks.{act_all}
use Rattle.sync_model.specs.Profile.{act, all_admitted, apply_all, needs}
use Rattle.sync_model.specs.Bytes.{Tables}
use Rattle.sync_model.specs.Clients.{ClientRecord, Made, Subset, Waits, Unsent, as_made, is_late, makes, ok_list, state_or}
use Rattle.sync_model.specs.Files.{client_admits, is_empty, is_fine, is_growing, made_acts, some_come, tables_fit}
use Rattle.sync_model.proofs.Settling.{no_front}
use Rattle.sync_model.specs.Worlds.{is_there}
use Rattle.sync_exchange.specs.Profile.{the_profile, unspell}
use Rattle.sync_exchange.specs.Lemmas.Coded.{all_act, first_break}
use Rattle.sync_exchange.specs.Lemmas.Strings.{whole_each}
use Rattle.sync_client.specs.declared.replica.Replica.{Replica}
use Rattle.sync_client.specs.Entries.{Breaks, IsRead}
use Rattle.sync_client.specs.Opening.{Admitted, IsPast}
use Rattle.sync_client.specs.Seen.{Past, and_made, seen}
use Rattle.sync_client.specs.declared.refusal.ClientRefusal.{ClientRefusal as CodeRefusal}
use Rattle.sync_client.specs.declared.refusal.ClientRefusal.TheVariants as codes
use Rattle.sync_client.specs.Transactions.{next_original, RefusesEdits}
use Rattle.sync_client.proofs.Acting.{run_applied}

never : (a b c : Bool) → (a && (b && (c && false))) ≡ false
never true true true = refl
never true true false = refl
never true false c = refl
never false b c = refl

four : (a b c d : Bool) → a ≡ true → b ≡ true → c ≡ true → d ≡ true → (a && (b && (c && d))) ≡ true
four true true true d h g k l = l
four true true false d h g k l = k
four true false c d h g k l = g
four false b c d h g k l = h

there : (o : Option (List ℕ)) → is_some o ≡ true → is_there o ≡ true
there None e = cc
there (Some id) e = refl

pub none_of : (o : Option ℕ) → is_some o ≡ false → o ≡ None
none_of None e = refl
none_of (Some n) e = cc

-- an open client isn't within a front
front_none : (past : Past) (r : Replica) → IsPast past r → past.front ≡ None
front_none past r was = no_front (seen past r) was.settled

-- so it takes none of its records, and tables as ever
pub waits_refused : (past : Past) (r : Replica) (number base ms : ℕ) (body current : List ℕ) → IsPast past r → (ahead : List (Option ClientRecord)) → client_admits the_profile (seen past r) ahead (Waits number base ms body current) ≡ false
waits_refused past r number base ms body current was ahead =
    ap (λ o. some_come o && ((number == suc (length past.made)) && (not (is_empty ahead) && (is_fine (unspell body) && is_fine (unspell current))))) (front_none past r was)

pub tables_are : (past : Past) (r : Replica) (tables : Tables) → IsPast past r → (ahead : List (Option ClientRecord))
    → client_admits the_profile (seen past r) ahead (Subset tables) ≡ (is_there r.id && (not (is_growing (seen past r)) && (not (is_there r.subset) && not (is_late (seen past r)))))
tables_are past r tables was ahead =
    ap (λ o. tables_fit (seen past r) (not (is_empty ahead)) o (is_there r.id && (not (is_growing (seen past r)) && (not (is_there r.subset) && not (is_late (seen past r)))))) (front_none past r was)

pub tables_admitted : (past : Past) (r t : Replica) (tables : Tables) → IsPast past r → is_some r.id ≡ true → is_some r.subset ≡ false → is_late (seen past r) ≡ false → t ≡ record r { subset = Some tables } → Admitted past r t (Subset tables)
tables_admitted past r t tables was born none early is = record {
  admitted = λ ahead. tables_are past r tables was ahead ∙ four (is_there r.id) (not (is_growing (seen past r))) (not (is_there r.subset)) (not (is_late (seen past r))) (there r.id born) (ap not was.settled) (no_tables r.subset none) (ap not early);
  fits = tt;
  then_past = past;
  count = was.count ∙ sym (ap (λ (z : Replica). z.count) is);
  after = ap (seen past) is;
}
  where
    no_tables : (o : Option Tables) → is_some o ≡ false → not (is_there o) ≡ true
    no_tables None e = refl
    no_tables (Some t) e = cc

pub tables_declined : (past : Past) (r : Replica) (tables : Tables) → IsPast past r → (is_some r.id ≡ true → is_some r.subset ≡ false → is_late (seen past r) ≡ false → ⊥) → (ahead : List (Option ClientRecord)) → client_admits the_profile (seen past r) ahead (Subset tables) ≡ false
tables_declined past r tables was never_so ahead = tables_are past r tables was ahead ∙ go r.id r.subset (is_late (seen past r)) (not (is_growing (seen past r))) never_so
  where
    go : (a : Option (List ℕ)) (b : Option Tables) (l g : Bool) → (is_some a ≡ true → is_some b ≡ false → l ≡ false → ⊥) → (is_there a && (g && (not (is_there b) && not l))) ≡ false
    go None b l g h = refl
    go (Some x) (Some y) l true h = refl
    go (Some x) (Some y) l false h = refl
    go (Some x) None true true h = refl
    go (Some x) None true false h = refl
    go (Some x) None false g h = absurd (h refl refl refl)

-- what decides of a body that was read and that the form and the tables allow
acts_is : (past : Past) (r : Replica) (ms : ℕ) (body : List ℕ) (v : Changes) → IsRead ms body v → (needs the_profile v.instrs && not r.second) ≡ false → all_admitted the_profile r.subset v.instrs ≡ true → made_acts the_profile (seen past r) (unspell body) ≡ is_fine (apply_all the_profile v.instrs r.objects)
acts_is past r ms body v d fine inside =
    ap (made_acts the_profile (seen past r)) d.read
    ∙ ap (λ b. not b && (all_admitted the_profile r.subset v.instrs && is_fine (apply_all the_profile v.instrs r.objects))) fine
    ∙ ap (λ b. b && is_fine (apply_all the_profile v.instrs r.objects)) inside

pub made_breaks : (past : Past) (r : Replica) (number ms : ℕ) (body : List ℕ) (v : Changes) (place code : ℕ) → IsRead ms body v → (needs the_profile v.instrs && not r.second) ≡ false → all_admitted the_profile r.subset v.instrs ≡ true → Breaks v.instrs r.objects place code
    → (ahead : List (Option ClientRecord)) → client_admits the_profile (seen past r) ahead (Made number ms body) ≡ false
made_breaks past r number ms body v place code d fine inside b ahead =
    let broken = first_break v.instrs r.objects place b.cause (whole_each v.instrs d.valid) b.at in
    ap (λ t. is_there r.id && (not (is_growing (seen past r)) && ((number == suc (length past.made)) && t))) (acts_is past r ms body v d fine inside ∙ ap is_fine broken) ∙ never (is_there r.id) (not (is_growing (seen past r))) (number == suc (length past.made))

pub made_admitted : (past : Past) (r q t : Replica) (number ms : ℕ) (body : List ℕ) (v : Changes) (u : Unsent Instr) → IsRead ms body v → (needs the_profile v.instrs && not r.second) ≡ false → all_admitted the_profile r.subset v.instrs ≡ true → is_some r.id ≡ true → IsPast past r → number ≡ r.count + 1 → number ≤ 4294967295
    → act_all v.instrs r.objects ≡ Some q.objects → q ≡ record r { objects = q.objects } → u ≡ as_made (record { base = q.cursor; number = number; ms = v.ms; instrs = v.instrs }) → t ≡ record q { count = number; unsent = q.unsent ++ u ∷ [] }
    → Admitted past r t (Made number ms body)
made_admitted past r q t number ms body v u d fine inside born was next small acts others item after =
    let went = all_act v.instrs r.objects q.objects acts in
    let ran : run (act the_profile) v.instrs r.objects ≡ Some q.objects = run_applied the_profile v.instrs r.objects ∙ ap ok_state went in
    let count : number ≡ suc (length past.made) = next ∙ add-one r.count ∙ ap suc (sym was.count) in
    let put : u ≡ as_made (next_original q number ms v.instrs) = item ∙ ap (λ (k : ℕ). as_made (record { base = q.cursor; number = number; ms = k; instrs = v.instrs })) d.time in
    record {
      admitted = λ ahead. four (is_there r.id) (not (is_growing (seen past r))) (number == suc (length past.made)) (made_acts the_profile (seen past r) (unspell body)) (there r.id born) (ap not was.settled) (eq-eqb _ _ count) (acts_is past r ms body v d fine inside ∙ ap is_fine went);
      fits = small;
      then_past = and_made past (next_original r number ms v.instrs);
      count = length-append past.made (next_original r number ms v.instrs ∷ []) ∙ add-one (length past.made) ∙ sym count ∙ sym (ap (λ (z : Replica). z.count) after);
      after = ap (seen (and_made past (next_original r number ms v.instrs))) after
          ∙ ap (λ (x : Unsent Instr). seen (and_made past (next_original r number ms v.instrs)) (record q { count = number; unsent = q.unsent ++ x ∷ [] })) put
          ∙ ap (λ (z : Replica). seen (and_made past (next_original r number ms v.instrs)) (record z { count = number; unsent = z.unsent ++ as_made (next_original z number ms v.instrs) ∷ [] })) others
          ∙ ap (λ z. record (seen (and_made past (next_original r number ms v.instrs)) r) { objects = state_or r.objects z; unsent = r.unsent ++ as_made (next_original r number ms v.instrs) ∷ [] }) (sym ran)
          ∙ ap (λ o. makes the_profile (seen past r) (record { base = r.cursor; number = number; ms = ms; instrs = ok_list o })) (sym d.read);
    }

pub made_refused : (past : Past) (r s : Replica) (number ms : ℕ) (body : List ℕ) (v : Changes) (why : CodeRefusal) (place code : ℕ) → IsRead ms body v → (needs the_profile v.instrs && not r.second) ≡ false → all_admitted the_profile r.subset v.instrs ≡ true → why ≡ codes.Break place code → RefusesEdits r s v.instrs why
    → (ahead : List (Option ClientRecord)) → client_admits the_profile (seen past r) ahead (Made number ms body) ≡ false
made_refused past r s number ms body v why place code d fine inside is refused =
    made_breaks past r number ms body v place code d fine inside (subst (RefusesEdits r s v.instrs) is refused).0

pub made_outside : (past : Past) (r : Replica) (number ms : ℕ) (body : List ℕ) (v : Changes) → IsRead ms body v → all_admitted the_profile r.subset v.instrs ≡ false
    → (ahead : List (Option ClientRecord)) → client_admits the_profile (seen past r) ahead (Made number ms body) ≡ false
made_outside past r number ms body v d outside ahead =
    ap (λ t. is_there r.id && (not (is_growing (seen past r)) && ((number == suc (length past.made)) && t)))
    (ap (made_acts the_profile (seen past r)) d.read ∙ ap (λ b. not (needs the_profile v.instrs && not r.second) && (b && is_fine (apply_all the_profile v.instrs r.objects))) outside ∙ and_false (not (needs the_profile v.instrs && not r.second)))
    ∙ never (is_there r.id) (not (is_growing (seen past r))) (number == suc (length past.made))
  where
    and_false : (b : Bool) → (b && false) ≡ false
    and_false true = refl
    and_false false = refl
