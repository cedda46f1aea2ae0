-- The first client makes the table and pushes it: neither is refused, and the history begins with it.
use Rattle.std.proofs.Common.{◌≡◌, ℕ, ◌≤◌, true, List, [], ◌∷◌, ◌++◌, Ok, refl, sym, ap, ◌∙◌, subst, arith, if◌then◌else◌, length, nat_le, sum_by}
use Rattle.std.proofs.lemmas.Bool.{le-leb}
use Rattle.sync_data.specs.declared.instr.Instr.{Instr}
use Rattle.sync_codec.specs.Spelling.{spelling}
use Rattle.sync_model.specs.Clients.{Made, client_of, ok_list, to_upload}
use Rattle.sync_model.specs.Messages.{Change, Stored, Upload}
use Rattle.sync_model.specs.Profile.{is_small, needs}
use Rattle.sync_model.specs.Servers.{Server, ServerRecord, ServerStep, Entry, after_all, merge_applied, merge_read, merged, new_records, no_server, serve, serve_changes, server_of}
use Rattle.sync_model.specs.Worlds.{Event, Node, World, client_moved, happens, made_words}
use Rattle.sync_exchange.specs.Lemmas.Lawful.{real_lawful}
use Rattle.sync_exchange.specs.Profile.{the_profile, weight}
use Rattle.sync_gen.specs.Clients.{first_edits_of, name_of}
use Rattle.sync_model.proofs.Holding.{server_append}
use Rattle.gen_law.specs.Generated.{after, exchanged, world_by}
use Rattle.gen_law.specs.Plans.{AreClients, clients}
use Rattle.gen_law.proofs.Answered.{Taken, after_by, server3, taken_by, upload_is}
use Rattle.gen_law.proofs.Editing.{edit_is}
use Rattle.gen_law.proofs.Edits.{and_true}
use Rattle.gen_law.proofs.Eight.{Good, Lasts, There, good_less}
use Rattle.gen_law.proofs.First.{first_drawn, first_weight, good_joined}
use Rattle.gen_law.proofs.Founding.{first_acts, s7}
use Rattle.gen_law.proofs.Lasting.{Begins}
use Rattle.gen_law.proofs.Histories.{first_entry}
use Rattle.gen_law.proofs.Harmless.{drawn_harmless}
use Rattle.gen_law.proofs.Joined.{name_at, name_is, node, with_clients}

abbrev w0 : World
w0 = with_clients clients

abbrev body : List ℕ
body = spelling first_edits_of

abbrev first_change : Change
first_change = record { number = 1; base = 0; ms = 1; body = body }

abbrev t0 : There w0 (name_at 1)
t0 = record { place = 0; node = node 1; here = refl; found = refl; apart = refl }

-- the first client, once it made them
abbrev node_made : Node
node_made = record { name = name_at 1; records = (node 1).records ++ Made 1 1 body ∷ [] }

abbrev w_made : World
w_made = client_moved w0 0 (node 1) (Made 1 1 body ∷ [])

abbrev t_made : There w_made (name_at 1)
t_made = record { place = 0; node = node_made; here = refl; found = refl; apart = refl }

module _ (small : is_small the_profile first_edits_of ≡ true) (short : length body ≤ 16777216) where
  read : the_profile.unspell body ≡ Ok first_edits_of
  read = real_lawful.spelled first_edits_of small

  -- it uploads them
  uploads : to_upload the_profile (client_of the_profile node_made.records) ≡ first_change ∷ []
  uploads =
      ap (λ r. Rattle.sync_model.specs.Profile.fitting (λ (h : Change). length h.body) 4096 16777216 (record { number = 1; base = 0; ms = 1; body = spelling (ok_list {A = Instr} r) } ∷ [])) read
      ∙ ap (λ b. if b then first_change ∷ [] else []) (le-leb (length body) 16777216 short)

  abbrev s : Server Instr
  s = server_of the_profile w0.server

  abbrev stored : ServerStep
  stored = record { records = Entry 1 1 0 1 body ∷ []; answer = Stored 1 1 }

  abbrev rest : List ServerRecord → ServerStep
  rest new = serve_changes the_profile (after_all the_profile s new) 1 []

  serves : serve the_profile s (Upload 1 (first_change ∷ [])) ≡ stored
  serves =
      ap (λ r. merged 1 1 (merge_read the_profile s 1 first_change r) (λ new. serve_changes the_profile (after_all the_profile s new) 1 [])) read
      ∙ ap (λ r. merged 1 1 (merge_applied (new_records the_profile s 1 first_change first_edits_of) r) (λ new. serve_changes the_profile (after_all the_profile s new) 1 [])) first_acts

  begins : (after_all the_profile s (Entry 1 1 0 1 body ∷ [])).log ≡ first_entry ∷ []
  begins = ap (λ r. record { origin = 1; base = 0; change = record { origin = 1; number = 1; ms = 1; instrs = ok_list {A = Instr} r } } ∷ []) read

-- ---- the events

module _ (lasts : Lasts) (are : AreClients clients) where
  g0 : Good 100001 w0
  g0 = good_less 0 100001 w0 (omega arith) (good_joined are)

  first_small : is_small the_profile first_edits_of ≡ true
  first_small = let light = first_weight in and_true (nat_le (length first_edits_of) 65536) (nat_le (sum_by weight first_edits_of) 4194304) refl (le-leb (sum_by weight first_edits_of) 4194304 (omega arith))

  first_short : length body ≤ 16777216
  first_short = let le = drawn_harmless.light 1 0 first_edits_of first_drawn in omega (arith, le)

  edits : happens the_profile w0 (Event.Edits (name_at 1) 1 first_edits_of) ≡ made_words w_made (Ok 1)
  edits = edit_is w0 g0 (name_at 1) t0 1 first_edits_of first_small (drawn_harmless.form 1 0 first_edits_of first_drawn) s7 first_acts

  at_name : name_at 1 ≡ name_of 1
  at_name = sym (name_is 1 (omega arith))

  pub found_taken : Taken w0 (Event.Edits (name_of 1) 1 first_edits_of)
  found_taken = subst (λ n. Taken w0 (Event.Edits n 1 first_edits_of)) at_name (taken_by w0 (Event.Edits (name_at 1) 1 first_edits_of) (made_words w_made (Ok 1)) edits refl)

  pub made_is : after w0 (Event.Edits (name_of 1) 1 first_edits_of) ≡ w_made
  made_is = subst (λ n. after w0 (Event.Edits n 1 first_edits_of) ≡ w_made) at_name (after_by w0 (Event.Edits (name_at 1) 1 first_edits_of) (made_words w_made (Ok 1)) edits)

  -- the history after the first push
  push_begins : (g : Good 100001 w_made) → Begins (world_by w_made (exchanged (name_at 1) (Event.Uploads (name_at 1)) w_made))
  push_begins g =
      let e : Event Instr = Event.Uploads (name_at 1) in
      let m = Upload 1 (to_upload the_profile (client_of the_profile node_made.records)) in
      let server = server3 lasts w_made g (name_at 1) t_made (Event.Uploads (name_at 1)) tt refl m (upload_is lasts w_made g (name_at 1) t_made) in
      let did : serve the_profile (server_of the_profile w0.server) m ≡ stored first_small first_short = ap (λ hs. serve the_profile (server_of the_profile w0.server) (Upload 1 hs)) (uploads first_small first_short) ∙ serves first_small first_short in (
        [],
        ap (λ rs. (server_of the_profile rs).log) (server ∙ ap (λ (d : ServerStep). w0.server ++ d.records) did)
            ∙ ap (λ (z : Server Instr). z.log) (server_append the_profile no_server w0.server (Entry 1 1 0 1 body ∷ []))
            ∙ begins first_small first_short,
      )

  pub pushed_begins : Good 100001 w_made → Begins (world_by w_made (exchanged (name_of 1) (Event.Uploads (name_of 1)) w_made))
  pushed_begins g = subst (λ n. Begins (world_by w_made (exchanged n (Event.Uploads n) w_made))) at_name (push_begins g)
