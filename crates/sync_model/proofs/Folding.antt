-- The parts that the records of a file give, one after the other, are those of its log.
use Rattle.std.proofs.Common.{◌≡◌, ℕ, zero, suc, ◌≤◌, Bool, true, false, ◌&&◌, not, List, [], ◌∷◌, ◌++◌, Option, Some, None, Result, Ok, Err, refl, sym, ap, ap₂, ◌∙◌, arith, if◌then◌else◌, ◌==◌, length, nat_le, nat_lt, eqb-true}
use Rattle.sync_model.specs.Bytes.{Uuid}
use Rattle.sync_model.specs.Profile.{Profile, Lawful, needs}
use Rattle.sync_model.specs.Messages.{Change}
use Rattle.sync_model.specs.Servers.{Server, ServerRecord, Client, Entry, Form, Retired, heir_of, is_retired, Settled, Part, Floor, Count, Carried, Past, ServerRefusal, no_server, place_of, after_server, after_all, count, is_given, entries_from, merge}
use Rattle.sync_model.specs.Files.{is_fine, is_second, server_admits, server_opens}
use Rattle.sync_model.specs.Parts.{at_ident, given_of, idents_of, parts_of, merged_of, merge_by, no_parts, after_change, after_entry, after_part, after_parts, is_integrated, is_newer, admits_entry, admits_retired, admits_mark, admits_part, parts_open}
use Rattle.sync_model.proofs.Alone.{Opened, opened_first, opened_record, both_true, is_there}
use Rattle.sync_model.proofs.Parts.{at_given, at_none, at_log, sim_of, merge_here, bound_is, marked_idents, idents_given_up, idents_length, idents_uuids}
use Rattle.sync_model.proofs.Serving.{merging}
use Rattle.sync_model.specs.Limits.{ServerNumbers}
use Rattle.sync_model.specs.Each.{Each, no_more, and_each}
use Rattle.sync_model.specs.Trims.{Spans}
use Rattle.sync_model.proofs.Lists.{listed, length_map}
use Rattle.sync_model.proofs.Keeping.{entries_are}

module _ {I S : Type 0} (p : Profile I S) where
  newer_is : (r : Result (List I) (ℕ × ℕ)) → is_newer p r ≡ is_second p r
  newer_is (Ok is) = refl
  newer_is (Err f) = refl

  merged_fine : (s : Server I) (r : Result (List ServerRecord) ServerRefusal) → is_integrated (merged_of p s r) ≡ is_fine r
  merged_fine s (Ok new) = refl
  merged_fine s (Err why) = refl

  module _ {Fits : S → Type 0} (law : Lawful p Fits) where
    -- ---- what is admitted

    pub admits_same : (s : Server I) → Opened p s → (r : ServerRecord) → admits_part p (parts_of p s) r ≡ server_admits p s r
    admits_same s o (Client u) = ap₂ (λ l n. (place_of u l == 0) && not (n == p.full)) (idents_uuids p s 1 s.ids) (idents_length p s 1 s.ids)
    admits_same s o Form = refl
    admits_same s o (Settled c n) = on (is_given s c) refl
      where
        on : (b : Bool) → is_given s c ≡ b → admits_mark p (parts_of p s) n (at_ident c (idents_of p s 1 s.ids)) ≡ b && (nat_lt (s.marks c) n && nat_le n (length s.log))
        on true is = let t = is_there p law s c is in let a = at_given p s c t.0 t.1 in ap (admits_mark p (parts_of p s) n) a.1
        on false is = ap (admits_mark p (parts_of p s) n) (at_none p s c is)
    admits_same s o (Retired c by) = on (is_given s c) refl (is_given s by) refl
      where
        on : (a : Bool) → is_given s c ≡ a → (b : Bool) → is_given s by ≡ b → admits_retired p c by (at_ident c (idents_of p s 1 s.ids)) (at_ident by (idents_of p s 1 s.ids)) ≡ a && (b && (not (c == by) && not (is_retired (heir_of c s.retired))))
        on false a_is b b_is = ap (λ o. admits_retired p c by o (at_ident by (idents_of p s 1 s.ids))) (at_none p s c a_is)
        on true a_is false b_is = let t = is_there p law s c a_is in let a = at_given p s c t.0 t.1 in ap₂ (admits_retired p c by) a.1 (at_none p s by b_is)
        on true a_is true b_is =
            let t = is_there p law s c a_is in
            let a = at_given p s c t.0 t.1 in
            let u = is_there p law s by b_is in
            let b = at_given p s by u.0 u.1 in
            ap₂ (admits_retired p c by) a.1 b.1
    admits_same s o (Part body) = refl
    admits_same s o (Floor version) = refl
    admits_same s o (Count c number base n) = refl
    admits_same s o (Carried origin number base ms body) = refl
    admits_same s o (Past c version ms body) = refl
    admits_same s o (Entry c number base ms body) = on (is_given s c) refl
      where
        mine : (u : Uuid) → is_given s c ≡ true → (t : Bool) → (number == suc (count s c)) ≡ t → t && (not (is_newer p (p.unspell body) && not s.second) && is_integrated (merge_by p (parts_of p s) c (given_of p s c u) (record { number = number; base = base; ms = ms; body = body }))) ≡ t && (not (is_second p (p.unspell body) && not s.second) && is_fine (merge p s c (record { number = number; base = base; ms = ms; body = body })))
        mine u given false is = refl
        mine u given true is =
            let e : number ≡ suc (count s c) = eqb-true number (suc (count s c)) is in
            let w = is_there p law s c given in
            ap₂ (λ x y. not (x && not s.second) && y) (newer_is (p.unspell body)) (ap is_integrated (merge_here p law s o c (record { number = number; base = base; ms = ms; body = body }) u (omega arith) w.0 w.1) ∙ merged_fine s (merge p s c (record { number = number; base = base; ms = ms; body = body })))

        on : (b : Bool) → is_given s c ≡ b → admits_entry p (parts_of p s) c (record { number = number; base = base; ms = ms; body = body }) (at_ident c (idents_of p s 1 s.ids)) ≡ b && ((number == suc (count s c)) && (not (is_second p (p.unspell body) && not s.second) && is_fine (merge p s c (record { number = number; base = base; ms = ms; body = body }))))
        on true is = let t = is_there p law s c is in let a = at_given p s c t.0 t.1 in ap (admits_entry p (parts_of p s) c (record { number = number; base = base; ms = ms; body = body })) a.1 ∙ mine a.0 is (number == suc (count s c)) refl
        on false is = ap (admits_entry p (parts_of p s) c (record { number = number; base = base; ms = ms; body = body })) (at_none p s c is)

    -- ---- what it leaves

    entry_after : (s : Server I) → Opened p s → (c number base ms : ℕ) (body : List ℕ) → server_admits p s (Entry c number base ms body) ≡ true → after_part p (parts_of p s) (Entry c number base ms body) ≡ parts_of p (after_server p s (Entry c number base ms body))
    entry_after s o c number base ms body e =
        let h : Change = record { number = number; base = base; ms = ms; body = body } in
        let formed = not (is_second p (p.unspell body) && not s.second) in
        let a = both_true (is_given s c) _ e in
        let b = both_true (number == suc (count s c)) _ a.1 in
        let d = both_true formed _ b.1 in
        let t = is_there p law s c a.0 in
        let at_ = at_given p s c t.0 t.1 in
        let n : number ≡ suc (count s c) = eqb-true number (suc (count s c)) b.0 in
        let m = Rattle.sync_model.proofs.Alone.merged_fine p law s c (record { number = number; base = base; ms = ms; body = body }) d.1 in
        let g = merging p s c (record { number = number; base = base; ms = ms; body = body }) m.0 m.1 in
        let alone : m.0 ≡ Entry c number base ms body ∷ [] = g.new_is ∙ no_form (p.unspell body) g.read d.0 in
        ap (after_entry p (parts_of p s) c (record { number = number; base = base; ms = ms; body = body })) at_.1
        ∙ ap (after_change (parts_of p s)) (merge_here p law s o c (record { number = number; base = base; ms = ms; body = body }) at_.0 (omega arith) t.0 t.1 ∙ ap (merged_of p s) m.1)
        ∙ ap (λ l. parts_of p (after_all p s l)) alone
      where
        no_form : {is : List I} (r : Result (List I) (ℕ × ℕ)) → r ≡ Ok is → not (is_second p r && not s.second) ≡ true → (if needs p is && not s.second then Form ∷ [] else []) ++ Entry c number base ms body ∷ [] ≡ Entry c number base ms body ∷ []
        no_form {is} r r_is f = on (needs p is && not s.second) (sym (ap (λ q. not (is_second p q && not s.second)) r_is) ∙ f)
          where
            on : (x : Bool) → not x ≡ true → (if x then Form ∷ [] else []) ++ Entry c number base ms body ∷ [] ≡ Entry c number base ms body ∷ []
            on true k = cc
            on false k = refl

    pub record_after : (s : Server I) → Opened p s → (r : ServerRecord) → server_admits p s r ≡ true → after_part p (parts_of p s) r ≡ parts_of p (after_server p s r)
    record_after s o (Client u) e = sym (bound_is p law s o u)
    record_after s o Form e = refl
    record_after s o (Settled c n) e = ap (λ l. record (parts_of p s) { idents = l }) (sym (marked_idents p law s c n s.ids 1))
    record_after s o (Retired c by) e =
        let a = both_true (is_given s c) _ e in
        let b = both_true (is_given s by) _ a.1 in
        let d = both_true (not (c == by)) _ b.1 in
        ap (λ l. record (parts_of p s) { idents = l; retired = s.retired ++ (c, by) ∷ [] }) (sym (idents_given_up p law s c by (nobody_of (heir_of c s.retired) d.1) s.ids 1))
      where
        nobody_of : (o : Option ℕ) → not (is_retired o) ≡ true → o ≡ None
        nobody_of None f = refl
        nobody_of (Some by) f = cc
    record_after s o (Entry c number base ms body) e = entry_after s o c number base ms body e
    record_after s o (Part body) e = refl
    record_after s o (Floor version) e = refl
    record_after s o (Count c number base n) e = refl
    record_after s o (Carried origin number base ms body) e = refl
    record_after s o (Past c version ms body) e = refl

    pub records_after : (rs : List ServerRecord) (s : Server I) → Opened p s → server_opens p s rs ≡ true → after_parts p (parts_of p s) rs ≡ parts_of p (after_all p s rs)
    records_after [] s o e = refl
    records_after (r ∷ rs) s o e =
        let b = both_true (server_admits p s r) (server_opens p (after_server p s r) rs) e in
        ap (λ k. after_parts p k rs) (record_after s o r b.0) ∙ records_after rs (after_server p s r) (opened_record p law s r b.0 o) b.1

    -- and the other way round: what opens by the parts opens by the log
    pub opens_same : (rs : List ServerRecord) (s : Server I) → Opened p s → parts_open p (parts_of p s) rs ≡ server_opens p s rs
    opens_same [] s o = refl
    opens_same (r ∷ rs) s o = ap (λ t. t && parts_open p (after_part p (parts_of p s) r) rs) (admits_same s o r) ∙ on (server_admits p s r) refl (λ e. ap (λ k. parts_open p k rs) (record_after s o r e) ∙ opens_same rs (after_server p s r) (opened_record p law s r e o))
      where
        on : (t : Bool) → server_admits p s r ≡ t → (server_admits p s r ≡ true → parts_open p (after_part p (parts_of p s) r) rs ≡ server_opens p (after_server p s r) rs) → t && parts_open p (after_part p (parts_of p s) r) rs ≡ t && server_opens p (after_server p s r) rs
        on true is h = h is
        on false is h = refl

  -- the parts of no records
  pub parts_first : parts_of p no_server ≡ no_parts p
  parts_first = refl

  -- ---- what an opened server keeps spans its history

  marks_within : (s : Server I) (top : ℕ) → ((c : ℕ) → s.marks c ≤ top) → (us : List Uuid) (k : ℕ) → Each (λ g. g.mark ≤ top) (idents_of p s k us)
  marks_within s top h [] k = no_more
  marks_within s top h (u ∷ us) k = and_each (h k) (marks_within s top h us (suc k))

  pub length_listed : {X : Type 0} (f : ℕ → X) (n k : ℕ) → length (listed f n k) ≡ n
  length_listed f zero k = refl
  length_listed f (suc n) k = ap suc (length_listed f n (suc k))

  module _ {Fits : S → Type 0} (law : Lawful p Fits) where
    entries_length : (s : Server I) → Opened p s → length (entries_from p s.log (length s.log) 0) ≡ length s.log
    entries_length s o = at_log p s o (λ z. length (entries_from p z.log (length z.log) 0) ≡ length z.log)
        (ap length (entries_are p law s.ids s.second s.retired s.marks o.named o.n (sim_of p s o) (length o.n.log) 0 (omega arith)) ∙ length_listed o.n.entries (length o.n.log) 0)

    pub parts_span : (s : Server I) → Opened p s → ServerNumbers p s → Spans (parts_of p s)
    parts_span s o n = let e = entries_length s o in let m = length_map (λ e. e.base) s.log in record { reach = omega arith; bases = omega arith; marks = marks_within s (length s.log) n.marks s.ids 1 }
