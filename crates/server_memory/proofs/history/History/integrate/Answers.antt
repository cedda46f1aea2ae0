use Rattle.std.proofs.Common.{◌≡◌, ◌+◌, ◌-◌, ◌<◌, length, get_or, All, sym, ap, ◌∙◌, subst, arith, length-set}
use Rattle.std.proofs.lemmas.List.{with_items_is}
use Rattle.std.specs.Vec.{with_item}
use Rattle.sync_transform.specs.Sets.{made_by}
use Rattle.sync_recip.specs.Carrying.{entries_of}
use Rattle.sync_recip.specs.Lists.{entry_of}
use Rattle.sync_model.specs.Parts.{at_ident, settled}
use Rattle.server_memory.specs.History.{HistoryParts, len_of, with_entry}
use Rattle.server_memory.specs.Extending.{first_extended}
use Rattle.server_memory.proofs.Idents.{is_at}
use Rattle.server_memory.proofs.Keeps.{on_ok, the_first, the_same}
use Rattle.server_memory.proofs.Integrated as made
use Rattle.server_memory.proofs.history.History.integrate.Goals as goal

pub invariant_of-self : goal.invariant_of-self
invariant_of-self c =
    let floor = c.self.inside.floor in
    let es = c.self.inside.entries.items in
    let bs = c.self.inside.bases.items in
    let gs = c.self.inside.idents.items in
    let qs = c.self.inside.retired.items in
    let given = c.requires.given in
    let here = is_at c.args.ident gs given.given (ap (λ (h : HistoryParts). at_ident c.args.ident h.idents) c.self.view_is ∙ given.is_given) in
    let was = c.index_mut.ensures.value ∙ sym (here.here c.index_mut.result.now) in
    let new = c.settle-changes.ensures.settled ∙ ap (λ g. settled c.args.base (entries_of c.args.carried g.reciprocal) g) was in
    made.not_entered floor es bs c.self.inside.second gs qs c.args.ident c.args.number c.args.base c.args.carried given.given here c.self.invariant given.next given.small given.others c.settle-changes.new.self new
    c.keep_entry.new.entries.items c.keep_entry.new.bases.items c.in_err-keep_entry.ensures.unchanged c.in_err-keep_entry.ensures.bases_unchanged

pub extend_others-requires : goal.extend_others-requires
extend_others-requires c =
    let floor = c.self.inside.floor in
    let es = c.self.inside.entries.items in
    let bs = c.self.inside.bases.items in
    let gs = c.self.inside.idents.items in
    let qs = c.self.inside.retired.items in
    let given = c.requires.given in
    let here = is_at c.args.ident gs given.given (ap (λ (h : HistoryParts). at_ident c.args.ident h.idents) c.self.view_is ∙ given.is_given) in
    let was = c.index_mut.ensures.value ∙ sym (here.here c.index_mut.result.now) in
    let new = c.settle-changes.ensures.settled ∙ ap (λ g. settled c.args.base (entries_of c.args.carried g.reciprocal) g) was in
    let last : c.len-last.result ≡ length es = omega (arith, c.len-last.ensures, c.self.inside.entries.ok.0) in
    subst (λ n. All (λ h. All (λ q. q.0 < floor + n) h.reciprocal) c.deref_mut.result.now) (sym last)
    (subst (λ l. All (λ h. All (λ q. q.0 < floor + length es) h.reciprocal) l) (sym c.deref_mut.ensures.value)
    (made.below floor es bs c.self.inside.second gs qs c.args.ident c.args.number c.args.base c.args.carried given.given here c.self.invariant given.next given.small given.others c.settle-changes.new.self new))

pub invariant_of-self-2 : goal.invariant_of-self-2
invariant_of-self-2 c =
    let floor = c.self.inside.floor in
    let es = c.self.inside.entries.items in
    let bs = c.self.inside.bases.items in
    let gs = c.self.inside.idents.items in
    let qs = c.self.inside.retired.items in
    let given = c.requires.given in
    let here = is_at c.args.ident gs given.given (ap (λ (h : HistoryParts). at_ident c.args.ident h.idents) c.self.view_is ∙ given.is_given) in
    let was = c.index_mut.ensures.value ∙ sym (here.here c.index_mut.result.now) in
    let new = c.settle-changes.ensures.settled ∙ ap (λ g. settled c.args.base (entries_of c.args.carried g.reciprocal) g) was in
    let last : c.len-last.result ≡ length es = omega (arith, c.len-last.ensures, c.self.inside.entries.ok.0) in
    let version = ap (λ n. floor + n) last in
    let item = subst (λ n. c.index.result.now ≡ get_or c.keep_entry.new.entries.items n c.index.result.now) last c.index.ensures in
    let room = subst (λ n. n < 4294967295) (sym (ap len_of c.self.view_is)) c.requires.room in
    let long = c.extend_others.auto.idents ∙ ap length c.deref_mut.ensures.value ∙ length-set gs (c.args.ident - 1) c.settle-changes.new.self in
    let hs = with_items_is (with_item c.self.inside.idents (c.args.ident - 1) c.settle-changes.new.self) c.extend_others.new.idents (omega (arith, long, c.self.inside.idents.ok.0)) in
    let some =
    the_first c.extend_others.result (c.args.ident - 1) (floor + c.len-last.result) (entry_of c.index.result.now) c.deref_mut.result.now c.extend_others.new.idents c.extend_others.ensures.ok c.extend_others.ensures.part in
    made.entered floor es bs c.self.inside.second gs qs c.args.ident c.args.number c.args.base c.args.carried given.given here c.self.invariant given.next given.small given.others c.settle-changes.new.self new
    (record { origin = c.args.ident; number = c.args.number; changes = c.settle-changes.result }) (ap (λ v. record { origin = c.args.ident; number = c.args.number; changes = v }) c.settle-changes.ensures.changes) c.keep_entry.new.entries.items c.in_ok-keep_entry.ensures.ok c.keep_entry.new.bases.items c.in_ok-keep_entry.ensures.based room c.index.result.now item
    some.0 _ _ (ap length hs ∙ long) (hs ∙ some.1 ∙ (λ i. first_extended some.0 (c.args.ident - 1) (version i) (entry_of c.index.result.now) 0 (c.deref_mut.ensures.value i)))

pub returns : goal.returns
returns c = λ g is.
    let floor = c.self.inside.floor in
    let es = c.self.inside.entries.items in
    let bs = c.self.inside.bases.items in
    let gs = c.self.inside.idents.items in
    let qs = c.self.inside.retired.items in
    let given = c.requires.given in
    let here = is_at c.args.ident gs given.given (ap (λ (h : HistoryParts). at_ident c.args.ident h.idents) c.self.view_is ∙ given.is_given) in
    let was = c.index_mut.ensures.value ∙ sym (here.here c.index_mut.result.now) in
    let new = c.settle-changes.ensures.settled ∙ ap (λ g. settled c.args.base (entries_of c.args.carried g.reciprocal) g) was in
    let last : c.len-last.result ≡ length es = omega (arith, c.len-last.ensures, c.self.inside.entries.ok.0) in
    let version = ap (λ n. floor + n) last in
    let item = subst (λ n. c.index.result.now ≡ get_or c.keep_entry.new.entries.items n c.index.result.now) last c.index.ensures in
    let room = subst (λ n. n < 4294967295) (sym (ap len_of c.self.view_is)) c.requires.room in
    let long = c.extend_others.auto.idents ∙ ap length c.deref_mut.ensures.value ∙ length-set gs (c.args.ident - 1) c.settle-changes.new.self in
    let hs = with_items_is (with_item c.self.inside.idents (c.args.ident - 1) c.settle-changes.new.self) c.extend_others.new.idents (omega (arith, long, c.self.inside.idents.ok.0)) in
    let one : given.given ≡ g = the_same (sym given.is_given ∙ is) in
    on_ok c.extend_others.result _ _ c.extend_others.ensures.ok (λ ok.
    made.whole floor es bs c.self.inside.second gs qs c.args.ident c.args.number c.args.base c.args.carried given.given here c.self.invariant given.next given.small given.others c.settle-changes.new.self new
    (record { origin = c.args.ident; number = c.args.number; changes = c.settle-changes.result }) (ap (λ v. record { origin = c.args.ident; number = c.args.number; changes = v }) c.settle-changes.ensures.changes) c.keep_entry.new.entries.items c.in_ok-keep_entry.ensures.ok c.keep_entry.new.bases.items c.in_ok-keep_entry.ensures.based room c.index.result.now item
    c.args.second _ (hs ∙ ok ∙ (λ i. first_extended (length (c.deref_mut.ensures.value i)) (c.args.ident - 1) (version i) (entry_of c.index.result.now) 0 (c.deref_mut.ensures.value i)))
    ∙ (λ i. with_entry (c.self.view_is i) c.args.ident c.args.base c.args.second (made_by c.args.ident c.args.number c.args.carried.changes) (entries_of c.args.carried (one i).reciprocal)))
