use Rattle.std.proofs.Common.{◌≡◌, ◌<◌, true, length, refl, sym, ap, ◌∙◌, subst}
use Rattle.sync_exchange.specs.Profile.{the_profile, fits_changeset}
use Rattle.sync_model.specs.Parts.{at_ident, merge_by}
use Rattle.server_memory.specs.Kept.{parts}
use Rattle.server_memory.specs.History.{HistoryParts, len_of}
use Rattle.server_memory.specs.Integrating.{IsNext}
use Rattle.server_memory.specs.Merging.{change_of}
use Rattle.server_memory.specs.declared.kept.Kept.{Kept}
use Rattle.server_memory.proofs.Others.{idents_length}
use Rattle.server_memory.proofs.Steps.{next_of}
use Rattle.server_memory.proofs.kept.Kept.merge.Goals as goal

pub apply-requires : goal.apply-requires
apply-requires c = subst (λ v. fits_changeset v.instrs ≡ true) (sym c.changes.ensures) (c.in-Ok.ensures.prepared c.requires.fresh.given c.requires.fresh.is_given).small

pub integrate-requires-clause-room : goal.integrate-requires-clause-room
integrate-requires-clause-room c = subst (λ (k : Kept). len_of k.history < 4294967295) (sym c.in-Ok.ensures.same) (c.in-Ok.ensures.prepared c.requires.fresh.given c.requires.fresh.is_given).room

pub integrate-requires-clause-given : goal.integrate-requires-clause-given
integrate-requires-clause-given c =
    let h = change_of c.args.head c.args.body.now in
    let g = c.requires.fresh.given in
    let next = next_of c.in-Ok.prepared c.args.self.now c.args.ident c.args.head.number c.args.head.base g h (merge_by the_profile (parts c.args.self.now) c.args.ident g h) (c.in-Ok.ensures.prepared g c.requires.fresh.is_given) refl refl c.requires.fresh.is_given in
    subst (λ (k : Kept). IsNext c.args.ident c.args.head.number c.args.head.base c.in-Ok.prepared.carried k.history.idents) (sym c.in-Ok.ensures.same) next

pub returns-in-Ok-integrate-clause-given : goal.returns-in-Ok-integrate-clause-given
returns-in-Ok-integrate-clause-given c =
    let old = c.prepare.new.self.history in
    let is = ap (λ (k : Kept). at_ident c.args.ident k.history.idents) c.in-Ok.ensures.same ∙ c.requires.fresh.is_given in
    ap (λ (h : HistoryParts). length h.idents) (c.in-Ok-integrate.ensures c.requires.fresh.given is) ∙ idents_length c.args.ident c.args.head.base _ (len_of old) _ 1 old.idents
    ∙ ap (λ (k : Kept). length k.history.idents) c.in-Ok.ensures.same
