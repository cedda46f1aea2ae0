use Rattle.std.proofs.Common.{◌≡◌, ◌≤◌, ◌<◌, ◌+◌, ◌∙◌, Option, IfSome, refl, sym, ap, subst, arith}
use Rattle.sync_data.specs.declared.entry.Entry.{Entry}
use Rattle.list_places.specs.Moves.{first_cell}
use Rattle.list_places.proofs.Stands.{shown_cell}
use Rattle.sync_recip.specs.Acrossing.{CrossesStretch}
use Rattle.sync_recip.specs.Stretches.{laid, shown_by, Stands}
use Rattle.sync_recip.specs.declared.items.Passing.{Passing}
use Rattle.sync_recip.specs.declared.stretch.Stretch.{Stretch}
use Rattle.sync_recip.proofs.Crossings.{crosses_stretch}
use Rattle.sync_recip.proofs.items.Items.across.Goals as goal

pub returns : goal.returns
returns c =
    let us = c.self.inside.kept.items in
    let s : Stretch = c.in-Some.stretch in
    let p : Passing = record {
      across = record { start = s.start; count = c.len.result; action = c.in_ok-action.action; stamp = record { ms = c.ms.result; ident = c.args.own } };
      left = c.left_by-left.result;
    }
    in
    let st : Stands us s = subst (λ (x : Option Stretch). IfSome x (Stands us)) c.in-Some.is c.self.invariant in
    let shown : laid s.start s.lane us ≡ c.args.self.now = ap (λ (x : Option Stretch). shown_by x us) (sym c.in-Some.is) ∙ c.self.view_is in
    let reached : c.args.from ≤ s.start = omega (arith, c.if-from-across.false) in
    let before : s.start ≤ c.args.place = omega (arith, c.if-place-across.false) in
    let behind : c.args.place < s.start + c.len.result = omega (arith, c.if-place-across.false, c.if-place-across-2.false) in
    let cells = ap (λ (e : Entry). first_cell e.changes.instrs) (sym c.entry-sample.ensures) ∙ c.if-not-same_first_cell.ensures refl ∙ sym (shown_cell c.written.ensures.action c.written.result.now.instrs) ∙ ap first_cell c.written.ensures.stands in
    subst (λ l. CrossesStretch c.args.from c.args.place c.args.own l c.args.changes.now p) shown
    (crosses_stretch c.args.from c.args.place c.args.own us s c.args.changes.now p st (c.if-not-takes.ensures.takes refl) c.left_by-left.ensures
    reached before behind (λ i. record { ms = c.ms.ensures i; ident = c.args.own }) (sym c.in_ok-action.ensures) cells)
