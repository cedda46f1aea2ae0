use Rattle.std.proofs.Common.{◌≡◌, ◌++◌, ◌∷◌, [], Bool, List, ℕ, true, false, length, map, sym, ◌∙◌, ap, subst, append-nil}
use Rattle.std.proofs.lemmas.List.{map_push}
use Rattle.std.proofs.lemmas.List.Elements.{All-push}
use Rattle.byte_lists.specs.Parts.{part, IsWithin}
use Rattle.sync_journal.specs.Records.{is_note, kept}
use Rattle.sync_journal.proofs.Scan.{kept_note, kept_noted, kept_record}
use Rattle.sync_journal.proofs.opening.keep_part.Goals as goal
use Rattle.sync_journal.proofs.opening.keep_part.Goals.{else-not-notes-via-then-not-notes+else-is_note, else-not-notes-via-else-not-notes}

kept_here : (notes : Bool) (bytes : List ℕ) → notes ≡ true → kept notes bytes ≡ bytes ∷ []
kept_here true bytes is = kept_noted bytes
kept_here false bytes is = cc

left_out : (notes : Bool) (bytes : List ℕ) → notes ≡ false → is_note bytes ≡ true → kept notes bytes ≡ []
left_out true bytes is note = cc
left_out false bytes is note = kept_note bytes note

pub returns-then-is_note-clause-kept : goal.returns-then-is_note-clause-kept
returns-then-is_note-clause-kept c =
    let none = left_out c.args.notes (part c.args.bytes.now c.args.part) c.if-not-notes.true (sym c.is_note.ensures ∙ c.if-is_note.true) in
    sym (append-nil _) ∙ ap (λ l. map (part c.args.bytes.now) c.args.parts.now.items ++ l) (sym none)

pub returns-clause-kept : goal.returns-clause-kept
returns-clause-kept c =
    let one : kept c.args.notes (part c.args.bytes.now c.args.part) ≡ part c.args.bytes.now c.args.part ∷ [] = elim c.else-not-notes.branch [
      | else-not-notes-via-then-not-notes+else-is_note w ↦ kept_record c.args.notes (part c.args.bytes.now c.args.part) (sym w.is_note.ensures ∙ w.if-is_note.false)
      | else-not-notes-via-else-not-notes w ↦ kept_here c.args.notes (part c.args.bytes.now c.args.part) w.if-not-notes.false
    ] in
    ap (map (part c.args.bytes.now)) c.in_ok-push.ensures.items ∙ map_push (part c.args.bytes.now) c.args.parts.now.items c.args.part
    ∙ ap (λ l. map (part c.args.bytes.now) c.args.parts.now.items ++ l) (sym one)
