-- A note is its first byte and what follows.
use Rattle.std.proofs.Common.{◌≡◌, ◌∷◌, refl}
use Rattle.life_bytes.specs.Spelling.{note_fields, note_spelling, note_tag}
use Rattle.life_bytes.specs.declared.note.Note.{Note}
use Rattle.life_bytes.specs.declared.note.Note.TheVariants as notes

pub note_tagged : (note : Note) → note_tag note ∷ note_fields note ≡ note_spelling note
note_tagged (notes.Life life) = refl
note_tagged (notes.Birth life) = refl
note_tagged (notes.Of life) = refl
note_tagged (notes.Saves saves) = refl
note_tagged (notes.Member ident) = refl
note_tagged (notes.Numbers numbers) = refl
note_tagged (notes.Saved token) = refl
note_tagged (notes.Reached token) = refl
note_tagged (notes.Lives lives) = refl
