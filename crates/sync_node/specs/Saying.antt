-- No answer of a node is empty but one that adds no record.
use Rattle.std.specs.Prelude.{◌≡◌, ℕ, ◌<◌, List, ◌∷◌, ◌++◌, codes, decimal, length, Option, None, Some}
use Rattle.std.proofs.Common.{inr, ap, arith, length-append}
use Rattle.std.specs.Option.{option_map}
use Rattle.byteorder.specs.Endian.{big_bytes}
use Rattle.sync_model.specs.Clients.{ClientRecord}
use Rattle.sync_model.specs.Messages.{Message}
use Rattle.sync_model.specs.Servers.{ServerRecord}
use Rattle.sync_edits.specs.Lines.{node_form_of_line}
use Rattle.sync_edits.specs.declared.event.NodeLine.{NodeLine}
use Rattle.sync_edits.specs.declared.event.NodeLine.TheVariants as node_lines
use Rattle.sync_words.specs.Messages.{message_read}
use Rattle.sync_words.specs.Words.{outcome_line}
use Rattle.sync_node.specs.Frames.{frame, framed}
use Rattle.sync_node.specs.Runs.{Answer, IsTold}
use Rattle.sync_node.specs.Steps.{edit_step, line_answer, serve_step, take_answer, take_step}

line_says : (number : ℕ) (words : List ℕ) → 0 < length (outcome_line number words)
line_says number words = omega (arith, length-append (decimal number ++ codes " " ++ words) (codes "\n"))

abbrev text_length : {R : Type 0} → Option (Answer R) → ℕ
text_length None = 0
text_length (Some a) = length a.text

-- what isn't empty at any choice is told
mapped_says : {X R : Type 0} (f : X → Answer R) (x : Option X) (answer : Answer R) → ((y : X) → 0 < length (f y).text) → option_map f x ≡ Some answer → IsTold answer
mapped_says f None answer says is = cc
mapped_says f (Some y) answer says is = let same : length (f y).text ≡ length answer.text = ap text_length is in inr (omega (arith, same, says y))

node_line_says : (records : List ClientRecord) (number : ℕ) (line : NodeLine) → 0 < length (line_answer records number line).text
node_line_says records number (node_lines.Born id) = line_says number _
node_line_says records number (node_lines.Commit ms edits) = line_says number _
node_line_says records number node_lines.Upgrade = line_says number _
node_line_says records number (node_lines.Subscribe tables) = line_says number _

pub edit_says : (records : List ClientRecord) (number : ℕ) (item : List ℕ) (answer : Answer ClientRecord) → edit_step records number item ≡ Some answer → IsTold answer
edit_says records number item answer is = mapped_says (line_answer records number) (node_form_of_line item) answer (node_line_says records number) is

pub take_says : (records : List ClientRecord) (number : ℕ) (item : List ℕ) (answer : Answer ClientRecord) → take_step records number item ≡ Some answer → IsTold answer
take_says records number item answer is = mapped_says (take_answer records number) (message_read item) answer (λ m. line_says number _) is

framed_says : (tag : ℕ) (rest : List ℕ) → 0 < length (framed (tag ∷ rest))
framed_says tag rest = omega (arith, length-append (big_bytes 4 (length (tag ∷ rest))) (tag ∷ rest))

frame_says : (m : Message) → 0 < length (frame m)
frame_says (Message.Bind id) = framed_says 1 _
frame_says (Message.Ident id ident) = framed_says 2 _
frame_says (Message.Upload ident changes) = framed_says 3 _
frame_says (Message.Ask ident cursor settled) = framed_says 4 _
frame_says (Message.Download ident from entries) = framed_says 5 _
frame_says (Message.Refused ident number code place) = framed_says 6 _
frame_says (Message.Stored ident number) = framed_says 7 _
frame_says (Message.Ask2 ident cursor settled) = framed_says 8 _
frame_says (Message.Retire ident by) = framed_says 9 _
frame_says (Message.Retired ident by number) = framed_says 10 _
frame_says (Message.AskTables ident cursor settled second tables) = framed_says 11 _

pub serve_says : (records : List ServerRecord) (number : ℕ) (item : List ℕ) (answer : Answer ServerRecord) → serve_step records number item ≡ Some answer → IsTold answer
serve_says records number item answer is = mapped_says _ (message_read item) answer (λ m. frame_says _) is
