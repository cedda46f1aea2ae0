-- The files of a node and of its host.
use Rattle.std.proofs.Common.{◌≡◌, inl, inr, ℕ, List, map, Result, Ok, Err, refl, sym, ◌∙◌, ap, subst}
use Rattle.outbox_disk.specs.contracts.disk.OutboxDiskDisk.TheImpl.{ghosts as outbox}
use Rattle.outbox_disk.specs.contracts.disk.OutboxDiskDisk.TheImpl.Laws.{by_strokes-law}
use Rattle.outbox_disk.specs.declared.disk.OutboxDisk.{OutboxDisk}
use Rattle.sync_disk.specs.ImageLaws.{is_image_after}
use Rattle.sync_exchange.specs.Seen.{client_bytes, server_bytes}
use Rattle.sync_journal.specs.Journal.{IsSettled}
use Rattle.sync_journal.specs.Opening.{BadPlace}
use Rattle.sync_journal.specs.Gates.{gate_of, told}
use Rattle.sync_journal.specs.Records.{records_of}
use Rattle.sync_journal.specs.Records.Reading.{Good, BadAt}
use Rattle.sync_journal.specs.Stands.{disk_of}
use Rattle.sync_journal.specs.declared.opening.OpenCause.{OpenCause}
use Rattle.sync_journal.specs.declared.opening.OpenCause.TheVariants as causes
use Rattle.sync_client.specs.Clients as clients
use Rattle.sync_server.specs.Serving as servers
use Rattle.sync_host.specs.Nodes.{Opened, TellsBad}
use Rattle.sync_host.specs.Opening.{IsUnopened, Unopened}
use Rattle.sync_host.specs.Outboxes.{FileStands, file_after}
use Rattle.sync_host.specs.declared.node.Node.{Node}
use Rattle.sync_host.specs.declared.node.Node.TheVariants as nodes
use Rattle.sync_host.specs.declared.reply.Reply.{Reply}
use Rattle.sync_host.specs.declared.reply.Reply.TheVariants as replies

-- ---- a host that does what stands in the outbox has the file that the node's disk has
pub same_file : (disk : OutboxDisk) (records : List (List ℕ)) (end : ℕ) (s : IsSettled outbox.content outbox.images records end disk) → file_after (outbox.origin disk).start (outbox.strokes disk) ≡ s.file
same_file disk records end s = s.durable (file_after (outbox.origin disk).start (outbox.strokes disk)) (by_strokes-law disk s.file (file_after (outbox.origin disk).start (outbox.strokes disk)) s.told (is_image_after (outbox.origin disk).start (outbox.strokes disk)))

file_reads : (disk : OutboxDisk) (records : List (List ℕ)) (end : ℕ) (s : IsSettled outbox.content outbox.images records end disk) → records_of (file_after (outbox.origin disk).start (outbox.strokes disk)) ≡ Good records
file_reads disk records end s = ap records_of (same_file disk records end s) ∙ s.reads

pub file_stands : (node : Node) → FileStands node
file_stands nodes.None = tt
file_stands (nodes.Client h) = λ records is. file_reads (disk_of (clients.journal_of h.client)) (map client_bytes records) _ is.stored.settled
file_stands (nodes.Server h) = λ records is. file_reads (disk_of (servers.journal_of h.server)) (map server_bytes records) _ is.stored.settled

-- ---- why a node isn't opened
pub unopened_so : (Bad : ℕ → Type 0) (cause : OpenCause) (reply : Reply) → ((place : ℕ) → cause ≡ causes.BadFile place → Bad place) → (cause ≡ causes.DiskFault → ⊥) → Unopened cause reply → IsUnopened Bad reply
unopened_so Bad causes.DiskFault reply bad sound is = absurd (sound refl)
unopened_so Bad (causes.BadFile place) reply bad sound is = subst (λ (r : Reply). IsUnopened Bad r) (sym is) (bad place refl)
unopened_so Bad causes.NoMemory reply bad sound is = subst (λ (r : Reply). IsUnopened Bad r) (sym is) tt

pub not_opened : (Bad : ℕ → Type 0) (Opens : Node → Type 0) (reply : Reply) (there : Node) → IsUnopened Bad reply → there ≡ nodes.None → Opened Bad Opens reply there
not_opened Bad Opens (replies.BadFile place) there bad none = (bad, none)
not_opened Bad Opens replies.NoMemory there bad none = none
not_opened Bad Opens replies.Done there bad none = absurd bad
not_opened Bad Opens (replies.Number n) there bad none = absurd bad
not_opened Bad Opens (replies.Bytes b) there bad none = absurd bad
not_opened Bad Opens (replies.Standing s) there bad none = absurd bad
not_opened Bad Opens (replies.Declined d) there bad none = absurd bad
not_opened Bad Opens replies.BadRequest there bad none = absurd bad
not_opened Bad Opens replies.Absent there bad none = absurd bad
not_opened Bad Opens replies.Closed there bad none = absurd bad

tells_so : (Bad : ℕ → Type 0) (reply : Reply) → ((p q : ℕ) → Bad p → Bad q → p ≡ q) → IsUnopened Bad reply → TellsBad Bad reply
tells_so Bad (replies.BadFile place) one bad = λ p is. inl (ap (λ (n : ℕ). replies.BadFile n) (one place p bad is))
tells_so Bad replies.NoMemory one bad = λ p is. inr refl
tells_so Bad replies.Done one bad = absurd bad
tells_so Bad (replies.Number n) one bad = absurd bad
tells_so Bad (replies.Bytes b) one bad = absurd bad
tells_so Bad (replies.Standing s) one bad = absurd bad
tells_so Bad (replies.Declined d) one bad = absurd bad
tells_so Bad replies.BadRequest one bad = absurd bad
tells_so Bad replies.Absent one bad = absurd bad
tells_so Bad replies.Closed one bad = absurd bad

-- ---- a file is bad at one place, and a good one at none
module _ {A : Type 0} (reads : List (List ℕ) → Result A ℕ) where
  abbrev Refuses : List (List ℕ) → ℕ → Type 0
  Refuses file number = reads file ≡ Err number

  one_file : (a b : List (List ℕ)) → Good a ≡ Good b → a ≡ b
  one_file a b e = cc

  one_number : (m n : ℕ) → ◌≡◌ {A = Result A ℕ} (Err m) (Err n) → m ≡ n
  one_number m n e = cc

  not_both : (bytes : List ℕ) (file : List (List ℕ)) (place : ℕ) → records_of bytes ≡ BadAt place → records_of bytes ≡ Good file → ⊥
  not_both bytes file place bad good = let e : BadAt place ≡ Good file = sym bad ∙ good in cc

  one_place : (bytes : List ℕ) (p q : ℕ) → BadPlace Refuses bytes p → BadPlace Refuses bytes q → p ≡ q
  one_place bytes p q (inl a) (inl b) = let e : BadAt p ≡ BadAt q = sym a ∙ b in cc
  one_place bytes p q (inl a) (inr b) = absurd (not_both bytes b.file p a b.holds)
  one_place bytes p q (inr a) (inl b) = absurd (not_both bytes a.file q b a.holds)
  one_place bytes p q (inr a) (inr b) =
      let same = one_file a.file b.file (sym a.holds ∙ b.holds) in
      let number = one_number a.bad.number b.bad.number (sym a.bad.reads ∙ ap reads same ∙ b.bad.reads) in
      a.bad.gate ∙ ap (λ (f : List (List ℕ)). told (gate_of f a.bad.number)) same ∙ ap (λ (n : ℕ). told (gate_of b.file n)) number ∙ sym b.bad.gate

  pub tells_its_place : (bytes : List ℕ) (reply : Reply) → IsUnopened (BadPlace Refuses bytes) reply → TellsBad (BadPlace Refuses bytes) reply
  tells_its_place bytes reply bad = tells_so (BadPlace Refuses bytes) reply (one_place bytes) bad

  not_bad : (bytes : List ℕ) (file : List (List ℕ)) (a : A) (place : ℕ) → records_of bytes ≡ Good file → reads file ≡ Ok a → BadPlace Refuses bytes place → ⊥
  not_bad bytes file a place holds ok (inl bad) = not_both bytes file place bad holds
  not_bad bytes file a place holds ok (inr bad) =
      let same = one_file file bad.file (sym holds ∙ bad.holds) in
      let e : ◌≡◌ {A = Result A ℕ} (Ok a) (Err bad.bad.number) = sym ok ∙ ap reads same ∙ bad.bad.reads in
      cc

  pub tells_of_none : (bytes : List ℕ) (file : List (List ℕ)) (a : A) (reply : Reply) → records_of bytes ≡ Good file → reads file ≡ Ok a → TellsBad (BadPlace Refuses bytes) reply
  tells_of_none bytes file a reply holds ok = λ place bad. absurd (not_bad bytes file a place holds ok bad)
