-- The first entry of a Download that a client takes, and the next ones.
use Rattle.std.proofs.Common.{◌≡◌, ℕ, ◌+◌, ◌-◌, ◌≤◌, List, Option, IsTrue, map, drop, sym, subst, ap, ◌∙◌, arith}
use Rattle.std.specs.Option.{is_some}
use Rattle.sync_disk.specs.declared.disk.Disk.{Ghosts}
use Rattle.sync_model.specs.Clients.{ClientRecord, client_of, take, take_entries}
use Rattle.sync_exchange.specs.Profile.{the_profile}
use Rattle.sync_exchange.specs.Seen.{message_seen, sent_seen}
use Rattle.sync_messages.specs.declared.message.Message.TheVariants as messages
use Rattle.sync_messages.specs.Parts.{DownloadParts}
use Rattle.sync_client.specs.Clients.{IsClientOf}
use Rattle.marked_client.specs.declared.client.MarkedClient.{MarkedClient}
use Rattle.marked_client.specs.declared.testing.Standing.{Standing}
use Rattle.marked_client.specs.Testing.{DownloadPasses}
use Rattle.marked_client.specs.Marked.{IsNext, standing_of}
use Rattle.marked_client.proofs.Entries.{whole}

pub one_more : (from place : ℕ) → (from + place) + 1 ≡ from + (place + 1)
one_more from place = omega (arith)

-- what the loop calls a version and an ident
pub next_told : (rs : List ClientRecord) (d : DownloadParts) (ident from place : ℕ) → ident ≡ d.ident → from ≡ d.from → IsNext rs d.ident (d.from + place) → IsNext rs ident (from + place)
next_told rs d ident from place i f n = record { born = n.born; named = n.named ∙ sym i; cursor = n.cursor ∙ ap (λ v. v + place) (sym f) }

module _ {D : Type 0} {G : Ghosts D} where
  pub first_next : (records : List ClientRecord) (at : Standing) (c : MarkedClient D G) (d : DownloadParts) (cursor from skipped : ℕ) → at ≡ standing_of records c → DownloadPasses at d
      → cursor ≡ (client_of the_profile records).cursor → from ≡ d.from → skipped ≡ cursor - from → IsNext records d.ident (d.from + skipped)
  first_next records at c d cursor from skipped is p cursor_is from_is left =
      let reaches = subst (λ (n : ℕ). d.from ≤ n) (ap (λ (a : Standing). a.cursor) is) p.reaches in
      record {
        born = subst (λ (o : Option (List ℕ)). IsTrue (is_some o)) (ap (λ (a : Standing). a.id) is) p.born;
        named = sym (p.named ∙ ap (λ (a : Standing). a.ident) is);
        cursor = omega (arith, reaches, cursor_is, from_is, left);
      }

  pub skipped_is : (records : List ClientRecord) (at : Standing) (c : MarkedClient D G) (d : DownloadParts) (cursor from skipped : ℕ) → IsClientOf records c.client → at ≡ standing_of records c → DownloadPasses at d
      → cursor ≡ (client_of the_profile records).cursor → from ≡ d.from → skipped ≡ cursor - from
      → take the_profile (client_of the_profile records) (message_seen (messages.Download d)) ≡ take_entries the_profile (client_of the_profile records) (map sent_seen (drop skipped d.entries))
  skipped_is records at c d cursor from skipped k is p cursor_is from_is left =
      whole records c.client.replica d skipped k.kept
      (subst (λ (o : Option (List ℕ)). IsTrue (is_some o)) (ap (λ (a : Standing). a.id) is) p.born)
      (p.named ∙ ap (λ (a : Standing). a.ident) is)
      (subst (λ (n : ℕ). d.from ≤ n) (ap (λ (a : Standing). a.cursor) is) p.reaches)
      (left ∙ ap (λ n. n - from) cursor_is ∙ ap (λ n. (client_of the_profile records).cursor - n) from_is)
