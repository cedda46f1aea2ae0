-- The reply of one object.
use Rattle.std.proofs.Common.{◌≡◌, ℕ, List, ◌∷◌, Bool, true, false, Option, Some, Vec, Global, refl, sym, ap, subst}
use Rattle.sync_base.specs.States.{State, has}
use Rattle.sync_dump.specs.Dump.{data_of_object, line}
use Rattle.sync_dump.specs.Walks.{columns_in}
use Rattle.sync_host.specs.Objects.{ObjectIs, ObjectTold}
use Rattle.sync_host.specs.declared.object.ObjectName.{ObjectName}
use Rattle.sync_host.specs.declared.reply.Reply.{Reply}
use Rattle.sync_host.specs.declared.reply.Reply.TheVariants as replies

told_by : (form : Option ObjectName) (o : ObjectName) (s : State) (stands : Bool) (reply : Reply) → form ≡ Some o → has s (o.table, o.key) ≡ stands → ObjectIs stands o s reply → ObjectTold form s reply
told_by form o s stands reply is there told = subst (λ (f : Option ObjectName). ObjectTold f s reply) (sym is) (subst (λ (b : Bool). ObjectIs b o s reply) (sym there) told)

pub absent : (form : Option ObjectName) (o : ObjectName) (s : State) → form ≡ Some o → has s (o.table, o.key) ≡ false → ObjectTold form s replies.Absent
absent form o s is not = told_by form o s false replies.Absent is not refl

pub stands : (form : Option ObjectName) (o : ObjectName) (s : State) (bytes : Vec ℕ Global) → form ≡ Some o → has s (o.table, o.key) ≡ true → bytes.items ≡ line (data_of_object s (columns_in s.tables o.table) (o.table, o.key)) → ObjectTold form s (replies.Bytes bytes)
stands form o s bytes is there text = told_by form o s true (replies.Bytes bytes) is there (ap (λ (l : List ℕ). 0 ∷ l) text)
