use Rattle.std.proofs.Common.{◌≡◌, false, sym, subst, rules, arith}
use Rattle.std.proofs.lemmas.List.Sorted.{IsPartitionPoint-from_clause}
use Rattle.server_memory.specs.Crossing.{is_before, passed_seen}
use Rattle.server_memory.proofs.Passing.{found_it, nothing_left, other_one, parted_passed}
use Rattle.server_memory.proofs.passed.passed_at.Goals as goal
use Rattle.server_memory.proofs.passed.passed_at.Goals.{then-found-ident-via-then-found-ident, then-found-ident-via-else-found-ident+then-found-version}

pub returns-then-place-passed : goal.returns-then-place-passed
returns-then-place-passed c =
    let ps = c.args.passed.now in
    let n = c.partition_point-place.result in
    let point = IsPartitionPoint-from_clause (λ p. is_before c.args.ident c.args.version (passed_seen p)) ps n c.partition_point-place.ensures.partitioned (parted_passed ps c.args.ident c.args.version c.requires) (λ a r q k. search rules) in
    nothing_left ps c.args.ident c.args.version n c.requires (λ k d a b. point.0 k d (omega arith) a) c.if-place-passed.true

pub returns-then-found-ident : goal.returns-then-found-ident
returns-then-found-ident c =
    let ps = c.args.passed.now in
    let n = c.partition_point-place.result in
    let point = IsPartitionPoint-from_clause (λ p. is_before c.args.ident c.args.version (passed_seen p)) ps n c.partition_point-place.ensures.partitioned (parted_passed ps c.args.ident c.args.version c.requires) (λ a r q k. search rules) in
    let p = c.index-passed-place.result in
    let here = c.index-passed-place.is in
    let after = subst (λ q. is_before c.args.ident c.args.version (passed_seen q) ≡ false) (sym here) (point.1 n p (omega arith) c.if-place-passed.false) in
    let other = other_one ps c.args.ident c.args.version n c.requires (λ k d a b. point.0 k d (omega arith) a) p c.if-place-passed.false here after in
    elim c.then-found-ident.branch [
      | then-found-ident-via-then-found-ident w ↦ other (λ e. w.if-found-ident.true e.0)
      | then-found-ident-via-else-found-ident+then-found-version w ↦ other (λ e. w.if-found-version.true e.1)
    ]

pub returns : goal.returns
returns c =
    let ps = c.args.passed.now in
    let n = c.partition_point-place.result in
    let point = IsPartitionPoint-from_clause (λ p. is_before c.args.ident c.args.version (passed_seen p)) ps n c.partition_point-place.ensures.partitioned (parted_passed ps c.args.ident c.args.version c.requires) (λ a r q k. search rules) in
    found_it ps c.args.ident c.args.version n c.requires (λ k d a b. point.0 k d (omega arith) a) c.index-passed-place.result c.if-place-passed.false c.index-passed-place.is c.if-found-ident.false c.if-found-version.false
