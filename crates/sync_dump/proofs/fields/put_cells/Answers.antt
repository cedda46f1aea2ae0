use Rattle.std.proofs.Common.{ℕ, List, [], ◌∷◌, ◌++◌, length, ◌<◌, Option, sym, ap, ◌∙◌, subst, append_assoc}
use Rattle.std.specs.Option.{option_copied}
use Rattle.json.specs.Token.{begin_object, key}
use Rattle.json.specs.Tree.{members_tokens}
use Rattle.serde_json.specs.Written.{members_outline}
use Rattle.sync_data.specs.Orders.{name_cmp}
use Rattle.sync_base.specs.Effects.{ObjectName}
use Rattle.sync_base.specs.States.{cell_at}
use Rattle.sync_dump.specs.Dump.{data_of_field, cells_of}
use Rattle.sync_dump.specs.Tokens.{tokens_of}
use Rattle.sync_dump.specs.Walks.{columns_in}
use Rattle.sync_dump.proofs.Walk.{from, IsAt, smaller}
use Rattle.sync_dump.proofs.Standing.{column_first, column_step}
use Rattle.sync_dump.proofs.fields.put_cells.Goals as goal

pub loop-column-init : goal.loop-column-init
loop-column-init c =
    let s = c.args.store.now in
    let o : ObjectName = (c.args.table.now, c.args.key.now) in
    let old = c.args.writer.now.tokens in
    let columns = columns_in s.tables c.args.table.now in
    let w = column_first s.tables c.args.table.now (option_copied c.next_column-column.result) c.next_column-column.ensures in (
      w.1,
      ap (λ es. c.begin_object.new.self.tokens ++ members_tokens (members_outline (cells_of s o es))) w.0
          ∙ ap (λ ts. ts ++ members_tokens (members_outline (cells_of s o columns))) c.in_ok-begin_object.ensures.ok
          ∙ append_assoc old (begin_object ∷ []) (members_tokens (members_outline (cells_of s o columns))),
      c.begin_object.ensures.room.0,
    )

pub loop-column-smaller : goal.loop-column-smaller
loop-column-smaller c =
    let columns = columns_in c.args.store.now.tables c.args.table.now in
    let here = ap (option_copied {T = List ℕ}) c.in-Some.is in
    let next = option_copied c.next_column-column-in-Some.result in
    let step = column_step c.args.store.now.tables c.args.table.now c.in-Some.name.now next (subst (λ (x : Option (List ℕ)). IsAt name_cmp x columns) here c.loop-column.invariant.0) c.next_column-column-in-Some.ensures in
    subst (λ (x : Option (List ℕ)). length (from name_cmp next columns) < length (from name_cmp x columns)) (sym here) (smaller name_cmp _ _ _ step)

pub loop-column-preserved : goal.loop-column-preserved
loop-column-preserved c =
    let s = c.args.store.now in
    let o : ObjectName = (c.args.table.now, c.args.key.now) in
    let name = c.in-Some.name.now in
    let columns = columns_in s.tables c.args.table.now in
    let here = ap (option_copied {T = List ℕ}) c.in-Some.is in
    let next = option_copied c.next_column-column-in-Some.result in
    let old = c.loop-column.writer.tokens in
    let rest = members_tokens (members_outline (cells_of s o (from name_cmp next columns))) in
    let step = column_step s.tables c.args.table.now name next (subst (λ (x : Option (List ℕ)). IsAt name_cmp x columns) here c.loop-column.invariant.0) c.next_column-column-in-Some.ensures in (
      step.at,
      ap (λ ts. ts ++ rest) c.in_ok-put_field.ensures.0 ∙ append_assoc old (key name ∷ tokens_of (data_of_field s (cell_at s o name))) rest
          ∙ ap (λ es. old ++ members_tokens (members_outline (cells_of s o es))) (sym step.rest)
          ∙ ap (λ x. old ++ members_tokens (members_outline (cells_of s o (from name_cmp x columns)))) (sym here) ∙ c.loop-column.invariant.1,
      c.in_ok-put_field.ensures.1 ∙ c.loop-column.invariant.2,
    )
