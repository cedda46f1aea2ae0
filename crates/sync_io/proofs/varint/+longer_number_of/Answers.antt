use Rattle.std.proofs.Common.{◌^◌, slice_index_or, ◌∙◌, arith}
use Rattle.std.proofs.lemmas.Result.{err_from_is_err_and}
use Rattle.sync_io.proofs.Numbers.{at_none, at_empty, at_last, at_more, none_higher, too_large, fitting}
use Rattle.sync_io.proofs.varint.+longer_number_of.Goals as goal

pub returns-then-room-eq0 : goal.returns-then-room-eq0
returns-then-room-eq0 t c = at_none c.args.room c.args.bytes.now (2 ^ 64) c.if-room-eq0.true

pub returns-in-empty : goal.returns-in-empty
returns-in-empty t c = at_empty c.args.room c.args.bytes.now (2 ^ 64) (omega arith) c.in-empty.len_below

pub returns-then-byte-lt128 : goal.returns-then-byte-lt128
returns-then-byte-lt128 t c = at_last c.args.room c.args.bytes.now (2 ^ 64) (omega arith) c.in-len1-up.len_at_least c.if-byte-lt128.true (omega arith)

pub returns-in_err-higher-in-len1-up : goal.returns-in_err-higher-in-len1-up
returns-in_err-higher-in-len1-up t c =
    let p = err_from_is_err_and c.from_residual.result c.from_residual.ensures.1 in
    rw (p.1, p.2) (at_more c.args.room c.args.bytes.now _ (omega arith) c.in-len1-up.len_at_least c.if-byte-lt128.false c.in_err-higher-in-len1-up.ensures)

pub returns-then-higher-eq0 : goal.returns-then-higher-eq0
returns-then-higher-eq0 t c =
    let ok = c.in_ok-higher-in-len1-up in
    at_more c.args.room c.args.bytes.now _ (omega arith) c.in-len1-up.len_at_least c.if-byte-lt128.false ok.ensures
    ∙ none_higher (slice_index_or c.args.bytes.now 0 0) ok.higher ok.rest.now c.if-higher-eq0.true

pub returns-then-higher : goal.returns-then-higher
returns-then-higher t c =
    let ok = c.in_ok-higher-in-len1-up in
    at_more c.args.room c.args.bytes.now _ (omega arith) c.in-len1-up.len_at_least c.if-byte-lt128.false ok.ensures
    ∙ too_large (slice_index_or c.args.bytes.now 0 0) ok.higher ok.rest.now (omega (arith, c.if-higher.true))

pub returns-else-higher : goal.returns-else-higher
returns-else-higher t c =
    let ok = c.in_ok-higher-in-len1-up in
    at_more c.args.room c.args.bytes.now _ (omega arith) c.in-len1-up.len_at_least c.if-byte-lt128.false ok.ensures
    ∙ fitting (slice_index_or c.args.bytes.now 0 0) ok.higher ok.rest.now (omega (arith, c.if-higher-eq0.false)) (omega (arith, c.if-higher.false))
