use Rattle.std.proofs.Common.{[], ◌∷◌, ◌∙◌, codes, string_bytes}
use Rattle.sync_top.proofs.Jobs.{is_text, three_items}
use Rattle.sync_cli.proofs.replacing.path_behind.Goals as goal

pub returns-in-len3 : goal.returns-in-len3
returns-in-len3 c =
    let words = three_items string_bytes c.args.words.now c.word-item.result c.option-item.result c.path-item.result c.as_str.result.now c.as_str-then-eq.result.now c.as_str-in-len3.result.now c.in-len3.len_at_least c.in-len3.len_below
    c.word-item.is c.option-item.is c.path-item.is c.as_str.ensures.value c.as_str-then-eq.ensures.value c.as_str-in-len3.ensures.value in
    let name = is_text c.eq.result c.as_str.result.now c.args.name.now c.eq.ensures c.if-eq.true in
    let option = is_text c.eq-then-eq.result c.as_str-then-eq.result.now (codes "--replace") c.eq-then-eq.ensures c.if-eq-2.true in
    record { some = words ∙ (λ i. name i ∷ option i ∷ c.as_str-in-len3.result.now ∷ []) }
