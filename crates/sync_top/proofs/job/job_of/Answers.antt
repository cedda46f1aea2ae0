use Rattle.std.proofs.Common.{Global, arith, codes, map, string_bytes}
use Rattle.std.proofs.lemmas.List.{length-map}
use Rattle.sync_top.proofs.Jobs.{one_item, two_items, three_items, is_text, one_word, two_words, three_words, none_long}
use Rattle.sync_top.proofs.job.job_of.Goals as goal

pub returns-in-len1 : goal.returns-in-len1
returns-in-len1 c =
    let words = one_item string_bytes c.args.words.now c.word-item.result c.as_str.result.now c.in-len1.len_at_least c.in-len1.len_below c.word-item.is c.as_str.ensures.value in
    one_word (map string_bytes c.args.words.now) c.as_str.result.now words (is_text c.eq.result c.as_str.result.now (codes "replay") c.eq.ensures c.if-eq.true)

pub returns-in-len2 : goal.returns-in-len2
returns-in-len2 c =
    let words = two_items string_bytes c.args.words.now c.word-item-then-words-lt3.result c.as_str-in-len2.result.now c.in-len2.len_at_least c.in-len2.len_below c.word-item-then-words-lt3.is c.as_str-in-len2.ensures.value in
    two_words (map string_bytes c.args.words.now) c.as_str-in-len2.result.now words.0 c.file_job_of.result words.1 c.file_job_of.ensures

pub returns-in-len3 : goal.returns-in-len3
returns-in-len3 c =
    let word = c.as_str-in-len3 in
    let second = c.as_str-in-len3-2 in
    let third = c.as_str-in-len3-3 in
    let words = three_items string_bytes c.args.words.now c.word-item-then-words-lt4.result c.second-item.result c.third-item.result word.result.now second.result.now third.result.now c.in-len3.len_at_least c.in-len3.len_below
    c.word-item-then-words-lt4.is c.second-item.is c.third-item.is word.ensures.value second.ensures.value third.ensures.value in
    three_words (map string_bytes c.args.words.now) word.result.now second.result.now third.result.now c.numbered_job_of.result words c.numbered_job_of.ensures

pub returns-in_default-3 : goal.returns-in_default-3
returns-in_default-3 c = none_long (map string_bytes c.args.words.now) (omega (arith, c.in_default.len_at_least, length-map c.args.words.now (string_bytes {Z = Global})))
