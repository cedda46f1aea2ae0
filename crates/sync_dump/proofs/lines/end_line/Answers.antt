use Rattle.std.proofs.Common.{[], ◌∷◌, ◌++◌, ap, ◌∙◌, append_assoc}
use Rattle.json.specs.Print.{print}
use Rattle.serde_json.specs.Written.{compact_text}
use Rattle.serde_json.proofs.Texts.{print-outline}
use Rattle.sync_dump.proofs.lines.end_line.Goals as goal

pub returns : goal.returns
returns c = λ d is.
    let before = c.args.writer.before in
    c.in_ok-push.ensures.items
    ∙ ap (λ w. w ++ 10 ∷ []) (c.into_inner-out.ensures.items ∙ ap (λ ts. before ++ print ts) is ∙ ap (λ w. before ++ w) (print-outline d))
    ∙ append_assoc before (compact_text d) (10 ∷ [])
