use Rattle.std.proofs.Common.{◌≡◌, None, sym, ap, ◌∙◌, rules}
use Rattle.serde_json.specs.Read.{read}
use Rattle.sync_edits.proofs.Utf8.{no_text, of_text}
use Rattle.sync_host.proofs.object.json_of_line.Goals as goal

pub returns-in_default : goal.returns-in_default
returns-in_default c = no_text c.args.line.now c.in_default.ensures.cases.0

pub returns-in-Ok-from_str : goal.returns-in-Ok-from_str
returns-in-Ok-from_str c =
    let cases = c.in-Ok.ensures.cases in
    of_text c.args.line.now cases.1 ∙ ap read (sym cases.0) ∙ c.in-Ok-from_str.ensures.ok

pub returns-in-Err-2 : goal.returns-in-Err-2
returns-in-Err-2 c =
    let cases = c.in-Ok.ensures.cases in
    let none : read c.in-Ok.text.now ≡ None = search rules in
    of_text c.args.line.now cases.1 ∙ ap read (sym cases.0) ∙ none
