use Rattle.std.proofs.Common.{◌≡◌, Some, None, slice_get, sym, ap, ◌∙◌, subst, IfOk}
use Rattle.std.specs.Option.{option_map}
use Rattle.server_memory.proofs.Trimmed.{trimmed_alone, trimmed_first, trimmed_plain, trimmed_second}
use Rattle.server_memory.proofs.opening.is_trimmed.Goals as goal

pub returns-then-branch : goal.returns-then-branch
returns-then-branch c =
    let at : slice_get c.args.files.now 0 ≡ Some c.in-Some.first.now = sym c.get.ensures ∙ ap (option_map (λ s. s.now)) c.in-Some.is in
    sym (trimmed_first c.in-Some.first.now c.args.files.now at (sym c.in_ok-begins.ensures ∙ c.if-branch.true))

pub returns-in_default-get : goal.returns-in_default-get
returns-in_default-get c =
    let at : slice_get c.args.files.now 0 ≡ Some c.in-Some.first.now = sym c.get.ensures ∙ ap (option_map (λ s. s.now)) c.in-Some.is in
    let none : slice_get c.args.files.now 1 ≡ None = sym c.get-2.ensures ∙ ap (option_map (λ s. s.now)) c.in_default-get.is in
    sym (trimmed_alone c.in-Some.first.now c.args.files.now at (sym c.in_ok-begins.ensures ∙ c.if-branch.false) none)

pub returns-then-branch-2 : goal.returns-then-branch-2
returns-then-branch-2 c =
    let at : slice_get c.args.files.now 0 ≡ Some c.in-Some.first.now = sym c.get.ensures ∙ ap (option_map (λ s. s.now)) c.in-Some.is in
    let two : slice_get c.args.files.now 1 ≡ Some c.in-Some-get.second.now = sym c.get-2.ensures ∙ ap (option_map (λ s. s.now)) c.in-Some-get.is in
    subst (λ t. IfOk c.begins-then-branch-2.result (λ answer. answer ≡ t))
    (sym (trimmed_second c.in-Some.first.now c.args.files.now c.in-Some-get.second.now at (sym c.in_ok-begins.ensures ∙ c.if-branch.false) (sym c.in_ok-starts_second.ensures ∙ c.if-branch-2.true) two))
    c.begins-then-branch-2.ensures

pub returns : goal.returns
returns c =
    let at : slice_get c.args.files.now 0 ≡ Some c.in-Some.first.now = sym c.get.ensures ∙ ap (option_map (λ s. s.now)) c.in-Some.is in
    sym (trimmed_plain c.in-Some.first.now c.args.files.now at (sym c.in_ok-begins.ensures ∙ c.if-branch.false) (sym c.in_ok-starts_second.ensures ∙ c.if-branch-2.false))
