use Rattle.std.proofs.Common.{◌≡◌, ◌-◌, ◌≤◌, ◌∷◌, [], ◌++◌, length, map, sym, ◌∙◌, ap, subst, arith, length-append}
use Rattle.byte_lists.specs.Parts.{part}
use Rattle.byte_lists.proofs.Grown.{one_more, stay}
use Rattle.byte_lists.proofs.byte_lists.ByteLists.push.Goals as goal

pub returns-clause-ok : goal.returns-clause-ok
returns-clause-ok c =
    let a = c.self.inside in
    let old = a.bytes.items in
    let more = c.args.string.now in
    let long : length more ≤ c.len-end.result - c.len-start.result =
    omega (arith, c.len-start.ensures, a.bytes.ok.0, c.len-end.ensures, c.extend_from_slice.new.self.ok.0, ap length c.in_ok-extend_from_slice.ensures.items, length-append old more) in
    (λ i. map (part (c.in_ok-extend_from_slice.ensures.items i)) (c.in-Ok.ensures.items i))
    ∙ one_more old more a.parts.items c.len-start.result c.len-end.result c.self.invariant (omega (arith, c.len-start.ensures, a.bytes.ok.0)) long
    ∙ ap (λ l. l ++ more ∷ []) c.self.view_is

pub returns-in-Err-clause-unchanged : goal.returns-in-Err-clause-unchanged
returns-in-Err-clause-unchanged c =
    let a = c.self.inside in
    (λ i. map (part (c.in_ok-extend_from_slice.ensures.items i)) (c.in-Err.ensures.items i))
    ∙ stay a.bytes.items c.args.string.now a.parts.items c.self.invariant ∙ c.self.view_is
