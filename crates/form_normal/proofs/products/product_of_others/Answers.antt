use Rattle.std.proofs.Common.{◌∙◌, ◌++◌, List, ap}
use Rattle.form_term.specs.Term.{Call, call_order}
use Rattle.form_normal.specs.Lists.{in_order}
use Rattle.form_normal.proofs.Others.{functions_together}
use Rattle.form_normal.proofs.products.product_of_others.Goals as goal

pub returns-then-is_plain-2 : goal.returns-then-is_plain-2
returns-then-is_plain-2 c =
    let l = c.args.left.now in
    let r = c.args.right.now in
    let left = rw c.if-is_plain.true at c.is_plain.ensures.is in
    let right = rw c.if-is_plain-2.true at c.is_plain-then-is_plain.ensures.is in
    let made = c.in_ok-functions.ensures ∙ ap (λ (fs : List Call). in_order call_order (fs ++ c.functions-then-is_plain-2.result.now)) c.functions.ensures ∙ ap (λ (fs : List Call). in_order call_order (l.others.functions ++ fs)) c.functions-then-is_plain-2.ensures in
    c.functions_alone.ensures ∙ functions_together l r c.in_ok-functions.functions.items left right made
