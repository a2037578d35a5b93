-- Each part of the product from those of both factors.
use Rattle.std.proofs.Common.{Bool, not, List, ap, ◌∙◌}
use Rattle.std.specs.Bool.{beq}
use Rattle.std.specs.List.{filter}
use Rattle.form_term.specs.declared.index.Delta.{Delta}
use Rattle.form_term.specs.Term.{Call, component_order, delta_order, call_order}
use Rattle.form_normal.specs.Lists.{in_order, dots_product}
use Rattle.form_normal.specs.Product.{is_one, others_product}
use Rattle.form_normal.proofs.Parts.{parity, joined_as}
use Rattle.form_normal.proofs.products.product_of_all_others.Goals as goal

pub returns : goal.returns
unfolding others_product
returns c =
    let l = c.args.left.now.others in
    let r = c.args.right.now.others in
    let imaginary = ap (λ (b : Bool). not (beq b c.is_imaginary-2.result)) c.is_imaginary.ensures ∙ ap (λ (b : Bool). not (beq l.is_imaginary b)) c.is_imaginary-2.ensures ∙ parity l.is_imaginary r.is_imaginary in
    let dots = joined_as dots_product c.in_ok-merged_dots.field-0.items c.dots.result.now c.dots-2.result.now l.dots r.dots c.in_ok-merged_dots.ensures c.dots.ensures c.dots-2.ensures in
    let components = joined_as (in_order component_order) c.in_ok-in_order.field-0.items c.components.result.now c.components-2.result.now l.components r.components c.in_ok-in_order.ensures c.components.ensures c.components-2.ensures in
    let deltas = joined_as (λ ds. filter (λ (d : Delta). not (is_one d)) (in_order delta_order ds)) c.in_ok-open_deltas.field-0.items c.deltas.result.now c.deltas-2.result.now l.deltas r.deltas c.in_ok-open_deltas.ensures c.deltas.ensures c.deltas-2.ensures in
    let functions = joined_as (in_order call_order) c.in_ok-in_order-2.field-0.items c.functions.result.now c.functions-2.result.now l.functions r.functions c.in_ok-in_order-2.ensures c.functions.ensures c.functions-2.ensures in
    let word = joined_as (λ (cs : List Call). cs) c.in_ok-both.field-0.items c.word.result.now c.word-2.result.now l.word r.word c.in_ok-both.ensures c.word.ensures c.word-2.ensures in
    λ i. record { is_imaginary = imaginary i; dots = dots i; components = components i; deltas = deltas i; functions = functions i; word = word i }
