use Rattle.std.proofs.Common.{rules, SFits, ap, ◌∙◌, ◌*ℤ◌}
use Rattle.std.specs.Int.{w32}
use Rattle.form_cond.proofs.Products.{product, product_bounded, product_fits}
use Rattle.form_cond.proofs.count.weighted_number.Goals as goal

pub overflow_mul-result : goal.overflow_mul-result
overflow_mul-result c =
    let fits : SFits w32 c.args.weighted.now.weight = search rules in
    product_fits c.args.weighted.now.weight c.from.result c.number_of.result fits c.from.ensures c.number_of.ensures.bounded

pub returns-clause-product : goal.returns-clause-product
returns-clause-product c =
    let fits : SFits w32 c.args.weighted.now.weight = search rules in
    product c.args.weighted.now.weight c.from.result c.number_of.result fits c.from.ensures c.number_of.ensures.bounded
    ∙ ap (λ n. c.args.weighted.now.weight *ℤ n) c.number_of.ensures.number

pub returns-clause-bounded : goal.returns-clause-bounded
returns-clause-bounded c =
    let fits : SFits w32 c.args.weighted.now.weight = search rules in
    product_bounded c.args.weighted.now.weight c.from.result c.number_of.result fits c.from.ensures c.number_of.ensures.bounded
