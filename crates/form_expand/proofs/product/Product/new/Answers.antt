use Rattle.std.proofs.Common.{◌≡◌, refl, sym, ◌∙◌}
use Rattle.std.proofs.lemmas.Result.{IfOk-weaker}
use Rattle.form_expand.specs.Factors.{factor_lists}
use Rattle.form_expand.specs.Left.{row}
use Rattle.form_expand.specs.Products.{product_left}
use Rattle.form_expand.proofs.Factored.{same_alone}
use Rattle.form_expand.proofs.product.Product.new.Goals as goal

pub returns-then-limit-eq0 : goal.returns-then-limit-eq0
returns-then-limit-eq0 c =
    let max = c.args.limit in
    IfOk-weaker c.behind.result _ (λ product. product_left max product ≡ row max (factor_lists max c.args.factors))
    (λ product made. made max (λ none. refl) ∙ sym (same_alone max _ _ (c.in_ok-with_front.ensures max)))
    c.behind.ensures
