use Rattle.form_expand.specs.Left.{times_by}
use Rattle.form_expand.proofs.product.Level.begin.Goals as goal

pub returns : goal.returns
returns c = λ max.
    let whole = c.restart.ensures.whole max in
    let left = c.restart.ensures.left max in
    λ i. record { count = c.args.self.now.count; list = whole i; opened = times_by c.args.left (left i) }
