use Rattle.form_reach.proofs.Within.{product_within}
use Rattle.form_reach.proofs.laws.products_within.Goals as goal

pub returns : goal.returns
returns c = product_within
