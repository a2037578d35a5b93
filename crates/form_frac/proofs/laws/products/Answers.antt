use Rattle.form_frac.proofs.Reduced.{product_product, product_swap, product_negated, product_one}
use Rattle.form_frac.proofs.Within.{multiply_made}
use Rattle.form_frac.proofs.laws.products.Goals as goal

pub returns-clause-associative : goal.returns-clause-associative
returns-clause-associative c = product_product

pub returns-clause-commutative : goal.returns-clause-commutative
returns-clause-commutative c = product_swap

pub returns-clause-negated : goal.returns-clause-negated
returns-clause-negated c = product_negated

pub returns-clause-one : goal.returns-clause-one
returns-clause-one c = product_one

pub returns-clause-made : goal.returns-clause-made
returns-clause-made c = multiply_made
