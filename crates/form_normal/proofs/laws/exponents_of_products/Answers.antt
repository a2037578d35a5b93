use Rattle.form_normal.proofs.Powers.{exponent_of_product, product_from}
use Rattle.form_normal.proofs.laws.exponents_of_products.Goals as goal

pub returns-clause-added : goal.returns-clause-added
returns-clause-added c = exponent_of_product

pub returns-clause-unique : goal.returns-clause-unique
returns-clause-unique c = λ t ts lawful same. product_from t.symbols ts lawful.rising lawful.present same
