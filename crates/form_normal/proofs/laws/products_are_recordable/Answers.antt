use Rattle.form_normal.proofs.Recordable.{factor_from, product_is_recordable}
use Rattle.form_normal.proofs.laws.products_are_recordable.Goals as goal

pub returns-clause-factors : goal.returns-clause-factors
returns-clause-factors c = factor_from

pub returns-clause-products : goal.returns-clause-products
returns-clause-products c = product_is_recordable
