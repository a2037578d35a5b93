use Rattle.form_normal.proofs.Swapped.{product_swapped}
use Rattle.form_normal.proofs.laws.products_are_symmetric.Goals as goal

pub returns : goal.returns
returns c = product_swapped
