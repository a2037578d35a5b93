use Rattle.form_normal.proofs.Dots.{exponents_kept}
use Rattle.form_normal.proofs.laws.exponents_of_dot_products.Goals as goal

pub returns : goal.returns
returns c = exponents_kept
