use Rattle.form_levels.proofs.Asked.{holds_whatever}
use Rattle.form_levels.proofs.laws.coefficients_that_are_not_asked_for.Goals as goal

pub returns : goal.returns
returns c = λ rs a x y t e. holds_whatever rs x y t a e
