use Rattle.form_normal.proofs.Units.{imaginary_squared}
use Rattle.form_normal.proofs.laws.products_of_imaginary_units.Goals as goal

pub returns : goal.returns
returns c = imaginary_squared
