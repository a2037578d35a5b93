use Rattle.form_normal.proofs.Lasting.{one_alone}
use Rattle.form_normal.proofs.laws.products_of_one.Goals as goal

pub returns : goal.returns
returns c = one_alone
