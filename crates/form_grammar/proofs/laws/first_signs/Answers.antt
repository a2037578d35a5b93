use Rattle.std.proofs.Common.{refl}
use Rattle.form_grammar.proofs.laws.first_signs.Goals as goal

pub returns : goal.returns
returns c = λ sign p. refl
