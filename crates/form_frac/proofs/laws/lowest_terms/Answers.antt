use Rattle.form_frac.proofs.Values.{value_of_reduced, reduced_coprime}
use Rattle.form_frac.proofs.laws.lowest_terms.Goals as goal

pub returns : goal.returns
returns c = record { value = λ n d some. value_of_reduced n d; coprime = reduced_coprime }
