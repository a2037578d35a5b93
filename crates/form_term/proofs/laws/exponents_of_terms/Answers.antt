use Rattle.form_term.specs.TermLaws.{term_from_exponents}
use Rattle.form_term.proofs.laws.exponents_of_terms.Goals as goal

pub returns : goal.returns
returns c = term_from_exponents
