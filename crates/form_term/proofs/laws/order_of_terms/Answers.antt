use Rattle.std.proofs.lemmas.Map.Lookups.{exact_signed}
use Rattle.form_term.specs.Term.{exponent_of}
use Rattle.form_term.specs.TermLaws.{order_total, equal_terms, imaginary_decides, symbols_decide}
use Rattle.form_term.proofs.DotExponents.{dots_decide}
use Rattle.form_term.proofs.laws.order_of_terms.Goals as goal

pub returns-clause-total : goal.returns-clause-total
returns-clause-total c = order_total

pub returns-clause-equal : goal.returns-clause-equal
returns-clause-equal c = equal_terms

pub returns-clause-imaginary : goal.returns-clause-imaginary
returns-clause-imaginary c = imaginary_decides

pub returns-clause-first : goal.returns-clause-first
returns-clause-first c = λ t u first imaginary agree differ. symbols_decide t u first imaginary agree (λ e. differ (exact_signed (exponent_of t first) (exponent_of u first) e))

pub returns-clause-dots : goal.returns-clause-dots
returns-clause-dots c = dots_decide
