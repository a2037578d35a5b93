use Rattle.std.proofs.Common.{[], ◌∷◌, ap, sym, ◌∙◌}
use Rattle.form_frac.specs.Fraction.{Fraction}
use Rattle.form_term.specs.Term.{one}
use Rattle.form_term.specs.declared.monomial.Monomial.{Monomial}
use Rattle.form_term.proofs.Numbers.{number_lowest, number_shape, number_terms}
use Rattle.form_term.proofs.reading.number_in.Goals as goal

abbrev alone : Fraction → Monomial
alone f = record { coefficient = f; term = one }

pub number-requires : goal.number-requires
number-requires c =
    let shape = number_shape c.args.pieces.now c.in-Some.coefficient (sym c.coefficient_in.ensures ∙ c.in-Some.is) in
    number_lowest c.args.pieces.now c.in-Some.coefficient shape c.requires

pub returns-in-Some-clause-terms : goal.returns-in-Some-clause-terms
returns-in-Some-clause-terms c =
    let shape = number_shape c.args.pieces.now c.in-Some.coefficient (sym c.coefficient_in.ensures ∙ c.in-Some.is) in
    number_terms c.args.pieces.now c.in-Some.coefficient shape ∙ ap (λ (f : Fraction). alone f ∷ []) (sym c.number.ensures)
