use Rattle.std.proofs.Common.{ap, ◌∙◌}
use Rattle.form_term.specs.Term.{Term}
use Rattle.form_normal.specs.Product.{product_of}
use Rattle.form_normal.proofs.factors.product_onto.Goals as goal

-- the factor is the function that was found
pub returns-then-has_room-clause-refused : goal.returns-then-has_room-clause-refused
returns-then-has_room-clause-refused c = λ cause e.
    ap (λ (t : Term). product_of c.args.front (record { coefficient = c.args.factor.now.coefficient; term = t })) c.in-Some.ensures.is ∙ c.function_onto.ensures.refused cause e
