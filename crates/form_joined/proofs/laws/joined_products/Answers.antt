use Rattle.form_joined.proofs.Begun.{begins, goes_together}
use Rattle.form_joined.proofs.Lengths.{joined_within, length_of_row}
use Rattle.form_joined.proofs.Lists.{pairs_joined, left_joined, lists_beside, list_turned, products_joined, powers_joined, rows_joined}
use Rattle.form_joined.proofs.Weighed.{WeightLaws}
use Rattle.form_joined.proofs.laws.joined_products.Goals as goal

abbrev laws_of : goal.After-weights → WeightLaws
laws_of c = record { moved = c.weights.ensures.moved; paired = c.weights.ensures.paired; each = c.weights.ensures.each; negated = c.weights.ensures.negated }

pub returns-clause-pairs : goal.returns-clause-pairs
returns-clause-pairs c = pairs_joined (laws_of c)

pub returns-clause-left : goal.returns-clause-left
returns-clause-left c = left_joined (laws_of c)

pub returns-clause-within : goal.returns-clause-within
returns-clause-within c = joined_within

pub returns-clause-sums : goal.returns-clause-sums
returns-clause-sums c = lists_beside

pub returns-clause-signs : goal.returns-clause-signs
returns-clause-signs c = list_turned (laws_of c)

pub returns-clause-powers : goal.returns-clause-powers
returns-clause-powers c = powers_joined (laws_of c)

pub returns-clause-rows : goal.returns-clause-rows
returns-clause-rows c = rows_joined (laws_of c)

pub returns-clause-lengths : goal.returns-clause-lengths
returns-clause-lengths c = λ max most go l short m. length_of_row max most (go m) l (short m)

pub returns-clause-products : goal.returns-clause-products
returns-clause-products c = products_joined (laws_of c)

pub returns-clause-begun : goal.returns-clause-begun
returns-clause-begun c = begins

pub returns-clause-together : goal.returns-clause-together
returns-clause-together c = goes_together
