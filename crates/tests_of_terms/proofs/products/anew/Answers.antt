use Rattle.std.specs.List.Sorted.{IsStrictlySortedBy}
use Rattle.tests_of_terms.proofs.products.anew.Goals as goal

pub made_anew-requires-clause-dots : goal.made_anew-requires-clause-dots
unfolding IsStrictlySortedBy
made_anew-requires-clause-dots c = rw c.new.ensures.items tt
