use Rattle.std.proofs.Common.{◌≡◌, length}
use Rattle.form_expand.specs.Listing.{followed}
use Rattle.form_expand.specs.Walks.{all_of}
use Rattle.form_expand.proofs.expansion.drained.Given as goal

-- the terms so far, and what is left of the list
abbrev pub invariant-turns : goal.invariant-turns
invariant-turns l = followed (all_of l.terms.items) l.list ≡ l.fn.list

-- no list is endless
abbrev pub decreases-turns : goal.decreases-turns
decreases-turns l = length l.list.terms
