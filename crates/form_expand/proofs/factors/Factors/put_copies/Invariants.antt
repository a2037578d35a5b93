use Rattle.std.proofs.Common.{ℕ, ◌++◌, replicate}
use Rattle.form_expand.specs.Factors.{IsSameRow, factor_lists}
use Rattle.form_expand.specs.Listing.{limited}
use Rattle.form_expand.specs.Walks.{all_of}
use Rattle.form_expand.proofs.factors.Factors.put_copies.Given as goal

abbrev pub invariant-loop-made : goal.invariant-loop-made
invariant-loop-made l = (max : ℕ) → IsSameRow max (factor_lists max l.initial.self ++ replicate l._made (limited max (all_of l.terms))) (factor_lists max l.self)
