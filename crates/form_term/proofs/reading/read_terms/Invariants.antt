-- The terms that were read and those of what is left are the whole.
use Rattle.std.proofs.Common.{◌≡◌, ◌++◌, map, length}
use Rattle.std.specs.Prelude.{All}
use Rattle.form_term.specs.Arguments.{parts_of, summands_from}
use Rattle.form_term.specs.Monomial.{as_monomial}
use Rattle.form_term.specs.Reading.{IsLawfulPart}
use Rattle.form_term.specs.Term.{one}
use Rattle.form_term.proofs.reading.read_terms.Given as goal

abbrev pub invariant-loop-rest : goal.invariant-loop-rest
invariant-loop-rest l = (l.list.items ++ map as_monomial (summands_from l.factors (parts_of l.rest)) ≡ map as_monomial (summands_from one (parts_of l.fn.pieces))) × All IsLawfulPart (parts_of l.rest)

abbrev pub decreases-loop-rest : goal.decreases-loop-rest
decreases-loop-rest l = length l.rest
