-- What was put and what is left are the whole, and what was put is lawful.
use Rattle.std.proofs.Common.{◌≡◌, ◌++◌, drop, take}
use Rattle.std.specs.Prelude.{flat_map, All}
use Rattle.form_term.specs.Term.{pieces_of_summand}
use Rattle.form_term.specs.Monomial.{summands_of}
use Rattle.form_term.proofs.Nesting.{IsSummandLawful}
use Rattle.form_term.proofs.arguments.put_expression.Given as goal

abbrev pub invariant-loop-item : goal.invariant-loop-item
invariant-loop-item l = (l.pieces.items ++ flat_map pieces_of_summand (summands_of (drop l.item-index l.list)) ≡ l.initial.pieces.items ++ flat_map pieces_of_summand (summands_of l.list)) × All IsSummandLawful (take l.item-index l.list)
