use Rattle.std.proofs.Common.{◌≡◌, drop}
use Rattle.form_match.specs.Taken.{first_part, symbol_part}
use Rattle.form_match.proofs.taken.symbol_taken.Given as goal

abbrev pub invariant-loop-one : goal.invariant-loop-one
invariant-loop-one l = first_part (symbol_part l.symbol) l.takes ≡ first_part (symbol_part l.symbol) (drop l.one-index l.takes)
