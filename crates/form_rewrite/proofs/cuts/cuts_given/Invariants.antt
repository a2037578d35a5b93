use Rattle.std.proofs.Common.{◌≡◌, ◌++◌, drop}
use Rattle.form_rewrite.proofs.Cutting.{given_from}
use Rattle.form_rewrite.proofs.cuts.cuts_given.Given as goal

abbrev pub invariant-loop-number : goal.invariant-loop-number
invariant-loop-number l = l.cuts.items ++ given_from l.number (drop l.number l.places) ≡ given_from 0 l.places
