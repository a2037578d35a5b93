use Rattle.std.proofs.Common.{◌≡◌, suc, length}
use Rattle.form_conditions.specs.declared.tokens.Wanted.TheVariants.{Comma}
use Rattle.form_conditions.specs.Reading.{names, separated, take_name}
use Rattle.form_conditions.specs.Tokens.{left}
use Rattle.form_conditions.proofs.value.names.Given as goal

abbrev pub invariant-loop-names : goal.invariant-loop-names
invariant-loop-names l = separated take_name Comma (suc (length (left l.tokens))) l.names.items (left l.tokens) ≡ names (left l.initial.tokens)

abbrev pub decreases-loop-names : goal.decreases-loop-names
decreases-loop-names l = length (left l.tokens)
