use Rattle.std.proofs.Common.{◌≡◌, take}
use Rattle.form_number.specs.Numbers.{capped_value, value_of}
use Rattle.form_number.proofs.digits.large_value.Given as goal

abbrev pub invariant-loop-digit : goal.invariant-loop-digit
invariant-loop-digit l = l.value ≡ capped_value (value_of (take l.digit-index l.digits))
