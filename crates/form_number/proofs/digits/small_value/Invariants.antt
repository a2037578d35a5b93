use Rattle.std.proofs.Common.{◌≡◌, take}
use Rattle.form_number.specs.Numbers.{value_of}
use Rattle.form_number.proofs.digits.small_value.Given as goal

abbrev pub invariant-loop-digit : goal.invariant-loop-digit
invariant-loop-digit l = l.value ≡ value_of (take l.digit-index l.digits)
