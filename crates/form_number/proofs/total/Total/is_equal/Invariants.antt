use Rattle.std.proofs.Common.{◌≡◌, ◌==◌, drop}
use Rattle.form_number.specs.Totals.{units}
use Rattle.form_number.proofs.total.Total.is_equal.Given as goal

abbrev pub invariant-loop-place : goal.invariant-loop-place
invariant-loop-place l = (units l.self-inside.digits.items == units l.other-inside.digits.items)
    ≡ (units (drop l.place l.self-inside.digits.items) == units (drop l.place l.other-inside.digits.items))
