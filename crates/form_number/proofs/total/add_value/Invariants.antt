use Rattle.std.proofs.Common.{◌≡◌, ◌+◌, ◌-◌, ◌<◌, ◌≤◌, ◌^◌, length, take, drop}
use Rattle.form_number.specs.Totals.{units, units_below, AreDigits}
use Rattle.form_number.proofs.total.add_value.Given as goal

abbrev pub invariant-loop-rest : goal.invariant-loop-rest
invariant-loop-rest l = record {
  value : units_below (take l.place l.digits.items) (l.rest + units (drop l.place l.digits.items))
      ≡ units_below (take l.start l.fn.digits.items) (l.value + units (drop l.start l.fn.digits.items));
  digits : AreDigits l.digits.items;
  within : l.place ≤ length l.digits.items;
  limit : l.rest < 2 ^ 127;
}

abbrev pub decreases-loop-rest : goal.decreases-loop-rest
decreases-loop-rest l = l.rest + (length l.digits.items - l.place)
