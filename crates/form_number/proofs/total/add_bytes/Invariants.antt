use Rattle.std.proofs.Common.{◌≡◌, ◌+◌, ◌-◌, ◌<◌, ◌≤◌, length, take, drop}
use Rattle.form_number.specs.Numbers.{value_of}
use Rattle.form_number.specs.Totals.{units, units_below, AreDigits}
use Rattle.form_number.proofs.total.add_bytes.Given as goal

abbrev pub invariant-loop-place : goal.invariant-loop-place
invariant-loop-place l = record {
  value : units_below (take l.place l.digits.items) (l.carry + value_of (take (length l.bytes - l.place) l.bytes) + units (drop l.place l.digits.items))
      ≡ units l.fn.digits.items + value_of l.bytes;
  digits : AreDigits l.digits.items;
  within : l.place ≤ length l.digits.items;
  carry : l.carry < 64;
}
