use Rattle.std.proofs.Common.{◌≡◌, ◌++◌, length, map}
use Rattle.std.specs.List.{list_all}
use Rattle.form_expand.specs.Often.{keeps_power, raised_power}
use Rattle.form_expand.proofs.repeated.raised_powers.Given as goal

-- what was raised and what is ahead are the whole, of which all was kept that isn't ahead
abbrev pub invariant-loop-power : goal.invariant-loop-power
invariant-loop-power l = record {
  made : l.raised.items ++ map (raised_power l.factor l.count) l.ahead ≡ map (raised_power l.factor l.count) l.powers;
  kept : list_all (keeps_power l.factor l.count) l.ahead ≡ list_all (keeps_power l.factor l.count) l.powers;
}

abbrev pub decreases-loop-power : goal.decreases-loop-power
decreases-loop-power l = length l.ahead
