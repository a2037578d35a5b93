use Rattle.std.proofs.Common.{◌≡◌, drop}
use Rattle.std.specs.List.{list_all}
use Rattle.form_collect.specs.Keys.{is_near}
use Rattle.form_collect.proofs.sorting.are_near.Given as goal

abbrev pub invariant-loop-power : goal.invariant-loop-power
invariant-loop-power l = list_all (is_near l.end) (drop l.power-index l.powers) ≡ list_all (is_near l.end) l.powers
