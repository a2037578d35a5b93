use Rattle.std.proofs.Common.{◌≡◌, ◌++◌, length, map}
use Rattle.std.specs.List.{list_all}
use Rattle.form_expand.specs.Often.{keeps_dot, raised_dot}
use Rattle.form_expand.proofs.repeated.raised_dots.Given as goal

-- what was raised and what is ahead are the whole, of which all was kept that isn't ahead
abbrev pub invariant-loop-dot : goal.invariant-loop-dot
invariant-loop-dot l = record {
  made : l.raised.items ++ map (raised_dot l.factor l.count) l.ahead ≡ map (raised_dot l.factor l.count) l.dots;
  kept : list_all (keeps_dot l.factor l.count) l.ahead ≡ list_all (keeps_dot l.factor l.count) l.dots;
}

abbrev pub decreases-loop-dot : goal.decreases-loop-dot
decreases-loop-dot l = length l.ahead
