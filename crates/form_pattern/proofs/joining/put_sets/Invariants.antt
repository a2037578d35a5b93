use Rattle.std.proofs.Common.{◌≡◌, ◌++◌, take}
use Rattle.form_pattern.proofs.joining.put_sets.Given as goal

-- these are there so far
abbrev pub invariant-loop-elements : goal.invariant-loop-elements
invariant-loop-elements l = l.out.items ≡ l.fn.out.items ++ take l.elements-index l.elements-items
