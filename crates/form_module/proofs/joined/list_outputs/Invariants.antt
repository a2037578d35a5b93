use Rattle.std.proofs.Common.{◌<◌, ◌+◌, List, length}
use Rattle.form_term.specs.declared.monomial.Monomial.{Monomial}
use Rattle.form_gathered.specs.Joined.{HaveSums}
use Rattle.form_module.proofs.Batched.{IsDoneSoFar}
use Rattle.form_module.proofs.joined.list_outputs.Given as goal

-- whatever list it is of which they have the sums, some of it is done
abbrev pub invariant-loop-left : goal.invariant-loop-left
invariant-loop-left l = (0 < l.most) × ((all : List Monomial) → HaveSums l.fn.list all → IsDoneSoFar l.statements all l.left l.table)

abbrev pub decreases-loop-left : goal.decreases-loop-left
decreases-loop-left l = length l.left + l.most
