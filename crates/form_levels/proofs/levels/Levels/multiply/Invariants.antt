use Rattle.std.proofs.Common.{[]}
use Rattle.form_flow.specs.declared.compiled.ReadyLeaf.TheVariants.{Multiply}
use Rattle.form_flow.specs.Statements.{leaf}
use Rattle.form_levels.specs.Heaps.{limits_of}
use Rattle.form_levels.proofs.Carrying.{SoFar}
use Rattle.form_levels.proofs.levels.Levels.multiply.Given as goal

abbrev pub invariant-loop-term : goal.invariant-loop-term
invariant-loop-term l = SoFar (leaf (limits_of l.self) (Multiply l.side l.right)) l.fn.terms.items l.term-iterator.rest.items [] l.fn.acted l.acted
