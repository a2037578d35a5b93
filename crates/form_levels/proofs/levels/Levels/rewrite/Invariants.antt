use Rattle.form_flow.specs.declared.compiled.ReadyLeaf.TheVariants.{Rewrite}
use Rattle.form_flow.specs.Statements.{leaf}
use Rattle.form_levels.specs.Becoming.{AreFor}
use Rattle.form_levels.specs.Heaps.{limits_of}
use Rattle.form_levels.proofs.Carrying.{SoFar}
use Rattle.form_levels.proofs.levels.Levels.rewrite.Given as goal

abbrev pub invariant-loop-term : goal.invariant-loop-term
invariant-loop-term l = record {
  so_far : SoFar (leaf (limits_of l.self) (Rewrite l.group)) l.fn.terms.items l.term-iterator.rest.items l.idle.items l.fn.acted l.acted;
  kept : AreFor l.limit l.group l.powers;
}
