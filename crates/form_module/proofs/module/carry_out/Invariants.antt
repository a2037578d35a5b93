use Rattle.form_module.proofs.Carried.{IsCarriedTo}
use Rattle.form_module.proofs.module.carry_out.Given as goal

abbrev pub invariant-loop-expression : goal.invariant-loop-expression
invariant-loop-expression l = IsCarriedTo l.settings l.statements l.compiled l.standing l.fn.works.entries l.results.items l.expression-iterator
