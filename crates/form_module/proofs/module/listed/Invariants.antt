use Rattle.std.proofs.Common.{◌≡◌, ◌++◌, map}
use Rattle.form_module.specs.Kept.{as_stored}
use Rattle.form_module.proofs.module.listed.Given as goal

-- what is listed and what is left make up all
abbrev pub invariant-loop-expression : goal.invariant-loop-expression
invariant-loop-expression l = l.all.items ++ map as_stored l.expression-iterator ≡ map as_stored l.fn.after.entries
