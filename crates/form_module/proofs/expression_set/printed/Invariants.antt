use Rattle.std.proofs.Common.{◌≡◌, ℕ, take}
use Rattle.std.specs.List.{list_any}
use Rattle.form_module.specs.Printed.{is_print}
use Rattle.form_module.specs.Sets.{has}
use Rattle.form_module.proofs.expression_set.printed.Given as goal

abbrev pub invariant-loop-statement : goal.invariant-loop-statement
invariant-loop-statement l = (e : ℕ) → has l.set e ≡ list_any (is_print e) (take l.statement-index l.statement-items)
