use Rattle.std.proofs.Common.{◌≡◌, ℕ, take}
use Rattle.std.specs.List.{list_any}
use Rattle.form_module.specs.Sets.{has, is_held}
use Rattle.form_module.proofs.expression_set.held.Given as goal

abbrev pub invariant-loop-statement : goal.invariant-loop-statement
invariant-loop-statement l = (e : ℕ) → has l.set e ≡ list_any (is_held e) (take l.statement-index l.statements)
