use Rattle.std.proofs.Common.{◌≡◌, ℕ, ◌==◌, ◌||◌, take}
use Rattle.std.specs.List.{list_any}
use Rattle.form_module.specs.Sets.{has}
use Rattle.form_module.proofs.expression_set.ExpressionSet.add_selected.Given as goal

-- these are there so far
abbrev pub invariant-loop-id : goal.invariant-loop-id
invariant-loop-id l = (e : ℕ) → has l.self e ≡ (has l.fn.self e || list_any (λ id. id == e) (take l.id-index l.id-items))
