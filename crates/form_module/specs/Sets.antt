-- Sets of expressions.
use Rattle.std.specs.Prelude.{ℕ, Bool, ◌||◌, nat_eq}
use Rattle.std.specs.HashSet.{contains}
use Rattle.form_check.specs.declared.checked.Checked.{Checked}
use Rattle.form_check.specs.Standing.{is_drop, is_definition}
use Rattle.form_module.specs.Works.{is_skip}
use Rattle.form_module.specs.declared.expression_set.ExpressionSet.{ExpressionSet}

-- the expression is in the set
abbrev pub has : ExpressionSet → ℕ → Bool
has set expression = set.has_all || contains nat_eq set.ids expression

-- the statement drops or defines the expression
abbrev pub is_change : ℕ → Checked → Bool
is_change expression statement = is_drop expression statement || is_definition expression statement

-- the statement keeps the expression from going through the others: it drops, defines or skips it
abbrev pub is_held : ℕ → Checked → Bool
is_held expression statement = is_change expression statement || is_skip expression statement
