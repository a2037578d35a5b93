-- What a module prints.
use Rattle.std.specs.Prelude.{ℕ, Bool, false, List}
use Rattle.std.specs.List.{list_any}
use Rattle.form_check.specs.declared.checked.Checked.{Checked}
use Rattle.form_check.specs.declared.checked.Checked.TheVariants.{Drop, Skip, Local, Print}
use Rattle.form_check.specs.Standing.{means}

abbrev pub is_print : ℕ → Checked → Bool
is_print expression (Drop which) = false
is_print expression (Skip which) = false
is_print expression (Local id right) = false
is_print expression (Print which) = means which expression

-- a statement of the module prints the expression, where it stands at the end
abbrev pub prints : List Checked → ℕ → Bool
prints statements expression = list_any (is_print expression) statements
