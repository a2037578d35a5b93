-- Which expressions stand, as the statements before say it.
use Rattle.std.specs.Prelude.{ℕ, Bool, true, false, ◌==◌, ◌&&◌, ◌||◌, not, List, fold}
use Rattle.std.specs.List.{list_any}
use Rattle.form_check.specs.declared.checked.Checked.{Checked}
use Rattle.form_check.specs.declared.checked.Checked.TheVariants.{Drop, Local}
use Rattle.form_check.specs.declared.checked.Selection.{Selection}
use Rattle.form_check.specs.declared.checked.Selection.TheVariants.{All, Named}
use Rattle.form_check.specs.Program.{Module}

-- a statement that means all expressions means all that stand
abbrev pub means : Selection → ℕ → Bool
means All expression = true
means (Named ids) expression = list_any (λ id. id == expression) ids

abbrev pub is_definition : ℕ → Checked → Bool
is_definition expression (Local id tree) = id == expression
is_definition expression s = false

abbrev pub is_drop : ℕ → Checked → Bool
is_drop expression (Drop which) = means which expression
is_drop expression s = false

-- a module, as its statements, defines the expression
abbrev pub defines : List Checked → ℕ → Bool
defines statements expression = list_any (is_definition expression) statements

abbrev pub drops : List Checked → ℕ → Bool
drops statements expression = list_any (is_drop expression) statements

-- After a module stands what it defines, and what stood before and isn't dropped there.
abbrev pub stands_after : ℕ → Bool → Module → Bool
stands_after expression before m =
    defines m.statements expression || (before && not (drops m.statements expression))

-- an expression stands after these modules
abbrev pub stands : List Module → ℕ → Bool
stands modules expression = fold (stands_after expression) false modules
