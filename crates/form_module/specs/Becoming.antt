-- What becomes of each expression at the end of a module.
use Rattle.std.specs.Prelude.{◌≡◌, ◌<◌, ◌==◌, ℕ, Bool, if◌then◌else◌, List, [], ◌∷◌, Option, Some, None, is_some, option_map, Result, Ok, Err}
use Rattle.form_base.specs.declared.cause.Cause.{Cause}
use Rattle.form_base.specs.declared.settings.Settings.{Settings}
use Rattle.form_term.specs.declared.monomial.Monomial.{Monomial}
use Rattle.form_tree.specs.declared.tree.Piece.{Piece}
use Rattle.form_expand.specs.declared.stored.Stored.{Stored}
use Rattle.form_expand.specs.Meanings.{of_stored}
use Rattle.form_check.specs.declared.checked.Checked.{Checked}
use Rattle.form_check.specs.declared.checked.Checked.TheVariants.{Drop, Skip, Local, Print}
use Rattle.form_check.specs.Program.{Module}
use Rattle.form_check.specs.Standing.{drops}
use Rattle.form_flow.specs.Making.{compiled}
use Rattle.form_module.specs.Module.{Refusal, inputs_by, result_of}
use Rattle.form_module.specs.Works.{skips}

-- the terms of an expression that stands, none where it doesn't
abbrev pub found : List Stored → ℕ → Option (List Monomial)
found [] expression = None
found (s ∷ all) expression = if s.expression == expression then Some s.terms else found all expression

-- the expression stands
abbrev pub is_standing : List Stored → ℕ → Bool
is_standing all expression = is_some (found all expression)

-- the right side by which a statement defines an expression
abbrev pub defined_by : Checked → ℕ → Option (List Piece)
defined_by (Drop which) expression = None
defined_by (Skip which) expression = None
defined_by (Local id right) expression = if id == expression then Some right else None
defined_by (Print which) expression = None

abbrev pub or_else : {X : Type 0} → Option X → Option X → Option X
or_else (Some x) y = Some x
or_else None y = y

-- that by which a module does: the last one, where there are several
abbrev pub definition : List Checked → ℕ → Option (List Piece)
definition [] expression = None
definition (s ∷ ss) expression = or_else (definition ss expression) (defined_by s expression)

-- the result of an expression, by the right side that defines it, or by its own terms
abbrev pub result_by : Settings → Module → List Stored → ℕ → Option (List Piece) → Result (List Monomial) Cause
result_by settings m standing expression right =
    result_of settings.max_terms (compiled settings.max_expand settings.max_repeat m.actions) (inputs_by settings.max_expand (of_stored standing) expression right)

-- by its definition, by its terms, and whether it is dropped or skipped
abbrev pub becomes_by : Settings → Module → List Stored → ℕ → Option (List Piece) → Option (List Monomial) → (is_dropped is_skipped : Bool) → Option (Result (List Monomial) Cause)
becomes_by settings m standing expression (Some right) old is_dropped is_skipped = Some (result_by settings m standing expression (Some right))
becomes_by settings m standing expression None None is_dropped is_skipped = None
becomes_by settings m standing expression None (Some terms) is_dropped is_skipped =
    if is_dropped then None else (if is_skipped then Some (Ok terms) else Some (result_by settings m standing expression None))

-- What becomes of an expression: the result of its definition, where the module has one; nothing, where it doesn't stand or is
-- dropped; its own terms, where it is skipped; else the result of its terms.
abbrev pub becomes : Settings → Module → List Stored → ℕ → Option (Result (List Monomial) Cause)
becomes settings m standing expression =
    becomes_by settings m standing expression (definition m.statements expression) (found standing expression) (drops m.statements expression) (skips m.statements expression)

abbrev pub IsNotRefused : Option (Result (List Monomial) Cause) → Type 0
IsNotRefused becomes = (cause : Cause) → becomes ≡ Some (Err cause) → ⊥

-- At the end stands what becomes of each expression; or the module is refused at the lowest Id whose expression is.
abbrev pub IsOutcomeOfEach : Settings → Module → List Stored → Result (List Stored) Refusal → Type 0
IsOutcomeOfEach settings m standing (Ok after) = (expression : ℕ) → becomes settings m standing expression ≡ option_map Ok (found after expression)
IsOutcomeOfEach settings m standing (Err refusal) =
    (becomes settings m standing refusal.expression ≡ Some (Err refusal.cause))
    × ((expression : ℕ) → expression < refusal.expression → IsNotRefused (becomes settings m standing expression))
