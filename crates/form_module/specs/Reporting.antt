-- What carrying out a module of a program answers.
use Rattle.std.specs.Prelude.{◌≡◌, ◌+◌, ℕ, List, [], slice_index_or, Result, Ok, Err}
use Rattle.form_base.specs.declared.cause.Cause.{Cause}
use Rattle.form_base.specs.declared.place.Place.TheVariants.{Run}
use Rattle.form_base.specs.declared.settings.Settings.{Settings}
use Rattle.form_names.specs.Names.{Entry}
use Rattle.form_check.specs.Program.{Module, Program}
use Rattle.form_expand.specs.declared.stored.Stored.{Stored}
use Rattle.form_print.specs.Texts.{name_of}
use Rattle.form_module.specs.Module.{module_outcome}
use Rattle.form_module.specs.declared.carry_error.CarryError.{CarryError}
use Rattle.form_module.specs.declared.carry_error.CarryError.TheVariants as carry_errors
use Rattle.form_module.specs.declared.error.ModuleError.{ModuleError}
use Rattle.form_module.specs.declared.error.ModuleError.TheVariants.{Refused, Memory}
use Rattle.form_module.specs.declared.report.Report.{Report}

-- the module at a place, counted from 0
abbrev pub module_at : Program → ℕ → Module
module_at program index = slice_index_or program.modules index (record { statements = []; actions = [] })

-- What a module made of the expressions that stood: those that stand at its end, with no division, since nothing is divided
-- yet; or its refusal, at the expression of this place. Nothing is said where memory ran out.
abbrev pub Reports : Settings → Program → ℕ → List Stored → Result Report ModuleError → Type 0
Reports settings program index standing (Ok report) =
    (module_outcome settings (module_at program index) standing ≡ Ok report.expressions.items) × (report.divisions.items ≡ [])
Reports settings program index standing (Err (Refused cause place)) =
    (expression : ℕ) × (module_outcome settings (module_at program index) standing ≡ Err (record { cause = cause; expression = expression }))
    × (place ≡ Run (index + 1) (name_of program.names expression))
Reports settings program index standing (Err Memory) = Unit {0}

-- it is refused for this cause, at an expression of the module of a number, unless memory ran out
abbrev pub IsRefusedAt : List Entry → ℕ → Cause → ℕ → ModuleError → Type 0
IsRefusedAt names number why expression (Refused cause place) = (cause ≡ why) × (place ≡ Run number (name_of names expression))
IsRefusedAt names number why expression Memory = Unit {0}

-- the place of a refusal, by the number of its module and the name of its expression
abbrev pub IsPlaced : List Entry → ℕ → CarryError → ModuleError → Type 0
IsPlaced names number (carry_errors.Refused cause expression) answer = IsRefusedAt names number cause expression answer
IsPlaced names number carry_errors.Memory answer = answer ≡ Memory
