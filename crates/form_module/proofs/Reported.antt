-- What is reported of the module at a place.
use Rattle.std.proofs.Common.{◌≡◌, ◌+◌, ◌<◌, ℕ, List, [], length, get_or, Result, Err, refl, sym, subst, ◌∙◌}
use Rattle.std.proofs.lemmas.List.{get_or_default}
use Rattle.form_base.specs.declared.cause.Cause.{Cause}
use Rattle.form_base.specs.declared.settings.Settings.{Settings}
use Rattle.form_check.specs.Program.{Module, Program}
use Rattle.form_expand.specs.declared.stored.Stored.{Stored}
use Rattle.form_module.specs.Module.{Refusal, module_outcome}
use Rattle.form_module.specs.Reporting.{IsPlaced, Reports, module_at}
use Rattle.form_module.specs.declared.carry_error.CarryError.{CarryError}
use Rattle.form_module.specs.declared.carry_error.CarryError.TheVariants as carry_errors
use Rattle.form_module.specs.declared.error.ModuleError.{ModuleError}
use Rattle.form_module.specs.declared.error.ModuleError.TheVariants as errors

-- the module that stands there
pub is_at : (p : Program) (index : ℕ) (m : Module) → index < length p.modules → m ≡ get_or p.modules index m → m ≡ module_at p index
is_at p index m below is = is ∙ get_or_default p.modules index m (record { statements = []; actions = [] }) below

module _ (settings : Settings) (p : Program) (index : ℕ) (standing : List Stored) where
  -- what it comes to
  abbrev Outcome : Result (List Stored) Refusal → Type 0
  Outcome r = module_outcome settings (module_at p index) standing ≡ r

  -- why it is refused, at its place
  pub refused : (error : CarryError) (answer : ModuleError) → ((cause : Cause) (expression : ℕ) → error ≡ carry_errors.Refused cause expression → Outcome (Err (record { cause = cause; expression = expression }))) →
      IsPlaced p.names (index + 1) error answer → Reports settings p index standing (Err answer)
  refused (carry_errors.Refused cause expression) (errors.Refused why place) told at =
      (expression, subst (λ (c : Cause). Outcome (Err (record { cause = c; expression = expression }))) (sym at.0) (told cause expression refl), at.1)
  refused (carry_errors.Refused cause expression) errors.Memory told at = tt
  refused carry_errors.Memory (errors.Refused why place) told at = absurd (cc)
  refused carry_errors.Memory errors.Memory told at = tt
