use Rattle.std.proofs.Common.{sym, ◌∙◌}
use Rattle.form_preproc.proofs.Calculations.{unopened_kept, kept_inside}
use Rattle.form_preproc.proofs.braces.calculation_in.Goals as goal

pub returns-then-is_calculation : goal.returns-then-is_calculation
returns-then-is_calculation c = (c.in-Some.ensures.0, sym c.is_calculation.ensures ∙ c.if-is_calculation.true)

pub returns-else-is_calculation : goal.returns-else-is_calculation
returns-else-is_calculation c =
    kept_inside c.args.before.now c.in-Some.outside.now c.in-Some.inside.now c.in-Some.ensures.0 c.requires c.in-Some.ensures.1 (sym c.is_calculation.ensures ∙ c.if-is_calculation.false)

pub returns-in-None : goal.returns-in-None
returns-in-None c = λ rest. unopened_kept c.args.before.now rest c.in-None.ensures c.requires
