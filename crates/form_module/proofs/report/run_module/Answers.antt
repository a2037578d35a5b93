use Rattle.std.proofs.Common.{Err, Ok, ap, subst, sym, ◌≡◌}
use Rattle.form_check.specs.Program.{Module}
use Rattle.form_module.specs.Module.{HaveTrees, module_outcome}
use Rattle.form_module.proofs.Reported.{is_at, refused}
use Rattle.form_module.proofs.report.run_module.Goals as goal

pub carry_out_module-requires : goal.carry_out_module-requires
carry_out_module-requires g c =
    let below = c.requires.within in
    let here = is_at c.args.program.now c.args.index c.index-modules-index.result below (rw c.modules-modules.ensures at c.index-modules-index.is) in
    subst HaveTrees (sym here) c.requires.trees

pub returns-in-Ok-clause-reports : goal.returns-in-Ok-clause-reports
returns-in-Ok-clause-reports g c =
    let here = is_at c.args.program.now c.args.index c.index-modules-index.result c.requires.within (rw c.modules-modules.ensures at c.index-modules-index.is) in (
      subst (λ (m : Module). module_outcome c.args.settings.now m c.args.expressions.items ≡ Ok c.in-Ok.expressions.items) here c.in-Ok.ensures.carried,
      c.new.ensures.items,
    )

pub returns-in-Err-clause-reports : goal.returns-in-Err-clause-reports
returns-in-Err-clause-reports g c =
    let here = is_at c.args.program.now c.args.index c.index-modules-index.result c.requires.within (rw c.modules-modules.ensures at c.index-modules-index.is) in
    refused c.args.settings.now c.args.program.now c.args.index c.args.expressions.items c.in-Err.error c.placed.result
    (λ cause expression same. subst (λ (m : Module). module_outcome c.args.settings.now m c.args.expressions.items ≡ Err (record { cause = cause; expression = expression })) here (c.in-Err.ensures.refused cause expression (ap Err same)))
    (rw c.names.ensures at c.placed.ensures)
