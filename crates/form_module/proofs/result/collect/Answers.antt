use Rattle.std.proofs.Common.{[], Some, Err, ap}
use Rattle.std.proofs.lemmas.Result.{err_from_is_err_and}
use Rattle.form_flow.specs.Statements.{outputs}
use Rattle.form_module.specs.Inputs.{inputs_left}
use Rattle.form_module.specs.Module.{through}
use Rattle.form_module.proofs.Collected.{not_collected, to_the_end, uncollected}
use Rattle.form_module.proofs.result.collect.Goals as goal

pub returns-in_err-add_inputs : goal.returns-in_err-add_inputs
returns-in_err-add_inputs c =
    let p = err_from_is_err_and c.from_residual.result c.from_residual.ensures.1 in
    rw (p.1, p.2) (not_collected (through (outputs c.args.statements.now) (inputs_left c.args.inputs.now)) c.in_err-add_inputs.field-0.0 c.in_err-add_inputs.ensures)

pub returns-in_err-into_terms : goal.returns-in_err-into_terms
returns-in_err-into_terms c =
    let l = through (outputs c.args.statements.now) (inputs_left c.args.inputs.now) in
    let added = c.in_ok-add_inputs.ensures in
    let p = err_from_is_err_and c.from_residual-in_err-into_terms.result c.from_residual-in_err-into_terms.ensures.1 in
    rw (p.1, p.2)
    (uncollected l c.in_err-into_terms.field-0.0 added.0 (λ same. c.in_err-into_terms.ensures.overflow (ap Err same) l.terms (added.1 [] c.new-collector.ensures)))

pub returns : goal.returns
returns c =
    let l = through (outputs c.args.statements.now) (inputs_left c.args.inputs.now) in
    let added = c.in_ok-add_inputs.ensures in
    to_the_end l (Some c.in_ok-into_terms.field-0) added.0 (c.in_ok-into_terms.ensures.ok l.terms (added.1 [] c.new-collector.ensures))
