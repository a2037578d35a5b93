use Rattle.form_flow.specs.Statements.{outputs}
use Rattle.form_module.specs.Inputs.{inputs_left}
use Rattle.form_module.specs.Module.{collected_list, through}
use Rattle.form_module.proofs.Sided.{of_terms}
use Rattle.form_module.proofs.joined.joined_result.Goals as goal

pub returns-in-Some-2 : goal.returns-in-Some-2
returns-in-Some-2 c =
    of_terms c.args.settings.now.max_terms (collected_list (through (outputs c.args.statements.now) (inputs_left c.args.inputs.now))) c.in-Some-2.terms c.few_enough.result
    (rw c.in-Some-2.is at c.in_ok-terms.ensures) c.few_enough.ensures
