use Rattle.std.proofs.Common.{subst}
use Rattle.form_expand.specs.Listing.{Listing}
use Rattle.form_flow.specs.Statements.{outputs}
use Rattle.form_module.specs.Answers.{IsAdded}
use Rattle.form_module.specs.Inputs.{inputs_left}
use Rattle.form_module.proofs.Collected.{as_they_are}
use Rattle.form_module.proofs.result.add_inputs.Goals as goal

pub returns-then-pass_all : goal.returns-then-pass_all
returns-then-pass_all c =
    subst (λ (l : Listing). IsAdded l c.args.collector.now c.add_unchanged.new.collector c.add_unchanged.result)
    (as_they_are (outputs c.args.statements.now) (rw c.if-pass_all.true at c.pass_all.ensures) (inputs_left c.args.inputs.now))
    c.add_unchanged.ensures
