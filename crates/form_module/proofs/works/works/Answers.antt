use Rattle.form_module.proofs.Placed.{all_works}
use Rattle.form_module.proofs.works.works.Goals as goal

pub returns : goal.returns
returns c =
    all_works c.args.statements.now c.args.standing.now c.new-works.result.entries c.add_standing.new.works.entries c.add_definitions.new.works.entries c.in_ok-held.held
    c.in_ok-held.ensures c.new-works.ensures.empty c.in_ok-add_standing.ensures c.in_ok-add_definitions.ensures
