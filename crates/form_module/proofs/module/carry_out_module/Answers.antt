use Rattle.std.proofs.Common.{ap}
use Rattle.form_flow.specs.Statement.{Compiled}
use Rattle.form_module.proofs.Carried.{all_carried}
use Rattle.form_module.proofs.module.carry_out_module.Goals as goal

pub are_at_rest-is_at_rest-requires : goal.are_at_rest-is_at_rest-requires
are_at_rest-is_at_rest-requires c = ap (λ (m : Compiled). m.limits.terms) c.in_ok-compiled.ensures

pub returns-clause-carried : goal.returns-clause-carried
returns-clause-carried c =
    all_carried c.args.settings.now c.args.carried.now c.args.standing.items c.statements-statements.result.now c.actions.result.now c.in_ok-compiled.compiled c.from_vec-standing.result
    c.statements-statements.ensures c.actions.ensures c.in_ok-compiled.ensures c.from_vec-standing.ensures
    c.in_ok-results.results.items c.in_ok-after.after.items c.into_vec.result.items c.in_ok-results.ensures c.into_vec.ensures c.in_ok-after.ensures
