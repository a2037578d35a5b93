use Rattle.std.proofs.Common.{◌≡◌, Ok}
use Rattle.form_module.specs.Answers.{IsRefused}
use Rattle.form_module.proofs.Carried.{begin, done, left_out, meant_by, more, refused}
use Rattle.form_module.proofs.module.carry_out.Goals as goal

pub carried-requires : goal.carried-requires
carried-requires c = c.requires.limit

pub loop-expression-init : goal.loop-expression-init
loop-expression-init c =
    begin c.args.settings.now c.args.statements.now c.args.compiled.now c.args.standing.now c.args.works.entries _ _ c.trees_are_built.ensures.sums c.requires.trees
    c.requires.works c.new-results.ensures.items c.into_iter-expression-iterator.ensures.into_iter_gives.0

pub loop-expression-preserved-then-comes_out_alike : goal.loop-expression-preserved-then-comes_out_alike
loop-expression-preserved-then-comes_out_alike c =
    left_out c.args.settings.now c.args.statements.now c.args.compiled.now c.args.standing.now c.args.works.entries c.loop-expression.results.items _ c.loop-expression.invariant
    c.in-Some.expression c.in-Some.place _ c.in-Some.ensures.steps c.args.is_at_rest c.requires.at_rest (rw c.if-comes_out_alike.true at c.comes_out_alike.ensures)

pub loop-expression-preserved : goal.loop-expression-preserved
loop-expression-preserved c =
    more c.args.settings.now c.args.statements.now c.args.compiled.now c.args.standing.now c.args.works.entries c.loop-expression.results.items _ c.loop-expression.invariant
    c.in-Some.expression c.in-Some.place _ c.in-Some.ensures.steps c.in-Ok.terms _
    (meant_by c.args.settings.now c.args.statements.now c.args.compiled.now c.args.standing.now c.args.works.entries c.loop-expression.results.items _ c.loop-expression.invariant
    c.in-Some.expression c.in-Some.place _ c.in-Some.ensures.steps (λ r. r ≡ Ok c.in-Ok.terms) c.in-Ok.ensures)
    c.in_ok-push-in-Ok.ensures.items

pub returns-in-Err : goal.returns-in-Err
returns-in-Err c =
    refused c.args.settings.now c.args.statements.now c.args.compiled.now c.args.standing.now c.args.works.entries c.loop-expression.results.items _ c.loop-expression.invariant
    c.in-Some.expression c.in-Some.place _ c.in-Some.ensures.steps c.in-Err.error c.at.result c.at.ensures
    (meant_by c.args.settings.now c.args.statements.now c.args.compiled.now c.args.standing.now c.args.works.entries c.loop-expression.results.items _ c.loop-expression.invariant
    c.in-Some.expression c.in-Some.place _ c.in-Some.ensures.steps (IsRefused c.in-Err.error) c.in-Err.ensures)

pub returns : goal.returns
returns c =
    done c.args.settings.now c.args.statements.now c.args.compiled.now c.args.standing.now c.args.works.entries c.loop-expression.results.items _ c.loop-expression.invariant
    c.in-None.ensures.steps.0 c.into_iter-expression-iterator.ensures.into_iter_gives.5
