use Rattle.std.proofs.Common.{◌∙◌, subst, rules}
use Rattle.std.specs.Prelude.{All}
use Rattle.std.proofs.lemmas.List.{take_all}
use Rattle.std.proofs.lemmas.List.Elements.{All-more}
use Rattle.form_term.proofs.Nesting.{IsSummandLawful, term_put}
use Rattle.form_term.proofs.arguments.put_expression.Goals as goal

pub loop-item-preserved : goal.loop-item-preserved
loop-item-preserved c =
    let i = c.loop-item.item-index in
    (term_put c.loop-item.pieces.items c.put_summand.new.pieces.items c.args.list.now i c.item-item.result c.item-item.is c.loop-item-test.true c.in_ok-put_summand.ensures.written ∙ c.loop-item.invariant.0, All-more IsSummandLawful c.args.list.now i c.item-item.result c.loop-item-test.true c.loop-item.invariant.1 (subst IsSummandLawful c.item-item.is c.in_ok-put_summand.ensures.lawful))

pub returns-clause-lawful : goal.returns-clause-lawful
returns-clause-lawful c = subst (λ ms. All IsSummandLawful ms) (take_all c.loop-item.item-index c.args.list.now (search rules)) c.loop-item.invariant.1
