use Rattle.std.proofs.Common.{IfSome}
use Rattle.std.proofs.lemmas.Bool.{OnTrue_at}
use Rattle.std.proofs.lemmas.Option.{IfSome_then}
use Rattle.std.proofs.lemmas.Result.{IfOk-weaker}
use Rattle.form_expand.specs.Expanding.{list_of_sum}
use Rattle.form_module.specs.Summed.{ComesTo}
use Rattle.form_module.proofs.Sided.{left_so}
use Rattle.form_module.proofs.joined.side_terms.Goals as goal

pub returns-then-pass_all : goal.returns-then-pass_all
returns-then-pass_all c = λ s is.
    let m = c.args.statements.now in
    let l = list_of_sum c.args.limit c.args.standing.now s in
    IfOk-weaker c.joined_terms.result _ (λ made. IfSome made (ComesTo m l)) (λ made has. IfSome_then made has (left_so m l (OnTrue_at c.if-pass_all.true c.pass_all.ensures))) (c.joined_terms.ensures s is)
