use Rattle.std.proofs.Common.{ltb, rules, of_calls}
use Rattle.std.proofs.lemmas.Fn.{always_returns_same}
use Rattle.form_expand.specs.declared.stored.Stored.{Stored}
use Rattle.form_module.proofs.Settling.{ascend_from}
use Rattle.form_module.proofs.settled.ascend.Goals as goal

pub returns : goal.returns
returns c =
    ascend_from c.args.standing.now c.is_sorted_by.result
    (c.is_sorted_by.ensures.cases (λ (x y : Stored). ltb x.expression y.expression) (always_returns_same _ _ _ (λ a r f k. search (rules, of_calls))))
