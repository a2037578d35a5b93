use Rattle.std.proofs.Common.{rules, of_calls}
use Rattle.std.specs.Ordering.{is_lt}
use Rattle.std.proofs.lemmas.Fn.{always_returns_same}
use Rattle.form_term.specs.declared.monomial.Monomial.{Monomial}
use Rattle.form_collect.specs.Keys.{term_order}
use Rattle.form_collect.proofs.Rising.{terms_rise_from}
use Rattle.form_collect.proofs.again.rise.Goals as goal

pub returns : goal.returns
returns c =
    terms_rise_from c.args.list.now c.is_sorted_by.result
    (c.is_sorted_by.ensures.cases (λ (x y : Monomial). is_lt (term_order x y)) (always_returns_same _ _ _ (λ a r f k. search (rules, of_calls))))
