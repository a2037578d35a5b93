use Rattle.std.proofs.Common.{List, rules, subst}
use Rattle.std.proofs.ByRecursion.{All-more}
use Rattle.std.proofs.lemmas.List.{take_all}
use Rattle.std.specs.List.{AllByRecursion}
use Rattle.form_frac.specs.Fraction.{IsLowest}
use Rattle.form_term.specs.declared.monomial.Monomial.{Monomial}
use Rattle.form_joined.proofs.Singles.{singles_stand}
use Rattle.form_joined.proofs.products.joined_singles.Goals as goal

pub loop-item-preserved : goal.loop-item-preserved
loop-item-preserved c =
    All-more (λ (m : Monomial). IsLowest m.coefficient) c.args.list.now c.loop-item.item-index c.item-item.result (search rules) c.loop-item.invariant
    (subst (λ (m : Monomial). IsLowest m.coefficient) c.item-item.is c.laws.ensures.lowest)

pub returns : goal.returns
returns c =
    singles_stand c.args.list.now
    (subst (λ (ms : List Monomial). AllByRecursion (λ (m : Monomial). IsLowest m.coefficient) ms) (take_all c.loop-item.item-index c.args.list.now (search rules)) c.loop-item.invariant)
