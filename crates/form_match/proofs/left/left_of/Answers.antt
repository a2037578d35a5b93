use Rattle.std.proofs.Common.{◌≡◌, List, sym, ap, subst, ◌∙◌}
use Rattle.std.proofs.lemmas.Result.{IfOk-weaker}
use Rattle.form_term.specs.declared.power.Power.{Power}
use Rattle.form_term.specs.Term.{Term, Others, IsTerm}
use Rattle.form_term.specs.Terms.{term}
use Rattle.form_match.specs.Left.{left_of}
use Rattle.form_match.specs.Taken.{FitsSymbols, FitsDots}
use Rattle.form_match.proofs.Remaining.{symbols_fit, dots_fit, left_lawful, left_of_all}
use Rattle.form_match.proofs.left.left_of.Goals as goal

pub powers_left-powers-requires-clause-fits : goal.powers_left-powers-requires-clause-fits
powers_left-powers-requires-clause-fits c =
    subst (FitsSymbols c.args.takes.now) (ap (λ (t : Term). t.symbols) c.into_factors-powers.ensures.is) (symbols_fit c.args.term c.args.takes.now c.into_factors-powers.ensures.lawful c.requires)

pub leave_rest-requires-clause-fits : goal.leave_rest-requires-clause-fits
leave_rest-requires-clause-fits c =
    subst (FitsDots c.args.takes.now) (ap (λ (t : Term). t.others.dots) c.into_factors-powers.ensures.is ∙ ap (λ (o : Others). o.dots) (sym c.others.view_is))
    (dots_fit c.args.term c.args.takes.now c.requires)

pub from_factors-requires : goal.from_factors-requires
from_factors-requires c =
    let t = c.args.term in
    let us = c.args.takes.now in
    let others = c.leave_rest.new.others in
    let is : term c.powers_left-powers.result.items others ≡ left_of t us =
    ap (λ (ps : List Power). term ps others) c.powers_left-powers.ensures
    ∙ left_of_all t us c.into_factors-powers.result.0.items c.into_factors-powers.result.1 _ others c.leave.new.things.items c.into_factors-powers.ensures.is c.others.view_is
    c.leave.ensures c.in_ok-leave_rest.ensures in
    subst IsTerm (sym is) (left_lawful t us c.into_factors-powers.ensures.lawful c.requires)

pub returns : goal.returns
returns c =
    let t = c.args.term in
    let us = c.args.takes.now in
    let others = c.leave_rest.new.others in
    let is : term c.powers_left-powers.result.items others ≡ left_of t us =
    ap (λ (ps : List Power). term ps others) c.powers_left-powers.ensures
    ∙ left_of_all t us c.into_factors-powers.result.0.items c.into_factors-powers.result.1 _ others c.leave.new.things.items c.into_factors-powers.ensures.is c.others.view_is
    c.leave.ensures c.in_ok-leave_rest.ensures in
    IfOk-weaker c.from_factors.result (λ (u : Term). u ≡ term c.powers_left-powers.result.items others) (λ (u : Term). u ≡ left_of t us) (λ u e. e ∙ is) c.from_factors.ensures
