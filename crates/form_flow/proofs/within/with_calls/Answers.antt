use Rattle.std.proofs.Common.{◌≡◌, ◌≤◌, [], ◌∷◌, sym, ap, ◌∙◌, subst}
use Rattle.std.specs.Prelude.{All, nat_abs}
use Rattle.std.specs.List.Sorted.{IsStrictlySortedBy}
use Rattle.form_expand.specs.Next.{IsMade}
use Rattle.form_normal.specs.Factors.{AreEachLawful}
use Rattle.form_normal.specs.Product.{product}
use Rattle.form_term.specs.declared.power.DotPower.{DotPower}
use Rattle.form_term.specs.Term.{IsTerm, Others, Term, largest_exponent, pair_order}
use Rattle.form_term.specs.Terms.{term}
use Rattle.form_flow.specs.Arguments.{with_functions}
use Rattle.form_flow.proofs.Factored.{is_productive, with_lawful}
use Rattle.form_flow.proofs.within.with_calls.Goals as goal

pub made_from-requires-clause-powers : goal.made_from-requires-clause-powers
made_from-requires-clause-powers c =
    let ps = c.into_factors-powers.result.0.items in
    let o = c.into_factors-powers.result.1 in
    is_productive (term ps o) (subst IsTerm c.into_factors-powers.ensures.is c.into_factors-powers.ensures.lawful)

pub made_from-requires-clause-each : goal.made_from-requires-clause-each
made_from-requires-clause-each c =
    let ps = c.into_factors-powers.result.0.items in
    let o = c.into_factors-powers.result.1 in
    let h = subst IsTerm c.into_factors-powers.ensures.is c.into_factors-powers.ensures.lawful in
    subst AreEachLawful (sym c.others_with-others.ensures) (with_lawful o ps c.args.functions.items c.args.word.items h c.requires.functions c.requires.word)

pub made_from-requires-clause-dots : goal.made_from-requires-clause-dots
made_from-requires-clause-dots c =
    let h = subst IsTerm c.into_factors-powers.ensures.is c.into_factors-powers.ensures.lawful in
    subst (λ (o : Others). IsStrictlySortedBy pair_order o.dots) (sym c.others_with-others.ensures) h.others.dots_rise

pub made_from-requires-clause-range : goal.made_from-requires-clause-range
made_from-requires-clause-range c =
    let h = subst IsTerm c.into_factors-powers.ensures.is c.into_factors-powers.ensures.lawful in
    subst (λ (o : Others). All (λ (d : DotPower). nat_abs d.exponent ≤ largest_exponent) o.dots) (sym c.others_with-others.ensures) h.others.dots_in_range

pub returns : goal.returns
returns c =
    let m = c.args.item in
    let ps = c.into_factors-powers.result.0.items in
    let o = c.into_factors-powers.result.1 in
    let fs = c.args.functions.items in
    let ws = c.args.word.items in
    let whole : term ps o ≡ m.term = sym c.into_factors-powers.ensures.is in
    let is : term ps c.others_with-others.result ≡ (with_functions m fs ws).term =
    ap (term ps) c.others_with-others.ensures ∙ ap (λ (t : Term). term t.symbols (record t.others { functions = fs; word = ws })) whole in
    subst (λ (t : Term). IsMade c.made_from.result (product (record { coefficient = m.coefficient; term = t } ∷ []))) is c.made_from.ensures
