use Rattle.std.proofs.Common.{◌≡◌, ◌≤◌, [], ◌∷◌, sym, ◌∙◌, subst}
use Rattle.std.specs.Prelude.{All, nat_abs}
use Rattle.std.specs.List.Sorted.{IsStrictlySortedBy}
use Rattle.form_expand.specs.Next.{IsMade}
use Rattle.form_normal.specs.Factors.{AreEachLawful, IsProductive}
use Rattle.form_normal.specs.Product.{product}
use Rattle.form_term.specs.declared.power.DotPower.{DotPower}
use Rattle.form_term.specs.Term.{Others, Term, largest_exponent, pair_order}
use Rattle.form_term.specs.Terms.{term}
use Rattle.form_flow.specs.Indices.{become, with_factors}
use Rattle.form_flow.proofs.Factored.{each_lawful, is_productive}
use Rattle.form_flow.proofs.renaming.with_factors.Goals as goal

pub made_from-requires-clause-powers : goal.made_from-requires-clause-powers
made_from-requires-clause-powers c =
    let t = c.args.item.now.term in
    subst IsProductive (sym (c.in_ok-powers.ensures.items ∙ c.powers.ensures.powers)) (is_productive t c.laws.ensures.lawful)

pub made_from-requires-clause-each : goal.made_from-requires-clause-each
made_from-requires-clause-each c =
    let t = c.args.item.now.term in
    subst AreEachLawful (sym c.in_ok-others.ensures) (each_lawful (become c.args.renamings.now) t c.args.functions.items c.args.word.items c.laws.ensures.lawful c.requires.functions c.requires.word)

pub made_from-requires-clause-dots : goal.made_from-requires-clause-dots
made_from-requires-clause-dots c =
    subst (λ (o : Others). IsStrictlySortedBy pair_order o.dots) (sym c.in_ok-others.ensures) c.laws.ensures.lawful.others.dots_rise

pub made_from-requires-clause-range : goal.made_from-requires-clause-range
made_from-requires-clause-range c =
    subst (λ (o : Others). All (λ (d : DotPower). nat_abs d.exponent ≤ largest_exponent) o.dots) (sym c.in_ok-others.ensures) c.laws.ensures.lawful.others.dots_in_range

pub returns : goal.returns
returns c =
    let t = c.args.item.now.term in
    let made = with_factors (become c.args.renamings.now) t c.args.functions.items c.args.word.items in
    let powers = c.in_ok-powers.ensures.items ∙ c.powers.ensures.powers in
    let others = c.in_ok-others.ensures in
    let is : term c.in_ok-powers.powers.items c.in_ok-others.others ≡ made = λ i. term (powers i) (others i) in
    subst (λ (u : Term). IsMade c.made_from.result (product (record { coefficient = c.args.item.now.coefficient; term = u } ∷ []))) is c.made_from.ensures
