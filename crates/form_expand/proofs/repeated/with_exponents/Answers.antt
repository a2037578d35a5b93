use Rattle.std.proofs.Common.{◌≡◌, sym, ap, subst, ◌∙◌}
use Rattle.form_term.specs.Term.{Term, Others, IsTerm}
use Rattle.form_expand.proofs.repeated.with_exponents.Goals as goal

pub from_factors-requires : goal.from_factors-requires
from_factors-requires c =
    let i = c.others.inside in
    let v : Others = record { is_imaginary = i.is_imaginary; dots = i.dots.items; components = i.components.items; deltas = i.deltas.items; functions = i.functions.items; word = i.word.items } in
    let is : v ≡ c.args.front.now.term.others = c.others.view_is ∙ ap (λ (t : Term). t.others) (sym c.into_factors-own.ensures.is ∙ c.in_ok-copy.ensures.cases) in
    subst (λ (o : Others). IsTerm (record { symbols = c.args.powers.items; others = record o { dots = c.args.dots.items } })) (sym is) c.requires

pub returns : goal.returns
returns c =
    let i = c.others.inside in
    let v : Others = record { is_imaginary = i.is_imaginary; dots = i.dots.items; components = i.components.items; deltas = i.deltas.items; functions = i.functions.items; word = i.word.items } in
    let is : v ≡ c.args.front.now.term.others = c.others.view_is ∙ ap (λ (t : Term). t.others) (sym c.into_factors-own.ensures.is ∙ c.in_ok-copy.ensures.cases) in
    λ j. record {
      coefficient = c.args.front.now.coefficient;
      term = (c.in_ok-term.ensures ∙ ap (λ (o : Others). record { symbols = c.args.powers.items; others = record o { dots = c.args.dots.items } }) is) j;
    }
