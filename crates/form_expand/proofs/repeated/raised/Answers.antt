use Rattle.std.proofs.Common.{Ok, Some, sym, ap, ◌∙◌}
use Rattle.form_term.specs.declared.monomial.Monomial.{Monomial}
use Rattle.form_expand.proofs.Leaps.{made_lawful, often_made}
use Rattle.form_expand.proofs.repeated.raised.Goals as goal

pub with_exponents-requires : goal.with_exponents-requires
with_exponents-requires c =
    made_lawful c.args.front.now c.args.term.now c.args.count c.powers.result.now c.powers-2.result.now c.in-Some.powers.items c.dots.result.now c.dots-2.result.now c.in-Some-2.dots.items
    c.laws.ensures.lawful c.laws.ensures.lowest c.laws-2.ensures.lawful c.requires.changes
    c.powers.ensures.powers c.powers-2.ensures.powers c.dots.ensures c.dots-2.ensures
    (rw c.in-Some.is at c.in_ok-powers.ensures.made) (rw c.in-Some.is at c.in_ok-powers.ensures.kept) (rw c.in-Some-2.is at c.in_ok-dots.ensures.made) (rw c.in-Some-2.is at c.in_ok-dots.ensures.kept)

pub returns : goal.returns
returns c =
    often_made c.args.front.now c.args.term.now c.args.count c.powers.result.now c.powers-2.result.now c.in-Some.powers.items c.dots.result.now c.dots-2.result.now c.in-Some-2.dots.items
    c.laws.ensures.lawful c.laws.ensures.lowest c.laws-2.ensures.lawful c.requires.changes
    c.powers.ensures.powers c.powers-2.ensures.powers c.dots.ensures c.dots-2.ensures
    (rw c.in-Some.is at c.in_ok-powers.ensures.made) (rw c.in-Some.is at c.in_ok-powers.ensures.kept) (rw c.in-Some-2.is at c.in_ok-dots.ensures.made) (rw c.in-Some-2.is at c.in_ok-dots.ensures.kept)
    c.requires.fours
    ∙ ap (λ (m : Monomial). Ok (Some m)) (sym c.in_ok-made.ensures)
