use Rattle.std.proofs.Common.{map, ap, rules}
use Rattle.form_frac.specs.Fraction.{Fraction}
use Rattle.form_joined.specs.Products.{turned}
use Rattle.form_sides.proofs.Pairing.{one_turned, all_turned}
use Rattle.form_sides.proofs.products.negated.Goals as goal

pub loop-term-preserved : goal.loop-term-preserved
loop-term-preserved c =
    let j = c.in-Some.term in
    one_turned (map turned c.args.terms.items) c.loop-term.all.items c.next.new.self.rest.items c.loop-term.term-iterator.rest.items c.push.new.self.items j
    (record { term = j.term; sum = c.neg.result; weight = j.weight; count = j.count }) c.in-Some.ensures.steps.0 c.in_ok-push.ensures.items
    (ap (λ (x : Fraction). record j { sum = x }) c.neg.ensures) c.loop-term.invariant

pub returns : goal.returns
returns c = all_turned (map turned c.args.terms.items) c.loop-term.all.items c.loop-term.term-iterator.rest.items (search rules) c.loop-term.invariant
