use Rattle.std.proofs.Common.{◌≡◌, sym, ap, ◌∙◌, arith}
use Rattle.form_flow.specs.Nearing.{first_ahead, two_to, way_weight}
use Rattle.form_flow.proofs.descent.Descent.next_waiting.Goals as goal

pub returns-in-Some-clause-ahead : goal.returns-in-Some-clause-ahead
returns-in-Some-clause-ahead c =
    let d = c.args.self.now in
    let same : first_ahead d d.first ≡ two_to (way_weight d) = ap (first_ahead d) (sym c.take.ensures.value ∙ c.in-Some.is) in
    omega (arith, same)
