use Rattle.std.proofs.Common.{reverse, sum_by, ap, arith}
use Rattle.std.proofs.lemmas.List.Sums.{sum_by-cons}
use Rattle.form_flow.specs.Weight.{layer_weight}
use Rattle.form_flow.proofs.path.Path.begin.Goals as goal

pub returns-clause-weight : goal.returns-clause-weight
returns-clause-weight c at =
    let kept = ap (sum_by (layer_weight at)) c.in_ok-keep_outer.ensures in
    omega (arith, kept, sum_by-cons (layer_weight at) c.args.self.now.here (reverse c.keep_outer.new.around.items))
