use Rattle.std.proofs.Common.{◌≡◌, ◌+◌, rules}
use Rattle.form_frac.proofs.Paired.{times_parts}
use Rattle.form_reach.proofs.reach.Reach.times.Goals as goal

pub returns : goal.returns
returns c =
    let weight = times_parts c.args.self.now.weight c.args.other.now.weight c.in_ok-times.field-0 (search rules) in
    let exponents : c.in_ok-exponents.exponents ≡ c.args.self.now.exponents + c.args.other.now.exponents = search rules in
    let size : c.in_ok-size.size ≡ c.args.self.now.size + c.args.other.now.size = search rules in
    ((λ i. record { exponents = exponents i; size = size i; weight = weight.0 i }), record { exponents = search rules; small = search rules; weight = search rules })
