use Rattle.form_frac.proofs.Fractions.{gcd_some, quotients_some, quotients_coprime, reduced_is}
use Rattle.form_frac.proofs.frac.Frac.reduced.Goals as goal

pub quotient-requires : goal.quotient-requires
quotient-requires c = rw c.gcd-divisor.ensures.value (gcd_some c.args.size c.args.denominator c.requires)

pub quotient-requires-2 : goal.quotient-requires-2
quotient-requires-2 c = rw c.gcd-divisor.ensures.value (gcd_some c.args.size c.args.denominator c.requires)

pub from_parts-requires-clause-is_over_some : goal.from_parts-requires-clause-is_over_some
from_parts-requires-clause-is_over_some c = rw (c.quotient-2.ensures, c.gcd-divisor.ensures.value) (quotients_some c.args.size c.args.denominator c.requires)

pub from_parts-requires-clause-is_coprime : goal.from_parts-requires-clause-is_coprime
from_parts-requires-clause-is_coprime c = rw (c.quotient.ensures, c.quotient-2.ensures, c.gcd-divisor.ensures.value) (quotients_coprime c.args.size c.args.denominator c.requires)

pub returns : goal.returns
returns c = rw (reduced_is c.args.is_negative c.args.size c.args.denominator, ← c.gcd-divisor.ensures.value, ← c.quotient.ensures, ← c.quotient-2.ensures) c.from_parts.ensures
