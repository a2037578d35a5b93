use Rattle.std.specs.Prelude.{pos, [], ◌∷◌}
use Rattle.std.proofs.Common.{refl}
use Rattle.form_frac.specs.Fraction.{whole}
use Rattle.form_term.specs.Term.{of_symbols}
use Rattle.form_term.specs.TermLaws.{power_lawful}
use Rattle.form_term.specs.Monomial.{power_argument}
use Rattle.form_term.proofs.Nesting.{one_more, alone_lawful}
use Rattle.form_term.proofs.arguments.Arguments.with_power.Goals as goal

pub invariant_of-result : goal.invariant_of-result
invariant_of-result c =
    let p = c.args.power in
    one_more c.self.inside.pieces.items c.extend_from_slice.new.self.items (power_argument p) c.self.invariant
    (alone_lawful (record { coefficient = whole (pos 1); term = of_symbols (p ∷ []) }) refl (rw c.one.ensures at c.end_of_term-end.ensures.lowest) (power_lawful p c.requires.present c.requires.in_range))
    (rw (c.of_power-factor.ensures, c.end_of_term-end.ensures.piece, c.one.ensures) at c.in_ok-extend_from_slice.ensures.items)
