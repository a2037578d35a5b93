use Rattle.std.proofs.Common.{refl}
use Rattle.form_tree.specs.declared.tree.Link.TheVariants as links
use Rattle.form_sides.specs.declared.sums.Read.TheVariants.{Further}
use Rattle.form_sides.proofs.Reading.{minus_signed, plus_signed}
use Rattle.form_sides.proofs.sums.signed.Goals as goal

pub returns-in_ok-negated-in-Minus-clause-read : goal.returns-in_ok-negated-in-Minus-clause-read
returns-in_ok-negated-in-Minus-clause-read c =
    rw (c.in-Further.is, c.in-Minus.is) (minus_signed c.joined_products.ensures.signs c.in-Further.list c.in_ok-negated-in-Minus.field-0 c.in-Further.rest c.in_ok-negated-in-Minus.ensures)

pub returns-in-Plus-clause-read : goal.returns-in-Plus-clause-read
returns-in-Plus-clause-read c = rw (c.in-Further.is, c.in-Plus.is) (plus_signed links.Plus refl (Further c.in-Further.list c.in-Further.rest))

pub returns-in-Times-clause-read : goal.returns-in-Times-clause-read
returns-in-Times-clause-read c = rw (c.in-Further.is, c.in-Times.is) (plus_signed links.Times refl (Further c.in-Further.list c.in-Further.rest))
