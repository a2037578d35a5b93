use Rattle.std.specs.Int.{w128}
use Rattle.std.proofs.lemmas.Int.{to_z-of_z}
use Rattle.form_term.proofs.Terms.{is_made, not_unmade}
use Rattle.form_term.proofs.reading.fraction.Goals as goal

pub returns-in-Ok : goal.returns-in-Ok
returns-in-Ok c =
    let made = rw (to_z-of_z w128 c.args.numerator c.ranges.numerator) at c.in-Ok.ensures in
    is_made c.args.numerator c.args.denominator c.in-Ok.fraction c.requires made

pub returns-in-Err : goal.returns-in-Err
returns-in-Err c =
    let unmade = rw (to_z-of_z w128 c.args.numerator c.ranges.numerator) at c.in-Err.ensures in
    not_unmade c.args.numerator c.args.denominator c.in-Err.field-0 c.zero.result c.requires unmade
