use Rattle.std.proofs.Common.{sym, ap}
use Rattle.form_expand.specs.Meanings.{terms_of}
use Rattle.form_expand.specs.Walks.{all_of}
use Rattle.form_sides.proofs.Pairing.{power_of, singles_have}
use Rattle.form_sides.proofs.pieces.stored_list.Goals as goal

pub returns : goal.returns
returns c =
    let list = all_of (terms_of c.args.names.now c.args.expression) in
    let js = c.in_ok-singles_of.field-0.items in
    power_of c.power_within.result c.args.limit c.args.power js list
    (singles_have c.terms_of-terms.result.now list js c.in_ok-singles_of.ensures (ap all_of (sym c.terms_of-terms.ensures)) c.joined_singles.ensures) c.power_within.ensures
