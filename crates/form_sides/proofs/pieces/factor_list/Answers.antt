use Rattle.std.proofs.Common.{rules}
use Rattle.form_expand.specs.Kept.{listing}
use Rattle.form_sides.proofs.OnePiece.{factor_read, done_list}
use Rattle.form_sides.proofs.Pairing.{singles_have}
use Rattle.form_sides.proofs.pieces.factor_list.Goals as goal

pub returns : goal.returns
returns c =
    let whole = listing c.in_ok-whole.whole in
    factor_read c.args.limit c.args.names.now c.in-Some.added whole (λ s e. search rules) c.in_ok-singles_of.field-0.items
    (singles_have c.terms.result.now whole c.in_ok-singles_of.field-0.items (search rules) (done_list whole c.terms.result.now (search rules) c.terms.ensures) c.joined_singles.ensures)
    c.args.piece.now (rw c.in-Some.is at c.added.ensures)
