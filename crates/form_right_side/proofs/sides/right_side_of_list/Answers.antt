use Rattle.std.proofs.Common.{[]}
use Rattle.std.proofs.lemmas.Result.{err_from_is_err_and}
use Rattle.form_right_side.specs.Marks.{stands_in}
use Rattle.form_right_side.specs.Walking.{at, walk_of, walked}
use Rattle.form_right_side.specs.RightSide.{right_side}
use Rattle.form_right_side.specs.declared.walk.Place.TheVariants.{Sum}
use Rattle.form_right_side.proofs.Whole.{made-given, made-refused, whole-walked}
use Rattle.form_right_side.proofs.sides.right_side_of_list.Goals as goal

pub returns-in_err-walk : goal.returns-in_err-walk
returns-in_err-walk c =
    let p = err_from_is_err_and c.from_residual.result c.from_residual.ensures.1 in
    let names = c.args.names.now in
    let stands = stands_in c.args.standing.now in
    let known = c.args.known.now in
    let list = c.args.list.now in
    let same = whole-walked names stands known c.one_tree.ensures.found list c.requires in
    rw (p.1, p.2) (made-refused (right_side names stands known list) (walked names stands known (at [] Sum 0) list) c.in_err-walk.field-0.0 same c.in_err-walk.ensures)

pub returns : goal.returns
returns c =
    let names = c.args.names.now in
    let stands = stands_in c.args.standing.now in
    let known = c.args.known.now in
    let list = c.args.list.now in
    let same = whole-walked names stands known c.one_tree.ensures.found list c.requires in
    rw (c.from_vec.ensures, c.into_pieces.ensures) (made-given (right_side names stands known list) (walked names stands known (at [] Sum 0) list) (walk_of c.in_ok-walk.walk) same c.in_ok-walk.ensures)
