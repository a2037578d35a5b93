use Rattle.form_check.proofs.Rewritten.{where-none-stands}
use Rattle.form_right_side.specs.Marks.{stands_in}
use Rattle.form_check.proofs.acting.multiplier.Goals as goal

pub returns : goal.returns
returns c =
    where-none-stands c.right_side_of_list.result c.args.names.now (stands_in c.new-none.result) c.nothing-known.result c.args.right.now c.new-none.ensures.stands c.nothing-known.ensures c.right_side_of_list.ensures
