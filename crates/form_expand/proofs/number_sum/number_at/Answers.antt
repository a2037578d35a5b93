use Rattle.std.proofs.Common.{w32, SFits, rules}
use Rattle.std.proofs.lemmas.Int.{to_z-of_z}
use Rattle.form_expand.proofs.NumberSums.{number_piece, wild_piece}
use Rattle.form_expand.proofs.number_sum.number_at.Goals as goal

pub returns-in-Number : goal.returns-in-Number
returns-in-Number c =
    let fits : SFits w32 c.in-Number.power = search rules in
    number_piece c.args.names.now c.args.piece.now c.in-Number.link c.linked.result c.number_alone.result c.in-Number.value c.in-Number.power c.in-Number.is c.linked.ensures
    (rw (c.get.ensures, to_z-of_z w32 c.in-Number.power fits) at c.number_alone.ensures)

pub returns-in-Wild : goal.returns-in-Wild
returns-in-Wild c =
    let fits : SFits w32 c.in-Wild.power = search rules in
    wild_piece c.args.names.now c.args.piece.now c.in-Wild.link c.linked-in-Wild.result c.bound_number.result c.in-Wild.symbol c.in-Wild.is_over c.in-Wild.power c.in-Wild.is c.linked-in-Wild.ensures
    (rw (to_z-of_z w32 c.in-Wild.power fits) at c.bound_number.ensures)
