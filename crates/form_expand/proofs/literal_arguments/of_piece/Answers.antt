use Rattle.std.proofs.Common.{w32, SFits, rules}
use Rattle.std.proofs.lemmas.Int.{to_z-of_z}
use Rattle.form_expand.proofs.Lones.{lone_number, lone_symbol, lone_wild}
use Rattle.form_expand.proofs.literal_arguments.of_piece.Goals as goal

pub returns-in-Number : goal.returns-in-Number
returns-in-Number c =
    let fits : SFits w32 c.in-Number.power = search rules in
    lone_number c.args.names.now c.args.piece.now c.of_value.result c.in-Number.link c.in-Number.value c.in-Number.power c.in-Number.is (rw (c.get.ensures, to_z-of_z w32 c.in-Number.power fits) at c.of_value.ensures)

pub returns-in-Symbol : goal.returns-in-Symbol
returns-in-Symbol c =
    let fits : SFits w32 c.in-Symbol.power = search rules in
    lone_symbol c.args.names.now c.args.piece.now c.of_symbol.result c.in-Symbol.link c.in-Symbol.symbol c.in-Symbol.power c.in-Symbol.is (rw (to_z-of_z w32 c.in-Symbol.power fits) at c.of_symbol.ensures)

pub returns-in-Wild : goal.returns-in-Wild
returns-in-Wild c =
    let fits : SFits w32 c.in-Wild.power = search rules in
    lone_wild c.args.names.now c.args.piece.now c.of_wild.result c.in-Wild.link c.in-Wild.symbol c.in-Wild.is_over c.in-Wild.power c.in-Wild.is (rw (to_z-of_z w32 c.in-Wild.power fits) at c.of_wild.ensures)
