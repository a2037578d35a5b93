use Rattle.std.proofs.Common.{◌≡◌}
use Rattle.form_stmts.specs.declared.names.Last.TheVariants.{Nothing}
use Rattle.form_stmts.specs.Picking.{no_picking, picks_from}
use Rattle.form_stmts.specs.Reading.{terminals}
use Rattle.form_stmts.proofs.picked.picked_to_end.Given as goal

abbrev pub invariant-loop-token : goal.invariant-loop-token
invariant-loop-token l = picks_from l.last l.reader (terminals l.token-iterator) ≡ picks_from Nothing no_picking (terminals l.fn.tokens)
