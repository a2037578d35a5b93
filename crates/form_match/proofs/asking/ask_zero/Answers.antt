use Rattle.std.proofs.Common.{pos, sym, subst, arith}
use Rattle.form_term.specs.Term.{AreArguments}
use Rattle.form_match.proofs.Lawful.{number_lawful}
use Rattle.form_match.proofs.asking.ask_zero.Goals as goal

pub ask_expression-requires : goal.ask_expression-requires
ask_expression-requires c = subst AreArguments (sym c.zero_pieces.ensures) (number_lawful (pos 0) (omega arith))
