use Rattle.std.proofs.Common.{sym, subst, FitsSigned, w32, rules}
use Rattle.form_term.specs.Term.{AreArguments}
use Rattle.form_match.proofs.Lawful.{number_lawful, small_exponent}
use Rattle.form_match.proofs.asking.ask_exponent.Goals as goal

pub ask_expression-requires : goal.ask_expression-requires
ask_expression-requires c =
    let fits : FitsSigned w32 c.args.of.now.exponent = search rules in
    subst AreArguments (sym c.exponent_pieces.ensures) (number_lawful c.args.of.now.exponent (small_exponent c.args.of.now.exponent fits))
