use Rattle.std.proofs.Common.{inl, sym, subst}
use Rattle.form_term.specs.Term.{AreArguments}
use Rattle.form_match.proofs.Lawful.{symbol_lawful}
use Rattle.form_match.proofs.asking.ask_symbol.Goals as goal

pub ask_wild-requires : goal.ask_wild-requires
ask_wild-requires c = inl (subst AreArguments (sym c.symbol_pieces.ensures) (symbol_lawful c.args.symbol))
